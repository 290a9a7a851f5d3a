-- A loop that adds what each item of a list means.
use Rattle.std.proofs.Common.{◌≡◌, ◌+◌, ◌<◌, ◌∷◌, [], ℕ, List, length, map, take, get_or, ap, ◌∙◌}
use Rattle.std.specs.Prelude.{fold}
use Rattle.std.proofs.lemmas.List.{map_more}
use Rattle.std.proofs.lemmas.List.Sums.{fold-append}

pub fold_map_more : {X Y A : Type 0} (f : A → Y → A) (g : X → Y) (a : A) (xs : List X) (i : ℕ) (d : X) → i < length xs
    → fold f a (map g (take (i + 1) xs)) ≡ f (fold f a (map g (take i xs))) (g (get_or xs i d))
fold_map_more f g a xs i d lt =
    ap (fold f a) (map_more g xs i d lt) ∙ fold-append f a (map g (take i xs)) (g (get_or xs i d) ∷ [])

-- Facts of each element of a list.
use Rattle.std.proofs.Common.{List, [], ◌∷◌}
use Rattle.std.specs.List.{AllByRecursion}

module _ {A : Type 0} where
  pub all_as : {P Q : A → Type 0} → ((x : A) → P x → Q x) → (xs : List A) → AllByRecursion P xs → AllByRecursion Q xs
  all_as f [] all = tt
  all_as f (x ∷ xs) all = (f x all.0, all_as f xs all.1)

  pub all_both : (P Q : A → Type 0) (xs : List A) → AllByRecursion P xs → AllByRecursion Q xs → AllByRecursion (λ x. P x × Q x) xs
  all_both P Q [] p q = tt
  all_both P Q (x ∷ xs) p q = ((p.0, q.0), all_both P Q xs p.1 q.1)

-- A list against the shapes of a list of forms, and a list of one item.
use Rattle.std.proofs.Common.{◌≡◌, ◌↔◌, ℕ, suc, zero, ◌+◌, ◌<◌, ◌≤◌, List, [], ◌∷◌, length, take, get_or, map, Bool, IsTrue, Some, None, refl, sym, ap, ◌∙◌, arith, add-one, min, inl, inr}
use Rattle.std.specs.List.{slice_get}
use Rattle.std.specs.Option.{option_map}
use Rattle.std.proofs.lemmas.List.{length-map, length-take}
use Rattle.std.proofs.lemmas.Option.{slice_get-map, slice_get_read, slice_get_past, slice_get_cases, none-some, same_Some}
use Rattle.vault_audit_schema.specs.Compare.{IsFirstUnlike}

pub singleton : {X : Type 0} (xs : List X) (item x : X) (b : Bool) → 1 ≤ length xs → length xs < 2 → item ≡ get_or xs 0 item → (IsTrue b ↔ (item ≡ x)) → (IsTrue b ↔ (xs ≡ x ∷ []))
singleton [] item x b one two is h = absurd (omega arith)
singleton (y ∷ []) item x b one two is h = (λ yes. ap (λ z. z ∷ []) (sym is ∙ h.0 yes), λ e. h.1 (is ∙ (let f : y ≡ x = cc in f)))
singleton (y ∷ z ∷ ys) item x b one two is h = absurd (omega arith)

agree_next : {X : Type 0} (xs ys : List X) (i : ℕ) → take i xs ≡ take i ys → slice_get xs i ≡ slice_get ys i → take (suc i) xs ≡ take (suc i) ys
agree_next [] [] i p q = refl
agree_next [] (y ∷ ys) zero p q = absurd (none-some y q)
agree_next [] (y ∷ ys) (suc i) p q = cc
agree_next (x ∷ xs) [] zero p q = absurd (none-some x (sym q))
agree_next (x ∷ xs) [] (suc i) p q = cc
agree_next (x ∷ xs) (y ∷ ys) zero p q = ap (λ z. z ∷ []) (same_Some x y q)
agree_next (x ∷ xs) (y ∷ ys) (suc i) p q =
    let tails : take i xs ≡ take i ys = cc in
    let heads : x ≡ y = cc in
    let next = agree_next xs ys i tails q in
    cc

-- a list that is as long as it must be at least, and no longer than that
no_more : {X : Type 0} (xs ys : List X) → take (length ys) xs ≡ take (length ys) ys → slice_get xs (length ys) ≡ slice_get ys (length ys) → length xs ≡ length ys
no_more xs ys h e =
    let past : slice_get ys (length ys) ≡ None = slice_get_past ys (length ys) (omega arith) in
    let taken : min (length ys) (length xs) ≡ min (length ys) (length ys) = sym (length-take (length ys) xs) ∙ ap length h ∙ length-take (length ys) ys in
    elim (slice_get_cases xs (length ys)).1 [
      | inl (x, within, is, _) ↦ absurd (none-some x (sym past ∙ sym e ∙ is))
      | inr (beyond, _) ↦ omega arith
    ]

shape_at : {X F : Type 0} (shape : F → X) (forms : List F) (i : ℕ) (form : F) → i < length forms → form ≡ get_or forms i form → slice_get (map shape forms) i ≡ Some (shape form)
shape_at shape forms i form inside is = slice_get-map shape forms i ∙ ap (option_map shape) (slice_get_read forms (length forms) i form refl inside is)

pub unlike_step : {X F : Type 0} (shape : F → X) (xs : List X) (forms : List F) (i : ℕ) (form : F)
    → i < length forms → form ≡ get_or forms i form → slice_get xs i ≡ Some (shape form) → take i xs ≡ take i (map shape forms)
    → take (i + 1) xs ≡ take (i + 1) (map shape forms)
unlike_step shape xs forms i form inside is found before =
    rw add-one (agree_next xs (map shape forms) i before (found ∙ sym (shape_at shape forms i form inside is)))

pub unlike_end : {X F : Type 0} (shape : F → X) (xs : List X) (forms : List F)
    → (length xs ≡ length forms → ⊥) → take (length forms) xs ≡ take (length forms) (map shape forms)
    → IsFirstUnlike xs (map shape forms) (length forms)
unlike_end shape xs forms other h =
    let n : length (map shape forms) ≡ length forms = length-map forms shape in
    let before : take (length (map shape forms)) xs ≡ take (length (map shape forms)) (map shape forms) = rw n h in
    record {
      before = h;
      differs = λ e. other (no_more xs (map shape forms) before (rw n e) ∙ n);
    }

pub unlike_not : {X : Type 0} {xs ys : List X} {at : ℕ} → IsFirstUnlike xs ys at → xs ≡ ys → ⊥
unlike_not {X} {xs} {ys} {at} unlike e = unlike.differs (ap (λ (l : List X). slice_get l at) e)

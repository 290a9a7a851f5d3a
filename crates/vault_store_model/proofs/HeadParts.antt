-- The heads in two parts: that of one key, and those of the others.
use Rattle.std.proofs.Common.{◌≡◌, ℕ, ◌&&◌, List, [], ◌∷◌, ◌++◌, length, map, filter, cond, not, Bool, true, false, Option, Some, None, IsPermutation, refl, sym, ap, ◌∙◌}
use Rattle.std.specs.List.{AllByRecursion}
use Rattle.std.specs.Str.{bytes_eq}
use Rattle.std.proofs.lemmas.List.{map-append}
use Rattle.std.proofs.lemmas.List.Sorted.{IsPermutation-refl, IsPermutation-cons, IsPermutation-map, IsPermutation-trans, IsPermutation-sym, IsPermutation-middle}
use Rattle.std.proofs.lemmas.Slice.Eq.{bytes_eq-Decides}
use Rattle.std.proofs.lemmas.Bool.{and_parts}
use Rattle.sqlite_trees.proofs.ListLemmas.{IsPermutation-same, filter-filter, filter_same, all_of, all_weaker}
use Rattle.vault_core_model.specs.declared.records.Entry.{Entry}
use Rattle.vault_core_model.specs.declared.records.Head.{Head}
use Rattle.vault_core_model.specs.Places.{is_held, is_held_at}
use Rattle.vault_audit_model.specs.declared.rows.HeadRow.{HeadRow}
use Rattle.vault_store_model.proofs.ListLemmas.{map_each}
use Rattle.vault_store_model.proofs.HeadsByEntry.{held_of_key, is_top, is_newest, head_row_of, heads_by, last_of, head_over_entries}
use Rattle.vault_store_model.proofs.Newest.{IsRising, rising-filter, last_alone, tops}

-- the entry is of that key
abbrev pub is_at : List ℕ → List ℕ → Entry → Bool
is_at bucket key e = bytes_eq e.bucket bucket && bytes_eq e.key key

abbrev pub is_elsewhere : List ℕ → List ℕ → Entry → Bool
is_elsewhere bucket key e = not (is_at bucket key e)

-- ---- lists in parts

module _ {A : Type 0} where
  -- what passes a test before the others
  pub in_parts : (p : A → Bool) (xs : List A) → IsPermutation xs (filter p xs ++ filter (λ x. not (p x)) xs)
  in_parts p [] = IsPermutation-refl []
  in_parts p (x ∷ xs) =
      elim (p x) as (λ b. IsPermutation (x ∷ xs) (cond b (x ∷ filter p xs) (filter p xs) ++ cond (not b) (x ∷ filter (λ y. not (p y)) xs) (filter (λ y. not (p y)) xs))) [
        | true ↦ IsPermutation-cons x _ _ (in_parts p xs)
        | false ↦ IsPermutation-trans _ _ _ (IsPermutation-cons x _ _ (in_parts p xs)) (IsPermutation-sym _ _ (IsPermutation-middle (filter p xs) x (filter (λ y. not (p y)) xs)))
      ]

  -- two tests, in any order
  pub filters_turned : (p q : A → Bool) (xs : List A) → filter p (filter q xs) ≡ filter q (filter p xs)
  filters_turned p q [] = refl
  filters_turned p q (x ∷ xs) = by (q x) (p x) refl refl (filters_turned p q xs)
    where
      by : (b c : Bool) → q x ≡ b → p x ≡ c → filter p (filter q xs) ≡ filter q (filter p xs) → filter p (cond b (x ∷ filter q xs) (filter q xs)) ≡ filter q (cond c (x ∷ filter p xs) (filter p xs))
      by true true e f turned =
          ap (λ b. cond b (x ∷ filter p (filter q xs)) (filter p (filter q xs))) f ∙ ap (λ l. x ∷ l) turned
          ∙ sym (ap (λ b. cond b (x ∷ filter q (filter p xs)) (filter q (filter p xs))) e)
      by true false e f turned = ap (λ b. cond b (x ∷ filter p (filter q xs)) (filter p (filter q xs))) f ∙ turned
      by false true e f turned = turned ∙ sym (ap (λ b. cond b (x ∷ filter q (filter p xs)) (filter q (filter p xs))) e)
      by false false e f turned = turned

  pub all_pass : (p : A → Bool) (xs : List A) → AllByRecursion (λ x. p x ≡ true) (filter p xs)
  all_pass p [] = tt
  all_pass p (x ∷ xs) =
      elim (p x) as (λ b. p x ≡ b → AllByRecursion (λ y. p y ≡ true) (cond b (x ∷ filter p xs) (filter p xs))) [ true ↦ λ e. (e, all_pass p xs) | false ↦ λ e. all_pass p xs ] refl

-- ---- the part of one key

bucket_of_key : (bucket key : List ℕ) (e : Entry) → is_held_at bucket key e ≡ true → e.bucket ≡ bucket
bucket_of_key bucket key e here = (bytes_eq-Decides e.bucket bucket).0 (and_parts (bytes_eq e.bucket bucket) _ here).0

key_of_key : (bucket key : List ℕ) (e : Entry) → is_held_at bucket key e ≡ true → e.key ≡ key
key_of_key bucket key e here = (bytes_eq-Decides e.key key).0 (and_parts (bytes_eq e.key key) _ (and_parts (bytes_eq e.bucket bucket) _ here).1).0

-- of that key and newest is held at it and newest there
own_tests : (a b held : Bool) (bucket key : List ℕ) (e : Entry) (es : List Entry) → bytes_eq e.bucket bucket ≡ a → bytes_eq e.key key ≡ b
    → (cond (a && b) (held && is_top (held_of_key e.bucket e.key es) e) false) ≡ cond (a && (b && held)) (is_top (held_of_key bucket key es) e) false
own_tests true true true bucket key e es p q =
    ap (λ (k : List ℕ). is_top (held_of_key k e.key es) e) ((bytes_eq-Decides e.bucket bucket).0 p) ∙ ap (λ (k : List ℕ). is_top (held_of_key bucket k es) e) ((bytes_eq-Decides e.key key).0 q)
own_tests true true false bucket key e es p q = refl
own_tests true false held bucket key e es p q = refl
own_tests false b held bucket key e es p q = refl

pub filter_both : {A : Type 0} (p q : A → Bool) (xs : List A) → filter p (filter q xs) ≡ filter (λ x. cond (q x) (p x) false) xs
filter_both p q [] = refl
filter_both p q (x ∷ xs) =
    elim (q x) as (λ b. filter p (cond b (x ∷ filter q xs) (filter q xs)) ≡ cond (cond b (p x) false) (x ∷ filter (λ y. cond (q y) (p y) false) xs) (filter (λ y. cond (q y) (p y) false) xs)) [
      | true ↦ ap (λ l. cond (p x) (x ∷ l) l) (filter_both p q xs)
      | false ↦ filter_both p q xs
    ]

own_newest : (n : ℕ) (bucket key : List ℕ) (es : List Entry) → IsRising n es → filter (is_newest es) (filter (is_at bucket key) es) ≡ last_alone (held_of_key bucket key es)
own_newest n bucket key es rising =
    filter_both (is_newest es) (is_at bucket key) es
    ∙ filter_same (λ e. cond (is_at bucket key e) (is_newest es e) false) (λ e. cond (is_held_at bucket key e) (is_top (held_of_key bucket key es) e) false) es
    (all_of (λ e. cond (is_at bucket key e) (is_newest es e) false ≡ cond (is_held_at bucket key e) (is_top (held_of_key bucket key es) e) false)
    (λ e. own_tests (bytes_eq e.bucket bucket) (bytes_eq e.key key) (is_held e) bucket key e es refl refl) es)
    ∙ sym (filter_both (is_top (held_of_key bucket key es)) (is_held_at bucket key) es)
    ∙ tops n (held_of_key bucket key es) (rising-filter (is_held_at bucket key) n es rising)

-- the head, as a row, where there is one
abbrev pub own_head : List ℕ → List ℕ → Option Head → List HeadRow
own_head bucket key None = []
own_head bucket key (Some head) = record { bucket = bucket; key = key; head = head } ∷ []

last_passes : (P : Entry → Type 0) (e : Entry) (es : List Entry) → AllByRecursion P (e ∷ es) → P (last_of e es)
last_passes P e [] all = all.0
last_passes P e (f ∷ fs) all = last_passes P f fs all.1

own_row : (bucket key : List ℕ) (es held : List Entry) → held_of_key bucket key es ≡ held → AllByRecursion (λ e. is_held_at bucket key e ≡ true) held → map (head_row_of es) (last_alone held) ≡ own_head bucket key (head_over_entries held)
own_row bucket key es [] is all = refl
own_row bucket key es (f ∷ fs) is all =
    let e = last_of f fs in
    let here : is_held_at bucket key e ≡ true = last_passes (λ x. is_held_at bucket key x ≡ true) f fs all in
    ap (λ (b : List ℕ). record { bucket = b; key = e.key; head = record { newest = e.id; count = length (held_of_key b e.key es) } } ∷ []) (bucket_of_key bucket key e here)
    ∙ ap (λ (k : List ℕ). record { bucket = bucket; key = k; head = record { newest = e.id; count = length (held_of_key bucket k es) } } ∷ []) (key_of_key bucket key e here)
    ∙ ap (λ (l : List Entry). record { bucket = bucket; key = key; head = record { newest = e.id; count = length l } } ∷ []) is

-- ---- the parts

-- the heads of all other keys
abbrev pub other_heads : List ℕ → List ℕ → List Entry → List HeadRow
other_heads bucket key es = map (head_row_of es) (filter (is_newest es) (filter (is_elsewhere bucket key) es))

pub heads_in_parts : (n : ℕ) (bucket key : List ℕ) (es : List Entry) → IsRising n es → IsPermutation (heads_by es) (own_head bucket key (head_over_entries (held_of_key bucket key es)) ++ other_heads bucket key es)
heads_in_parts n bucket key es rising =
    let own = filter (is_at bucket key) (filter (is_newest es) es) in
    let others = filter (is_elsewhere bucket key) (filter (is_newest es) es) in
    let first : map (head_row_of es) own ≡ own_head bucket key (head_over_entries (held_of_key bucket key es)) =
    ap (map (head_row_of es)) (filters_turned (is_at bucket key) (is_newest es) es ∙ own_newest n bucket key es rising)
    ∙ own_row bucket key es (held_of_key bucket key es) refl (all_pass (is_held_at bucket key) es) in
    let second : map (head_row_of es) others ≡ other_heads bucket key es = ap (map (head_row_of es)) (filters_turned (is_elsewhere bucket key) (is_newest es) es) in
    IsPermutation-trans _ _ _ (IsPermutation-map (head_row_of es) _ _ (in_parts (is_at bucket key) (filter (is_newest es) es)))
    (IsPermutation-same _ _ (map-append (head_row_of es) own others ∙ ap (λ l. l ++ map (head_row_of es) others) first ∙ ap (λ l. own_head bucket key (head_over_entries (held_of_key bucket key es)) ++ l) second))

-- ---- the others hang on the entries of other keys

not_at : (bucket key : List ℕ) (e g : Entry) → is_elsewhere bucket key e ≡ true → is_held_at e.bucket e.key g ≡ true → is_elsewhere bucket key g ≡ true
not_at bucket key e g elsewhere here =
    ap (λ (b : List ℕ). not (bytes_eq b bucket && bytes_eq g.key key)) (bucket_of_key e.bucket e.key g here)
    ∙ ap (λ (k : List ℕ). not (bytes_eq e.bucket bucket && bytes_eq k key)) (key_of_key e.bucket e.key g here) ∙ elsewhere

held_elsewhere : (bucket key : List ℕ) (es : List Entry) (e : Entry) → is_elsewhere bucket key e ≡ true → held_of_key e.bucket e.key (filter (is_elsewhere bucket key) es) ≡ held_of_key e.bucket e.key es
held_elsewhere bucket key es e elsewhere = filter-filter (is_held_at e.bucket e.key) (is_elsewhere bucket key) (λ g. not_at bucket key e g elsewhere) es

held_same : (bucket key : List ℕ) (es fs : List Entry) → filter (is_elsewhere bucket key) fs ≡ filter (is_elsewhere bucket key) es → (e : Entry) → is_elsewhere bucket key e ≡ true → held_of_key e.bucket e.key fs ≡ held_of_key e.bucket e.key es
held_same bucket key es fs same e elsewhere = sym (held_elsewhere bucket key fs e elsewhere) ∙ ap (held_of_key e.bucket e.key) same ∙ held_elsewhere bucket key es e elsewhere

pub others_same : (bucket key : List ℕ) (es fs : List Entry) → filter (is_elsewhere bucket key) fs ≡ filter (is_elsewhere bucket key) es → other_heads bucket key fs ≡ other_heads bucket key es
others_same bucket key es fs same =
    let others = filter (is_elsewhere bucket key) es in
    let elsewhere : AllByRecursion (λ e. is_elsewhere bucket key e ≡ true) others = all_pass (is_elsewhere bucket key) es in
    let P : List Entry → Type 0 = λ xs. AllByRecursion (λ e. is_elsewhere bucket key e ≡ true) xs in
    ap (λ (l : List Entry). map (head_row_of fs) (filter (is_newest fs) l)) same
    ∙ ap (map (head_row_of fs)) (filter_same (is_newest fs) (is_newest es) others
    (all_weaker (λ e. is_elsewhere bucket key e ≡ true) (λ e. is_newest fs e ≡ is_newest es e) (λ e it. ap (λ (l : List Entry). is_held e && is_top l e) (held_same bucket key es fs same e it)) others elsewhere))
    ∙ heads_alike (filter (is_newest es) others) (kept others elsewhere)
  where
    kept : (xs : List Entry) → AllByRecursion (λ e. is_elsewhere bucket key e ≡ true) xs → AllByRecursion (λ e. is_elsewhere bucket key e ≡ true) (filter (is_newest es) xs)
    kept [] all = tt
    kept (x ∷ xs) all = elim (is_newest es x) as (λ b. AllByRecursion (λ e. is_elsewhere bucket key e ≡ true) (cond b (x ∷ filter (is_newest es) xs) (filter (is_newest es) xs))) [ true ↦ (all.0, kept xs all.1) | false ↦ kept xs all.1 ]

    heads_alike : (xs : List Entry) → AllByRecursion (λ e. is_elsewhere bucket key e ≡ true) xs → map (head_row_of fs) xs ≡ map (head_row_of es) xs
    heads_alike xs all =
        map_each (head_row_of fs) (head_row_of es) xs
        (all_weaker (λ e. is_elsewhere bucket key e ≡ true) (λ e. head_row_of fs e ≡ head_row_of es e)
        (λ e it. ap (λ (l : List Entry). record { bucket = e.bucket; key = e.key; head = record { newest = e.id; count = length l } }) (held_same bucket key es fs same e it)) xs all)

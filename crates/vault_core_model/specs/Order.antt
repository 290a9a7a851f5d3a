-- Records in the order of their names, each at its one place.
use Rattle.std.specs.Prelude.{◌≡◌, ℕ, List, [], ◌∷◌, Option, Some, None}
use Rattle.std.specs.List.{AllByRecursion}
use Rattle.std.specs.Cmp.Lexicographic.{slice_cmp}
use Rattle.std.specs.Ordering.{nat_cmp, ordering_then}
use Rattle.std.specs.declared.cmp.Ordering.{Ordering}
use Rattle.std.specs.declared.cmp.Ordering.TheVariants.{Less, Equal, Greater}
use Rattle.vault_core_model.specs.declared.records.Caller.{Caller}
use Rattle.vault_core_model.specs.declared.records.Bucket.{Bucket}
use Rattle.vault_core_model.specs.declared.records.Note.{Note}

-- how two names compare: by their bytes
abbrev pub name_cmp : List ℕ → List ℕ → Ordering
name_cmp a b = slice_cmp nat_cmp a b

abbrev pub caller_cmp : Caller → Caller → Ordering
caller_cmp a b = name_cmp a.name b.name

abbrev pub bucket_cmp : Bucket → Bucket → Ordering
bucket_cmp a b = name_cmp a.name b.name

-- by bucket, then batch, then line
abbrev pub note_cmp : Note → Note → Ordering
note_cmp a b = ordering_then (name_cmp a.bucket b.bucket) (ordering_then (name_cmp a.batch b.batch) (nat_cmp a.line b.line))

-- x before y and the rest, or y before the rest with x, by how x compares with y
abbrev pub placed_by : {A : Type 0} → Ordering → A → A → List A → List A → List A
placed_by Less x y ys with_x = x ∷ y ∷ ys
placed_by Equal x y ys with_x = x ∷ y ∷ ys
placed_by Greater x y ys with_x = y ∷ with_x

-- the list in order, with x at its place
abbrev pub placed : {A : Type 0} → (A → A → Ordering) → A → List A → List A
placed cmp x [] = x ∷ []
placed cmp x (y ∷ ys) = placed_by (cmp x y) x y ys (placed cmp x ys)

-- the same, where there is an x
abbrev pub placed_if_given : {A : Type 0} → (A → A → Ordering) → Option A → List A → List A
placed_if_given cmp None ys = ys
placed_if_given cmp (Some x) ys = placed cmp x ys

-- each comes before all that follow, so none comes twice
abbrev pub IsAscending : {A : Type 0} → (A → A → Ordering) → List A → Type 0
IsAscending cmp [] = Unit {0}
IsAscending cmp (x ∷ xs) = AllByRecursion (λ y. cmp x y ≡ Less) xs × IsAscending cmp xs

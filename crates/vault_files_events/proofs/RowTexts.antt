-- Records of CSV, one after another, have one text only if they have the same fields.
use Rattle.std.proofs.Common.{◌≡◌, ℕ, List, [], ◌∷◌, ◌++◌, map, Option, Some, None, refl, sym, ap, ◌∙◌}
use Rattle.std.specs.List.{flat_map}
use Rattle.csv.specs.Machine.{Read, next_record}
use Rattle.csv.specs.Reading.{default_config}
use Rattle.csv.specs.Writing.{default_writer, read_back, row_text}
use Rattle.csv.specs.declared.parser.State.TheVariants as st
use Rattle.csv.proofs.RoundTrip.{read-write}

-- what a reader reads first of a text
abbrev first_read : List ℕ → Option Read
first_read text = next_record default_config st.StartRecord [] [] text

nothing-read : first_read [] ≡ None
unfolding next_record
nothing-read = refl

abbrev fields_read : Option Read → List (List ℕ)
fields_read None = []
fields_read (Some r) = r.0

abbrev rest_read : Option Read → List ℕ
rest_read None = []
rest_read (Some r) = r.2

-- the same text has the same first record, and the same text after it
first-same : (x y : List (List ℕ)) (a b : List ℕ) → row_text default_writer x ++ a ≡ row_text default_writer y ++ b → (read_back x ≡ read_back y) × (a ≡ b)
first-same x y a b e =
    let same : Some (read_back x, st.StartRecord, a) ≡ Some (read_back y, st.StartRecord, b) = sym (read-write x a) ∙ (ap first_read e ∙ read-write y b) in
    (ap fields_read same, ap rest_read same)

none-left : (y : List (List ℕ)) (b : List ℕ) → [] ≡ row_text default_writer y ++ b → ⊥
none-left y b e =
    let same : None ≡ Some (read_back y, st.StartRecord, b) = sym nothing-read ∙ (ap first_read e ∙ read-write y b) in
    absurd (cc same)

-- the fields of each of these, as they read back
pub same-rows : {A : Type 0} (cells : A → List (List ℕ)) (xs ys : List A) → flat_map (λ x. row_text default_writer (cells x)) xs ≡ flat_map (λ x. row_text default_writer (cells x)) ys
    → map (λ x. read_back (cells x)) xs ≡ map (λ x. read_back (cells x)) ys
same-rows cells [] [] e = refl
same-rows cells [] (y ∷ ys) e = absurd (none-left (cells y) _ e)
same-rows cells (x ∷ xs) [] e = absurd (none-left (cells x) _ (sym e))
same-rows cells (x ∷ xs) (y ∷ ys) e =
    let first = first-same (cells x) (cells y) _ _ e in
    let rest = same-rows cells xs ys first.1 in
    ap (λ (l : List (List (List ℕ))). read_back (cells x) ∷ l) rest ∙ ap (λ (r : List (List ℕ)). r ∷ map (λ x. read_back (cells x)) ys) first.0

-- What a write to one table does to the rows of all of them.
use Rattle.std.proofs.Common.{◌≡◌, ◌≢◌, ◌==◌, ℕ, Bool, true, false, IsTrue, List, [], ◌∷◌, map, refl, sym, ap, subst, ◌∙◌, arith, get_or, inl, inr, true≢false}
use Rattle.std.specs.Prelude.{IsPermutation}
use Rattle.std.specs.List.{AllByRecursion}
use Rattle.std.proofs.lemmas.Bool.{cases_Bool}
use Rattle.std.proofs.lemmas.Bool.Decides.{nat_tests}
use Rattle.sqlite_keyed.proofs.ListLemmas.{IsPermutation-same}
use Rattle.sqlite_value.specs.Order.{Row}
use Rattle.sqlite.specs.Effect.{Database}
use Rattle.vault_base.specs.declared.refusal.Table.{Table}
use Rattle.vault_base.specs.declared.refusal.Table.TheVariants as table
use Rattle.vault_audit_model.specs.Order.{place_of}
use Rattle.vault_audit_model.specs.Tables.{vault_schema}
use Rattle.vault_audit_model.proofs.PlaceLemmas.{one_table}
use Rattle.vault_store_model.specs.Rows.{AreSameRows, rows_in}
use Rattle.vault_store_model.specs.Edits.{with_rows}
use Rattle.vault_store_edits.specs.Trees.{has_table, tree_of, columns_of}

-- their places by their trees
abbrev place_at : ℕ → ℕ
place_at tree = get_or (0 ∷ 1 ∷ 0 ∷ 2 ∷ 0 ∷ 3 ∷ 0 ∷ 4 ∷ 0 ∷ 5 ∷ 0 ∷ 6 ∷ 7 ∷ 0 ∷ 8 ∷ 0 ∷ 9 ∷ 0 ∷ 10 ∷ 0 ∷ 0 ∷ 11 ∷ []) tree 0

place_by_tree : (t : Table) → place_at (tree_of t) ≡ place_of t
place_by_tree table.Meta = refl
place_by_tree table.Departments = refl
place_by_tree table.Callers = refl
place_by_tree table.Buckets = refl
place_by_tree table.Rules = refl
place_by_tree table.Entries = refl
place_by_tree table.Contents = refl
place_by_tree table.Settings = refl
place_by_tree table.Intake = refl
place_by_tree table.Heads = refl
place_by_tree table.Tenures = refl
place_by_tree table.External = refl

one_place : (t s : Table) → tree_of s ≡ tree_of t → place_of t ≡ place_of s
one_place t s same = sym (place_by_tree t) ∙ ap place_at (sym same) ∙ place_by_tree s

pub rows_are : (external : Bool) (db : Database) (t : Table) → IsTrue (has_table external t) → rows_in external db t ≡ map (columns_of external t) (db.trees (tree_of t))
rows_are external db table.Meta there = refl
rows_are external db table.Departments there = refl
rows_are external db table.Callers there = refl
rows_are external db table.Buckets there = refl
rows_are external db table.Rules there = refl
rows_are external db table.Entries there = refl
rows_are external db table.Contents there = refl
rows_are external db table.Settings there = refl
rows_are external db table.Intake there = refl
rows_are external db table.Heads there = refl
rows_are external db table.Tenures there = refl
rows_are false db table.External there = absurd (true≢false (sym there))
rows_are true db table.External there = refl

-- a table that the vault lacks has no rows
pub no_rows : (external : Bool) (db : Database) (t : Table) → has_table external t ≡ false → rows_in external db t ≡ []
no_rows external db table.Meta lacks = absurd (true≢false lacks)
no_rows external db table.Departments lacks = absurd (true≢false lacks)
no_rows external db table.Callers lacks = absurd (true≢false lacks)
no_rows external db table.Buckets lacks = absurd (true≢false lacks)
no_rows external db table.Rules lacks = absurd (true≢false lacks)
no_rows external db table.Entries lacks = absurd (true≢false lacks)
no_rows external db table.Contents lacks = absurd (true≢false lacks)
no_rows external db table.Settings lacks = absurd (true≢false lacks)
no_rows external db table.Intake lacks = absurd (true≢false lacks)
no_rows external db table.Heads lacks = absurd (true≢false lacks)
no_rows external db table.Tenures lacks = absurd (true≢false lacks)
no_rows false db table.External lacks = refl
no_rows true db table.External lacks = absurd (true≢false lacks)

-- what holds of each table of the schema, of this one
pub of_each : (P : ℕ → Type 0) (external : Bool) → AllByRecursion (λ c. P c.tree) (vault_schema external).tables → (t : Table) → IsTrue (has_table external t) → P (tree_of t)
of_each P external all table.Meta there = all.0
of_each P external all table.Departments there = all.1.0
of_each P external all table.Callers there = all.1.1.0
of_each P external all table.Buckets there = all.1.1.1.0
of_each P external all table.Rules there = all.1.1.1.1.0
of_each P external all table.Entries there = all.1.1.1.1.1.0
of_each P external all table.Contents there = all.1.1.1.1.1.1.0
of_each P external all table.Settings there = all.1.1.1.1.1.1.1.0
of_each P external all table.Intake there = all.1.1.1.1.1.1.1.1.0
of_each P external all table.Heads there = all.1.1.1.1.1.1.1.1.1.0
of_each P false all table.Tenures there = all.1.1.1.1.1.1.1.1.1.1.0
of_each P true all table.Tenures there = all.1.1.1.1.1.1.1.1.1.1.0
of_each P false all table.External there = absurd (true≢false (sym there))
of_each P true all table.External there = all.1.1.1.1.1.1.1.1.1.1.1.0

-- the trees of all other tables being as they were
pub edited_alone : (external : Bool) (t : Table) (edit : List Row → List Row) (old new : Database) → IsTrue (has_table external t) → AllByRecursion (λ c. c.tree ≢ tree_of t → new.trees c.tree ≡ old.trees c.tree) (vault_schema external).tables
    → IsPermutation (edit (map (columns_of external t) (old.trees (tree_of t)))) (map (columns_of external t) (new.trees (tree_of t))) → AreSameRows (with_rows t edit (rows_in external old)) (rows_in external new)
edited_alone external t edit old new there others here s = elim (cases_Bool (place_of t == place_of s)) [
  | inl same ↦
      let is : t ≡ s = one_table t s (grind (arith, nat_tests)) in
      let first : IsPermutation (edit (rows_in external old t)) (rows_in external new t) = rw (rows_are external old t there, rows_are external new t there) here in
      rw same (subst (λ u. IsPermutation (edit (rows_in external old u)) (rows_in external new u)) is first)
  | inr other ↦ rw other (elim (cases_Bool (has_table external s)) [
    | inl has ↦
        let apart : tree_of s ≢ tree_of t = λ e. let n = one_place t s e in absurd (grind (arith, nat_tests)) in
        let kept = of_each (λ n. n ≢ tree_of t → new.trees n ≡ old.trees n) external others s has apart in
        IsPermutation-same _ _ (rows_are external old s has ∙ ap (map (columns_of external s)) (sym kept) ∙ sym (rows_are external new s has))
    | inr lacks ↦ IsPermutation-same _ _ (no_rows external old s lacks ∙ sym (no_rows external new s lacks))
  ])
]

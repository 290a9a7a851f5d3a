-- The walk over meta.
use Rattle.std.proofs.Common.{◌≡◌, List, [], ◌∷◌, drop, map, true, false, Some, None, Option, Less, IsPermutation, IsSorted, refl, ap, subst, arith}
use Rattle.std.proofs.lemmas.List.Sorted.{length_permutation}
use Rattle.sqlite_value.specs.Order.{Row}
use Rattle.sqlite_trees.specs.Tree.{IsAscending}
use Rattle.sqlite.specs.Effect.{Database}
use Rattle.sqlite.specs.Schema.{Schema}
use Rattle.sqlite.specs.State.{State, Shown, IsUnchanged}
use Rattle.vault_base.specs.declared.refusal.Table.TheVariants as table
use Rattle.vault_audit_model.specs.declared.rows.MetaRow.{MetaRow}
use Rattle.vault_audit_records.specs.declared.meta.row.MetaPass.{MetaPass}
use Rattle.vault_audit_model.specs.declared.schema.SchemaVersion.{SchemaVersion}
use Rattle.vault_audit_model.specs.declared.schema.SchemaVersion.TheVariants.{First, Second, Third, Fourth}
use Rattle.vault_audit_model.specs.Rows.{meta_row, meta_columns_as}
use Rattle.vault_audit_model.specs.Tables.{meta_tree}
use Rattle.vault_audit_model.proofs.CommandLemmas.{meant}
use Rattle.vault_audit_model.proofs.SameRows.{same_meta}
use Rattle.vault_audit_records.specs.Meta.{IsFirstMeta, with_meta, IsMetaOf}
use Rattle.vault_audit_schema.specs.Places.{BeginTo}
use Rattle.vault_audit_schema.specs.Selects.{meta_terms}
use Rattle.vault_audit_rows.specs.Pass.{Takes, Refuses, AllFit, after}
use Rattle.vault_audit_rows.specs.Walk.{Walked}
use Rattle.vault_audit_rows.proofs.ScanLemmas.{walked, first_cmp}
use Rattle.vault_audit_rows.proofs.PassLemmas.{walk_yes, walk_no}
use Rattle.vault_audit.proofs.TextLemmas.{meta_query, meta_walks}

abbrev source : SchemaVersion → Database → List Row
source n db = map (meta_columns_as n) (db.trees meta_tree)

answers : (n : SchemaVersion) (s : Schema) → BeginTo n s.tables table.Meta → (a b : State) → a.now.schema ≡ s → (rows : List Row) → Shown (meta_query n) [] a b rows → IsPermutation (source n a.now) rows × IsSorted first_cmp rows
answers First s begin a b has rows shown = let it = meta_walks First s begin in walked (meta_query First) a b s has it.plain it.unlisted meta_tree 0 (drop 1 (meta_terms First)) _ (meant s (meta_query First) it) refl rows shown
answers Second s begin a b has rows shown = let it = meta_walks Second s begin in walked (meta_query Second) a b s has it.plain it.unlisted meta_tree 0 (drop 1 (meta_terms Second)) _ (meant s (meta_query Second) it) refl rows shown
answers Third s begin a b has rows shown = let it = meta_walks Third s begin in walked (meta_query Third) a b s has it.plain it.unlisted meta_tree 0 (drop 1 (meta_terms Third)) _ (meant s (meta_query Third) it) refl rows shown
answers Fourth s begin a b has rows shown = let it = meta_walks Fourth s begin in walked (meta_query Fourth) a b s has it.plain it.unlisted meta_tree 0 (drop 1 (meta_terms Fourth)) _ (meant s (meta_query Fourth) it) refl rows shown

abbrev start : SchemaVersion → MetaPass
start n = record { schema_version = n; found = None }

rise : (n : SchemaVersion) (xs : List MetaRow) → AllFit meta_row IsFirstMeta with_meta (start n) xs → IsAscending (λ a b. first_cmp a b ≡ Less) (map meta_row xs)
rise n [] fit = tt
rise n (x ∷ []) fit = (tt, tt)
rise n (x ∷ y ∷ xs) fit = absurd (let never = fit.1.0.0 in cc)

module _ (n : SchemaVersion) (old new : State) (begin : BeginTo n old.now.schema.tables table.Meta) (same : IsUnchanged old new) (r : MetaPass) where
  pub meta_yes : Walked (Takes meta_row IsFirstMeta with_meta) (Refuses meta_row IsFirstMeta with_meta) (meta_query n) old new (start n) r true → (x : MetaRow) → r.found ≡ Some x → IsMetaOf n new.now (Some x)
  meta_yes h = one (walk_yes meta_row IsFirstMeta with_meta same_meta old.now.schema (meta_query n) _ _ (meant old.now.schema (meta_query n) (meta_walks n old.now.schema begin)) (source n) (answers n old.now.schema begin) old new refl same (start n) r h)
    where
      one : (xs : List MetaRow) × IsPermutation (map meta_row xs) (source n new.now) × AllFit meta_row IsFirstMeta with_meta (start n) xs × (r ≡ after meta_row IsFirstMeta with_meta (start n) xs) → (x : MetaRow) → r.found ≡ Some x → IsMetaOf n new.now (Some x)
      one ([], are, fit, is) x found = absurd (let e = ap (λ (p : MetaPass). p.found) is in cc)
      one (y ∷ [], are, fit, is) x found =
          let same : y ≡ x = (let e = ap (λ (p : MetaPass). p.found) is in cc) in
          subst (λ z. IsMetaOf n new.now (Some z)) same (are, fit.0.1)
      one (y ∷ z ∷ more, are, fit, is) x found = absurd (let never = fit.1.0.0 in cc)

  -- no row at all
  pub meta_none : Walked (Takes meta_row IsFirstMeta with_meta) (Refuses meta_row IsFirstMeta with_meta) (meta_query n) old new (start n) r true → r.found ≡ None → IsMetaOf n new.now None
  meta_none h = one (walk_yes meta_row IsFirstMeta with_meta same_meta old.now.schema (meta_query n) _ _ (meant old.now.schema (meta_query n) (meta_walks n old.now.schema begin)) (source n) (answers n old.now.schema begin) old new refl same (start n) r h)
    where
      one : (xs : List MetaRow) × IsPermutation (map meta_row xs) (source n new.now) × AllFit meta_row IsFirstMeta with_meta (start n) xs × (r ≡ after meta_row IsFirstMeta with_meta (start n) xs) → r.found ≡ None → IsMetaOf n new.now None
      one ([], are, fit, is) none x one_row head = absurd (let a = length_permutation _ _ are in let b = length_permutation _ _ one_row in omega arith)
      one (y ∷ [], are, fit, is) none x one_row head = absurd (let e = ap (λ (p : MetaPass). p.found) is in cc)
      one (y ∷ z ∷ more, are, fit, is) none x one_row head = absurd (let never = fit.1.0.0 in cc)

  pub meta_no : Walked (Takes meta_row IsFirstMeta with_meta) (Refuses meta_row IsFirstMeta with_meta) (meta_query n) old new (start n) r false → IsMetaOf n new.now None
  meta_no h x are head = walk_no meta_row IsFirstMeta with_meta same_meta old.now.schema (meta_query n) _ _ (meant old.now.schema (meta_query n) (meta_walks n old.now.schema begin)) (source n) (answers n old.now.schema begin) old new refl same (start n) r (rise n) h (x ∷ []) are ((refl, head), tt)

  pub meta_all : Walked (Takes meta_row IsFirstMeta with_meta) (Refuses meta_row IsFirstMeta with_meta) (meta_query n) old new (start n) r true → IsMetaOf n new.now r.found
  meta_all h = of r.found refl
    where
      of : (o : Option MetaRow) → r.found ≡ o → IsMetaOf n new.now o
      of (Some x) found = meta_yes h x found
      of None found = meta_none h found

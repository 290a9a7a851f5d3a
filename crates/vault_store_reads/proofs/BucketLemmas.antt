-- The names of buckets, in the order of their bytes, are those of the vault's.
use Rattle.std.proofs.Common.{◌≡◌, ℕ, ◌==◌, ◌&&◌, List, [], ◌∷◌, length, map, filter, take, Bool, true, false, Less, IsTrue, IsPermutation, refl, sym, ap, subst, ◌∙◌}
use Rattle.std.specs.List.{AllByRecursion}
use Rattle.std.specs.Cmp.Lexicographic.{slice_cmp}
use Rattle.std.specs.Ordering.{nat_cmp}
use Rattle.sqlite_trees.specs.Tree.{IsAscending}
use Rattle.sqlite_keyed.proofs.ListLemmas.{map-map, filter-map, ascending-map, ascending_weaker, ascending-filter, all_weaker}
use Rattle.sqlite_tied.proofs.RuleLemmas.{and_true}
use Rattle.sqlite_value.specs.declared.value.Value.TheVariants.{Text}
use Rattle.sqlite_value.specs.declared.keys.Collation.TheVariants.{Binary}
use Rattle.sqlite_value.specs.Order.{Row, column}
use Rattle.sqlite_sql.specs.declared.ops.BinaryOp.TheVariants.{Compare}
use Rattle.sqlite_sql.specs.declared.ops.CompareOp.TheVariants.{Gt}
use Rattle.sqlite_sql.specs.Ops.{binary, is_true}
use Rattle.sqlite_sql.specs.Term.{col}
use Rattle.sqlite_sql.specs.Query.{Query, Output, output, output_cmp}
use Rattle.vault_base.specs.Name.{is_bucket_name}
use Rattle.vault_core_model.specs.declared.records.Bucket.{Bucket}
use Rattle.vault_core_model.specs.Order.{IsAscending as Stand, bucket_cmp}
use Rattle.vault_core_model.specs.Places.{comes_after}
use Rattle.vault_core_model.specs.Reads.{buckets_after}
use Rattle.vault_core_model.specs.Vault.{Vault}
use Rattle.vault_audit_model.specs.Limits.{IsBucket}
use Rattle.vault_audit_model.specs.Rows.{bucket_row, bucket_columns}
use Rattle.vault_audit_model.specs.Spells.{bucket_of}
use Rattle.vault_audit_model.specs.Tables.{buckets_tree}
use Rattle.vault_audit_model.specs.Values.{number}
use Rattle.vault_store_reads.specs.Queries.{FindsRows}
use Rattle.vault_store_model.specs.Scans.{passes}
use Rattle.vault_store_reads.specs.Shown.{name_row}
use Rattle.vault_store_reads.proofs.KeyLemmas.{some_bytes, after_is, take-map}
use Rattle.vault_store_reads.proofs.SelectLemmas.{select_of, of_records, answered}
use Rattle.vault_store_reads.proofs.OrderedTextLemmas.{buckets_text, buckets_tests, buckets_order, buckets_is}
use Rattle.vault_store_reads.proofs.ValueLemmas.{later_text, text_less}

-- a name has a byte, so it comes after the empty text
named : (name : List ℕ) → IsTrue (is_bucket_name name) → (length name == 0) ≡ false
named [] is = absurd (cc is)
named (b ∷ bs) is = some_bytes b bs

abbrev row_for : Bucket → Row
row_for b = bucket_row (bucket_of b)

abbrev test : List ℕ → Row → Bool
test after c = is_true (binary (Compare Gt Binary) (column c 0) (Text after)) && true

abbrev keep : List ℕ → Bucket → Bool
keep after b = comes_after b.name after

tests : (after : List ℕ) (b : Bucket) → IsBucket b → test after (row_for b) ≡ keep after b
tests after b is = and_true _ ∙ later_text b.name after ∙ after_is b.name after (named b.name is.name.1)

abbrev out : Row → Output
out c = (column c 0 ∷ [], column c 0 ∷ [])

abbrev name_out : List ℕ → Output
name_out name = (name_row name, name_row name)

abbrev pub buckets_query : Query
buckets_query = select_of buckets_tree buckets_tests (col 1 1 ∷ []) buckets_order (col 0 1)

-- buckets stand in the order of their names
names_rise : (bs : List Bucket) → Stand bucket_cmp bs → IsAscending (λ j k. slice_cmp nat_cmp j k ≡ Less) (map (λ b. b.name) bs)
names_rise [] up = tt
names_rise (b ∷ bs) up = (each bs up.0, names_rise bs up.1)
  where
    each : (cs : List Bucket) → AllByRecursion (λ c. bucket_cmp b c ≡ Less) cs → AllByRecursion (λ k. slice_cmp nat_cmp b.name k ≡ Less) (map (λ c. c.name) cs)
    each [] all = tt
    each (c ∷ cs) all = (all.0, each cs all.1)

outs_rise : (ks : List (List ℕ)) → IsAscending (λ j k. slice_cmp nat_cmp j k ≡ Less) ks → IsAscending (λ a b. output_cmp buckets_query a b ≡ Less) (map name_out ks)
outs_rise ks up =
    let R : Output → Output → Type 0 = λ a b. output_cmp buckets_query a b ≡ Less in
    ascending-map R name_out ks (ascending_weaker (λ j k. slice_cmp nat_cmp j k ≡ Less) (λ j k. R (name_out j) (name_out k)) (λ j k low. text_less j k low) ks up)

names_kept : (after : List ℕ) (bs : List Bucket) → map (λ b. out (row_for b)) (filter (keep after) bs) ≡ map name_out (filter (λ name. comes_after name after) (map (λ b. b.name) bs))
names_kept after bs =
    let later = λ (name : List ℕ). comes_after name after in
    let name_of = λ (b : Bucket). b.name in
    let kept = filter (keep after) bs in
    let same : map (λ b. out (row_for b)) kept ≡ map name_out (map name_of kept) = sym (map-map name_out name_of kept) in
    same ∙ ap (map name_out) (sym (filter-map later name_of bs))

pub found_buckets : (v : Vault) (after : List ℕ) (most : ℕ) (rows : List Row) → FindsRows v buckets_text (Text after ∷ number most ∷ []) rows → rows ≡ map name_row (buckets_after v after most)
found_buckets v after most rows (db, sound, answers) =
    let params : Row = Text after ∷ number most ∷ [] in
    let later = λ (name : List ℕ). comes_after name after in
    let names = map (λ (b : Bucket). b.name) v.buckets in
    let found = map (λ r. output buckets_query (params ∷ r ∷ [])) (filter (passes buckets_tests params) (db.trees buckets_tree)) in
    let are = of_records row_for bucket_columns (test after) out (passes buckets_tests params) (λ r. output buckets_query (params ∷ r ∷ [])) (λ r. refl) (λ r. refl) (keep after) v.buckets (db.trees buckets_tree) sound.spells.buckets
    (all_weaker IsBucket (λ b. test after (row_for b) ≡ keep after b) (tests after) v.buckets sound.spells.kept.limits.buckets) in
    let same = subst (λ os. IsPermutation os found) (names_kept after v.buckets) are in
    let rise = ascending-filter (λ j k. slice_cmp nat_cmp j k ≡ Less) later names (names_rise v.buckets sound.spells.kept.sound.ordered.buckets) in
    answered buckets_tree buckets_tests (col 1 1 ∷ []) buckets_order (col 0 1) db params rows (answers buckets_query (buckets_is v.external)) (map name_out (filter later names)) same (outs_rise (filter later names) rise)
    ∙ ap (take most) (map-map (λ (o : Output). o.1) name_out (filter later names)) ∙ take-map name_row most (filter later names)

-- The removed entries by their ids.
use Rattle.std.proofs.Common.{◌≡◌, ◌&&◌, List, [], ◌∷◌, map, filter, Bool, true, not, Less, refl, sym, ◌∙◌}
use Rattle.sqlite_trees.specs.Tree.{IsAscending}
use Rattle.sqlite_keyed.proofs.ListLemmas.{map-map, ascending-map, ascending_weaker, ascending-filter}
use Rattle.sqlite_value.specs.declared.value.Value.TheVariants.{Null}
use Rattle.sqlite_value.specs.declared.keys.Collation.TheVariants.{Binary}
use Rattle.sqlite_value.specs.Order.{Row, column}
use Rattle.sqlite_sql.specs.declared.ops.BinaryOp.TheVariants.{Is}
use Rattle.sqlite_sql.specs.declared.ops.UnaryOp.TheVariants.{Not}
use Rattle.sqlite_sql.specs.Ops.{unary, binary, is_true}
use Rattle.sqlite_sql.specs.Query.{Query, Output, output, output_cmp}
use Rattle.sqlite_tied.proofs.RuleLemmas.{and_true}
use Rattle.vault_audit_model.specs.Rows.{entry_row, entry_columns}
use Rattle.vault_audit_model.specs.Tables.{entries_tree}
use Rattle.vault_core_model.specs.Places.{is_held}
use Rattle.vault_core_model.specs.Reads.{removed_entries}
use Rattle.vault_core_model.specs.Vault.{Vault}
use Rattle.vault_core_model.specs.declared.records.History.{History}
use Rattle.vault_store_model.specs.Scans.{passes}
use Rattle.vault_store_reads.specs.Queries.{FindsRows}
use Rattle.vault_store_reads.proofs.OrderedEntryLemmas.{IsOlder, row_of}
use Rattle.vault_store_reads.proofs.OrderedListLemmas.{always}
use Rattle.vault_store_reads.proofs.OrderedTextLemmas.{entries_order, no_limit}
use Rattle.vault_store_reads.proofs.SelectLemmas.{select_of, of_records, answered}
use Rattle.vault_store_reads.proofs.SettingLemmas.{ids_rise}
use Rattle.vault_store_reads.proofs.ValueLemmas.{number_less, some_removed}
use Rattle.vault_store_walks.proofs.WalkTexts.{removed_text, removed_tests, removed_shown, removed_is}

abbrev removed_test : Row → Bool
removed_test c = is_true (unary Not (binary (Is Binary) (column c 9) Null)) && true

abbrev removed_out : Row → Output
removed_out c = (column c 0 ∷ [], column c 0 ∷ column c 1 ∷ column c 2 ∷ column c 3 ∷ column c 4 ∷ column c 5 ∷ column c 6 ∷ column c 7 ∷ column c 8 ∷ column c 9 ∷ column c 10 ∷ column c 11 ∷ [])

abbrev pub removed_query : Query
removed_query = select_of entries_tree removed_tests removed_shown entries_order no_limit

removed_rise : (hs : List History) → IsAscending IsOlder hs → IsAscending (λ a b. output_cmp removed_query a b ≡ Less) (map (λ h. removed_out (row_of h)) hs)
removed_rise hs up =
    let R : Output → Output → Type 0 = λ a b. output_cmp removed_query a b ≡ Less in
    ascending-map R (λ h. removed_out (row_of h)) hs (ascending_weaker IsOlder (λ g h. R (removed_out (row_of g)) (removed_out (row_of h))) (λ g h low. number_less g.entry.id h.entry.id low) hs up)

pub found_removed : (v : Vault) (rows : List Row) → FindsRows v removed_text [] rows → rows ≡ map entry_row (removed_entries v)
found_removed v rows (db, sound, answers) =
    let keep = λ (h : History). not (is_held h.entry) in
    let hs = filter keep v.histories in
    let are = of_records row_of entry_columns removed_test removed_out (passes removed_tests []) (λ r. output removed_query ([] ∷ r ∷ [])) (λ r. refl) (λ r. refl) keep v.histories (db.trees entries_tree) sound.spells.entries
    (always (λ h. removed_test (row_of h) ≡ keep h) (λ h. and_true _ ∙ some_removed h.entry.removal) v.histories) in
    let rise = ascending-filter IsOlder keep v.histories (ids_rise 1 v.histories sound.spells.kept.sound.ids) in
    answered entries_tree removed_tests removed_shown entries_order no_limit db [] rows (answers removed_query (removed_is v.external)) (map (λ h. removed_out (row_of h)) hs) are (removed_rise hs rise)
    ∙ map-map (λ (o : Output). o.1) (λ h. removed_out (row_of h)) hs ∙ sym (map-map entry_row (λ h. h.entry) hs)

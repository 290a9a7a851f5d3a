-- The tenures of a version, in the order of their numbers, and the last of them.
use Rattle.std.proofs.Common.{◌≡◌, ℕ, ◌<◌, ◌==◌, ◌&&◌, pos, List, [], ◌∷◌, map, filter, find, flat_map, reverse, take, Bool, true, false, Option, None, Some, option_to_list, Less, IsPermutation, refl, sym, ap, subst, ◌∙◌, inl, inr, arith}
use Rattle.std.specs.Prelude.{option_map, unwrap_or}
use Rattle.std.specs.List.{AllByRecursion}
use Rattle.std.proofs.lemmas.Bool.{cases_Bool}
use Rattle.std.proofs.lemmas.List.Sorted.{IsPermutation-reverse, IsPermutation-sym, IsPermutation-trans}
use Rattle.sqlite.specs.Effect.{Database}
use Rattle.sqlite_trees.specs.Tree.{IsAscending}
use Rattle.sqlite_keyed.proofs.ListLemmas.{map-map, ascending-map, ascending_weaker}
use Rattle.sqlite_value.specs.declared.value.Value.TheVariants.{Int}
use Rattle.sqlite_value.specs.declared.keys.Collation.TheVariants.{Binary}
use Rattle.sqlite_value.specs.Order.{Row, column}
use Rattle.sqlite_sql.specs.declared.ops.BinaryOp.TheVariants.{Compare}
use Rattle.sqlite_sql.specs.declared.ops.CompareOp.TheVariants.{Eq}
use Rattle.sqlite_sql.specs.Ops.{binary, is_true}
use Rattle.sqlite_sql.specs.Term.{lit}
use Rattle.sqlite_sql.specs.Query.{Query, Output, output, output_cmp}
use Rattle.vault_audit_model.specs.Tables.{tenures_tree}
use Rattle.vault_base.specs.declared.refusal.Table.TheVariants as table
use Rattle.vault_core_model.specs.declared.records.Entry.{Entry}
use Rattle.vault_core_model.specs.declared.records.History.{History}
use Rattle.vault_core_model.specs.declared.records.Tenure.{Tenure}
use Rattle.vault_core_model.specs.Reads.{tenures_of}
use Rattle.vault_core_model.specs.Sound.{AreTenures, FollowOn, HasTenures, HasTenuresAs, end_of, last_tenure}
use Rattle.vault_core_model.specs.Vault.{Vault, history_of}
use Rattle.vault_audit_model.specs.declared.rows.TenureRow.{TenureRow}
use Rattle.vault_audit_model.specs.Rows.{tenure_row, tenure_columns}
use Rattle.vault_audit_model.specs.Spells.{AreSound, tenure_at, tenures_in}
use Rattle.vault_audit_model.specs.Values.{number}
use Rattle.vault_store_model.proofs.RowsLemmas.{sound_is_rows}
use Rattle.vault_store_reads.specs.Queries.{FindsRows}
use Rattle.vault_store_model.specs.Scans.{passes}
use Rattle.vault_store_model.specs.Sums.{last_tenure_of}
use Rattle.sqlite_tied.proofs.RuleLemmas.{and_true}
use Rattle.vault_store_reads.proofs.OrderedListLemmas.{falls, map-reverse, last, first_reversed, last-map, mapped_option, part_of, in_one_part, always}
use Rattle.vault_store_reads.proofs.SelectLemmas.{select_of, of_records, answered}
use Rattle.vault_store_reads.proofs.SettingLemmas.{ids_apart}
use Rattle.vault_store_reads.proofs.OrderedTextLemmas.{tenures_text, tenures_tests, tenures_shown, tenures_order, tenures_is, last_tenure_text, last_tenure_order, last_tenure_is, no_limit}
use Rattle.vault_audit_model.proofs.ValueLemmas.{same_number}
use Rattle.vault_store_reads.proofs.ValueLemmas.{number_less}

-- ---- numbers

abbrev IsEarlier : Tenure → Tenure → Type 0
IsEarlier s t = s.number < t.number

after : (moves end least : ℕ) (t : Tenure) (ts : List Tenure) → least < t.number → FollowOn moves end t ts → AllByRecursion (λ u. least < u.number) (t ∷ ts)
after moves end least t [] low follow = (low, tt)
after moves end least t (u ∷ us) low follow = (low, after moves end least u us (omega (arith, low, follow.0)) follow.4)

numbers_rise : (moves end : ℕ) (t : Tenure) (ts : List Tenure) → FollowOn moves end t ts → IsAscending IsEarlier (t ∷ ts)
numbers_rise moves end t [] follow = (tt, tt)
numbers_rise moves end t (u ∷ us) follow = (after moves end t.number u us follow.0 follow.4, numbers_rise moves end u us follow.4)

theirs_rise : (v : Vault) (e : Entry) (ts : List Tenure) → AreTenures v e ts → IsAscending IsEarlier ts
theirs_rise v e [] are = absurd are
theirs_rise v e (t ∷ ts) are = numbers_rise v.moves (end_of v.last e.removal) t ts are.2

tenures_rise : (v : Vault) (h : History) (marker : Bool) → HasTenuresAs marker v h → IsAscending IsEarlier h.tenures
tenures_rise v h true has = subst (IsAscending IsEarlier) (sym has) tt
tenures_rise v h false has = theirs_rise v h.entry h.tenures has.0

-- a row's tenure is earlier than the next one's
abbrev pub IsBefore : TenureRow → TenureRow → Type 0
IsBefore s t = s.tenure.number < t.tenure.number

part_rises : (v : Vault) (p : History → Bool) (hs : List History) → AllByRecursion (HasTenures v) hs → IsAscending IsBefore (part_of tenures_in (find p hs))
part_rises v p [] all = tt
part_rises v p (h ∷ hs) all = elim (cases_Bool (p h)) [
  | inl this ↦ rw this (ascending-map IsBefore (tenure_at h.entry.id) h.tenures (tenures_rise v h h.entry.marker all.0))
  | inr other ↦ rw other (part_rises v p hs all.1)
]

all_of : (id : ℕ) (ts : List Tenure) (n : ℕ) → AllByRecursion (λ r. (r.id == n) ≡ (id == n)) (map (tenure_at id) ts)
all_of id [] n = tt
all_of id (t ∷ ts) n = (refl, all_of id ts n)

-- ---- what the rows say

abbrev pub tenure_in : TenureRow → Tenure
tenure_in x = x.tenure

same_all : (id : ℕ) (ts : List Tenure) → map tenure_in (map (tenure_at id) ts) ≡ ts
same_all id [] = refl
same_all id (t ∷ ts) = ap (λ l. t ∷ l) (same_all id ts)

stated_part : (o : Option History) → map tenure_in (part_of tenures_in o) ≡ unwrap_or (option_map (λ h. h.tenures) o) []
stated_part None = refl
stated_part (Some h) = same_all h.entry.id h.tenures

pub stated_tenures : (v : Vault) (id : ℕ) → map tenure_in (part_of tenures_in (history_of v id)) ≡ tenures_of v id
stated_tenures v id = stated_part (history_of v id)

same_last : (ts : List Tenure) → last ts ≡ last_tenure ts
same_last [] = refl
same_last (t ∷ []) = refl
same_last (t ∷ u ∷ us) = same_last (u ∷ us)

pub stated_last : (v : Vault) (id : ℕ) → option_map tenure_in (last (part_of tenures_in (history_of v id))) ≡ last_tenure_of v id
stated_last v id = sym (last-map tenure_in (part_of tenures_in (history_of v id))) ∙ ap last (stated_tenures v id) ∙ same_last (tenures_of v id)

-- ---- the rows of one version

abbrev pub test : ℕ → Row → Bool
test id c = is_true (binary (Compare Eq Binary) (column c 0) (number id)) && true

abbrev out : Row → Output
out c = (column c 1 ∷ [], column c 0 ∷ column c 1 ∷ column c 2 ∷ column c 3 ∷ [])

abbrev outs : List TenureRow → List Output
outs ts = map (λ t. out (tenure_row t)) ts

abbrev pub query : Query
query = select_of tenures_tree tenures_tests tenures_shown tenures_order no_limit

abbrev pub last_query : Query
last_query = select_of tenures_tree tenures_tests tenures_shown last_tenure_order (lit (Int (pos 1)))

outs_rise : (ts : List TenureRow) → IsAscending IsBefore ts → IsAscending (λ a b. output_cmp query a b ≡ Less) (outs ts)
outs_rise ts up =
    let R : Output → Output → Type 0 = λ a b. output_cmp query a b ≡ Less in
    ascending-map R (λ t. out (tenure_row t)) ts (ascending_weaker IsBefore (λ s t. R (out (tenure_row s)) (out (tenure_row t))) (λ s t low. number_less s.tenure.number t.tenure.number low) ts up)

outs_fall : (ts : List TenureRow) → IsAscending IsBefore ts → IsAscending (λ a b. output_cmp last_query a b ≡ Less) (reverse (outs ts))
outs_fall ts up =
    let R : Output → Output → Type 0 = λ a b. output_cmp last_query b a ≡ Less in
    falls R (outs ts) (ascending-map R (λ t. out (tenure_row t)) ts (ascending_weaker IsBefore (λ s t. R (out (tenure_row s)) (out (tenure_row t))) (λ s t low. number_less s.tenure.number t.tenure.number low) ts up))

first_out : (ts : List TenureRow) → take 1 (map (λ (o : Output). o.1) (reverse (outs ts))) ≡ map tenure_row (option_to_list (last ts))
first_out ts =
    ap (take 1) (map-reverse (λ (o : Output). o.1) (outs ts) ∙ ap reverse (map-map (λ (o : Output). o.1) (λ t. out (tenure_row t)) ts))
    ∙ first_reversed (map tenure_row ts) ∙ ap option_to_list (last-map tenure_row ts) ∙ mapped_option tenure_row (last ts)

module _ (v : Vault) (id : ℕ) (db : Database) (sound : AreSound db v) where
  abbrev pub all : List TenureRow
  all = flat_map tenures_in v.histories

  abbrev pub mine : List TenureRow
  mine = filter (λ t. t.id == id) all

  abbrev pub its : List TenureRow
  its = part_of tenures_in (history_of v id)

  pub stored : IsPermutation (map tenure_row all) (map tenure_columns (db.trees tenures_tree))
  stored = ((sound_is_rows db v).0 sound).rows table.Tenures

  pub mine_are : mine ≡ its
  mine_are = in_one_part (λ h. h.entry.id == id) tenures_in (λ t. t.id == id) (λ h. all_of h.entry.id h.tenures id) v.histories (ids_apart id v.histories sound.spells.kept.sound.ids)

  pub rise : IsAscending IsBefore mine
  rise = subst (IsAscending IsBefore) (sym mine_are) (part_rises v (λ h. h.entry.id == id) v.histories sound.spells.kept.sound.tenured)

  pub tests : AllByRecursion (λ t. test id (tenure_row t) ≡ (t.id == id)) all
  tests = always (λ t. test id (tenure_row t) ≡ (t.id == id)) (λ t. and_true _ ∙ same_number t.id id) all

-- ---- the answers

pub found_tenures : (v : Vault) (id : ℕ) (rows : List Row) → FindsRows v tenures_text (number id ∷ []) rows → rows ≡ map tenure_row (part_of tenures_in (history_of v id))
found_tenures v id rows (db, sound, answers) =
    let params : Row = number id ∷ [] in
    let ours = mine v id db sound in
    let are = of_records tenure_row tenure_columns (test id) out (passes tenures_tests params) (λ r. output query (params ∷ r ∷ [])) (λ r. refl) (λ r. refl) (λ t. t.id == id) (all v id db sound) (db.trees tenures_tree) (stored v id db sound) (tests v id db sound) in
    answered tenures_tree tenures_tests tenures_shown tenures_order no_limit db params rows (answers query (tenures_is v.external)) (outs ours) are (outs_rise ours (rise v id db sound))
    ∙ map-map (λ (o : Output). o.1) (λ t. out (tenure_row t)) ours ∙ ap (map tenure_row) (mine_are v id db sound)

pub found_last : (v : Vault) (id : ℕ) (rows : List Row) → FindsRows v last_tenure_text (number id ∷ []) rows → rows ≡ map tenure_row (option_to_list (last (part_of tenures_in (history_of v id))))
found_last v id rows (db, sound, answers) =
    let params : Row = number id ∷ [] in
    let ours = mine v id db sound in
    let are = of_records tenure_row tenure_columns (test id) out (passes tenures_tests params) (λ r. output last_query (params ∷ r ∷ [])) (λ r. refl) (λ r. refl) (λ t. t.id == id) (all v id db sound) (db.trees tenures_tree) (stored v id db sound) (tests v id db sound) in
    let same = IsPermutation-trans _ _ _ (IsPermutation-sym _ _ (IsPermutation-reverse (outs ours))) are in
    answered tenures_tree tenures_tests tenures_shown last_tenure_order (lit (Int (pos 1))) db params rows (answers last_query (last_tenure_is v.external)) (reverse (outs ours)) same (outs_fall ours (rise v id db sound))
    ∙ first_out ours ∙ ap (λ ts. map tenure_row (option_to_list (last ts))) (mine_are v id db sound)

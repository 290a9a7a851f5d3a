-- Rows of entries and contents, by an id, and rows of intake.
use Rattle.std.proofs.Common.{◌≡◌, ℕ, ◌==◌, ◌&&◌, List, [], ◌∷◌, ◌++◌, map, filter, find, flat_map, cond, Bool, true, false, Option, None, Some, option_to_list, slice_get, IsPermutation, Equal, nat_cmp, refl, sym, ap, subst, ◌∙◌, arith}
use Rattle.std.specs.Prelude.{option_map, option_and_then}
use Rattle.std.specs.List.{AllByRecursion}
use Rattle.std.specs.Ordering.{on}
use Rattle.std.specs.Str.{bytes_eq}
use Rattle.std.proofs.lemmas.Bool.{and_parts}
use Rattle.std.proofs.lemmas.Cmp.{nat_list_cmp_total, nat_cmp_total, tied_itself}
use Rattle.std.proofs.lemmas.Slice.Eq.{bytes_eq-Decides}
use Rattle.sqlite_tied.proofs.RuleLemmas.{and_true}
use Rattle.sqlite_value.specs.declared.value.Value.TheVariants.{Text}
use Rattle.sqlite_value.specs.declared.keys.Collation.TheVariants.{Binary}
use Rattle.sqlite_value.specs.Order.{Row, column}
use Rattle.sqlite_sql.specs.declared.ops.BinaryOp.TheVariants.{Compare}
use Rattle.sqlite_sql.specs.declared.ops.CompareOp.TheVariants.{Eq}
use Rattle.sqlite_sql.specs.Ops.{binary, is_true}
use Rattle.vault_base.specs.declared.content.Content.{Content}
use Rattle.vault_base.specs.declared.content.Content.TheVariants.{Inside, External}
use Rattle.vault_core_model.specs.declared.records.Entry.{Entry}
use Rattle.vault_core_model.specs.declared.records.History.{History}
use Rattle.vault_core_model.specs.declared.records.Note.{Note}
use Rattle.vault_core_model.specs.declared.records.Removal.{Removal}
use Rattle.vault_core_model.specs.Order.{IsAscending, note_cmp}
use Rattle.vault_core_model.specs.Reads.{content_of, entry_of}
use Rattle.vault_core_model.specs.Sound.{AreIdsFrom, HasItsContent, IsWhole, IsWholeAs, Sound}
use Rattle.vault_core_model.specs.Vault.{Vault, history_of, note_of}
use Rattle.vault_audit_model.specs.declared.rows.ContentRow.{ContentRow}
use Rattle.vault_audit_model.specs.Limits.{IsContentRow, IsEntry, IsHistory, IsNote}
use Rattle.vault_audit_model.specs.Rows.{entry_row, entry_columns, content_row, content_columns, note_row, note_columns}
use Rattle.vault_audit_model.specs.Spells.{content_if_given, contents_in}
use Rattle.vault_audit_model.specs.Tables.{entries_tree, contents_tree, intake_tree}
use Rattle.vault_audit_model.specs.Values.{number}
use Rattle.vault_audit_model.proofs.SameRows.{same_entry, same_content, same_note}
use Rattle.vault_audit_laws.proofs.Members.{ascending_numbered}
use Rattle.vault_audit_laws.proofs.Uniqueness.{ids_numbered}
use Rattle.vault_audit_rows.specs.Records.{ReportsOne}
use Rattle.vault_store_reads.specs.Queries.{FindsRows}
use Rattle.vault_store_reads.specs.Shown.{bytes_inside, external_as, external_of}
use Rattle.vault_store_reads.proofs.FindLemmas.{records_found, at_most_one, first_found, none_found, read_found}
use Rattle.vault_store_reads.proofs.LimitLemmas.{all_found, first_limited}
use Rattle.vault_store_reads.proofs.ListLemmas.{filter_parts}
use Rattle.vault_store_reads.proofs.TextLemmas.{where_is, entry_text, entry_shown, entry_selects, content_text, content_shown, content_selects, note_text, note_shown, note_selects}
use Rattle.vault_store_reads.proofs.WiderLemmas.{wider_entry, wider_note}
use Rattle.vault_audit_model.proofs.ValueLemmas.{same_text, same_number}
use Rattle.vault_audit_rows.proofs.LimitLemmas.{all_filtered, contents_limited}

abbrev pub id_of : History → ℕ
id_of h = h.entry.id

pub ascending_ids : (hs : List History) → AreIdsFrom 1 hs → IsAscending (on id_of nat_cmp) hs
ascending_ids hs ids = ascending_numbered id_of 1 hs (ids_numbered 1 hs ids)

pub same_if : (a b : ℕ) → (a == b) ≡ true → a ≡ b
same_if a b e = grind (arith, e)

tied_ids : (a b id : ℕ) → (a == id) ≡ true → (b == id) ≡ true → nat_cmp a b ≡ Equal
tied_ids a b id p q = rw (same_if a id p, same_if b id q) (tied_itself nat_cmp_total id)

-- a row whose first column is the id
abbrev has_id : ℕ → Row → Bool
has_id id r = is_true (binary (Compare Eq Binary) (column r 0) (number id))

one_history : (hs : List History) (id : ℕ) → AreIdsFrom 1 hs → filter (λ h. h.entry.id == id) hs ≡ option_to_list (find (λ h. h.entry.id == id) hs)
one_history hs id ids = at_most_one (on id_of nat_cmp) (λ (h : History). h.entry.id == id) (λ g h. tied_ids g.entry.id h.entry.id id) hs (ascending_ids hs ids)

-- ---- entries

module _ (v : Vault) (id : ℕ) (rows : List Row) (finds : FindsRows v entry_text (number id ∷ []) rows) where
  abbrev row_of : History → Row
  row_of h = entry_row h.entry

  history_found : IsPermutation (map row_of (option_to_list (history_of v id))) rows
  history_found =
      subst (λ hs. IsPermutation (map row_of hs) rows) (one_history v.histories id finds.1.spells.kept.sound.ids)
      (records_found row_of entry_columns entries_tree (where_is 0 0 ∷ []) entry_shown (number id ∷ []) (has_id id) (λ (h : History). h.entry.id == id) (λ r. refl) (λ r. and_true _) (λ h. same_number h.entry.id id)
      finds.0 v.histories rows finds.1.spells.entries (finds.2 _ (entry_selects v.external)))

  pub entry_read : (row : Row) (e : Entry) → slice_get rows 0 ≡ Some row → row ≡ entry_row e → Some e ≡ entry_of v id
  entry_read row e first reads =
      let it = first_found row_of (history_of v id) rows row history_found first in
      let same : e ≡ it.0.entry = same_entry e it.0.entry (sym reads ∙ it.2) in
      ap Some same ∙ sym (ap (option_map (λ (h : History). h.entry)) it.1)

  pub entry_limited : (row : Row) → slice_get rows 0 ≡ Some row → ReportsOne entry_row (IsEntry true) row
  entry_limited row first =
      let it = first_limited row_of (IsHistory v.external) (option_to_list (history_of v id)) rows row (all_found (IsHistory v.external) (λ (h : History). h.entry.id == id) v.histories finds.1.spells.kept.limits.histories) history_found first in
      (it.0.entry, it.1, wider_entry v.external it.0.entry it.2.entry)

  pub no_entry : ◌≡◌ {A = Option Row} None (slice_get rows 0) → None ≡ entry_of v id
  no_entry none = sym (ap (option_map (λ (h : History). h.entry)) (none_found row_of (history_of v id) rows history_found none))

-- ---- contents

content_if : (b : Bool) (own id : ℕ) (content : Option Content) → (own == id) ≡ b → filter (λ (c : ContentRow). c.id == id) (content_if_given own content) ≡ cond b (content_if_given own content) []
content_if true own id None e = refl
content_if false own id None e = refl
content_if true own id (Some (Inside bytes)) e = rw e refl
content_if false own id (Some (Inside bytes)) e = rw e refl
content_if true own id (Some (External r)) e = refl
content_if false own id (Some (External r)) e = refl

-- the row of a content, where it is in the tables
abbrev row_if_inside : ℕ → Option Content → Option ContentRow
row_if_inside own None = None
row_if_inside own (Some (Inside bytes)) = Some (record { id = own; content = bytes })
row_if_inside own (Some (External r)) = None

content_found : (o : Option History) → flat_map contents_in (option_to_list o) ≡ option_to_list (option_and_then (λ h. row_if_inside h.entry.id h.content) o)
content_found None = refl
content_found (Some h) = given h.entry.id h.content
  where
    given : (own : ℕ) (content : Option Content) → content_if_given own content ++ [] ≡ option_to_list (row_if_inside own content)
    given own None = refl
    given own (Some (Inside bytes)) = refl
    given own (Some (External r)) = refl

row_bytes : (own : ℕ) (content : Option Content) → option_map (λ (c : ContentRow). c.content) (row_if_inside own content) ≡ bytes_inside content
row_bytes own None = refl
row_bytes own (Some (Inside bytes)) = refl
row_bytes own (Some (External r)) = refl

module _ (v : Vault) (id : ℕ) (rows : List Row) (finds : FindsRows v content_text (number id ∷ []) rows) where
  abbrev stored : Option History → Option ContentRow
  stored o = option_and_then (λ h. row_if_inside h.entry.id h.content) o

  bytes_of : (o : Option History) → option_map (λ (c : ContentRow). c.content) (stored o) ≡ bytes_inside (option_and_then (λ (h : History). h.content) o)
  bytes_of None = refl
  bytes_of (Some h) = row_bytes h.entry.id h.content

  contents_left : filter (λ (c : ContentRow). c.id == id) (flat_map contents_in v.histories) ≡ option_to_list (stored (history_of v id))
  contents_left =
      filter_parts contents_in (λ (c : ContentRow). c.id == id) (λ (h : History). h.entry.id == id) (λ h. content_if (h.entry.id == id) h.entry.id id h.content refl) v.histories
      ∙ ap (flat_map contents_in) (one_history v.histories id finds.1.spells.kept.sound.ids) ∙ content_found (history_of v id)

  content_stored : IsPermutation (map content_row (option_to_list (stored (history_of v id)))) rows
  content_stored =
      subst (λ cs. IsPermutation (map content_row cs) rows) contents_left
      (records_found content_row content_columns contents_tree (where_is 0 0 ∷ []) content_shown (number id ∷ []) (has_id id) (λ (c : ContentRow). c.id == id) (λ r. refl) (λ r. and_true _) (λ c. same_number c.id id)
      finds.0 (flat_map contents_in v.histories) rows finds.1.spells.contents (finds.2 _ (content_selects v.external)))

  pub bytes_read : (row : Row) (c : ContentRow) → slice_get rows 0 ≡ Some row → row ≡ content_row c → Some c.content ≡ bytes_inside (content_of v id)
  bytes_read row c first reads =
      let same : Some c ≡ stored (history_of v id) = read_found content_row same_content (stored (history_of v id)) rows row c content_stored first reads in
      ap (option_map (λ (x : ContentRow). x.content)) same ∙ bytes_of (history_of v id)

  pub content_limited : (row : Row) → slice_get rows 0 ≡ Some row → ReportsOne content_row IsContentRow row
  content_limited row first =
      let all = all_filtered IsContentRow (λ (c : ContentRow). c.id == id) (flat_map contents_in v.histories) (contents_limited v finds.1.spells.kept) in
      first_limited content_row IsContentRow (option_to_list (stored (history_of v id))) rows row (subst (AllByRecursion IsContentRow) contents_left all) content_stored first

  pub no_bytes : ◌≡◌ {A = Option Row} None (slice_get rows 0) → None ≡ bytes_inside (content_of v id)
  no_bytes none =
      sym (sym (bytes_of (history_of v id)) ∙ ap (option_map (λ (x : ContentRow). x.content)) (none_found content_row (stored (history_of v id)) rows content_stored none))

-- a content of which the tables have no bytes is outside, where there is one
outside : (e : Entry) (removal : Option Removal) (content : Option Content) → HasItsContent removal content e → None ≡ bytes_inside content → external_as false removal e.size e.digest ≡ content
outside e None None has none = absurd has
outside e None (Some (Inside bytes)) has none = absurd (cc none)
outside e None (Some (External r)) has none =
    ap (option_map (λ d. External (record { size = e.size; digest = d }))) has.1 ∙ ap (λ n. Some (External (record { size = n; digest = r.digest }))) (sym has.0)
outside e (Some r) None has none = refl
outside e (Some r) (Some content) has none = absurd has

outside_as : (marker external : Bool) (h : History) → IsWholeAs marker external h.entry h.content h.settings → None ≡ bytes_inside h.content → external_as marker h.entry.removal h.entry.size h.entry.digest ≡ h.content
outside_as true external h whole none = sym whole.2
outside_as false external h whole none = outside h.entry h.entry.removal h.content whole.1 none

pub without_bytes : (v : Vault) (id : ℕ) → Sound v → None ≡ bytes_inside (content_of v id) → option_and_then external_of (entry_of v id) ≡ content_of v id
without_bytes v id sound = by_history (history_of v id) (all_found (IsWhole v.external) (λ (h : History). h.entry.id == id) v.histories sound.whole)
  where
    by_history : (o : Option History) → AllByRecursion (IsWhole v.external) (option_to_list o) → None ≡ bytes_inside (option_and_then (λ (h : History). h.content) o)
        → option_and_then external_of (option_map (λ (h : History). h.entry) o) ≡ option_and_then (λ (h : History). h.content) o
    by_history None whole none = refl
    by_history (Some h) whole none = outside_as h.entry.marker v.external h whole.0 none

-- ---- intake

module _ (v : Vault) (bucket batch : List ℕ) (line : ℕ) (rows : List Row) (finds : FindsRows v note_text (Text bucket ∷ Text batch ∷ number line ∷ []) rows) where
  abbrev is_note : Note → Bool
  is_note n = bytes_eq n.bucket bucket && (bytes_eq n.batch batch && n.line == line)

  abbrev is_note_row : Row → Bool
  is_note_row r =
      is_true (binary (Compare Eq Binary) (column r 0) (Text bucket))
      && (is_true (binary (Compare Eq Binary) (column r 1) (Text batch)) && is_true (binary (Compare Eq Binary) (column r 2) (number line)))

  tied_notes : (m n : Note) → is_note m ≡ true → is_note n ≡ true → note_cmp m n ≡ Equal
  tied_notes m n p q =
      let p1 = and_parts (bytes_eq m.bucket bucket) (bytes_eq m.batch batch && m.line == line) p in
      let p2 = and_parts (bytes_eq m.batch batch) (m.line == line) p1.1 in
      let q1 = and_parts (bytes_eq n.bucket bucket) (bytes_eq n.batch batch && n.line == line) q in
      let q2 = and_parts (bytes_eq n.batch batch) (n.line == line) q1.1 in
      rw ((bytes_eq-Decides m.bucket bucket).0 p1.0, (bytes_eq-Decides n.bucket bucket).0 q1.0, (bytes_eq-Decides m.batch batch).0 p2.0, (bytes_eq-Decides n.batch batch).0 q2.0, same_if m.line line p2.1, same_if n.line line q2.1, tied_itself nat_list_cmp_total bucket, tied_itself nat_list_cmp_total batch) (tied_itself nat_cmp_total line)

  picked : (n : Note) → is_note_row (note_row n) ≡ is_note n
  picked n = rw (same_text n.bucket bucket, same_text n.batch batch, same_number n.line line) refl

  note_found : IsPermutation (map note_row (option_to_list (note_of v bucket batch line))) rows
  note_found =
      subst (λ ns. IsPermutation (map note_row ns) rows) (at_most_one note_cmp is_note tied_notes v.notes finds.1.spells.kept.sound.ordered.notes)
      (records_found note_row note_columns intake_tree (where_is 1 0 ∷ where_is 2 1 ∷ where_is 3 2 ∷ []) note_shown (Text bucket ∷ Text batch ∷ number line ∷ []) is_note_row is_note (λ r. refl) (λ r. rw (and_true (is_true (binary (Compare Eq Binary) (column r 3) (number line)))) refl) picked
      finds.0 v.notes rows finds.1.spells.intake (finds.2 _ (note_selects v.external)))

  pub note_read : (row : Row) (n : Note) → slice_get rows 0 ≡ Some row → row ≡ note_row n → Some n ≡ note_of v bucket batch line
  note_read row n first reads = read_found note_row same_note (note_of v bucket batch line) rows row n note_found first reads

  pub note_limited : (row : Row) → slice_get rows 0 ≡ Some row → ReportsOne note_row (IsNote true) row
  note_limited row first =
      let it = first_limited note_row (IsNote v.external) (option_to_list (note_of v bucket batch line)) rows row (all_found (IsNote v.external) is_note v.notes finds.1.spells.kept.limits.notes) note_found first in
      (it.0, it.1, wider_note v.external it.0 it.2)

  pub no_note : ◌≡◌ {A = Option Row} None (slice_get rows 0) → None ≡ note_of v bucket batch line
  no_note none = sym (none_found note_row (note_of v bucket batch line) rows note_found none)

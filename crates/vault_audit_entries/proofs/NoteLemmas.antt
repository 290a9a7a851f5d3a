-- The walk over intake beside the entries.
use Rattle.std.specs.Ordering.{nat_cmp, ordering_then}
use Rattle.std.proofs.Common.{◌≡◌, pos, List, [], ◌∷◌, ◌==◌, map, filter, find, Bool, true, false, Some, None, Option, Ordering, Less, Equal, IsPermutation, IsSorted, refl, sym, ap, subst, ◌∙◌}
use Rattle.std.specs.List.{AllByRecursion}
use Rattle.std.specs.Cmp.{IsTotalOrder}
use Rattle.std.proofs.lemmas.List.Elements.{All-from_recursion, recursion_from_All}
use Rattle.std.proofs.lemmas.List.Sorted.{IsPermutation-map, IsPermutation-sym, All-permutation}
use Rattle.sqlite_trees.specs.Tree.{IsAscending as Rises}
use Rattle.sqlite_keyed.proofs.ListLemmas.{map-map}
use Rattle.sqlite_value.specs.declared.value.Value.{Value}
use Rattle.sqlite_value.specs.declared.value.Value.TheVariants.{Text, Blob}
use Rattle.sqlite_value.specs.declared.keys.Collation.TheVariants.{Binary}
use Rattle.sqlite_value.specs.Keys.{ascending}
use Rattle.sqlite_value.specs.Order.{Row, column, value_cmp}
use Rattle.sqlite_value.proofs.OrderLemmas.{value_cmp-Int, value_cmp-Text, then-Equal}
use Rattle.sqlite_sql.specs.Query.{or_nulls, key_cmp}
use Rattle.sqlite_sql.proofs.QueryLemmas.{key_cmp_total}
use Rattle.sqlite.specs.Effect.{Database}
use Rattle.sqlite.specs.State.{State, Shown, IsUnchanged}
use Rattle.vault_core_model.specs.declared.records.Entry.{Entry}
use Rattle.vault_core_model.specs.declared.records.Note.{Note}
use Rattle.vault_core_model.specs.Reads.{entry_of}
use Rattle.vault_core_model.specs.Order.{IsAscending, name_cmp, note_cmp}
use Rattle.vault_core_model.specs.Sound.{IsNoted}
use Rattle.vault_core_model.specs.Vault.{Vault}
use Rattle.vault_core_laws.proofs.NameOrder.{notes_total}
use Rattle.vault_audit_model.specs.Limits.{IsNote}
use Rattle.vault_audit_model.specs.Relations.{AreEntries, AreNotes, DecidesNotes, NamesOneOf}
use Rattle.vault_audit_model.specs.Rows.{note_row, note_columns, entry_columns}
use Rattle.vault_audit_model.specs.Spells.{AreSoundAs, entries_in}
use Rattle.vault_audit_model.specs.Tables.{schema_of, intake_tree, entries_tree}
use Rattle.vault_audit_model.specs.Values.{number, bytes_or_null}
use Rattle.vault_audit_model.proofs.SameRows.{number_same, text_same, cell}
use Rattle.vault_audit_laws.proofs.JoinLemmas.{entry_found}
use Rattle.vault_audit_rows.specs.Pass.{Takes, Refuses, AllFit}
use Rattle.vault_audit_rows.specs.Walk.{Walked}
use Rattle.vault_audit_rows.proofs.PassLemmas.{pass_yes, pass_no}
use Rattle.vault_audit_entries.proofs.BesideLemmas.{is_of, row_beside, beside, beside_is, beside_number}
use Rattle.vault_audit_entries.proofs.ContentLemmas.{one_each, digest_same, no_number}
use Rattle.vault_audit_rows.proofs.JoinLemmas.{IsOrderOf}
use Rattle.vault_audit_entries.proofs.JoinLemmas.{beside_of, shown_beside, join_rows, joined}
use Rattle.vault_audit_entries.proofs.ContentSoundLemmas.{sound_entries}
use Rattle.vault_audit_entries.specs.declared.intake.NotePass.{NotePass}
use Rattle.vault_audit_entries.specs.Notes.{noted_row, IsAfter}
use Rattle.vault_audit_entries.specs.NotePasses.{ComesAfter, with_note}
use Rattle.vault_audit_entries.proofs.NoteRowLemmas.{first_ten, same_row}
use Rattle.vault_audit_entries.proofs.NoteTextLemmas.{notes_walk, notes_shown, notes_order, notes_walk_is, notes_walk_plain}
use Rattle.vault_audit_entries.proofs.HeadCountLemmas.{ints}
use Rattle.vault_audit_model.specs.declared.schema.SchemaVersion.{SchemaVersion}
use Rattle.vault_audit_model.specs.SchemaVersions.{is_external}

abbrev Fit : NotePass → List Note → Type 0
Fit = AllFit noted_row ComesAfter with_note

-- ---- the order of notes

abbrev row_order : Row → Row → Ordering
row_order = key_cmp 0 (ascending Binary ∷ ascending Binary ∷ ascending Binary ∷ [])

row_order_total : IsTotalOrder row_order
row_order_total = key_cmp_total (ascending Binary ∷ ascending Binary ∷ ascending Binary ∷ []) 0

thens : (a b c d e f : Ordering) → a ≡ d → b ≡ e → c ≡ f → ordering_then a (ordering_then b c) ≡ ordering_then d (ordering_then e f)
thens a b c d e f p q r = rw (p, q, r) refl

same_order : (m n : Note) → row_order (noted_row m) (noted_row n) ≡ note_cmp m n
same_order m n =
    thens (value_cmp (Text m.bucket) (Text n.bucket)) (value_cmp (Text m.batch) (Text n.batch)) (ordering_then (value_cmp (number m.line) (number n.line)) Equal) (name_cmp m.bucket n.bucket) (name_cmp m.batch n.batch) (nat_cmp m.line n.line)
    (value_cmp-Text m.bucket n.bucket) (value_cmp-Text m.batch n.batch) (then-Equal (value_cmp (number m.line) (number n.line)) ∙ value_cmp-Int (pos m.line) (pos n.line) ∙ ints m.line n.line)

all_above : (m n : Note) (ns : List Note) → note_cmp m n ≡ Less → AllByRecursion (λ x. note_cmp n x ≡ Less) ns → AllByRecursion (λ x. note_cmp m x ≡ Less) ns
all_above m n [] less all = tt
all_above m n (x ∷ ns) less all = (notes_total.trans m n x less all.0, all_above m n ns less all.1)

after : (p : NotePass) (m : Note) (ns : List Note) → p.last ≡ Some m → Fit p ns → AllByRecursion (λ x. note_cmp m x ≡ Less) ns
after p m [] is fit = tt
after p m (n ∷ ns) is fit =
    let less : note_cmp m n ≡ Less = subst (λ o. IsAfter o n) is fit.0.1 in
    (less, all_above m n ns less (after (with_note p n) n ns refl fit.1))

ascending_notes : (p : NotePass) (ns : List Note) → Fit p ns → IsAscending note_cmp ns
ascending_notes p [] fit = tt
ascending_notes p (n ∷ ns) fit = (after (with_note p n) n ns refl fit.1, ascending_notes (with_note p n) ns fit.1)

limits : (p : NotePass) (ns : List Note) → Fit p ns → AllByRecursion (IsNote p.external) ns
limits p [] fit = tt
limits p (n ∷ ns) fit = (fit.0.0, limits (with_note p n) ns fit.1)

fitting : (p : NotePass) (ns : List Note) → AllByRecursion (IsAfter p.last) ns → IsAscending note_cmp ns → AllByRecursion (IsNote p.external) ns → Fit p ns
fitting p [] first up are = tt
fitting p (n ∷ ns) first up are = ((are.0, first.0), fitting (with_note p n) ns up.0 up.1 are.1)

no_last : (ns : List Note) → AllByRecursion (IsAfter None) ns
no_last [] = tt
no_last (n ∷ ns) = (tt, no_last ns)

all_rise : (m : Note) (ns : List Note) → AllByRecursion (λ x. note_cmp m x ≡ Less) ns → AllByRecursion (λ row. row_order (noted_row m) row ≡ Less) (map noted_row ns)
all_rise m [] all = tt
all_rise m (n ∷ ns) all = (same_order m n ∙ all.0, all_rise m ns all.1)

rows_rise : (ns : List Note) → IsAscending note_cmp ns → Rises (λ a b. row_order a b ≡ Less) (map noted_row ns)
rows_rise [] up = tt
rows_rise (n ∷ ns) up = (all_rise n ns up.0, rows_rise ns up.1)

-- ---- what the query shows

by_line : IsOrderOf (beside_of intake_tree 10 notes_shown notes_order) row_order
by_line a b = refl

abbrev source : Database → List Row
source db = join_rows intake_tree 10 notes_shown db.trees

answers : (n : SchemaVersion) → (a b : State) → a.now.schema ≡ schema_of n → (rows : List Row) → Shown notes_walk [] a b rows → IsPermutation (source a.now) rows × IsSorted row_order rows
answers n a b schema rows shown = joined notes_walk a b (schema_of n) schema (notes_walk_plain n) (notes_walk_is n).1 intake_tree 10 notes_shown notes_order row_order _ (notes_walk_is n).0 by_line refl rows shown

-- a row of intake, with the bucket, the key, the size and the digest of the entry of its id
abbrev extended : List Entry → Row → Row
extended es row =
    column row 0 ∷ column row 1 ∷ column row 2 ∷ column row 3 ∷ column row 4 ∷ column row 5 ∷ column row 6 ∷ column row 7 ∷ column row 8 ∷ column row 9 ∷ column (beside es (column row 9)) 1 ∷ column (beside es (column row 9)) 2
    ∷ column (beside es (column row 9)) 4 ∷ column (beside es (column row 9)) 5 ∷ []

abbrev with_beside : Row → Row → Row
with_beside r x = column r 1 ∷ column r 2 ∷ column r 3 ∷ column r 4 ∷ column r 5 ∷ column r 6 ∷ column r 7 ∷ column r 8 ∷ column r 9 ∷ column r 10 ∷ column x 1 ∷ column x 2 ∷ column x 4 ∷ column x 5 ∷ []

source_is : (external : Bool) (db : Database) (es : List Entry) → AreEntries external db es → source db ≡ map (extended es) (map note_columns (db.trees intake_tree))
source_is external db es are =
    one_each (shown_beside 10 notes_shown db.trees) (λ r. extended es (note_columns r)) (λ r.
    let rows = or_nulls (filter (is_of (column r 10)) (db.trees entries_tree)) in
    let shown : shown_beside 10 notes_shown db.trees r ≡ map (with_beside r) (map entry_columns rows) = sym (map-map (with_beside r) entry_columns rows) in
    shown ∙ ap (map (with_beside r)) (beside_is external (db.trees entries_tree) es are.0 are.1 (column r 10))) (db.trees intake_tree)
    ∙ sym (map-map (extended es) note_columns (db.trees intake_tree))

-- ---- notes that passed

stated_by : (o : Option Entry) (n : Note) → ◌≡◌ {A = Value} (Text n.bucket) (column (row_beside o) 1) → ◌≡◌ {A = Value} (Text n.key) (column (row_beside o) 2) → number n.size ≡ column (row_beside o) 4 → ◌≡◌ {A = Value} (Blob n.digest) (column (row_beside o) 5) → IsNoted n o
stated_by None n bucket key size digest = no_number n.size size
stated_by (Some e) n bucket key size digest = (sym (text_same n.bucket e.bucket bucket), sym (text_same n.key e.key key), sym (number_same n.size e.size size), digest_same n.digest e.digest digest)

is_extended : (es : List Entry) (n : Note) → noted_row n ≡ extended es (note_row n) → NamesOneOf es n
is_extended es n e =
    let o = find (λ x. x.id == n.id) es in
    let found = beside_number es n.id in
    let one = cell (noted_row n) (extended es (note_row n)) in
    stated_by o n (one 10 e ∙ ap (λ x. column x 1) found) (one 11 e ∙ ap (λ x. column x 2) found) (one 12 e ∙ ap (λ x. column x 4) found) (one 13 e ∙ ap (λ x. column x 5) found)

abbrev IsExtended : List Entry → Row → Type 0
IsExtended es row = row ≡ extended es (first_ten row)

all_extended : (es : List Entry) (rows : List Row) → AllByRecursion (IsExtended es) (map (extended es) (map note_columns rows))
all_extended es [] = tt
all_extended es (r ∷ rows) = (refl, all_extended es rows)

each_extended : (es : List Entry) (ns : List Note) → AllByRecursion (IsExtended es) (map noted_row ns) → AllByRecursion (NamesOneOf es) ns
each_extended es [] all = tt
each_extended es (n ∷ ns) all = (is_extended es n all.0, each_extended es ns all.1)

firsts : (es : List Entry) (rows : List Row) → map first_ten (map (extended es) (map note_columns rows)) ≡ map note_columns rows
firsts es [] = refl
firsts es (r ∷ rows) = ap (λ xs. note_columns r ∷ xs) (firsts es rows)

firsts_noted : (ns : List Note) → map first_ten (map noted_row ns) ≡ map note_row ns
firsts_noted [] = refl
firsts_noted (n ∷ ns) = ap (λ xs. note_row n ∷ xs) (firsts_noted ns)

are_notes : (external : Bool) (db : Database) (es : List Entry) (ns : List Note) → AreEntries external db es → IsPermutation (map noted_row ns) (source db) → IsAscending note_cmp ns → AllByRecursion (IsNote external) ns → AreNotes external db es ns
are_notes external db es ns are same up limited =
    let rows = db.trees intake_tree in
    let whole : IsPermutation (map noted_row ns) (map (extended es) (map note_columns rows)) = subst (IsPermutation (map noted_row ns)) (source_is external db es are) same in
    let ten = IsPermutation-map first_ten _ _ whole in
    let all = recursion_from_All (IsExtended es) _ (All-permutation (IsExtended es) _ _ (IsPermutation-sym _ _ whole) (All-from_recursion (IsExtended es) _ (all_extended es rows))) in
    (subst (λ xs. IsPermutation xs (map note_columns rows)) (firsts_noted ns) (subst (IsPermutation (map first_ten (map noted_row ns))) (firsts es rows) ten), up, limited, each_extended es ns all)

-- ---- notes as they are to be pass

extends_to : (o : Option Entry) (n : Note) → IsNoted n o → (column (row_beside o) 1 ≡ Text n.bucket) × (column (row_beside o) 2 ≡ Text n.key) × (column (row_beside o) 4 ≡ number n.size) × (column (row_beside o) 5 ≡ Blob n.digest)
extends_to None n its = absurd its
extends_to (Some e) n its = (ap (λ t. Text t) its.0, ap (λ t. Text t) its.1, ap number its.2, ap bytes_or_null its.3)

ends : (a b c d e f g h : Value) → a ≡ e → b ≡ f → c ≡ g → d ≡ h → ◌≡◌ {A = Row} (a ∷ b ∷ c ∷ d ∷ []) (e ∷ f ∷ g ∷ h ∷ [])
ends a b c d e f g h p q r s = rw (p, q, r, s) refl

extends : (es : List Entry) (n : Note) → NamesOneOf es n → extended es (note_row n) ≡ noted_row n
extends es n its =
    let o = find (λ x. x.id == n.id) es in
    let found = beside_number es n.id in
    let it = extends_to o n its in
    let tail = ends _ _ _ _ _ _ _ _ (ap (λ x. column x 1) found ∙ it.0) (ap (λ x. column x 2) found ∙ it.1) (ap (λ x. column x 4) found ∙ it.2) (ap (λ x. column x 5) found ∙ it.3) in
    ap (λ xs. column (note_row n) 0 ∷ column (note_row n) 1 ∷ column (note_row n) 2 ∷ column (note_row n) 3 ∷ column (note_row n) 4 ∷ column (note_row n) 5 ∷ column (note_row n) 6 ∷ column (note_row n) 7 ∷ column (note_row n) 8 ∷ column (note_row n) 9 ∷ xs) tail

all_extend : (es : List Entry) (ns : List Note) → AllByRecursion (NamesOneOf es) ns → map (extended es) (map note_row ns) ≡ map noted_row ns
all_extend es [] all = refl
all_extend es (n ∷ ns) all = ap (λ x. x ∷ map (extended es) (map note_row ns)) (extends es n all.0) ∙ ap (λ xs. noted_row n ∷ xs) (all_extend es ns all.1)

shown_noted : (external : Bool) (db : Database) (es : List Entry) (ns : List Note) → AreEntries external db es → IsPermutation (map note_row ns) (map note_columns (db.trees intake_tree)) → AllByRecursion (NamesOneOf es) ns → IsPermutation (map noted_row ns) (source db)
shown_noted external db es ns are same all =
    subst (IsPermutation (map noted_row ns)) (sym (source_is external db es are)) (subst (λ xs. IsPermutation xs (map (extended es) (map note_columns (db.trees intake_tree)))) (all_extend es ns all) (IsPermutation-map (extended es) _ _ same))

abbrev pub start : Bool → NotePass
start external = record { external = external; last = None }

module _ (n : SchemaVersion) (old new : State) (has : old.now.schema ≡ schema_of n) (same : IsUnchanged old new) (external : Bool) (r : NotePass) (es : List Entry) (are : AreEntries external new.now es) where
  notes_yes : Walked (Takes noted_row ComesAfter with_note) (Refuses noted_row ComesAfter with_note) notes_walk old new (start external) r true → DecidesNotes external new.now es true
  notes_yes h =
      let it = pass_yes noted_row ComesAfter with_note same_row row_order row_order_total (schema_of n) notes_walk _ _ (notes_walk_is n).0 source (answers n) old new has same (start external) r h in
      (it.0, are_notes external new.now es it.0 are it.1 (ascending_notes (start external) it.0 it.2) (limits (start external) it.0 it.2))

  notes_no : Walked (Takes noted_row ComesAfter with_note) (Refuses noted_row ComesAfter with_note) notes_walk old new (start external) r false → DecidesNotes external new.now es false
  notes_no h ns it =
      let fit = fitting (start external) ns (no_last ns) it.1 it.2 in
      pass_no noted_row ComesAfter with_note same_row row_order row_order_total (schema_of n) notes_walk _ _ (notes_walk_is n).0 source (answers n) old new has same (start external) r (λ xs fits. rows_rise xs (ascending_notes (start external) xs fits)) h ns (shown_noted external new.now es ns are it.0 it.3) fit

  pub notes_stated : (found : Bool) → Walked (Takes noted_row ComesAfter with_note) (Refuses noted_row ComesAfter with_note) notes_walk old new (start external) r found → DecidesNotes external new.now es found
  notes_stated true = notes_yes
  notes_stated false = notes_no

-- ---- a sound vault

named : (v : Vault) (ns : List Note) → AllByRecursion (λ n. IsNoted n (entry_of v n.id)) ns → AllByRecursion (NamesOneOf (entries_in v.histories)) ns
named v [] all = tt
named v (n ∷ ns) all = (subst (IsNoted n) (entry_found n.id v.histories) all.0, named v ns all.1)

sound_notes : (n : SchemaVersion) → (db : Database) (v : Vault) → AreSoundAs n db v → AreNotes (is_external n) db (entries_in v.histories) v.notes
sound_notes n db v it =
    let kept = it.spells.kept in
    (it.spells.intake, kept.sound.ordered.notes, subst (λ external. AllByRecursion (IsNote external) v.notes) kept.external kept.limits.notes, named v v.notes kept.sound.notes)

pub unsound : (n : SchemaVersion) → (db : Database) → ((es : List Entry) → AreEntries (is_external n) db es → DecidesNotes (is_external n) db es false) → (v : Vault) → ¬ AreSoundAs n db v
unsound n db stated v it = stated (entries_in v.histories) (sound_entries n db v it) v.notes ((sound_notes n) db v it)

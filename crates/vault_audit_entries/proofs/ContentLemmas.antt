-- The walk over contents beside the entries.
use Rattle.std.specs.Ordering.{is_lt}
use Rattle.std.proofs.Common.{◌≡◌, ℕ, ◌+◌, ◌<◌, pos, List, [], ◌∷◌, ◌==◌, length, map, filter, flat_map, find, true, false, Some, None, Option, Less, IsPermutation, IsSorted, refl, sym, ap, subst, ◌∙◌, arith, add-zero, Bool}
use Rattle.std.specs.List.{AllByRecursion}
use Rattle.std.proofs.lemmas.List.Elements.{All-from_recursion, recursion_from_All}
use Rattle.std.proofs.lemmas.List.Sorted.{IsPermutation-map, IsPermutation-sym, All-permutation}
use Rattle.sha2.specs.Sha256.{sha256}
use Rattle.sqlite_trees.specs.Tree.{IsAscending}
use Rattle.sqlite_keyed.proofs.ListLemmas.{map-map}
use Rattle.sqlite_value.specs.declared.value.Value.{Value}
use Rattle.sqlite_value.specs.declared.value.Value.TheVariants.{Null, Blob}
use Rattle.sqlite_value.specs.declared.keys.Collation.TheVariants.{Binary}
use Rattle.sqlite_value.specs.Keys.{ascending}
use Rattle.sqlite_value.specs.Order.{Row, column, value_cmp}
use Rattle.sqlite_value.proofs.OrderLemmas.{value_cmp-Int, then-Equal}
use Rattle.sqlite_sql.specs.Term.{eval, col}
use Rattle.sqlite_sql.specs.Query.{or_nulls}
use Rattle.sqlite.specs.Effect.{Database}
use Rattle.sqlite.specs.State.{State, Shown, IsUnchanged}
use Rattle.vault_core_model.specs.declared.records.Entry.{Entry}
use Rattle.vault_core_model.specs.declared.records.History.{History}
use Rattle.vault_core_model.specs.declared.records.Removal.{Removal}
use Rattle.vault_audit_model.specs.declared.rows.ContentRow.{ContentRow}
use Rattle.vault_audit_model.specs.Limits.{IsContentRow}
use Rattle.vault_audit_model.specs.Relations.{AreEntries, AreNumbered, AreContents}
use Rattle.vault_audit_model.specs.Rows.{content_row, content_columns, entry_columns, removal_at}
use Rattle.vault_audit_model.specs.Spells.{contents_in, external_in}
use Rattle.vault_audit_model.specs.Tables.{schema_of, contents_tree, entries_tree}
use Rattle.vault_audit_model.specs.Values.{number, bytes_or_null}
use Rattle.vault_audit_model.proofs.ValueLemmas.{int_less}
use Rattle.vault_audit_model.proofs.SameRows.{cell, number_same}
use Rattle.vault_audit_rows.specs.Pass.{Takes, Refuses, AllFit, after}
use Rattle.vault_audit_rows.specs.Walk.{Walked}
use Rattle.vault_audit_rows.proofs.ScanLemmas.{first_cmp}
use Rattle.vault_audit_rows.proofs.PassLemmas.{walk_yes, walk_no}
use Rattle.vault_audit_entries.specs.declared.contents.beside.ContentPass.{ContentPass}
use Rattle.vault_audit_entries.specs.Contents.{IsContentOf, IsContentIn, AreRisingFrom, AreOfHeld, DecidesHeld, held_row}
use Rattle.vault_audit_entries.specs.ContentPasses.{ComesLater, with_content}
use Rattle.vault_audit_entries.proofs.BesideLemmas.{is_of, row_beside, beside, beside_is, beside_number}
use Rattle.vault_audit_rows.proofs.JoinLemmas.{IsOrderOf}
use Rattle.vault_audit_entries.proofs.JoinLemmas.{beside_of, shown_beside, join_rows, joined}
use Rattle.vault_audit_entries.proofs.ContentMergeLemmas.{AreTaken, taken}
use Rattle.vault_audit_entries.proofs.ContentRowLemmas.{same_row}
use Rattle.vault_audit_entries.proofs.ContentTextLemmas.{contents_walk, contents_shown, contents_walk_is, contents_walk_plain}
use Rattle.vault_audit_model.specs.declared.schema.SchemaVersion.{SchemaVersion}
use Rattle.vault_audit_model.specs.SchemaVersions.{is_external}

abbrev Fit : ContentPass → List ContentRow → Type 0
Fit = AllFit held_row ComesLater with_content

abbrev pub start : ContentPass
start = record { next = 1; count = 0 }

abbrev end_of : ContentPass → List ContentRow → ContentPass
end_of = after held_row ComesLater with_content

fitting : (p : ContentPass) (cs : List ContentRow) → AllByRecursion IsContentRow cs → AreRisingFrom p.next cs → Fit p cs
fitting p [] are rise = tt
fitting p (c ∷ cs) are rise = ((are.0, rise.0), fitting (with_content p c) cs are.1 rise.1)

limits : (p : ContentPass) (cs : List ContentRow) → Fit p cs → AllByRecursion IsContentRow cs
limits p [] fit = tt
limits p (c ∷ cs) fit = (fit.0.0, limits (with_content p c) cs fit.1)

rising : (p : ContentPass) (cs : List ContentRow) → Fit p cs → AreRisingFrom p.next cs
rising p [] fit = tt
rising p (c ∷ cs) fit = (fit.0.1, rising (with_content p c) cs fit.1)

counted : (p : ContentPass) (cs : List ContentRow) → (end_of p cs).count ≡ p.count + length cs
counted p [] = sym (add-zero p.count)
counted p (c ∷ cs) = let it = counted (with_content p c) cs in omega (arith, it)

above : (p : ContentPass) (x : ContentRow) (cs : List ContentRow) → x.id < p.next → Fit p cs → AllByRecursion (λ row. first_cmp (held_row x) row ≡ Less) (map held_row cs)
above p x [] less fit = tt
above p x (c ∷ cs) less fit =
    let below : x.id < c.id = omega (arith, less, fit.0.1) in
    (value_cmp-Int (pos x.id) (pos c.id) ∙ int_less x.id c.id below, above (with_content p c) x cs (omega (arith, below)) fit.1)

rise : (p : ContentPass) (cs : List ContentRow) → Fit p cs → IsAscending (λ a b. first_cmp a b ≡ Less) (map held_row cs)
rise p [] fit = tt
rise p (c ∷ cs) fit = (above (with_content p c) c cs (omega arith) fit.1, rise (with_content p c) cs fit.1)

-- ---- what the query shows

by_first : IsOrderOf (beside_of contents_tree 0 contents_shown ((col 1 0, ascending Binary) ∷ [])) first_cmp
by_first a b = ap is_lt (then-Equal (value_cmp (eval (col 1 0) a) (eval (col 1 0) b)))

abbrev source : Database → List Row
source db = join_rows contents_tree 0 contents_shown db.trees

answers : (n : SchemaVersion) → (a b : State) → a.now.schema ≡ schema_of n → (rows : List Row) → Shown contents_walk [] a b rows → IsPermutation (source a.now) rows × IsSorted first_cmp rows
answers n a b schema rows shown = joined contents_walk a b (schema_of n) schema (contents_walk_plain n) (contents_walk_is n).1 contents_tree 0 contents_shown _ first_cmp _ (contents_walk_is n).0 by_first refl rows shown

-- the first two values of a row
abbrev first_two : Row → Row
first_two row = column row 0 ∷ column row 1 ∷ []

-- a row of contents, with the size, the digest and the removal of the entry of its id
abbrev extended : List Entry → Row → Row
extended es row =
    column row 0 ∷ column row 1 ∷ column (beside es (column row 0)) 4 ∷ column (beside es (column row 0)) 5 ∷ column (beside es (column row 0)) 9 ∷ []

abbrev with_beside : Row → Row → Row
with_beside r x = column r 0 ∷ column r 2 ∷ column x 4 ∷ column x 5 ∷ column x 9 ∷ []

pub one_each : (f : Row → List Row) (g : Row → Row) → ((r : Row) → f r ≡ g r ∷ []) → (rows : List Row) → flat_map f rows ≡ map g rows
one_each f g same [] = refl
one_each f g same (r ∷ rows) = rw (same r) (ap (λ xs. g r ∷ xs) (one_each f g same rows))

source_is : (external : Bool) (db : Database) (es : List Entry) → AreEntries external db es → source db ≡ map (extended es) (map content_columns (db.trees contents_tree))
source_is external db es are =
    one_each (shown_beside 0 contents_shown db.trees) (λ r. extended es (content_columns r)) (λ r.
    let rows = or_nulls (filter (is_of (column r 0)) (db.trees entries_tree)) in
    let shown : shown_beside 0 contents_shown db.trees r ≡ map (with_beside r) (map entry_columns rows) = sym (map-map (with_beside r) entry_columns rows) in
    shown ∙ ap (map (with_beside r)) (beside_is external (db.trees entries_tree) es are.0 are.1 (column r 0))) (db.trees contents_tree)
    ∙ sym (map-map (extended es) content_columns (db.trees contents_tree))

-- ---- rows of contents that passed

pub digest_same : (a : List ℕ) (d : Option (List ℕ)) → ◌≡◌ {A = Value} (Blob a) (bytes_or_null d) → d ≡ Some a
digest_same a None e = absurd cc
digest_same a (Some b) e = let same : b ≡ a = cc in ap Some same

pub unremoved : (r : Option Removal) → Null ≡ removal_at r → r ≡ None
unremoved None e = refl
unremoved (Some r) e = absurd cc

pub no_number : (n : ℕ) → number n ≡ Null → ⊥
no_number n e = cc

stated_by : (o : Option Entry) (c : ContentRow) → number (length c.content) ≡ column (row_beside o) 4 → ◌≡◌ {A = Value} (Blob (sha256 c.content)) (column (row_beside o) 5) → Null ≡ column (row_beside o) 9 → IsContentOf o c
stated_by None c size digest removal = absurd (no_number (length c.content) size)
stated_by (Some e) c size digest removal = (unremoved e.removal removal, number_same (length c.content) e.size size, digest_same (sha256 c.content) e.digest digest)

is_extended : (es : List Entry) (c : ContentRow) → held_row c ≡ extended es (content_row c) → IsContentIn es c
is_extended es c e =
    let o = find (λ x. x.id == c.id) es in
    let found = beside_number es c.id in
    let one = cell (held_row c) (extended es (content_row c)) in
    stated_by o c (one 2 e ∙ ap (λ x. column x 4) found) (one 3 e ∙ ap (λ x. column x 5) found) (one 4 e ∙ ap (λ x. column x 9) found)

abbrev IsExtended : List Entry → Row → Type 0
IsExtended es row = row ≡ extended es (first_two row)

all_extended : (es : List Entry) (rows : List Row) → AllByRecursion (IsExtended es) (map (extended es) (map content_columns rows))
all_extended es [] = tt
all_extended es (r ∷ rows) = (refl, all_extended es rows)

each_extended : (es : List Entry) (cs : List ContentRow) → AllByRecursion (IsExtended es) (map held_row cs) → AllByRecursion (IsContentIn es) cs
each_extended es [] all = tt
each_extended es (c ∷ cs) all = (is_extended es c all.0, each_extended es cs all.1)

firsts : (es : List Entry) (rows : List Row) → map first_two (map (extended es) (map content_columns rows)) ≡ map content_columns rows
firsts es [] = refl
firsts es (r ∷ rows) = ap (λ xs. content_columns r ∷ xs) (firsts es rows)

firsts_held : (cs : List ContentRow) → map first_two (map held_row cs) ≡ map content_row cs
firsts_held [] = refl
firsts_held (c ∷ cs) = ap (λ xs. content_row c ∷ xs) (firsts_held cs)

of_held : (external : Bool) (db : Database) (es : List Entry) (cs : List ContentRow) → AreEntries external db es → IsPermutation (map held_row cs) (source db) → Fit start cs → AreOfHeld db es cs
of_held external db es cs are same fit =
    let rows = db.trees contents_tree in
    let whole : IsPermutation (map held_row cs) (map (extended es) (map content_columns rows)) = subst (IsPermutation (map held_row cs)) (source_is external db es are) same in
    let two = IsPermutation-map first_two _ _ whole in
    let all = recursion_from_All (IsExtended es) _ (All-permutation (IsExtended es) _ _ (IsPermutation-sym _ _ whole) (All-from_recursion (IsExtended es) _ (all_extended es rows))) in
    record {
      rows = subst (λ xs. IsPermutation xs (map content_columns rows)) (firsts_held cs) (subst (IsPermutation (map first_two (map held_row cs))) (firsts es rows) two);
      rising = rising start cs fit;
      limits = limits start cs fit;
      held = each_extended es cs all;
    }

-- ---- contents as they are to be pass

extends_to : (o : Option Entry) (c : ContentRow) → IsContentOf o c → (column (row_beside o) 4 ≡ number (length c.content)) × (column (row_beside o) 5 ≡ Blob (sha256 c.content)) × (column (row_beside o) 9 ≡ Null)
extends_to None c its = absurd its
extends_to (Some e) c its = (ap number (sym its.1), ap bytes_or_null its.2, ap removal_at its.0)

three : (a b c d : Value) (e f g h : Value) → c ≡ f → d ≡ g → e ≡ h → ◌≡◌ {A = Row} (a ∷ b ∷ c ∷ d ∷ e ∷ []) (a ∷ b ∷ f ∷ g ∷ h ∷ [])
three a b c d e f g h p q r = rw (p, q, r) refl

extends : (es : List Entry) (c : ContentRow) → IsContentIn es c → extended es (content_row c) ≡ held_row c
extends es c its =
    let o = find (λ x. x.id == c.id) es in
    let found = beside_number es c.id in
    let it = extends_to o c its in
    three (number c.id) (Blob c.content) _ _ _ _ _ _ (ap (λ x. column x 4) found ∙ it.0) (ap (λ x. column x 5) found ∙ it.1) (ap (λ x. column x 9) found ∙ it.2)

all_extend : (es : List Entry) (cs : List ContentRow) → AllByRecursion (IsContentIn es) cs → map (extended es) (map content_row cs) ≡ map held_row cs
all_extend es [] all = refl
all_extend es (c ∷ cs) all = ap (λ x. x ∷ map (extended es) (map content_row cs)) (extends es c all.0) ∙ ap (λ xs. held_row c ∷ xs) (all_extend es cs all.1)

shown_held : (external : Bool) (db : Database) (es : List Entry) (cs : List ContentRow) → AreEntries external db es → IsPermutation (map content_row cs) (map content_columns (db.trees contents_tree)) → AllByRecursion (IsContentIn es) cs → IsPermutation (map held_row cs) (source db)
shown_held external db es cs are same all =
    subst (IsPermutation (map held_row cs)) (sym (source_is external db es are)) (subst (λ xs. IsPermutation xs (map (extended es) (map content_columns (db.trees contents_tree)))) (all_extend es cs all) (IsPermutation-map (extended es) _ _ same))

-- what is known of contents as they are to be
pub taken_of : (n : SchemaVersion) (db : Database) (es : List Entry) (hs : List History) → AreEntries (is_external n) db es → AreContents n db es hs → AreTaken (is_external n) 1 es (flat_map contents_in hs) (flat_map external_in hs)
taken_of n db es hs are it =
    let external = is_external n in
    subst (λ xs. AreTaken external 1 xs (flat_map contents_in hs) (flat_map external_in hs)) it.entries (taken external 1 0 hs (subst (AreNumbered external 1 0) (sym it.entries) are.1) it.each)

module _ (n : SchemaVersion) (old new : State) (has : old.now.schema ≡ schema_of n) (same : IsUnchanged old new) (r : ContentPass) (es : List Entry) (are : AreEntries (is_external n) new.now es) where
  pub contents_yes : Walked (Takes held_row ComesLater with_content) (Refuses held_row ComesLater with_content) contents_walk old new start r true → DecidesHeld n new.now es (Some r.count)
  contents_yes h =
      let it = walk_yes held_row ComesLater with_content same_row (schema_of n) contents_walk _ _ (contents_walk_is n).0 source (answers n) old new has same start r h in
      let count : r.count ≡ (end_of start it.0).count = ap (λ (p : ContentPass). p.count) it.3 in
      let all = counted start it.0 in
      (it.0, of_held (is_external n) new.now es it.0 are it.1 it.2, omega (arith, count, all))

  pub contents_no : Walked (Takes held_row ComesLater with_content) (Refuses held_row ComesLater with_content) contents_walk old new start r false → DecidesHeld n new.now es None
  contents_no h hs it =
      let cs = flat_map contents_in hs in
      let its = taken_of n new.now es hs are it in
      walk_no held_row ComesLater with_content same_row (schema_of n) contents_walk _ _ (contents_walk_is n).0 source (answers n) old new has same start r (rise start) h cs (shown_held (is_external n) new.now es cs are it.contents its.given.within) (fitting start cs its.given.rows its.given.rising)

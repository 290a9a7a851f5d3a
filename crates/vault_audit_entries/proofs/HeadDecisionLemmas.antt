-- The walk over heads beside the entries.
use Rattle.std.specs.Prelude.{min}
use Rattle.std.proofs.Common.{◌≡◌, ◌≤◌, ℕ, ◌+◌, List, [], ◌∷◌, ◌==◌, map, filter, find, true, false, Some, None, Option, IsPermutation, IsSorted, refl, sym, ap, subst, ◌∙◌, arith, Bool}
use Rattle.std.specs.List.{AllByRecursion}
use Rattle.std.proofs.lemmas.List.Elements.{All-from_recursion, recursion_from_All}
use Rattle.std.proofs.lemmas.List.Sorted.{IsPermutation-map, IsPermutation-sym, All-permutation}
use Rattle.sqlite_keyed.proofs.ListLemmas.{map-map}
use Rattle.sqlite_value.specs.declared.value.Value.{Value}
use Rattle.sqlite_value.specs.declared.value.Value.TheVariants.{Null, Text}
use Rattle.sqlite_value.specs.Order.{Row, column}
use Rattle.sqlite_sql.specs.Query.{or_nulls}
use Rattle.sqlite.specs.Effect.{Database}
use Rattle.sqlite.specs.State.{State, Shown, IsUnchanged}
use Rattle.vault_core_model.specs.declared.records.Entry.{Entry}
use Rattle.vault_core_model.specs.declared.records.Removal.{Removal}
use Rattle.vault_core_model.specs.Order.{IsAscending}
use Rattle.vault_audit_model.specs.declared.rows.HeadRow.{HeadRow}
use Rattle.vault_audit_model.specs.Limits.{IsHeadRow}
use Rattle.vault_audit_model.specs.Relations.{AreEntries}
use Rattle.vault_audit_model.specs.Rows.{head_row, head_columns, entry_columns, removal_at}
use Rattle.vault_audit_model.specs.Tables.{schema_of, heads_tree, entries_tree}
use Rattle.vault_audit_model.proofs.SameRows.{text_same, cell}
use Rattle.vault_audit_rows.specs.Pass.{Takes, Refuses, after}
use Rattle.vault_audit_rows.specs.Walk.{Walked}
use Rattle.vault_audit_rows.proofs.PassLemmas.{pass_yes, pass_no}
use Rattle.vault_audit_entries.proofs.BesideLemmas.{is_of, row_beside, beside, beside_is, beside_number}
use Rattle.vault_audit_entries.proofs.ContentLemmas.{one_each, unremoved}
use Rattle.vault_audit_rows.proofs.JoinLemmas.{IsOrderOf}
use Rattle.vault_audit_entries.proofs.JoinLemmas.{beside_of, shown_beside, join_rows, joined}
use Rattle.vault_audit_entries.specs.declared.heads.by_key.HeadPass.{HeadPass}
use Rattle.vault_audit_entries.specs.Heads.{headed_row, head_cmp, IsHeldFor, NamesHeld, AreHeadsByKey, DecidesHeadsByKey, sum_of_counts, up_to_most}
use Rattle.vault_audit_entries.specs.HeadPasses.{ComesAfter, with_head}
use Rattle.vault_audit_entries.proofs.HeadRowLemmas.{same_head}
use Rattle.vault_audit_entries.proofs.HeadRiseLemmas.{row_order, row_order_total, ascending_heads, limits, fitting, no_last, rows_rise}
use Rattle.vault_audit_entries.proofs.HeadTextLemmas.{heads_walk, heads_shown, heads_order, heads_walk_is, heads_walk_plain}
use Rattle.vault_audit_model.specs.declared.schema.SchemaVersion.{SchemaVersion}

-- ---- what the query shows

by_key : IsOrderOf (beside_of heads_tree 3 heads_shown heads_order) row_order
by_key a b = refl

abbrev source : Database → List Row
source db = join_rows heads_tree 3 heads_shown db.trees

answers : (n : SchemaVersion) → (a b : State) → a.now.schema ≡ schema_of n → (rows : List Row) → Shown heads_walk [] a b rows → IsPermutation (source a.now) rows × IsSorted row_order rows
answers n a b schema rows shown = joined heads_walk a b (schema_of n) schema (heads_walk_plain n) (heads_walk_is n).1 heads_tree 3 heads_shown heads_order row_order _ (heads_walk_is n).0 by_key refl rows shown

-- a row of heads, with the bucket, the key and the removal of the entry that is its newest
abbrev extended : List Entry → Row → Row
extended es row =
    column row 0 ∷ column row 1 ∷ column row 2 ∷ column row 3 ∷ column (beside es (column row 2)) 1 ∷ column (beside es (column row 2)) 2
    ∷ column (beside es (column row 2)) 9 ∷ []

abbrev with_beside : Row → Row → Row
with_beside r x = column r 1 ∷ column r 2 ∷ column r 3 ∷ column r 4 ∷ column x 1 ∷ column x 2 ∷ column x 9 ∷ []

source_is : (external : Bool) (db : Database) (es : List Entry) → AreEntries external db es → source db ≡ map (extended es) (map head_columns (db.trees heads_tree))
source_is external db es are =
    one_each (shown_beside 3 heads_shown db.trees) (λ r. extended es (head_columns r)) (λ r.
    let rows = or_nulls (filter (is_of (column r 3)) (db.trees entries_tree)) in
    let shown : shown_beside 3 heads_shown db.trees r ≡ map (with_beside r) (map entry_columns rows) = sym (map-map (with_beside r) entry_columns rows) in
    shown ∙ ap (map (with_beside r)) (beside_is external (db.trees entries_tree) es are.0 are.1 (column r 3))) (db.trees heads_tree)
    ∙ sym (map-map (extended es) head_columns (db.trees heads_tree))

-- ---- heads that passed

-- the first four values of a row
abbrev first_four : Row → Row
first_four r = column r 0 ∷ column r 1 ∷ column r 2 ∷ column r 3 ∷ []

no_text : (t : List ℕ) → ◌≡◌ {A = Value} (Text t) Null → ⊥
no_text t e = cc

stated_by : (o : Option Entry) (h : HeadRow) → ◌≡◌ {A = Value} (Text h.bucket) (column (row_beside o) 1) → ◌≡◌ {A = Value} (Text h.key) (column (row_beside o) 2) → Null ≡ column (row_beside o) 9 → IsHeldFor h o
stated_by None h bucket key removal = no_text h.bucket bucket
stated_by (Some e) h bucket key removal = (sym (text_same h.bucket e.bucket bucket), sym (text_same h.key e.key key), unremoved e.removal removal)

is_extended : (es : List Entry) (h : HeadRow) → headed_row h ≡ extended es (head_row h) → NamesHeld es h
is_extended es h e =
    let o = find (λ x. x.id == h.head.newest) es in
    let found = beside_number es h.head.newest in
    let one = cell (headed_row h) (extended es (head_row h)) in
    stated_by o h (one 4 e ∙ ap (λ x. column x 1) found) (one 5 e ∙ ap (λ x. column x 2) found) (one 6 e ∙ ap (λ x. column x 9) found)

abbrev IsExtended : List Entry → Row → Type 0
IsExtended es row = row ≡ extended es (first_four row)

all_extended : (es : List Entry) (rows : List Row) → AllByRecursion (IsExtended es) (map (extended es) (map head_columns rows))
all_extended es [] = tt
all_extended es (r ∷ rows) = (refl, all_extended es rows)

each_extended : (es : List Entry) (hs : List HeadRow) → AllByRecursion (IsExtended es) (map headed_row hs) → AllByRecursion (NamesHeld es) hs
each_extended es [] all = tt
each_extended es (h ∷ hs) all = (is_extended es h all.0, each_extended es hs all.1)

firsts : (es : List Entry) (rows : List Row) → map first_four (map (extended es) (map head_columns rows)) ≡ map head_columns rows
firsts es [] = refl
firsts es (r ∷ rows) = ap (λ xs. head_columns r ∷ xs) (firsts es rows)

firsts_headed : (hs : List HeadRow) → map first_four (map headed_row hs) ≡ map head_row hs
firsts_headed [] = refl
firsts_headed (h ∷ hs) = ap (λ xs. head_row h ∷ xs) (firsts_headed hs)

are_heads : (external : Bool) (db : Database) (es : List Entry) (hs : List HeadRow) → AreEntries external db es → IsPermutation (map headed_row hs) (source db) → IsAscending head_cmp hs → AllByRecursion IsHeadRow hs → AreHeadsByKey db es hs
are_heads external db es hs are same up limited =
    let rows = db.trees heads_tree in
    let whole : IsPermutation (map headed_row hs) (map (extended es) (map head_columns rows)) = subst (IsPermutation (map headed_row hs)) (source_is external db es are) same in
    let four = IsPermutation-map first_four _ _ whole in
    let all = recursion_from_All (IsExtended es) _ (All-permutation (IsExtended es) _ _ (IsPermutation-sym _ _ whole) (All-from_recursion (IsExtended es) _ (all_extended es rows))) in
    (subst (λ xs. IsPermutation xs (map head_columns rows)) (firsts_headed hs) (subst (IsPermutation (map first_four (map headed_row hs))) (firsts es rows) four), up, limited, each_extended es hs all)

-- ---- heads as they are to be pass

shown_removal : (r : Option Removal) → r ≡ None → removal_at r ≡ Null
shown_removal None e = refl
shown_removal (Some r) e = absurd cc

extends_to : (o : Option Entry) (h : HeadRow) → IsHeldFor h o → (column (row_beside o) 1 ≡ Text h.bucket) × (column (row_beside o) 2 ≡ Text h.key) × (column (row_beside o) 9 ≡ Null)
extends_to None h its = absurd its
extends_to (Some e) h its = (ap (λ t. Text t) its.0, ap (λ t. Text t) its.1, shown_removal e.removal its.2)

ends : (a b c d e f : Value) → a ≡ d → b ≡ e → c ≡ f → ◌≡◌ {A = Row} (a ∷ b ∷ c ∷ []) (d ∷ e ∷ f ∷ [])
ends a b c d e f p q r = rw (p, q, r) refl

extends : (es : List Entry) (h : HeadRow) → NamesHeld es h → extended es (head_row h) ≡ headed_row h
extends es h its =
    let o = find (λ x. x.id == h.head.newest) es in
    let found = beside_number es h.head.newest in
    let it = extends_to o h its in
    let tail = ends _ _ _ _ _ _ (ap (λ x. column x 1) found ∙ it.0) (ap (λ x. column x 2) found ∙ it.1) (ap (λ x. column x 9) found ∙ it.2) in
    ap (λ xs. column (head_row h) 0 ∷ column (head_row h) 1 ∷ column (head_row h) 2 ∷ column (head_row h) 3 ∷ xs) tail

all_extend : (es : List Entry) (hs : List HeadRow) → AllByRecursion (NamesHeld es) hs → map (extended es) (map head_row hs) ≡ map headed_row hs
all_extend es [] all = refl
all_extend es (h ∷ hs) all = ap (λ x. x ∷ map (extended es) (map head_row hs)) (extends es h all.0) ∙ ap (λ xs. headed_row h ∷ xs) (all_extend es hs all.1)

shown_headed : (external : Bool) (db : Database) (es : List Entry) (hs : List HeadRow) → AreEntries external db es → IsPermutation (map head_row hs) (map head_columns (db.trees heads_tree)) → AllByRecursion (NamesHeld es) hs → IsPermutation (map headed_row hs) (source db)
shown_headed external db es hs are same all =
    subst (IsPermutation (map headed_row hs)) (sym (source_is external db es are)) (subst (λ xs. IsPermutation xs (map (extended es) (map head_columns (db.trees heads_tree)))) (all_extend es hs all) (IsPermutation-map (extended es) _ _ same))

abbrev pub start : HeadPass
start = record { last = None; total = 0 }

-- ---- the sum

summed_up : (most a b c : ℕ) → min (min (a + b) most + c) most ≡ min (a + (b + c)) most
summed_up most a b c = grind arith

no_less : (most a : ℕ) → a ≤ most → a ≡ min (a + 0) most
no_less most a low = grind (arith, low)

below_most : (n : ℕ) → up_to_most n ≤ 18446744073709551615
below_most n = grind arith

total_after : (p : HeadPass) (hs : List HeadRow) → p.total ≤ 18446744073709551615 → (after headed_row ComesAfter with_head p hs).total ≡ up_to_most (p.total + sum_of_counts hs)
total_after p [] low = no_less 18446744073709551615 p.total low
total_after p (h ∷ hs) low =
    total_after (with_head p h) hs (below_most (p.total + h.head.count)) ∙ summed_up 18446744073709551615 p.total h.head.count (sum_of_counts hs)

module _ (n : SchemaVersion) (old new : State) (has : old.now.schema ≡ schema_of n) (same : IsUnchanged old new) (r : HeadPass) (external : Bool) (es : List Entry) (are : AreEntries external new.now es) where
  pub heads_yes : Walked (Takes headed_row ComesAfter with_head) (Refuses headed_row ComesAfter with_head) heads_walk old new start r true → DecidesHeadsByKey new.now es (Some r.total)
  heads_yes h =
      let it = pass_yes headed_row ComesAfter with_head same_head row_order row_order_total (schema_of n) heads_walk _ _ (heads_walk_is n).0 source (answers n) old new has same start r h in
      let none : 0 + sum_of_counts it.0 ≡ sum_of_counts it.0 = omega arith in
      let total : r.total ≡ up_to_most (sum_of_counts it.0) = ap (λ (p : HeadPass). p.total) it.3 ∙ total_after start it.0 (omega arith) ∙ ap up_to_most none in
      (it.0, are_heads external new.now es it.0 are it.1 (ascending_heads start it.0 it.2) (limits start it.0 it.2), total)

  pub heads_no : Walked (Takes headed_row ComesAfter with_head) (Refuses headed_row ComesAfter with_head) heads_walk old new start r false → DecidesHeadsByKey new.now es None
  heads_no h hs it =
      let fit = fitting start hs (no_last hs) it.1 it.2 in
      pass_no headed_row ComesAfter with_head same_head row_order row_order_total (schema_of n) heads_walk _ _ (heads_walk_is n).0 source (answers n) old new has same start r (λ xs fits. rows_rise xs (ascending_heads start xs fits)) h hs (shown_headed external new.now es hs are it.0 it.3) fit

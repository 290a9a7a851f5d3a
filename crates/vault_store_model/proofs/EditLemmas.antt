-- Edits ignore the order of rows, and one after the other makes one edit.
use Rattle.std.proofs.Common.{◌==◌, Bool, true, false, not, cond, List, ◌∷◌, ◌++◌, map, filter, ◌∙◌}
use Rattle.std.specs.Prelude.{IsPermutation}
use Rattle.std.proofs.lemmas.List.Sorted.{IsPermutation-map, IsPermutation-cons, IsPermutation-append, IsPermutation-trans}
use Rattle.sqlite_keyed.proofs.ListLemmas.{IsPermutation-filter}
use Rattle.sqlite_value.specs.Order.{Row}
use Rattle.sqlite.specs.State.{State}
use Rattle.vault_base.specs.declared.refusal.Table.{Table}
use Rattle.vault_audit_model.specs.Order.{place_of}
use Rattle.vault_store_model.specs.Rows.{Rows, AreSameRows, rows_in}
use Rattle.vault_store_model.specs.Copies.{with_copies}
use Rattle.vault_store_model.specs.Edits.{with_rows, with_row, with_changed, changed_if, without, made_if, and_then, IgnoresOrder, Edits}

-- an edit of one table's list of rows ignores the order, where it is so on lists
by_table : (b : Bool) (edit : List Row → List Row) → ((xs ys : List Row) → IsPermutation xs ys → IsPermutation (edit xs) (edit ys)) → (xs ys : List Row) → IsPermutation xs ys
    → IsPermutation (cond b (edit xs) xs) (cond b (edit ys) ys)
by_table true edit keeps xs ys same = keeps xs ys same
by_table false edit keeps xs ys same = same

pub with_rows_ignores : (t : Table) (edit : List Row → List Row) → ((xs ys : List Row) → IsPermutation xs ys → IsPermutation (edit xs) (edit ys)) → IgnoresOrder (with_rows t edit)
with_rows_ignores t edit keeps xs ys same s = by_table (place_of t == place_of s) edit keeps (xs s) (ys s) (same s)

pub with_row_ignores : (t : Table) (row : Row) → IgnoresOrder (with_row t row)
with_row_ignores t row = with_rows_ignores t (λ rows. row ∷ rows) (λ xs ys same. IsPermutation-cons row xs ys same)

pub with_changed_ignores : (t : Table) (test : Row → Bool) (change : Row → Row) → IgnoresOrder (with_changed t test change)
with_changed_ignores t test change = with_rows_ignores t (map (changed_if test change)) (λ xs ys same. IsPermutation-map (changed_if test change) xs ys same)

pub without_ignores : (t : Table) (test : Row → Bool) → IgnoresOrder (without t test)
without_ignores t test = with_rows_ignores t (filter (λ row. not (test row))) (λ xs ys same. IsPermutation-filter (λ row. not (test row)) xs ys same)

-- rows that come of another table's, before those that are there
copies_by : (b : Bool) (test : Row → Bool) (made : Row → Row) (xs ys us vs : List Row) → IsPermutation xs ys → IsPermutation us vs
    → IsPermutation (cond b (map made (filter test xs) ++ us) us) (cond b (map made (filter test ys) ++ vs) vs)
copies_by true test made xs ys us vs same alike =
    IsPermutation-append (map made (filter test xs)) (map made (filter test ys)) us vs (IsPermutation-map made _ _ (IsPermutation-filter test xs ys same)) alike
copies_by false test made xs ys us vs same alike = alike

pub with_copies_ignores : (t from : Table) (test : Row → Bool) (made : Row → Row) → IgnoresOrder (with_copies t from test made)
with_copies_ignores t from test made xs ys same s = copies_by (place_of t == place_of s) test made (xs from) (ys from) (xs s) (ys s) (same from) (same s)

pub made_if_ignores : (b : Bool) (edit : Rows → Rows) → IgnoresOrder edit → IgnoresOrder (made_if b edit)
made_if_ignores true edit ignores xs ys same = ignores xs ys same
made_if_ignores false edit ignores xs ys same = same

pub and_then_ignores : (first second : Rows → Rows) → IgnoresOrder first → IgnoresOrder second → IgnoresOrder (and_then first second)
and_then_ignores first second a b xs ys same = b (first xs) (first ys) (a xs ys same)

pub same_rows_then : (xs ys zs : Rows) → AreSameRows xs ys → AreSameRows ys zs → AreSameRows xs zs
same_rows_then xs ys zs a b t = IsPermutation-trans (xs t) (ys t) (zs t) (a t) (b t)

-- one part of a transaction after the other
pub edits_then : (external : Bool) (old mid new : State) (first second : Rows → Rows) → Edits external old mid first → Edits external mid new second → Edits external old new (and_then first second)
edits_then external old mid new first second a b = record {
  was_open = a.was_open;
  is_open = b.is_open;
  inside = b.inside;
  committed = b.committed ∙ a.committed;
  schema = λ has. b.schema (a.schema has);
  rows = λ has.
      same_rows_then (second (first (rows_in external old.now))) (second (rows_in external mid.now)) (rows_in external new.now)
      (b.ignores (first (rows_in external old.now)) (rows_in external mid.now) (a.rows has)) (b.rows (a.schema has));
  ignores = and_then_ignores first second a.ignores b.ignores;
}

-- The walk over the entries by their ids.
use Rattle.std.proofs.Common.{◌<◌, ◌≡◌, ◌+◌, pos, List, [], ◌∷◌, drop, length, map, Bool, true, false, Some, None, Less, IsPermutation, IsSorted, refl, sym, ap, ◌∙◌, arith, add-zero}
use Rattle.std.specs.List.{AllByRecursion}
use Rattle.sqlite_value.specs.Order.{Row}
use Rattle.sqlite_value.proofs.OrderLemmas.{value_cmp-Int}
use Rattle.sqlite_trees.specs.Tree.{IsAscending}
use Rattle.sqlite.specs.Effect.{Database}
use Rattle.sqlite.specs.State.{State, Shown, IsUnchanged}
use Rattle.vault_core_model.specs.declared.records.Entry.{Entry}
use Rattle.vault_audit_model.proofs.SameRows.{same_entry}
use Rattle.vault_audit_model.specs.Rows.{entry_row, entry_columns}
use Rattle.vault_audit_model.specs.declared.schema.SchemaVersion.{SchemaVersion}
use Rattle.vault_audit_model.specs.Tables.{schema_of, entries, entries_tree}
use Rattle.vault_audit_schema.specs.Texts.{terms_of}
use Rattle.vault_audit_rows.specs.Pass.{Takes, Refuses, AllFit, after}
use Rattle.vault_audit_rows.specs.Walk.{Walked}
use Rattle.vault_audit_rows.proofs.ScanLemmas.{walked, first_cmp}
use Rattle.vault_audit_rows.proofs.PassLemmas.{walk_yes, walk_no}
use Rattle.vault_audit_records.specs.declared.entries.second_look.NumberPass.{NumberPass}
use Rattle.vault_audit_model.specs.Relations.{AreNumbered}
use Rattle.vault_audit_model.proofs.ValueLemmas.{int_less}
use Rattle.vault_audit_records.specs.EntriesByNumber.{ComesNext, with_entry, AreEntriesUpTo}
use Rattle.vault_audit_records.proofs.EntryTextLemmas.{numbers_walk, numbers_walk_is, numbers_walk_plain}

abbrev Fit : NumberPass → List Entry → Type 0
Fit = AllFit entry_row ComesNext with_entry

abbrev end_of : NumberPass → List Entry → NumberPass
end_of = after entry_row ComesNext with_entry

numbered : (p : NumberPass) (es : List Entry) → Fit p es → AreNumbered p.external p.next p.low es
numbered p [] fit = tt
numbered p (e ∷ es) fit = (fit.0, numbered (with_entry p e) es fit.1)

fitting : (p : NumberPass) (es : List Entry) → AreNumbered p.external p.next p.low es → Fit p es
fitting p [] are = tt
fitting p (e ∷ es) are = (are.0, fitting (with_entry p e) es are.1)

counted : (p : NumberPass) (es : List Entry) → (end_of p es).next ≡ p.next + length es
counted p [] = sym (add-zero p.next)
counted p (e ∷ es) = let it = counted (with_entry p e) es in omega (arith, it)

-- an entry is below those whose ids go on after it
above : (p : NumberPass) (x : Entry) (es : List Entry) → x.id < p.next → Fit p es → AllByRecursion (λ row. first_cmp (entry_row x) row ≡ Less) (map entry_row es)
above p x [] less fit = tt
above p x (e ∷ es) less fit =
    let below : x.id < e.id = omega (arith, fit.0.1.0) in
    (value_cmp-Int (pos x.id) (pos e.id) ∙ int_less x.id e.id below, above (with_entry p e) x es (omega arith) fit.1)

-- so their rows rise
rise : (p : NumberPass) (es : List Entry) → Fit p es → IsAscending (λ a b. first_cmp a b ≡ Less) (map entry_row es)
rise p [] fit = tt
rise p (e ∷ es) fit = (above (with_entry p e) e es (omega (arith, fit.0.1.0)) fit.1, rise (with_entry p e) es fit.1)

abbrev pub source : Database → List Row
source db = map entry_columns (db.trees entries_tree)

pub answers : (n : SchemaVersion) (a b : State) → a.now.schema ≡ schema_of n → (rows : List Row) → Shown numbers_walk [] a b rows → IsPermutation (source a.now) rows × IsSorted first_cmp rows
answers n a b schema rows shown =
    walked numbers_walk a b (schema_of n) schema (numbers_walk_plain n) (numbers_walk_is n).1 entries_tree 0 (drop 1 (terms_of entries)) _ (numbers_walk_is n).0 refl rows shown

abbrev start : Bool → NumberPass
start external = record { external = external; next = 1; low = 0 }

-- the rows of numbered entries rise
pub rising : (external : Bool) (es : List Entry) → AreNumbered external 1 0 es → IsAscending (λ a b. first_cmp a b ≡ Less) (map entry_row es)
rising external es are = rise (start external) es (fitting (start external) es are)

module _ (n : SchemaVersion) (old new : State) (has : old.now.schema ≡ schema_of n) (same : IsUnchanged old new) (external : Bool) (r : NumberPass) where
  abbrev begun : NumberPass
  begun = start external

  pub numbers_yes : Walked (Takes entry_row ComesNext with_entry) (Refuses entry_row ComesNext with_entry) numbers_walk old new begun r true → AreEntriesUpTo external new.now (Some r.next)
  numbers_yes h =
      let it = walk_yes entry_row ComesNext with_entry same_entry (schema_of n) numbers_walk _ _ (numbers_walk_is n).0 source (answers n) old new has same begun r h in
      let next : r.next ≡ (end_of begun it.0).next = ap (λ (p : NumberPass). p.next) it.3 in
      let count = counted begun it.0 in
      (it.0, it.1, numbered begun it.0 it.2, omega (arith, next, count))

  pub numbers_no : Walked (Takes entry_row ComesNext with_entry) (Refuses entry_row ComesNext with_entry) numbers_walk old new begun r false → AreEntriesUpTo external new.now None
  numbers_no h es are numbers = walk_no entry_row ComesNext with_entry same_entry (schema_of n) numbers_walk _ _ (numbers_walk_is n).0 source (answers n) old new has same begun r (rise begun) h es are (fitting begun es numbers)

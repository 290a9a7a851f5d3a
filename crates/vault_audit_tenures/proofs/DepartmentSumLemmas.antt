-- The rows of departments beside their totals, as departments with their sums.
use Rattle.std.proofs.Common.{◌≡◌, ℕ, ◌≤◌, List, [], ◌∷◌, map, Bool, true, false, Option, Some, None, IsPermutation, refl, sym, ap, subst, arith}
use Rattle.std.specs.List.{AllByRecursion}
use Rattle.sqlite_trees.proofs.ListLemmas.{map-map}
use Rattle.sqlite.specs.Effect.{Database}
use Rattle.vault_tally.specs.Row.{Item}
use Rattle.vault_tally.specs.declared.row.Row.{Row as Sums}
use Rattle.vault_tally.proofs.Bounds.{got}
use Rattle.vault_core_model.specs.declared.records.History.{History}
use Rattle.vault_core_model.specs.Sound.{Sound, IsInTime}
use Rattle.vault_core_model.specs.Totals.{items_in}
use Rattle.vault_core_model.specs.Vault.{Vault}
use Rattle.vault_core_laws.proofs.Soundness.{admitted_by}
use Rattle.vault_audit_model.specs.declared.schema.SchemaVersion.{SchemaVersion}
use Rattle.vault_audit_model.specs.declared.rows.DepartmentRow.{DepartmentRow}
use Rattle.vault_audit_model.specs.Limits.{IsPlainName}
use Rattle.vault_audit_model.specs.Relations.{department_with, IsPast, IsWithin, AreBuckets, AreEntries, AreTenuresOf, DecidesSums}
use Rattle.vault_audit_model.specs.Rows.{department_row, department_columns_as}
use Rattle.vault_audit_model.specs.Spells.{AreSoundAs, entries_in, sums_over}
use Rattle.vault_audit_model.specs.Tables.{departments_tree}
use Rattle.vault_audit_entries.proofs.ContentSoundLemmas.{sound_entries}
use Rattle.vault_audit_records.proofs.TenureLemmas.{sound_tenures}
use Rattle.vault_audit_tenures.specs.declared.sums.totals.Totals.{Totals}
use Rattle.vault_audit_tenures.specs.DepartmentSums.{HasTotal, HaveTotals}
use Rattle.vault_audit_tenures.specs.Totals.{total_of, IsTotal, AreTotals}
use Rattle.vault_audit_tenures.proofs.TotalLemmas.{sums_are}
use Rattle.vault_audit_model.specs.SchemaVersions.{is_external}

-- the row has the sums over its tenures, which are within what the department may admit and receive
abbrev HasSums : List History → DepartmentRow → Type 0
HasSums hs d = (d ≡ department_with hs d.name) × IsWithin hs d.name

with_sums : (name : List ℕ) (a b : Sums) → a ≡ b → ◌≡◌ {A = DepartmentRow} (record { name = name; sums = a }) (record { name = name; sums = b })
with_sums name a b e = ap (λ (s : Sums). record { name = name; sums = s }) e

module _ (hs : List History) where
  abbrev names : List DepartmentRow → List (List ℕ)
  names ds = map (λ (d : DepartmentRow). d.name) ds

  rows_same : (ds : List DepartmentRow) → AllByRecursion (HasSums hs) ds → map department_row ds ≡ map (λ n. department_row (department_with hs n)) (names ds)
  rows_same [] all = refl
  rows_same (d ∷ ds) all =
      let here : department_row d ≡ department_row (department_with hs d.name) = ap department_row all.0.0 in
      let there = rows_same ds all.1 in cc (here, there)

  within : (ds : List DepartmentRow) → AllByRecursion (HasSums hs) ds → AllByRecursion (IsWithin hs) (names ds)
  within [] all = tt
  within (d ∷ ds) all = (all.0.1, within ds all.1)

  module _ (t : Totals) (totals : AreTotals hs t) where
    named : (ds : List DepartmentRow) → AllByRecursion (HasTotal t) ds → AllByRecursion IsPlainName (names ds)
    named [] all = tt
    named (d ∷ ds) all = (all.0.0, named ds all.1)

    -- a department that has its total has its sums
    has_sums : (d : DepartmentRow) → HasTotal t d → HasSums hs d
    has_sums d is =
        let items = items_in d.name hs in
        let total : IsTotal (Some d.sums) items = subst (λ o. IsTotal o items) is.1 (totals d.name) in
        (with_sums d.name d.sums _ (sums_are d.sums items total.0), omega (arith, got items, total.1.within))

    each_has : (ds : List DepartmentRow) → AllByRecursion (HasTotal t) ds → AllByRecursion (HasSums hs) ds
    each_has [] all = tt
    each_has (d ∷ ds) all = (has_sums d all.0, each_has ds all.1)

    -- and the sums of a department that is within its quota are its total
    has_total : (name : List ℕ) → IsPlainName name → IsWithin hs name → HasTotal t (department_with hs name)
    has_total name is low = (is, of (total_of t name) (totals name))
      where
        items : List Item
        items = items_in name hs

        of : (o : Option Sums) → IsTotal o items → o ≡ Some (sums_over items)
        of None above = absurd (above (omega (arith, got items, low)))
        of (Some sums) total = ap Some (sums_are sums items total.0)

    all_total : (ns : List (List ℕ)) → AllByRecursion IsPlainName ns → AllByRecursion (IsWithin hs) ns → AllByRecursion (HasTotal t) (map (department_with hs) ns)
    all_total [] named low = tt
    all_total (n ∷ ns) named low = (has_total n named.0 low.0, all_total ns named.1 low.1)

    -- what the rows hold beside the totals is said of the table
    pub table_stated : (n : SchemaVersion) (db : Database) (hold : Bool) → HaveTotals t n db hold → DecidesSums n db hs hold
    table_stated n db true (ds, are, all) =
        let each = each_has ds all in
        (names ds, (subst (λ rows. IsPermutation rows (map (department_columns_as n) (db.trees departments_tree))) (rows_same ds each) are, named ds all, within ds each))
    table_stated n db false none = λ ns are.
        none (map (department_with hs) ns) (subst (λ rows. IsPermutation rows (map (department_columns_as n) (db.trees departments_tree))) (sym (map-map department_row (department_with hs) ns)) are.0) (all_total ns are.1 are.2)

-- ---- sound tables

past_of : (last : ℕ) (hs : List History) → AllByRecursion (λ (h : History). h.entry.admitted ≤ last) hs → AllByRecursion (IsInTime last) hs → AllByRecursion (IsPast last) (entries_in hs)
past_of last [] early in_time = tt
past_of last (h ∷ hs) early in_time = ((early.0, in_time.0), past_of last hs early.1 in_time.1)

each_within : (v : Vault) (ds : List (List ℕ)) → Sound v → AllByRecursion (IsWithin v.histories) ds
each_within v [] sound = tt
each_within v (d ∷ ds) sound = (sound.within d, each_within v ds sound)

-- where a department lacks its sums, whatever the vault is, no vault has these tables
pub no_sums : (n : SchemaVersion) (db : Database)
    → ((v : Vault) → AreBuckets n db v.buckets → AreEntries (is_external n) db (entries_in v.histories) → AllByRecursion (IsPast v.last) (entries_in v.histories) → AreTenuresOf n db v → DecidesSums n db v.histories false)
    → (v : Vault) → ¬ AreSoundAs n db v
no_sums n db stated v it =
    let kept = it.spells.kept in
    stated v (it.spells.buckets, it.spells.rules, kept.sound.ordered.buckets, kept.limits.buckets) (sound_entries n db v it)
    (past_of v.last v.histories (admitted_by 0 v.last v.histories kept.sound.order) kept.sound.in_time) (sound_tenures n db v it)
    v.departments (it.numbers, kept.limits.departments, each_within v v.departments kept.sound)

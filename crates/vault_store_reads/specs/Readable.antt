-- Rows of the ordered reads whose values are in their limits, so that they can be read.
use Rattle.std.specs.Prelude.{◌≤◌, List, IsTrue, IfSome}
use Rattle.std.specs.List.{AllByRecursion}
use Rattle.sqlite_value.specs.Order.{Row}
use Rattle.vault_base.specs.Days.{last_moment}
use Rattle.vault_base.specs.Limits.{most_external, most_settings}
use Rattle.vault_base.specs.Name.{is_version_id}
use Rattle.vault_core_model.specs.declared.records.LastSetting.{LastSetting}
use Rattle.vault_audit_model.specs.Limits.{IsRetention}
use Rattle.vault_audit_rows.specs.Records.{ReportsOne}
use Rattle.vault_store_reads.specs.declared.rows_in_order.shown.HeldRow.{HeldRow}

pub record IsLastSetting (s : LastSetting) : Type 0 where
  pub count : (1 ≤ s.count) × (s.count ≤ most_settings)
  pub retention : IfSome s.lock.retention IsRetention

pub record IsHeldRow (h : HeldRow) : Type 0 where
  pub id : IsTrue (is_version_id h.id)
  pub size : h.size ≤ most_external
  pub admitted : h.admitted ≤ last_moment

-- each row states an item of that kind, in its limits
abbrev pub AreReadable : {X : Type 0} → (X → Row) → (X → Type 0) → List Row → Type 0
AreReadable row_of Is rows = AllByRecursion (ReportsOne row_of Is) rows

-- What counts of one tenure of a version.
use Rattle.std.specs.Prelude.{Bool, true, false, Option, Some, None}
use Rattle.vault_base.specs.Days.{day}
use Rattle.vault_core_model.specs.declared.records.Entry.{Entry}
use Rattle.vault_core_model.specs.declared.records.Tenure.{Tenure}
use Rattle.vault_core_model.specs.Totals.{Share, share, removal_day}

-- the tenure, by the one after it: it ends as that begins, and the last with the removal
abbrev pub share_by : Entry → Bool → Tenure → Option Tenure → Share
share_by e first t None = share e.size first t (removal_day e.removal) true
share_by e first t (Some u) = share e.size first t (Some (day u.from)) false

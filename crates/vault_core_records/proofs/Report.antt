-- The report that a department's row gives.
use Rattle.std.proofs.Common.{◌≡◌, ℕ, ◌≤◌, List, refl, arith}
use Rattle.vault_base.specs.Days.{day, last_moment}
use Rattle.vault_tally.specs.declared.row.Row.{Row}
use Rattle.vault_tally.specs.Row.{Item, IsRowOf, AreBounded, AreBegunBy, last_day, charge}
use Rattle.vault_core_model.specs.Vault.{Vault}
use Rattle.vault_core_model.specs.Sound.{Sound}
use Rattle.vault_core_model.specs.Totals.{IsRowFor, items_of}
use Rattle.vault_core_model.specs.RecordOutcomes.{report_of}
use Rattle.vault_core_laws.proofs.Bounds.{items-bounded, items-begun_by, day-le}

pub report_is : (v : Vault) (dept own : List ℕ) (t today charged : ℕ) (row : Row)
    → Sound v → v.last ≤ t → t ≤ last_moment → IsRowFor v dept row → own ≡ dept → today ≡ day t
    → ((items : List Item) → IsRowOf row items → AreBounded items → AreBegunBy today items → today ≤ last_day → charged ≡ charge today items)
    → report_of v dept t ≡ record { dept = own; at = t; admitted = row.admitted; received = row.received; held = row.held; removed = row.removed; handed = row.handed; byte_days = charged }
report_is v dept own t today charged row sound in_time early is same now charges =
    let bounded : AreBounded (items_of v dept) = items-bounded v dept sound (omega arith) in
    let by : AreBegunBy today (items_of v dept) = rw now (items-begun_by v dept t sound in_time) in
    let on_time : today ≤ last_day = rw now (day-le t last_moment early) in
    let total : charged ≡ charge (day t) (items_of v dept) = rw (← now) (charges (items_of v dept) is bounded by on_time) in
    rw (same, is.admitted, is.received, is.held, is.removed, is.handed, total) refl

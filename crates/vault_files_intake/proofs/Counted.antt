-- What the replies to rows hold of the count of failures.
use Rattle.std.proofs.Common.{◌≡◌, List, Bool, true, false, refl}
use Rattle.std.specs.Prelude.{◌||◌, Some}
use Rattle.std.specs.List.{list_any}
use Rattle.vault_base.specs.declared.refusal.Refusal.{Refusal}
use Rattle.vault_core_model.specs.Halts.{is_device_refusal}
use Rattle.vault_files_intake.specs.TakenIn.{is_device_row, report_names_device}
use Rattle.vault_files_intake.specs.declared.report.RowReply.{RowReply}

neither : (b c : Bool) → (b || c) ≡ false → (b ≡ false) × (c ≡ false)
neither true c e = absurd (cc)
neither false c e = (refl, e)

-- neither the rows hold it, nor what stopped them
pub none_stopped : (rows : List RowReply) (r : Refusal) → report_names_device rows (Some r) ≡ false → (list_any is_device_row rows ≡ false) × (is_device_refusal r ≡ false)
none_stopped rows r e = neither (list_any is_device_row rows) (is_device_refusal r) e

-- The command of a line without a reading is at the moment that the clock shows.
use Rattle.std.proofs.Common.{◌≡◌, ℕ, List, Option, Some}
use Rattle.vault_core_model.specs.declared.command.Timed.{Timed}
use Rattle.vault_lines_read.specs.Stamped.{stamped_line_of}
use Rattle.vault_lines_read.specs.declared.read_line.Line.TheVariants.{Command}
use Rattle.vault_lines_read.proofs.StampedLemmas.{command-is-spelled}

pub stamped-at : (moment : Option ℕ) (bytes : List ℕ) (t : Timed) → stamped_line_of moment bytes ≡ Command t → moment ≡ Some t.at
stamped-at moment bytes t e = (command-is-spelled moment bytes t e).1.3

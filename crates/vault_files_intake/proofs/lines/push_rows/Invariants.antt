use Rattle.std.proofs.Common.{◌≡◌, ◌++◌, take}
use Rattle.std.specs.Prelude.{string_bytes}
use Rattle.vault_files_intake.specs.Lines.{row_lines}
use Rattle.vault_files_intake.proofs.lines.push_rows.Given as goal

abbrev pub invariant-loop-row : goal.invariant-loop-row
invariant-loop-row l = string_bytes l.out ≡ string_bytes l.initial.out ++ row_lines (take l.row-index l.rows)

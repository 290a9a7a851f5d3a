use Rattle.std.proofs.Common.{◌≡◌, ◌++◌, length}
use Rattle.std.specs.Prelude.{string_bytes}
use Rattle.vault_files_texts.specs.Certificate.{of_which}
use Rattle.vault_files_texts.proofs.certificate.push_each_tenure.Given as goal

-- the lines so far, and those of the tenures that are left, are the lines of all
abbrev pub invariant-loop-rest : goal.invariant-loop-rest
invariant-loop-rest l = string_bytes l.out ++ of_which l.removed l.rest ≡ string_bytes l.initial.out ++ of_which l.removed l.initial.rest

-- the tenures that are left
abbrev pub decreases-loop-rest : goal.decreases-loop-rest
decreases-loop-rest l = length l.rest

use Rattle.std.proofs.Common.{◌≡◌, length}
use Rattle.vault_core_evidence.specs.Departments.{tenures_fit}
use Rattle.vault_core_evidence.proofs.holders.tenures_fit.Given as goal

-- all fit exactly where those that are left do
abbrev pub invariant-loop-rest : goal.invariant-loop-rest
invariant-loop-rest l = tenures_fit l.initial.rest l.own l.others l.end ≡ tenures_fit l.rest l.own l.others l.end

-- the tenures that are left
abbrev pub decreases-loop-rest : goal.decreases-loop-rest
decreases-loop-rest l = length l.rest

use Rattle.std.proofs.Common.{◌≡◌, length}
use Rattle.vault_core_evidence.specs.Departments.{tenure_fits}
use Rattle.vault_core_evidence.proofs.holders.tenure_fits.Given as goal

-- all fit exactly where those that are left do
abbrev pub invariant-loop-rest : goal.invariant-loop-rest
invariant-loop-rest l = tenure_fits l.from l.to l.dept l.initial.rest l.end ≡ tenure_fits l.from l.to l.dept l.rest l.end

-- the tenures that are left
abbrev pub decreases-loop-rest : goal.decreases-loop-rest
decreases-loop-rest l = length l.rest

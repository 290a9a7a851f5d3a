use Rattle.std.proofs.Common.{◌≡◌, ℕ, List, map, drop}
use Rattle.vault_core_model.specs.declared.records.Tenure.{Tenure}
use Rattle.vault_core_model.specs.Change.{tenured_if}
use Rattle.vault_core_list.specs.Moves.{longer_if}
use Rattle.vault_core_list.proofs.Longer.{begun}
use Rattle.vault_core_list.proofs.bucket.put_in.Given as goal

-- the histories so far have their tenures, and those of the others still wait
abbrev pub invariant-loop-index : goal.invariant-loop-index
invariant-loop-index l = record {
  waiting : drop l.index l.longer ≡ drop l.index l.initial.longer;
  so_far : (bucket : List ℕ) (tenure : Tenure) → l.initial.longer ≡ map (longer_if bucket tenure) l.initial.histories → l.histories ≡ begun (tenured_if bucket tenure) l.index l.initial.histories;
}

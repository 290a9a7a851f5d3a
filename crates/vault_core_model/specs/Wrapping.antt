-- What a wrapper keeps and answers, beside the keeper within it.
use Rattle.std.specs.Prelude.{◌≡◌, Bool, Result}
use Rattle.vault_core_model.specs.declared.halt.Fault.{Fault}
use Rattle.vault_core_model.specs.declared.kept.Kept.{Ghosts}
use Rattle.vault_core_model.specs.Halts.{is_device_given}
use Rattle.vault_core_model.specs.Leaves.{LeavesSame, count_after}

-- a wrapper keeps what the keeper within it keeps
pub record Wraps {W K : Type 0} (wrapper : Ghosts W) (keeper : Ghosts K) (within : W → K) (with_below : W → K → W) : Type 0 where
  -- the keeper that is put within it is the one within it
  pub put : (w : W) (k : K) → within (with_below w k) ≡ k
  -- its vault is that of the keeper within it
  pub vault : (w : W) → wrapper.vault w ≡ keeper.vault (within w)
  -- it is honest only if the keeper within it is
  pub trusts : (w : W) → wrapper.is_honest w → keeper.is_honest (within w)
  -- it is honest after a call of the keeper within it only if it was before
  pub honest : (w : W) (k : K) → (keeper.is_honest k → keeper.is_honest (within w)) → wrapper.is_honest (with_below w k) → wrapper.is_honest w
  -- its count rises as that of the keeper within it
  pub counted : (w : W) (k : K) (failed : Bool) → keeper.count k ≡ count_after (keeper.count (within w)) failed → wrapper.count (with_below w k) ≡ count_after (wrapper.count w) failed

-- a wrapper has seen a call: the keeper within it is as it was, and the wrapper is as a read leaves it
pub record HasSeen {W K : Type 0} (wrapper : Ghosts W) (within : W → K) (old new : W) (failed : Bool) : Type 0 where
  pub below : within new ≡ within old
  pub left : LeavesSame wrapper old new failed

-- an answer in the place of another: where who answers is honest it is that one, and it is a failure of the device just where that is
pub record AnswersFor {X : Type 0} (honest : Type 0) (result answered : Result X Fault) : Type 0 where
  pub same : honest → result ≡ answered
  pub failed : is_device_given result ≡ is_device_given answered

-- What any number of calls leaves of what keeps a vault.
use Rattle.std.specs.Prelude.{◌≡◌, ◌≤◌, Result, IfOk}
use Rattle.std.specs.Global.{Vec}
use Rattle.vault_core_model.specs.declared.kept.Kept.{Ghosts}
use Rattle.vault_core_model.specs.declared.reply.Reply.{Reply}
use Rattle.vault_core_model.specs.Leaves.{Standing, standing, count_after_all}

-- it is honest after them only if it was before, and its count of failures is no less
pub record IsLeftNoLess (old new : Standing) : Type 0 where
  pub honest : new.is_honest → old.is_honest
  pub counted : old.count ≤ new.count

-- the same, and Steady holds: it says where a rise of the count is reported, and that the count is as it was where it isn't
pub record IsLeftSteady (old new : Standing) (Steady : Type 0) : Type 0 where
  pub honest : new.is_honest → old.is_honest
  pub counted : old.count ≤ new.count
  pub steady : Steady

-- it is honest after commands only if it was before, and the count rises by one for each reply to them that reports that the device failed, up to its greatest value
pub record IsLeftByAll {E : Type 0} (old new : Standing) (result : Result (Vec Reply) E) : Type 0 where
  pub honest : new.is_honest → old.is_honest
  pub counted : IfOk result (λ replies. new.count ≡ count_after_all old.count replies.items)

-- what calls leave, whatever they report
abbrev pub LeavesNoLess : {K : Type 0} → Ghosts K → K → K → Type 0
LeavesNoLess g old new = IsLeftNoLess (standing g old) (standing g new)

-- what calls leave that report a failed device as Steady says
abbrev pub LeavesSteady : {K : Type 0} → Ghosts K → K → K → Type 0 → Type 0
LeavesSteady g old new Steady = IsLeftSteady (standing g old) (standing g new) Steady

-- what commands leave that have these replies, or none
abbrev pub LeavesByAll : {K E : Type 0} → Ghosts K → K → K → Result (Vec Reply) E → Type 0
LeavesByAll g old new result = IsLeftByAll (standing g old) (standing g new) result

-- What an intake, or a part of one, leaves of what keeps its vault, and of its folder.
use Rattle.std.specs.Prelude.{◌≡◌, ◌≤◌, ◌⊎◌, ℕ, Bool, false}
use Rattle.vault_core_model.specs.Leaves.{RoseOrIsFull, Standing, standing}
use Rattle.vault_core_model.specs.declared.kept.Kept.{Ghosts}
use Rattle.vault_files_intake.specs.declared.folder.Folder.{Ghosts as Holding}

-- The keeper is honest after it only if it was before, and neither its count of failures nor the folder's is less. Stopped says that it stops for a failing device: then one of the counts rose, or stands at its greatest value. Where it names no failing device, as what stopped it or in a row, the keeper's count is as it was.
pub record IsLeftByIntake (old new : Standing) (there there' : ℕ) (Stopped : Type 0) (named : Bool) : Type 0 where
  pub honest : new.is_honest → old.is_honest
  pub counted : old.count ≤ new.count
  pub counted_there : there ≤ there'
  pub device : Stopped → RoseOrIsFull old.count new.count ⊎ RoseOrIsFull there there'
  pub steady : named ≡ false → new.count ≡ old.count

-- the same, of the keeper and the folder of a call before it and after it
abbrev pub LeavesBoth : {K : Type 0} → Ghosts K → K → K → {F : Type 0} → Holding F → F → F → Type 0 → Bool → Type 0
LeavesBoth g old new f before after Stopped named = IsLeftByIntake (standing g old) (standing g new) (f.count before) (f.count after) Stopped named

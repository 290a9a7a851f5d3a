-- What the types of its values say of an admission.
use Rattle.std.specs.Prelude.{List, [], ◌∷◌, IfSome}
use Rattle.vault_core_model.specs.declared.records.Setting.{Setting}
use Rattle.vault_core_model.specs.declared.change.Admission.{Admission}
use Rattle.vault_store_edits.specs.Typed.{IsTypedEntry, IsTypedSetting, IsTypedNote}

-- of the first of these settings, if there is one
abbrev pub IsFirstTyped : List Setting → Type 0
IsFirstTyped [] = Unit {0}
IsFirstTyped (s ∷ ss) = IsTypedSetting s

pub record IsTypedAdmission (a : Admission) : Type 0 where
  pub entry : IsTypedEntry a.history.entry
  pub setting : IsFirstTyped a.history.settings
  pub note : IfSome a.note IsTypedNote

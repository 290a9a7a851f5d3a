-- The rights that texts name.
use Rattle.std.specs.Prelude.{ℕ, List, [], ◌∷◌, Result, Ok}
use Rattle.vault_base.specs.Right.{right_of}
use Rattle.vault_base.specs.declared.refusal.Refusal.{Refusal}
use Rattle.vault_core_model.specs.Rights.{no_rights, with_right}
use Rattle.vault_core_model.specs.declared.rights.Rights.{Rights}
use Rattle.vault_values.specs.Fault.{◌>>=◌, or_invalid}

-- these rights and those of the names
abbrev pub with_rights_of : List (List ℕ) → Rights → Result Rights Refusal
with_rights_of [] rights = Ok rights
with_rights_of (name ∷ names) rights = do
  right ← or_invalid (right_of name)
  with_rights_of names (with_right right rights)

unfoldable pub rights_named : List (List ℕ) → Result Rights Refusal
rights_named names = with_rights_of names no_rights

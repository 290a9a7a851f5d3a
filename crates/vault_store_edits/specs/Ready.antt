-- When a part of a transaction over the tables of a vault can be made.
use Rattle.std.specs.Prelude.{◌≡◌, Bool, IsTrue}
use Rattle.sqlite.specs.Effect.{IsDatabase}
use Rattle.sqlite.specs.State.{State}
use Rattle.vault_audit_model.specs.Tables.{vault_schema}

-- The connection is open over tables of a vault's schema, which obey it. The vault registers contents that are kept outside, or doesn't.
pub record IsReady (external : Bool) (s : State) : Type 0 where
  pub is_open : IsTrue s.is_open
  pub schema : s.now.schema ≡ vault_schema external
  pub sound : IsDatabase s.now

-- What the next opening finds of a vault that is kept.
use Rattle.std.specs.Prelude.{◌≡◌, ◌⊎◌, ℕ, ◌≤◌, List, [], ◌∷◌, IsTrue}
use Rattle.sqlite_trees.specs.declared.store.Store.{Ghosts}
use Rattle.sqlite.specs.Effect.{Database}
use Rattle.sqlite.specs.Held.{Held, state}
use Rattle.sqlite.specs.State.{State, HasCleanDisk, IsLive}
use Rattle.vault_core_model.specs.Allowed.{Allows}
use Rattle.vault_core_model.specs.Change.{changed}
use Rattle.vault_core_model.specs.declared.change.Change.{Change}
use Rattle.vault_core_model.specs.declared.command.Timed.{Timed}
use Rattle.vault_core_model.specs.declared.reply.Reply.{Reply}
use Rattle.vault_core_model.specs.Step.{IsRun}
use Rattle.vault_core_model.specs.Vault.{Vault}
use Rattle.vault_audit_model.specs.Spells.{AreSound}
use Rattle.vault_store.specs.declared.sql_keeper.SqlKeeper.{SqlKeeper}
use Rattle.vault_store.specs.Left.{LeavesOneOf}
use Rattle.vault_store.specs.VaultOf.{vault_of}

-- a connection as an opening gives it, over trees that a crash at this moment may leave
pub record IsNextOpening (left opened : State) : Type 0 where
  pub is_open : IsTrue opened.is_open
  pub settled : opened.now ≡ opened.committed
  pub live : IsLive opened
  pub found : ∥ left.may_leave opened.committed.trees ∥₁

-- a change, with its moment, was one that the vault allows, and the tables spell the vault with it, soundly
pub record IsSoundWith (db : Database) (v : Vault) (c : ℕ × Change) : Type 0 where
  pub in_time : v.last ≤ c.0
  pub allowed : Allows v c.0 c.1
  pub sound : AreSound db (changed v c.0 c.1)

-- the tables spell the vault soundly, or the vault with one of these changes
abbrev pub AreSoundFor : Database → Vault → List (ℕ × Change) → Type 0
AreSoundFor db v [] = AreSound db v
AreSoundFor db v (c ∷ cs) = IsSoundWith db v c ⊎ AreSoundFor db v cs

-- Where a crash leaves a vault, or it with one of these changes, the next opening finds sound tables, of that.
abbrev pub FindsWhatIsLeft : {S T : Type 0} → Ghosts S → Ghosts T → Type 0
FindsWhatIsLeft {S} {T} g h =
    (left : Held S) (v : Vault) (refused : List (ℕ × Change)) (opened : Held T) → LeavesOneOf (state g left) v refused → IsNextOpening (state g left) (state h opened) → ∥ AreSoundFor (state h opened).now v refused ∥₁

-- So of each keeper, whatever was asked of it and whatever it answered: the next opening finds sound tables, of its vault, which has all
-- changes that were acknowledged, or of that with one change more, which was refused after them.
abbrev pub FindsWhatIsKept : {S T : Type 0} → Ghosts S → Ghosts T → Type 0
FindsWhatIsKept {S} {T} g h =
    (k : SqlKeeper S g) (opened : Held T) → HasCleanDisk (state g k.conn) → IsNextOpening (state g k.conn) (state h opened) → ∥ AreSoundFor (state h opened).now (vault_of g k) k.refused.items ∥₁

-- While its connection is open, it finds that vault alone.
abbrev pub FindsItAlone : {S T : Type 0} → Ghosts S → Ghosts T → Type 0
FindsItAlone {S} {T} g h =
    (k : SqlKeeper S g) (opened : Held T) → HasCleanDisk (state g k.conn) → IsTrue (state g k.conn).is_open → IsNextOpening (state g k.conn) (state h opened) → ∥ AreSound (state h opened).now (vault_of g k) ∥₁

-- Where commands were carried out over a keeper, that is the machine's vault after them, or that with one change more.
abbrev pub FindsTheRun : {S T : Type 0} → Ghosts S → Ghosts T → Type 0
FindsTheRun {S} {T} g h =
    (v : Vault) (commands : List Timed) (replies : List Reply) (k : SqlKeeper S g) (opened : Held T)
    → HasCleanDisk (state g k.conn) → IsRun v commands replies (vault_of g k) → IsNextOpening (state g k.conn) (state h opened)
    → ∥ ((w : Vault) × IsRun v commands replies w × AreSoundFor (state h opened).now w k.refused.items) ∥₁

-- What the next opening finds is the vault that is kept, or it with one refused change.
use Rattle.std.proofs.Common.{◌≡◌, ℕ, List, [], ◌∷◌, IsTrue, sym, subst, inl, inr}
use Rattle.std.proofs.Math.Logic.{∥∥₁_elim, ∥∥₁_map}
use Rattle.sqlite_trees.specs.declared.store.Store.{Ghosts}
use Rattle.sqlite_trees.specs.Objects.{catalog_tree}
use Rattle.sqlite_trees.specs.Tree.{Trees}
use Rattle.sqlite_catalog.proofs.ReadLemmas.{lists_once}
use Rattle.sqlite.specs.Effect.{Database}
use Rattle.sqlite.specs.Held.{state}
use Rattle.sqlite.specs.State.{State, IsLive}
use Rattle.vault_core_model.specs.Change.{changed}
use Rattle.vault_core_model.specs.declared.change.Change.{Change}
use Rattle.vault_core_model.specs.Vault.{Vault}
use Rattle.vault_audit_model.specs.Spells.{AreSound}
use Rattle.vault_audit_model.specs.Tables.{vault_schema}
use Rattle.vault_store_apply.specs.Left.{IsFoundIn}
use Rattle.vault_store.specs.Acknowledged.{AreSoundFor, FindsItAlone, FindsWhatIsLeft, FindsWhatIsKept, FindsTheRun}
use Rattle.vault_store.specs.Left.{IsOneFoundIn}
use Rattle.vault_store.specs.VaultOf.{vault_of}
use Rattle.vault_store.proofs.KeptLemmas.{kept_leaves_alone}

module _ (opened : State) (is_open : IsTrue opened.is_open) (live : IsLive opened) (settled : opened.now ≡ opened.committed) where
  -- trees list one schema, so that of the opening is the one of the vault's file
  read_again : (v : Vault) → IsFoundIn v opened.committed.trees → AreSound opened.now v
  read_again v found =
      let db = opened.committed in
      let same = lists_once (db.trees catalog_tree) db.schema (vault_schema v.external) (live is_open).1.lists found.listed.lists in
      subst (λ (d : Database). AreSound d v) (sym settled) (subst (λ s. AreSound (record { schema = s; trees = db.trees }) v) (sym same) found.spelled)

  read_all : (v : Vault) (refused : List (ℕ × Change)) → IsOneFoundIn v refused opened.committed.trees → AreSoundFor opened.now v refused
  read_all v [] found = read_again v found
  read_all v (c ∷ cs) (inl it) = inl record { in_time = it.in_time; allowed = it.allowed; sound = read_again (changed v c.0 c.1) it.found }
  read_all v (c ∷ cs) (inr more) = inr (read_all v cs more)

pub finds_what_is_left : {S T : Type 0} (g : Ghosts S) (h : Ghosts T) → FindsWhatIsLeft g h
finds_what_is_left g h left v refused opened leaves next =
    ∥∥₁_map next.found (λ may. read_all (state h opened) next.is_open next.live next.settled v refused (leaves _ may))

pub finds_what_is_kept : {S T : Type 0} (g : Ghosts S) (h : Ghosts T) → FindsWhatIsKept g h
finds_what_is_kept g h k opened clean next =
    ∥∥₁_elim k.kept squash₁ (λ kept. finds_what_is_left g h k.conn (vault_of g k) k.refused.items opened (kept clean).left next)

pub finds_it_alone : {S T : Type 0} (g : Ghosts S) (h : Ghosts T)
    → ((it : S) (trees : Trees) → IsTrue (g.view it).is_open → g.recovers it trees → trees ≡ (g.view it).committed) → FindsItAlone g h
finds_it_alone g h settled k opened clean is_open next =
    let v = vault_of g k in
    ∥∥₁_elim k.kept squash₁ (λ kept. finds_what_is_left g h k.conn v [] opened (kept_leaves_alone g k.conn (settled k.conn.store) v k.refused.items (kept clean) is_open) next)

pub finds_the_run : {S T : Type 0} (g : Ghosts S) (h : Ghosts T) → FindsTheRun g h
finds_the_run g h v commands replies k opened clean ran next = ∥∥₁_map (finds_what_is_kept g h k opened clean next) (λ found. (vault_of g k, ran, found))

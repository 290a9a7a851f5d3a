use Rattle.std.proofs.Common.{◌≡◌, Bool, refl, subst, rules, arith, true, IsTrue}
use Rattle.sqlite_trees.specs.Tree.{Trees}
use Rattle.sqlite.specs.State.{HasCleanDisk, Survives}
use Rattle.sqlite.specs.Held.{state}
use Rattle.sqlite.proofs.StateLemmas.{survives_then}
use Rattle.sqlite.proofs.Callers.{survives_begin}
use Rattle.vault_audit_model.specs.Tables.{vault_schema}
use Rattle.vault_store_model.specs.Keeping.{Keeps}
use Rattle.vault_core_model.specs.Vault.{Vault}
use Rattle.vault_store_edits.specs.Commits.{Commits, MayCommit}
use Rattle.vault_audit_model.proofs.OutcomeLemmas.{on_ok_then}
use Rattle.vault_store_edits.proofs.TransactionLemmas.{commit_keeps, commit_leaves, refused_keeps, on_ok_here, on_err_then, on_err_here, undone_keeps}
use Rattle.vault_store_edits.proofs.transaction.transact.Goals as goal

pub returns-clause-open : goal.returns-clause-open
returns-clause-open g c clean =
    let old = c.args.conn.now in
    let last = state g.S.Store c.make_open.new.tx.conn.now in
    let begun = c.transaction-tx.ensures.begun in
    let end = c.commit.new.self.0 in
    let same : end ≡ c.conn-2-1.given.0 = search rules in
    let late : HasCleanDisk (state g.S.Store end) = search rules in
    let early : HasCleanDisk last = omega (arith, c.commit.ensures.survives.clean) in
    let parts = rw begun at (c.in_ok-make_open.ensures.edits early (rw begun refl) (rw begun c.tables_obey_their_schema.ensures)) in
    on_ok_then c.commit.result (c.commit.ensures.ok late) (λ fin. (parts.0, subst (λ h. (state g.S.Store h).is_open ≡ true) same fin.1.is_open))

pub returns-clause-done : goal.returns-clause-done
returns-clause-done g c clean =
    let old = c.args.conn.now in
    let last = state g.S.Store c.make_open.new.tx.conn.now in
    let begun = c.transaction-tx.ensures.begun in
    let end = c.commit.new.self.0 in
    let edit = g.P.Part.edit c.args.part.now in
    let same : end ≡ c.conn-2-1.given.0 = search rules in
    let late : HasCleanDisk (state g.S.Store end) = search rules in
    let early : HasCleanDisk last = omega (arith, c.commit.ensures.survives.clean) in
    let parts = rw begun at (c.in_ok-make_open.ensures.edits early (rw begun refl) (rw begun c.tables_obey_their_schema.ensures)) in
    on_ok_then c.commit.result (c.commit.ensures.ok late) (λ fin external has.
    subst (λ h. Commits external (state g.S.Store old) (state g.S.Store h) edit) same (commit_keeps g.S.Store old external last edit (parts.1 external has).0 (parts.1 external has).1 (state g.S.Store end) fin.1))

pub returns-clause-limited : goal.returns-clause-limited
returns-clause-limited g c = on_ok_here c.commit.result c.in_ok-make_open.ensures.limited

pub returns-clause-nothing : goal.returns-clause-nothing
returns-clause-nothing g c clean =
    let old = c.args.conn.now in
    let last = state g.S.Store c.make_open.new.tx.conn.now in
    let begun = c.transaction-tx.ensures.begun in
    let end = c.commit.new.self.0 in
    let edit = g.P.Part.edit c.args.part.now in
    let same : end ≡ c.conn-2-1.given.0 = search rules in
    let late : HasCleanDisk (state g.S.Store end) = search rules in
    let early : HasCleanDisk last = omega (arith, c.commit.ensures.survives.clean) in
    let parts = rw begun at (c.in_ok-make_open.ensures.edits early (rw begun refl) (rw begun c.tables_obey_their_schema.ensures)) in
    on_err_then c.commit.result (c.commit.ensures.err late) (λ e failed (v : Vault) was.
    subst (λ h. Keeps (state g.S.Store h) v) same (let part = parts.1 v.external (was parts.0).0.spells.schema in refused_keeps g.S.Store old v.external last edit part.0 part.1 (state g.S.Store end) e failed v was))

pub returns-clause-crash : goal.returns-clause-crash
returns-clause-crash g c =
    let old = c.args.conn.now in
    let last = state g.S.Store c.make_open.new.tx.conn.now in
    let begun = c.transaction-tx.ensures.begun in
    let end = c.commit.new.self.0 in
    let edit = g.P.Part.edit c.args.part.now in
    let same : end ≡ c.conn-2-1.given.0 = search rules in
    let P : Trees → Type 0 = λ trees. g.P.Part.limits c.args.part.now × IsTrue (state g.S.Store old).is_open × ((external : Bool) → (state g.S.Store old).now.schema ≡ vault_schema external → MayCommit external (state g.S.Store old) edit trees) in
    let whole = survives_then (state g.S.Store old) last (state g.S.Store end) _ _ P (λ _ db none. absurd none)
    (λ late trees is.
    let early : HasCleanDisk last = omega (arith, c.commit.ensures.survives.clean) in
    let parts = rw begun at (c.in_ok-make_open.ensures.edits early (rw begun refl) (rw begun c.tables_obey_their_schema.ensures)) in
    (c.in_ok-make_open.ensures.limited, parts.0, λ external has. commit_leaves g.S.Store old external last edit (parts.1 external has).0 (parts.1 external has).1 trees is))
    (survives_begin g.S.Store old last _ (rw begun at c.make_open.ensures.survives)) c.commit.ensures.survives in
    subst (λ h. Survives (state g.S.Store old) (state g.S.Store h) P) same whole

pub returns-in_err-make_open-clause-nothing : goal.returns-in_err-make_open-clause-nothing
returns-in_err-make_open-clause-nothing g c clean =
    let old = c.args.conn.now in
    let mid = state g.S.Store c.make_open.new.tx.conn.now in
    let begun = c.transaction-tx.ensures.begun in
    let end = c.drop-tx.new.self.0 in
    let same : end ≡ c.conn-1.given.0 = search rules in
    let late : HasCleanDisk (state g.S.Store end) = search rules in
    let early : HasCleanDisk mid = omega (arith, c.drop-tx.ensures.survives.clean) in
    let all : (v : Vault) → Keeps (state g.S.Store old) v → Keeps (state g.S.Store c.conn-1.given.0) v =
    λ v was.
    let kept = rw begun at (c.in_err-make_open.ensures.kept v.external early (rw begun refl) (rw begun c.tables_obey_their_schema.ensures)) in
    subst (λ h. Keeps (state g.S.Store h) v) same (undone_keeps g.S.Store old mid (state g.S.Store end) (kept (λ is_open. (was is_open).0.spells.schema)) (c.drop-tx.ensures.undone late) v was) in
    on_err_here _ all

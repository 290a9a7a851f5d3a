use Rattle.std.proofs.Common.{sym, subst, ◌∙◌, arith}
use Rattle.sqlite.specs.Held.{state}
use Rattle.sqlite.specs.State.{HasCleanDisk, Survives}
use Rattle.sqlite.proofs.StateLemmas.{survives_then}
use Rattle.vault_audit_model.specs.Spells.{AreSoundAs}
use Rattle.vault_store.proofs.TableLemmas.{same_tables}
use Rattle.vault_store.proofs.look.look_as.Goals as goal

pub returns-in-Err-clause-damaged : goal.returns-in-Err-clause-damaged
returns-in-Err-clause-damaged g c clean t stated v is =
    let early : HasCleanDisk (state g.S.Store c.audit.new.conn) = omega (arith, clean, c.end_transaction.ensures.crash.clean) in
    c.in-Err.ensures.damaged early t stated v (subst (λ db. AreSoundAs c.args.schema_version db v) (sym (c.in-Err.ensures.kept early (t, stated))) is)

pub returns-in-Err-clause-healthy : goal.returns-in-Err-clause-healthy
returns-in-Err-clause-healthy g c healthy =
    let early : HasCleanDisk (state g.S.Store c.audit.new.conn) = omega (arith, healthy.clean, c.end_transaction.ensures.crash.clean) in
    c.in-Err.ensures.healthy record {
      clean = early;
      unfailed = omega (arith, healthy.unfailed, c.end_transaction.ensures.crash.counts);
      is_open = c.end_transaction.ensures.was_open healthy.clean healthy.is_open;
      unlimited = sym c.end_transaction.ensures.crash.limit ∙ healthy.unlimited;
    }

pub returns-in-Err-clause-crash : goal.returns-in-Err-clause-crash
returns-in-Err-clause-crash g c =
    survives_then (state g.S.Store c.args.conn.now) (state g.S.Store c.audit.new.conn) (state g.S.Store c.end_transaction.new.conn) _ _ (λ _. ⊥) (λ _ trees none. none) (λ _ trees none. none) c.audit.ensures.look.crash c.end_transaction.ensures.crash

pub returns-in-Err-clause-tables : goal.returns-in-Err-clause-tables
returns-in-Err-clause-tables g c clean =
    let old = c.args.conn.now in
    let new = c.end_transaction.new.conn in
    let all : Survives (state g.S.Store old) (state g.S.Store new) (λ _. ⊥) =
    survives_then (state g.S.Store old) (state g.S.Store c.audit.new.conn) (state g.S.Store new) _ _ (λ _. ⊥) (λ _ trees none. none) (λ _ trees none. none) c.audit.ensures.look.crash c.end_transaction.ensures.crash in
    same_tables g.S.Store old new (g.met.S.Store.settled old.store) (g.met.S.Store.stays new.store) clean all (c.connection_is_at_rest.ensures c.requires) (c.connection_is_at_rest-in-Err.ensures (c.end_transaction.ensures.mode clean))

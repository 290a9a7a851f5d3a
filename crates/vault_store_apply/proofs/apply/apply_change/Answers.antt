use Rattle.sqlite.specs.Held.{state}
use Rattle.sqlite.proofs.StateLemmas.{survives_weaker}
use Rattle.vault_core_model.specs.Change.{changed}
use Rattle.vault_store_apply.specs.Left.{IsFoundIn}
use Rattle.vault_store_apply.proofs.apply.apply_change.Goals as goal

pub returns-clause-crash : goal.returns-clause-crash
returns-clause-crash g c v was later allowed =
    survives_weaker (state g.S.Store c.args.conn.now) (state g.S.Store c.make.new.conn) _ (IsFoundIn (changed v c.args.at c.args.change.now))
    (λ late trees found. found (c.requires.known.0 (c.make.ensures.honest late)) later allowed) (c.make.ensures.crash v was)

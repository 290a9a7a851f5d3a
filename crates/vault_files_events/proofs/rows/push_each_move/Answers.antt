use Rattle.vault_core_evidence.specs.Events.{as_admitted, move_event}
use Rattle.vault_files_events.specs.Asked.{is_asked}
use Rattle.vault_files_events.proofs.Adding.{adds_end, adds_turn}
use Rattle.vault_files_events.proofs.rows.push_each_move.Goals as goal

pub loop-tenure-preserved : goal.loop-tenure-preserved
loop-tenure-preserved c =
    adds_turn (is_asked c.args.before.now) (move_event (as_admitted c.args.entry.now)) c.args.rows.now c.loop-tenure.rows c.push_move.new.rows c.args.moves.now c.loop-tenure.tenure-index c.tenure-item.result
    c.loop-tenure-test.true c.tenure-item.is c.loop-tenure.invariant c.in_ok-push_move.ensures

pub returns : goal.returns
returns c =
    adds_end (is_asked c.args.before.now) (move_event (as_admitted c.args.entry.now)) c.args.rows.now c.loop-tenure.rows c.args.moves.now c.loop-tenure.tenure-index c.loop-tenure-test.false c.loop-tenure.invariant

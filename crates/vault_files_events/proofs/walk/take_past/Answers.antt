use Rattle.vault_files_events.specs.EventsText.{event_rows}
use Rattle.vault_files_events.specs.Past.{asked_past}
use Rattle.vault_files_events.proofs.Walking.{on_err, some_none}
use Rattle.vault_files_events.proofs.walk.take_past.Goals as goal

pub returns-in_err-rows-clause-err : goal.returns-in_err-rows-clause-err
returns-in_err-rows-clause-err g c =
    on_err c.from_residual.result (some_none g.T.Taker.took g.met.T.Taker.in_turn c.args.taker.now (event_rows (asked_past c.args.before.now c.args.past)))

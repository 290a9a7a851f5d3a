use Rattle.std.proofs.Common.{◌≡◌, IfOk, OnErr, subst}
use Rattle.vault_core_model.specs.Vault.{Vault}
use Rattle.vault_files_events.specs.Taking.{TookSome}
use Rattle.vault_core_evidence.specs.Events.{events_asked}
use Rattle.vault_files_events.specs.Counts.{counts}
use Rattle.vault_files_events.specs.EventsText.{event_rows, events_header}
use Rattle.vault_files_events.proofs.Walking.{both_some, both_taken, on_err, some_sooner, some_whole}
use Rattle.vault_files_events.proofs.walk.take_events.Goals as goal

pub returns-in_err-take-clause-err : goal.returns-in_err-take-clause-err
returns-in_err-take-clause-err g c = λ clean.
    on_err c.from_residual.result
    (some_sooner g.T.Taker.took c.args.taker.now c.take.new.self events_header (event_rows (events_asked c.args.before.now (g.K.Kept.vault c.args.keeper.now))) c.in_err-take.ensures.err)

pub returns-in_err-entries-clause-err : goal.returns-in_err-entries-clause-err
returns-in_err-entries-clause-err g c = λ clean.
    on_err c.from_residual-in_err-entries.result
    (some_sooner g.T.Taker.took c.args.taker.now c.take.new.self events_header (event_rows (events_asked c.args.before.now (g.K.Kept.vault c.args.keeper.now)))
    (some_whole g.T.Taker.took c.args.taker.now c.take.new.self events_header c.in_ok-take.ensures.ok))

pub returns-clause-ok : goal.returns-clause-ok
returns-clause-ok g c = λ clean.
    let P : Vault → Type 0 = λ w. IfOk c.take_each.result (λ n. g.T.Taker.took c.take.new.self (event_rows (events_asked c.args.before.now w)) c.take_each.new.taker × (n ≡ counts (events_asked c.args.before.now w))) in
    let v = g.K.Kept.vault c.args.keeper.now in
    both_taken g.T.Taker.took g.met.T.Taker.in_turn c.args.taker.now c.take.new.self c.take_each.new.taker events_header (event_rows (events_asked c.args.before.now v)) c.take_each.result
    (λ n. n ≡ counts (events_asked c.args.before.now v)) c.in_ok-take.ensures.ok (subst P c.in_ok-entries.ensures.leaves.same (c.take_each.ensures.ok clean))

pub returns-clause-err : goal.returns-clause-err
returns-clause-err g c = λ clean.
    let P : Vault → Type 0 = λ w. OnErr c.take_each.result (TookSome g.T.Taker.took c.take.new.self (event_rows (events_asked c.args.before.now w)) c.take_each.new.taker) in
    both_some g.T.Taker.took g.met.T.Taker.in_turn c.args.taker.now c.take.new.self c.take_each.new.taker events_header (event_rows (events_asked c.args.before.now (g.K.Kept.vault c.args.keeper.now))) c.take_each.result
    c.in_ok-take.ensures.ok (subst P c.in_ok-entries.ensures.leaves.same (c.take_each.ensures.err clean))

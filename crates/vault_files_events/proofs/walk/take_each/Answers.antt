use Rattle.std.proofs.Common.{rules, IfSome, ◌<◌, ◌≡◌, ◌+◌, length, subst, arith}
use Rattle.vault_base.specs.Name.{is_version_id}
use Rattle.vault_core_model.specs.Vault.{Vault, history_of}
use Rattle.vault_files_events.specs.Counts.{counts}
use Rattle.vault_files_events.specs.EventsText.{asked_found, event_rows}
use Rattle.vault_files_events.specs.Taking.{TookSome}
use Rattle.vault_files_events.specs.Typed.{IsTyped}
use Rattle.vault_files_events.proofs.TypedWalk.{next_typed}
use Rattle.vault_files_events.proofs.Walking.{first_some, its_id, next_counted, next_some, next_taken, on_err}
use Rattle.vault_files_events.proofs.walk.take_each.Goals as goal

pub returns-in_err-more-clause-err : goal.returns-in_err-more-clause-err
returns-in_err-more-clause-err g c = λ clean.
    let before = c.in_err-more.ensures.leaves.honest clean in
    let first = c.loop-place.invariant.leaves.honest before in
    let v = g.K.Kept.vault c.args.keeper.now in
    let low : c.loop-place.place < length v.histories = omega (arith, c.loop-place-test.true, c.requires.entries first) in
    let id : c.loop-place.place + 1 ≡ c.in-Some.id = its_id (is_version_id (c.loop-place.place + 1)) (c.loop-place.place + 1) c.in-Some.id c.new.result c.new.ensures c.in-Some.is in
    let P : Vault → Type 0 = λ w. TookSome g.T.Taker.took c.loop-place.taker (event_rows (asked_found c.args.before.now (history_of w c.in-Some.id))) c.take_entry.new.taker in
    on_err c.from_residual.result
    (next_some g.T.Taker.took g.met.T.Taker.in_turn c.args.taker.now c.loop-place.taker c.take_entry.new.taker c.args.before.now v c.loop-place.place c.in-Some.id (g.K.Kept.sound _ first) low id
    (c.loop-place.invariant.taken before) (subst P c.loop-place.invariant.leaves.same (c.in_err-more.ensures.err clean)))

pub returns-in_default-and-clause-err : goal.returns-in_default-and-clause-err
returns-in_default-and-clause-err g c = λ clean.
    let before = c.in_ok-more.ensures.leaves.honest clean in
    let first = c.loop-place.invariant.leaves.honest before in
    let v = g.K.Kept.vault c.args.keeper.now in
    let low : c.loop-place.place < length v.histories = omega (arith, c.loop-place-test.true, c.requires.entries first) in
    let id : c.loop-place.place + 1 ≡ c.in-Some.id = its_id (is_version_id (c.loop-place.place + 1)) (c.loop-place.place + 1) c.in-Some.id c.new.result c.new.ensures c.in-Some.is in
    let P : Vault → Type 0 = λ w. g.T.Taker.took c.loop-place.taker (event_rows (asked_found c.args.before.now (history_of w c.in-Some.id))) c.take_entry.new.taker in
    first_some g.T.Taker.took c.args.taker.now c.take_entry.new.taker c.args.before.now v (c.loop-place.place + 1)
    (next_taken g.T.Taker.took g.met.T.Taker.in_turn c.args.taker.now c.loop-place.taker c.take_entry.new.taker c.args.before.now v c.loop-place.place c.in-Some.id (g.K.Kept.sound _ first) low id
    (c.loop-place.invariant.taken before) (subst P c.loop-place.invariant.leaves.same (c.in_ok-more.ensures.ok clean).0))

pub loop-place-preserved : goal.loop-place-preserved
loop-place-preserved g c = record {
  leaves = search rules;
  taken = λ clean.
      let before = c.in_ok-more.ensures.leaves.honest clean in
      let first = c.loop-place.invariant.leaves.honest before in
      let v = g.K.Kept.vault c.args.keeper.now in
      let low : c.loop-place.place < length v.histories = omega (arith, c.loop-place-test.true, c.requires.entries first) in
      let id : c.loop-place.place + 1 ≡ c.in-Some.id = its_id (is_version_id (c.loop-place.place + 1)) (c.loop-place.place + 1) c.in-Some.id c.new.result c.new.ensures c.in-Some.is in
      let P : Vault → Type 0 = λ w. g.T.Taker.took c.loop-place.taker (event_rows (asked_found c.args.before.now (history_of w c.in-Some.id))) c.take_entry.new.taker in
      next_taken g.T.Taker.took g.met.T.Taker.in_turn c.args.taker.now c.loop-place.taker c.take_entry.new.taker c.args.before.now v c.loop-place.place c.in-Some.id (g.K.Kept.sound _ first) low id
      (c.loop-place.invariant.taken before) (subst P c.loop-place.invariant.leaves.same (c.in_ok-more.ensures.ok clean).0);
  typed = λ clean.
      let before = c.in_ok-more.ensures.leaves.honest clean in
      let first = c.loop-place.invariant.leaves.honest before in
      let v = g.K.Kept.vault c.args.keeper.now in
      let low : c.loop-place.place < length v.histories = omega (arith, c.loop-place-test.true, c.requires.entries first) in
      let id : c.loop-place.place + 1 ≡ c.in-Some.id = its_id (is_version_id (c.loop-place.place + 1)) (c.loop-place.place + 1) c.in-Some.id c.new.result c.new.ensures c.in-Some.is in
      let P : Vault → Type 0 = λ w. IfSome (history_of w c.in-Some.id) (λ h. IsTyped h.entry) in
      next_typed v c.loop-place.place c.in-Some.id (g.K.Kept.sound _ first) low id (c.loop-place.invariant.typed before) (subst P c.loop-place.invariant.leaves.same (c.in_ok-more.ensures.typed clean));
  tallied = λ clean.
      let before = c.in_ok-more.ensures.leaves.honest clean in
      let first = c.loop-place.invariant.leaves.honest before in
      let v = g.K.Kept.vault c.args.keeper.now in
      let low : c.loop-place.place < length v.histories = omega (arith, c.loop-place-test.true, c.requires.entries first) in
      let id : c.loop-place.place + 1 ≡ c.in-Some.id = its_id (is_version_id (c.loop-place.place + 1)) (c.loop-place.place + 1) c.in-Some.id c.new.result c.new.ensures c.in-Some.is in
      let P : Vault → Type 0 = λ w. c.in_ok-more.more ≡ counts (asked_found c.args.before.now (history_of w c.in-Some.id)) in
      next_counted c.args.before.now v c.loop-place.place c.in-Some.id c.loop-place.counted c.in_ok-more.more c.in-Some-and.sum (g.K.Kept.sound _ first) low id
      (c.loop-place.invariant.tallied before) (subst P c.loop-place.invariant.leaves.same (c.in_ok-more.ensures.ok clean).1) c.in-Some-and.ensures;
}

use Rattle.std.proofs.Common.{◌≡◌, ◌+◌, true, false, not, take, drop, sym, ap, subst}
use Rattle.vault_core_model.specs.Handing.{Refuses}
use Rattle.vault_core_model.specs.Places.{is_held}
use Rattle.vault_core_list.proofs.Handings.{removed, removed-around, removed-more, removed-held, takes-more, refuses-next}
use Rattle.vault_core_list.proofs.removed.walk.Goals.{else-is_some-via-then-is_some+else-not-take, else-is_some-via-else-is_some}
use Rattle.vault_core_list.proofs.removed.walk.Goals as goal

pub returns-then-not-take : goal.returns-then-not-take
returns-then-not-take g c =
    let hs = c.args.histories.now in
    let i = c.loop-history.history-index in
    let h = c.history-item.result in
    let gone : not (is_held h.entry) ≡ true = ap (λ b. not (not b)) (sym c.if-is_some.ensures) in
    subst (λ es. Refuses g.S.Sink.takes c.args.sink.now es c.take.new.self) (sym (removed-around hs i h c.loop-history-test.true c.history-item.is gone))
    (refuses-next g.S.Sink.takes c.args.sink.now c.loop-history.sink c.take.new.self (removed (take i hs)) h.entry (removed (drop (i + 1) hs)) c.loop-history.invariant c.if-not-take.ensures)

pub loop-history-preserved : goal.loop-history-preserved
loop-history-preserved g c =
    let hs = c.args.histories.now in
    let i = c.loop-history.history-index in
    let h = c.history-item.result in
    elim c.else-is_some.branch [
      | else-is_some-via-then-is_some+else-not-take w ↦
          let gone : not (is_held h.entry) ≡ true = ap (λ b. not (not b)) (sym w.if-is_some.ensures) in
          rw (w.sink-is, removed-more hs i h c.loop-history-test.true c.history-item.is gone)
          (takes-more g.S.Sink.takes c.args.sink.now c.loop-history.sink w.take.new.self (removed (take i hs)) h.entry c.loop-history.invariant w.if-not-take.ensures)
      | else-is_some-via-else-is_some w ↦
          let held : not (is_held h.entry) ≡ false = ap (λ b. not (not b)) (sym w.if-is_some.ensures) in
          rw (w.sink-is, removed-held hs i h c.loop-history-test.true c.history-item.is held) c.loop-history.invariant
    ]

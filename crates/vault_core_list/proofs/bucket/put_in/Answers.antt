use Rattle.std.proofs.Common.{◌≡◌, ◌<◌, ◌∙◌, length, map, sym, arith}
use Rattle.std.proofs.lemmas.List.{take_all, drop_all, append-nil}
use Rattle.vault_core_model.specs.Change.{tenured_if}
use Rattle.vault_core_list.specs.Moves.{longer_if}
use Rattle.vault_core_list.proofs.Longer.{drop-written, next-longer, longer-more, longer-same}
use Rattle.vault_core_list.proofs.bucket.put_in.Goals.{in-Some, in_default}
use Rattle.vault_core_list.proofs.bucket.put_in.Goals as goal

-- one history more
pub loop-index-preserved : goal.loop-index-preserved
loop-index-preserved c =
    let hs = c.args.histories.now in
    let gs = c.loop-index.histories in
    let i = c.loop-index.index in
    let h = c.index-histories-index.result in
    let lt = c.loop-index-test.true in
    let waits : i < length c.loop-index.longer = omega arith in
    let waited : i < length c.args.longer.now = omega arith in
    record {
      waiting = drop-written c.loop-index.longer c.args.longer.now i c.take.new.self waits waited c.loop-index.invariant.waiting;
      so_far = λ bucket tenure given.
          let so_far = c.loop-index.invariant.so_far bucket tenure given in
          let got : c.take.result ≡ longer_if bucket tenure h = c.take.ensures.value ∙ next-longer bucket tenure hs gs c.loop-index.longer c.args.longer.now i h c.index-longer-index.result lt so_far c.index-histories-index.is given c.loop-index.invariant.waiting in
          elim c.match-take.branch [
            | in-Some w ↦ w.histories-is ∙ longer-more bucket tenure hs gs i h w.in-Some.tenures lt so_far c.index-histories-index.is (sym got ∙ w.in-Some.is)
            | in_default w ↦ w.histories-is ∙ longer-same bucket tenure hs gs i h lt so_far c.index-histories-index.is (sym got ∙ w.in_default.is)
          ];
    }

-- all histories
pub returns : goal.returns
returns c = λ bucket tenure given.
    let hs = c.args.histories.now in
    let i = c.loop-index.index in
    let past = c.loop-index-test.false in
    c.loop-index.invariant.so_far bucket tenure given ∙ rw (take_all i hs past, drop_all i hs past) (append-nil (map (tenured_if bucket tenure) hs))

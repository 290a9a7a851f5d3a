use Rattle.std.proofs.Common.{◌≡◌, ◌*◌, true, false, sym, ◌∙◌, arith}
use Rattle.vault_core_model.specs.declared.records.History.{History}
use Rattle.vault_core_model.specs.Places.{is_held_version_in}
use Rattle.vault_core_model.specs.Totals.{last_day_from}
use Rattle.vault_core_list.proofs.HeldSums.{sum-more, sum-other, next-within}
use Rattle.vault_core_list.proofs.bucket.held.Goals.{then-is_held_version_in, else-is_held_version_in}
use Rattle.vault_core_list.proofs.bucket.held.Goals as goal

pub overflow_add-bytes : goal.overflow_add-bytes
overflow_add-bytes c =
    let p = λ (h : History). is_held_version_in c.args.bucket.now h.entry in
    let held : p c.history-item.result ≡ true = sym c.is_held_version_in.ensures ∙ c.if-is_held_version_in.true in
    omega (arith, c.loop-history.invariant.bytes_so_far, c.requires.bytes_fit, next-within (λ h. h.entry.size) p c.args.histories.now c.loop-history.history-index c.history-item.result c.loop-history-test.true c.history-item.is held)

pub overflow_mul-weight : goal.overflow_mul-weight
overflow_mul-weight c =
    let p = λ (h : History). is_held_version_in c.args.bucket.now h.entry in
    let held : p c.history-item.result ≡ true = sym c.is_held_version_in.ensures ∙ c.if-is_held_version_in.true in
    rw c.last_day_from.ensures
    (omega (arith, c.requires.weight_fits, next-within (λ h. h.entry.size * last_day_from h.tenures) p c.args.histories.now c.loop-history.history-index c.history-item.result c.loop-history-test.true c.history-item.is held))

pub overflow_add-weight : goal.overflow_add-weight
overflow_add-weight c =
    let p = λ (h : History). is_held_version_in c.args.bucket.now h.entry in
    let held : p c.history-item.result ≡ true = sym c.is_held_version_in.ensures ∙ c.if-is_held_version_in.true in
    rw c.last_day_from.ensures
    (omega (arith, c.loop-history.invariant.weight_so_far, c.requires.weight_fits, next-within (λ h. h.entry.size * last_day_from h.tenures) p c.args.histories.now c.loop-history.history-index c.history-item.result c.loop-history-test.true c.history-item.is held))

-- one history more
pub loop-history-preserved : goal.loop-history-preserved
loop-history-preserved c =
    let hs = c.args.histories.now in
    let i = c.loop-history.history-index in
    let h = c.history-item.result in
    let p = λ (g : History). is_held_version_in c.args.bucket.now g.entry in
    let size = λ (g : History). g.entry.size in
    let weight = λ (g : History). g.entry.size * last_day_from g.tenures in
    let lt = c.loop-history-test.true in
    let before = c.loop-history.invariant in
    elim c.if-is_held_version_in.branch [
      | then-is_held_version_in w ↦
          let held : p h ≡ true = sym c.is_held_version_in.ensures ∙ w.if-is_held_version_in.true in
          record {
            bytes_so_far = rw (w.bytes-is, before.bytes_so_far) (sym (sum-more size p hs i h lt c.history-item.is held));
            weight_so_far = rw (w.weight-is, before.weight_so_far, w.last_day_from.ensures) (sym (sum-more weight p hs i h lt c.history-item.is held));
          }
      | else-is_held_version_in w ↦
          let other : p h ≡ false = sym c.is_held_version_in.ensures ∙ w.if-is_held_version_in.false in
          record {
            bytes_so_far = rw (w.bytes-is, before.bytes_so_far) (sym (sum-other size p hs i h lt c.history-item.is other));
            weight_so_far = rw (w.weight-is, before.weight_so_far) (sym (sum-other weight p hs i h lt c.history-item.is other));
          }
    ]

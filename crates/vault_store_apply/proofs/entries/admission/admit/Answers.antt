use Rattle.std.proofs.Common.{◌≡◌, ◌+◌, ap, arith, rules}
use Rattle.sqlite.specs.State.{HasCleanDisk}
use Rattle.sqlite.specs.Held.{state}
use Rattle.sqlite.proofs.StateLemmas.{survives_then}
use Rattle.vault_core_model.specs.declared.change.Change.TheVariants as change
use Rattle.vault_store_apply.specs.Applies.{Changes, IsChanged}
use Rattle.vault_store_edits.proofs.TransactionLemmas.{on_err_here, on_err_all}
use Rattle.vault_store_apply.proofs.ApplyLemmas.{on_ok_then, shut_leaves}
use Rattle.vault_store_apply.proofs.AdmissionLemmas.{edits_admission}
use Rattle.vault_store_apply.proofs.LimitLemmas.{admission_in_limits}
use Rattle.vault_store_apply.proofs.entries.admission.admit.Goals as goal

pub returns-clause-done : goal.returns-clause-done
returns-clause-done g c clean =
    let old = state g.S.Store c.args.conn.now in
    let mid = state g.S.Store c.read_context.new.conn in
    let new = state g.S.Store c.commit_part-admitted.new.conn in
    let early : HasCleanDisk mid = omega (arith, clean, c.commit_part-admitted.ensures.crash.clean) in
    let a = c.args.admission.now in
    let t = c.args.at in
    let own : c.from-next.result ≡ a.history.entry.id = search rules in
    let it = change.Admit a in
    on_ok_then (Changes old new t it) c.commit_part-admitted.result (c.commit_part-admitted.ensures.done clean)
    (λ stated v was later allowed. stated.1 v it stated.0.0 (admission_in_limits v t a stated.0.0 allowed stated.0.1) (c.in_ok-place.ensures.read.same early v was) later allowed
    (λ is_open.
    let read = c.in_ok-place.ensures.value early v was (c.requires.known.1 (c.in_ok-place.ensures.read.honest early) v was) in
    let kept = c.in_ok-place.ensures.read.same early v was is_open in
    edits_admission v t a c.in_ok-place.place.config c.in_ok-place.place.sums c.with_version-sums.result c.in_ok-place.place.head c.in_ok-newest.newest (c.from-next.result + 1)
    kept.0.spells.kept.sound later stated.0.0 allowed read.0 read.1 (λ version. c.with_version-sums.ensures) read.2 c.in_ok-newest.ensures (ap (λ n. n + 1) own)))

pub returns-clause-crash : goal.returns-clause-crash
returns-clause-crash g c v was =
    let old = state g.S.Store c.args.conn.now in
    let mid = state g.S.Store c.read_context.new.conn in
    let new = state g.S.Store c.commit_part-admitted.new.conn in
    let a = c.args.admission.now in
    let t = c.args.at in
    let own : c.from-next.result ≡ a.history.entry.id = search rules in
    let it = change.Admit a in
    survives_then old mid new _ _ (IsChanged old v t it) (λ _ trees shut is_open. absurd (shut is_open))
    (λ late trees stated was_open later allowed.
    let early : HasCleanDisk mid = omega (arith, late, c.commit_part-admitted.ensures.crash.clean) in
    stated.1 v it stated.0.0 (admission_in_limits v t a stated.0.0 allowed stated.0.1) (c.in_ok-place.ensures.read.same early v was) later allowed
    (λ is_open.
    let read = c.in_ok-place.ensures.value early v was (c.requires.known.1 (c.in_ok-place.ensures.read.honest early) v was) in
    let kept = c.in_ok-place.ensures.read.same early v was is_open in
    edits_admission v t a c.in_ok-place.place.config c.in_ok-place.place.sums c.with_version-sums.result c.in_ok-place.place.head c.in_ok-newest.newest (c.from-next.result + 1)
    kept.0.spells.kept.sound later stated.0.0 allowed read.0 read.1 (λ version. c.with_version-sums.ensures) read.2 c.in_ok-newest.ensures (ap (λ n. n + 1) own)))
    (c.in_ok-place.ensures.read.crash v was) c.commit_part-admitted.ensures.crash

pub returns-clause-nothing : goal.returns-clause-nothing
returns-clause-nothing g c clean =
    let mid = state g.S.Store c.read_context.new.conn in
    let early : HasCleanDisk mid = omega (arith, clean, c.commit_part-admitted.ensures.crash.clean) in
    on_err_all c.commit_part-admitted.result (c.commit_part-admitted.ensures.nothing clean) (λ keeps v was. keeps v (c.in_ok-place.ensures.read.same early v was))

pub returns-in_err-place-clause-nothing : goal.returns-in_err-place-clause-nothing
returns-in_err-place-clause-nothing g c clean = on_err_here _ (c.in_err-place.ensures.read.same clean)

pub returns-in_err-newest-clause-nothing : goal.returns-in_err-newest-clause-nothing
returns-in_err-newest-clause-nothing g c clean = on_err_here _ (c.in_ok-place.ensures.read.same clean)

pub returns-in_err-place-clause-crash : goal.returns-in_err-place-clause-crash
returns-in_err-place-clause-crash g c v was =
    shut_leaves (state g.S.Store c.args.conn.now) (state g.S.Store c.read_context.new.conn) v c.args.at (change.Admit c.args.admission.now) (c.in_err-place.ensures.read.crash v was)

pub returns-in_err-newest-clause-crash : goal.returns-in_err-newest-clause-crash
returns-in_err-newest-clause-crash g c v was =
    shut_leaves (state g.S.Store c.args.conn.now) (state g.S.Store c.read_context.new.conn) v c.args.at (change.Admit c.args.admission.now) (c.in_ok-place.ensures.read.crash v was)

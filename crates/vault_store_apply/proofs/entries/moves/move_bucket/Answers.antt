use Rattle.std.proofs.Common.{arith}
use Rattle.sqlite.specs.State.{HasCleanDisk}
use Rattle.sqlite.specs.Held.{state}
use Rattle.sqlite.proofs.StateLemmas.{survives_then}
use Rattle.vault_core_model.specs.declared.change.Change.TheVariants as change
use Rattle.vault_store_apply.specs.Applies.{Changes, IsChanged}
use Rattle.vault_store_edits.proofs.TransactionLemmas.{on_err_all, on_err_here}
use Rattle.vault_store_apply.proofs.ApplyLemmas.{on_ok_then, shut_leaves}
use Rattle.vault_store_apply.proofs.ReadLemmas.{reads_then}
use Rattle.vault_store_apply.proofs.MoveLemmas.{edits_move}
use Rattle.vault_store_apply.proofs.entries.moves.move_bucket.Goals as goal

pub returns-clause-done : goal.returns-clause-done
returns-clause-done g c clean =
    let old = state g.S.Store c.args.conn.now in
    let new = state g.S.Store c.commit_part-moved.new.conn in
    let clean2 : HasCleanDisk (state g.S.Store c.read_hands.new.conn) = omega (arith, clean, c.commit_part-moved.ensures.crash.clean) in
    let clean1 = c.in_ok-hands.ensures.read.honest clean2 in
    let t = c.args.at in
    let it = change.MoveBucket c.args.name.now c.args.dept.now in
    let load = c.in_ok-load.load in
    let hands = c.in_ok-hands.hands in
    on_ok_then (Changes old new t it) c.commit_part-moved.result (c.commit_part-moved.ensures.done clean)
    (λ stated v was later allowed.
    let was1 = c.in_ok-load.ensures.read.same clean1 v was in
    let was2 = c.in_ok-hands.ensures.read.same clean2 v was1 in
    stated.1 v it stated.0.0 stated.0.1 was2 later allowed
    (λ is_open.
    let known = c.requires.known.1 (c.in_ok-load.ensures.read.honest clean1) v was in
    let load_is = c.in_ok-load.ensures.value clean1 v was known in
    let read = c.in_ok-hands.ensures.value clean2 v was1 known in
    edits_move v t c.args.name.now c.args.dept.now hands.config hands.giver hands.taker c.without_load-handed.result c.with_load-received.result load.bytes load.weight load.number
    (was2 is_open).0.spells.kept.sound later stated.0.0 allowed read.0 read.1 read.2 load_is.0 load_is.1 load_is.2 c.without_load-handed.ensures c.with_load-received.ensures))

pub returns-clause-crash : goal.returns-clause-crash
returns-clause-crash g c v was =
    let old = state g.S.Store c.args.conn.now in
    let h2 = c.read_hands.new.conn in
    let new = state g.S.Store c.commit_part-moved.new.conn in
    let t = c.args.at in
    let it = change.MoveBucket c.args.name.now c.args.dept.now in
    let load = c.in_ok-load.load in
    let hands = c.in_ok-hands.hands in
    let reads = reads_then (g.met.S.Store.shut_if_dirty c.read_load.new.conn.store) (λ clean _. c.in_ok-load.ensures.open clean) c.in_ok-load.ensures.read c.in_ok-hands.ensures.read in
    survives_then old (state g.S.Store h2) new _ _ (IsChanged old v t it) (λ _ trees shut is_open. absurd (shut is_open))
    (λ late trees stated was_open later allowed.
    let clean2 : HasCleanDisk (state g.S.Store h2) = omega (arith, late, c.commit_part-moved.ensures.crash.clean) in
    let clean1 = c.in_ok-hands.ensures.read.honest clean2 in
    let was1 = c.in_ok-load.ensures.read.same clean1 v was in
    let was2 = c.in_ok-hands.ensures.read.same clean2 v was1 in
    stated.1 v it stated.0.0 stated.0.1 was2 later allowed
    (λ is_open.
    let known = c.requires.known.1 (c.in_ok-load.ensures.read.honest clean1) v was in
    let load_is = c.in_ok-load.ensures.value clean1 v was known in
    let read = c.in_ok-hands.ensures.value clean2 v was1 known in
    edits_move v t c.args.name.now c.args.dept.now hands.config hands.giver hands.taker c.without_load-handed.result c.with_load-received.result load.bytes load.weight load.number
    (was2 is_open).0.spells.kept.sound later stated.0.0 allowed read.0 read.1 read.2 load_is.0 load_is.1 load_is.2 c.without_load-handed.ensures c.with_load-received.ensures))
    (reads.crash v was) c.commit_part-moved.ensures.crash

pub returns-clause-nothing : goal.returns-clause-nothing
returns-clause-nothing g c clean =
    let clean2 : HasCleanDisk (state g.S.Store c.read_hands.new.conn) = omega (arith, clean, c.commit_part-moved.ensures.crash.clean) in
    let clean1 = c.in_ok-hands.ensures.read.honest clean2 in
    on_err_all c.commit_part-moved.result (c.commit_part-moved.ensures.nothing clean)
    (λ keeps v was. keeps v (c.in_ok-hands.ensures.read.same clean2 v (c.in_ok-load.ensures.read.same clean1 v was)))

pub returns-in_err-load-clause-crash : goal.returns-in_err-load-clause-crash
returns-in_err-load-clause-crash g c v was =
    shut_leaves (state g.S.Store c.args.conn.now) (state g.S.Store c.read_load.new.conn) v c.args.at (change.MoveBucket c.args.name.now c.args.dept.now) (c.in_err-load.ensures.read.crash v was)

pub returns-in_err-hands-clause-crash : goal.returns-in_err-hands-clause-crash
returns-in_err-hands-clause-crash g c v was =
    let reads = reads_then (g.met.S.Store.shut_if_dirty c.read_load.new.conn.store) (λ clean _. c.in_ok-load.ensures.open clean) c.in_ok-load.ensures.read c.in_err-hands.ensures.read in
    shut_leaves _ _ v c.args.at (change.MoveBucket c.args.name.now c.args.dept.now) (reads.crash v was)

pub returns-in_err-load-clause-nothing : goal.returns-in_err-load-clause-nothing
returns-in_err-load-clause-nothing g c clean = on_err_here _ (c.in_err-load.ensures.read.same clean)

pub returns-in_err-hands-clause-nothing : goal.returns-in_err-hands-clause-nothing
returns-in_err-hands-clause-nothing g c clean =
    let reads = reads_then (g.met.S.Store.shut_if_dirty c.read_load.new.conn.store) (λ clean _. c.in_ok-load.ensures.open clean) c.in_ok-load.ensures.read c.in_err-hands.ensures.read in
    on_err_here _ (reads.same clean)

use Rattle.std.proofs.Common.{◌+◌, ap, ◌∙◌, arith}
use Rattle.sqlite.specs.State.{HasCleanDisk}
use Rattle.sqlite.specs.Held.{state}
use Rattle.sqlite.proofs.StateLemmas.{survives_then}
use Rattle.vault_core_model.specs.declared.change.Change.TheVariants as change
use Rattle.vault_core_model.specs.Reads.{count_of_settings}
use Rattle.vault_store_apply.specs.EntryParts.{setting_added}
use Rattle.vault_store_apply.specs.Applies.{Changes, IsChanged}
use Rattle.vault_store_edits.proofs.TransactionLemmas.{on_err_here, on_err_all}
use Rattle.vault_store_apply.proofs.ApplyLemmas.{on_ok_then, shut_leaves}
use Rattle.vault_store_apply.proofs.LimitLemmas.{setting_in_limits}
use Rattle.vault_store_apply.proofs.entries.settings.add_setting.Goals as goal

pub returns-clause-done : goal.returns-clause-done
returns-clause-done g c clean =
    let old = state g.S.Store c.args.conn.now in
    let mid = state g.S.Store c.read_setting.new.conn in
    let new = state g.S.Store c.commit_part.new.conn in
    let early : HasCleanDisk mid = omega (arith, clean, c.commit_part.ensures.crash.clean) in
    let id = c.args.id in
    let setting = c.args.setting.now in
    let it = change.AddSetting id setting in
    on_ok_then (Changes old new c.args.at it) c.commit_part.result (c.commit_part.ensures.done clean)
    (λ stated v was later allowed. stated.1 v it stated.0.0 (setting_in_limits v c.args.at id setting stated.0.0 allowed stated.0.1) (c.in_ok-last.ensures.read.same early v was) later allowed
    (λ is_open xs u. ap (λ place. setting_added id place setting c.args.at xs u) (c.in_ok-place.ensures ∙ ap (λ o. count_of_settings o + 1) (c.in_ok-last.ensures.value early v was))))

pub returns-clause-crash : goal.returns-clause-crash
returns-clause-crash g c v was =
    let old = state g.S.Store c.args.conn.now in
    let mid = state g.S.Store c.read_setting.new.conn in
    let new = state g.S.Store c.commit_part.new.conn in
    let id = c.args.id in
    let setting = c.args.setting.now in
    let it = change.AddSetting id setting in
    survives_then old mid new _ _ (IsChanged old v c.args.at it) (λ _ trees shut is_open. absurd (shut is_open))
    (λ late trees stated is_open later allowed.
    let early : HasCleanDisk mid = omega (arith, late, c.commit_part.ensures.crash.clean) in
    stated.1 v it stated.0.0 (setting_in_limits v c.args.at id setting stated.0.0 allowed stated.0.1) (c.in_ok-last.ensures.read.same early v was) later allowed
    (λ is_open xs u. ap (λ place. setting_added id place setting c.args.at xs u) (c.in_ok-place.ensures ∙ ap (λ o. count_of_settings o + 1) (c.in_ok-last.ensures.value early v was))))
    (c.in_ok-last.ensures.read.crash v was) c.commit_part.ensures.crash

pub returns-clause-nothing : goal.returns-clause-nothing
returns-clause-nothing g c clean =
    let mid = state g.S.Store c.read_setting.new.conn in
    let early : HasCleanDisk mid = omega (arith, clean, c.commit_part.ensures.crash.clean) in
    on_err_all c.commit_part.result (c.commit_part.ensures.nothing clean) (λ keeps v was. keeps v (c.in_ok-last.ensures.read.same early v was))

pub returns-in_err-last-clause-crash : goal.returns-in_err-last-clause-crash
returns-in_err-last-clause-crash g c v was =
    shut_leaves (state g.S.Store c.args.conn.now) (state g.S.Store c.read_setting.new.conn) v c.args.at (change.AddSetting c.args.id c.args.setting.now) (c.in_err-last.ensures.read.crash v was)

pub returns-in_err-place-clause-crash : goal.returns-in_err-place-clause-crash
returns-in_err-place-clause-crash g c v was =
    shut_leaves (state g.S.Store c.args.conn.now) (state g.S.Store c.read_setting.new.conn) v c.args.at (change.AddSetting c.args.id c.args.setting.now) (c.in_ok-last.ensures.read.crash v was)

pub returns-in_err-last-clause-nothing : goal.returns-in_err-last-clause-nothing
returns-in_err-last-clause-nothing g c clean = on_err_here _ (c.in_err-last.ensures.read.same clean)

pub returns-in_err-place-clause-nothing : goal.returns-in_err-place-clause-nothing
returns-in_err-place-clause-nothing g c clean = on_err_here _ (c.in_ok-last.ensures.read.same clean)

use Rattle.std.proofs.Common.{[], ◌∷◌, map}
use Rattle.vault_core_evidence.specs.Events.{admission_of, as_admitted, later_tenures, move_event, removal_events, setting_event}
use Rattle.vault_files_events.specs.Adds.{history_by}
use Rattle.vault_files_events.specs.Asked.{is_asked}
use Rattle.vault_files_events.proofs.Adding.{on_four}
use Rattle.vault_files_events.proofs.rows.push_all.Goals as goal

pub returns : goal.returns
returns c =
    let e = as_admitted c.args.entry.now in
    on_four c.push_end.result (is_asked c.args.before.now) c.args.rows.now c.push_admission.new.rows c.push_settings.new.rows c.push_moves.new.rows c.push_end.new.rows
    (admission_of (history_by c.args.entry.now c.args.settings.now c.args.tenures.now) ∷ [])
    (map (setting_event e) c.args.settings.now)
    (map (move_event e) (later_tenures c.args.tenures.now))
    (removal_events e c.args.entry.now.removal)
    c.in_ok-push_admission.ensures c.in_ok-push_settings.ensures c.in_ok-push_moves.ensures c.push_end.ensures

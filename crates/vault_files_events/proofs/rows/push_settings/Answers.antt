use Rattle.vault_core_evidence.specs.Events.{as_admitted, setting_event}
use Rattle.vault_files_events.specs.Asked.{is_asked}
use Rattle.vault_files_events.proofs.Adding.{adds_end, adds_turn}
use Rattle.vault_files_events.proofs.rows.push_settings.Goals as goal

pub loop-setting-preserved : goal.loop-setting-preserved
loop-setting-preserved c =
    adds_turn (is_asked c.args.before.now) (setting_event (as_admitted c.args.entry.now)) c.args.rows.now c.loop-setting.rows c.push_setting.new.rows c.args.settings.now c.loop-setting.setting-index c.setting-item.result
    c.loop-setting-test.true c.setting-item.is c.loop-setting.invariant c.in_ok-push_setting.ensures

pub returns : goal.returns
returns c =
    adds_end (is_asked c.args.before.now) (setting_event (as_admitted c.args.entry.now)) c.args.rows.now c.loop-setting.rows c.args.settings.now c.loop-setting.setting-index c.loop-setting-test.false c.loop-setting.invariant

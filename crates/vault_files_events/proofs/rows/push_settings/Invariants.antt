use Rattle.std.proofs.Common.{filter, map, take}
use Rattle.vault_core_evidence.specs.Events.{as_admitted, setting_event}
use Rattle.vault_files_events.specs.Adds.{Adds}
use Rattle.vault_files_events.specs.Asked.{is_asked}
use Rattle.vault_files_events.proofs.rows.push_settings.Given as goal

-- the records of the settings before this place were added
abbrev pub invariant-loop-setting : goal.invariant-loop-setting
invariant-loop-setting l = Adds l.fn.rows (filter (is_asked l.fn.before) (map (setting_event (as_admitted l.fn.entry)) (take l.setting-index l.settings))) l.rows

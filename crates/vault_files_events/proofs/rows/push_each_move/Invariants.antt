use Rattle.std.proofs.Common.{filter, map, take}
use Rattle.vault_core_evidence.specs.Events.{as_admitted, move_event}
use Rattle.vault_files_events.specs.Adds.{Adds}
use Rattle.vault_files_events.specs.Asked.{is_asked}
use Rattle.vault_files_events.proofs.rows.push_each_move.Given as goal

-- the records of the moves before this place were added
abbrev pub invariant-loop-tenure : goal.invariant-loop-tenure
invariant-loop-tenure l = Adds l.fn.rows (filter (is_asked l.fn.before) (map (move_event (as_admitted l.fn.entry)) (take l.tenure-index l.moves))) l.rows

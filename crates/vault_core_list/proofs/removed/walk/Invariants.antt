use Rattle.std.proofs.Common.{take, map, filter}
use Rattle.std.specs.Prelude.{not}
use Rattle.vault_core_model.specs.Handing.{TakesAll}
use Rattle.vault_core_model.specs.Places.{is_held}
use Rattle.vault_core_list.proofs.removed.walk.Given as goal

-- the sink took the removed entries so far
abbrev pub invariant-loop-history : goal.invariant-loop-history
invariant-loop-history g l = TakesAll g.S.Sink.takes l.initial.sink (map (λ h. h.entry) (filter (λ h. not (is_held h.entry)) (take l.history-index l.histories))) l.sink

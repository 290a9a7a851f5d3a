use Rattle.std.specs.Io.KnownBytes.{Keeps}
use Rattle.vault_io.proofs.retry.write_retrying.Given as goal

-- a write that a signal interrupted added nothing
abbrev pub invariant-loop-turn : goal.invariant-loop-turn
invariant-loop-turn g l = Keeps (g.W.Write.contents l.initial.writer) (g.W.Write.contents l.writer)

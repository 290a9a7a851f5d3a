use Rattle.std.proofs.Common.{◌≡◌, ◌≤◌, ℕ, List, [], vec_len}
use Rattle.std.specs.Io.KnownBytes.{Consumes}
use Rattle.vaultctl_replay.specs.Lines.{advance, asked_in}
use Rattle.vaultctl_replay.specs.Runs.{Finished}
use Rattle.vaultctl_replay.proofs.LineLemmas.{most_kept}
use Rattle.vaultctl_replay.proofs.replay_observed.Given as goal

abbrev pub invariant-loop-turn : goal.invariant-loop-turn
invariant-loop-turn g l = record {
  taken : List ℕ;
  read : Consumes (g.R.Read.remaining l.fn.reader) (g.R.Read.remaining l.reader) taken;
  honest : g.K.Kept.is_honest l.keeper → g.K.Kept.is_honest l.fn.keeper;
  counted : g.K.Kept.count l.fn.keeper ≤ g.K.Kept.count l.keeper;
  finished : Finished (g.K.Kept.is_honest l.keeper) (g.K.Kept.vault l.fn.keeper) (g.K.Kept.count l.fn.keeper) (g.W.Write.contents l.fn.writer) (asked_in most_kept [] taken) (g.K.Kept.vault l.keeper) (g.K.Kept.count l.keeper) (g.W.Write.contents l.writer);
  rest : l.part.items ≡ (advance most_kept [] taken).1;
  bound : vec_len l.part ≤ most_kept;
}

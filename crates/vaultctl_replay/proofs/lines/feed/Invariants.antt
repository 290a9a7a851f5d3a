use Rattle.std.proofs.Common.{◌≡◌, ◌≤◌, take, vec_len}
use Rattle.vaultctl_replay.specs.Lines.{advance, asked_in}
use Rattle.vaultctl_replay.specs.Runs.{Finished}
use Rattle.vaultctl_replay.proofs.lines.feed.Given as goal

abbrev pub invariant-loop-byte : goal.invariant-loop-byte
invariant-loop-byte g l = record {
  honest : g.K.Kept.is_honest l.keeper → g.K.Kept.is_honest l.fn.keeper;
  counted : g.K.Kept.count l.fn.keeper ≤ g.K.Kept.count l.keeper;
  finished : Finished (g.K.Kept.is_honest l.keeper) (g.K.Kept.vault l.fn.keeper) (g.K.Kept.count l.fn.keeper) (g.W.Write.contents l.fn.writer) (asked_in l.room.most l.fn.part.items (take l.byte-index l.piece)) (g.K.Kept.vault l.keeper) (g.K.Kept.count l.keeper) (g.W.Write.contents l.writer);
  rest : l.part.items ≡ (advance l.room.most l.fn.part.items (take l.byte-index l.piece)).1;
  bound : vec_len l.part ≤ l.room.most;
}

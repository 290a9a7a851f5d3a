use Rattle.std.proofs.Common.{◌≡◌, ◌≤◌, length, take}
use Rattle.std.specs.Io.KnownBytes.{Consumes}
use Rattle.httparse.specs.Grammar.{HasNoRequest}
use Rattle.vault_http_request.specs.Head.{IsBlank}
use Rattle.vault_http_request.proofs.Prompt.{IsOpen}
use Rattle.vault_http_request.proofs.read.head.read_head.Given as goal

abbrev pub invariant-loop-turn : goal.invariant-loop-turn
invariant-loop-turn g l = record {
  taken : Consumes (g.R.Read.remaining l.fn.reader) (g.R.Read.remaining l.reader) l.buf.items;
  none : HasNoRequest l.buf.items;
  going : IsOpen l.buf.items;
  count : length l.buf.items ≡ l.turn;
  front : l.blank ≤ length l.buf.items;
  blank : IsBlank (take l.blank l.buf.items);
}

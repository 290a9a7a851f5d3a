use Rattle.std.proofs.Common.{◌≡◌, ◌++◌, ◌∷◌, [], refl, rules, arith, length, subst, length-append}
use Rattle.vault_http_request.proofs.Blank.{pushed_blank}
use Rattle.vault_http_request.proofs.Prompt.{nothing_open, pushed_open, pushed_prompt, pushed_within}
use Rattle.vault_http_request.proofs.Heads.{nothing, started, pushed_whole, pushed_other, refused, too_long, taken_more}
use Rattle.std.proofs.Common.{sym, Some}
use Rattle.vault_http_request.specs.Bytes.{NextByte}
use Rattle.httparse.specs.Spans.{IsRequestOf, RequestOverflows}
use Rattle.std.specs.Io.KnownBytes.{Consumes}
use Rattle.vault_http_request.proofs.read.head.read_head.Goals as goal
use Rattle.vault_http_request.proofs.read.head.read_head.Goals.{then-byte-eq10+in-Ok-Partial, else-byte-eq10}

pub loop-turn-init : goal.loop-turn-init
loop-turn-init g c = record { taken = started _ _ c.requires.empty; none = nothing _ c.requires.empty; going = nothing_open _ c.requires.empty; count = rw c.requires.empty refl; front = omega arith; blank = ([], refl) }

pub returns-in-Ok-Complete-clause-front : goal.returns-in-Ok-Complete-clause-front
returns-in-Ok-Complete-clause-front g c =
    let pushed : c.push.new.self.items ≡ c.loop-turn.buf.items ++ c.in-Ok-Some.byte ∷ [] = search rules in
    let of : IsRequestOf c.push.new.self.items c.parse_lines.new.headers c.in-Ok-Complete.spans = search rules in
    let room : length c.parse_lines.new.headers ≡ 64 = omega arith in
    pushed_whole c.loop-turn.buf.items _ c.in-Ok-Some.byte _ _ pushed c.loop-turn.invariant.none (omega arith) room of

pub returns-in-Err-parse_lines-clause-front : goal.returns-in-Err-parse_lines-clause-front
returns-in-Err-parse_lines-clause-front g c =
    let pushed : c.push.new.self.items ≡ c.loop-turn.buf.items ++ c.in-Ok-Some.byte ∷ [] = search rules in
    let room : length c.loop-turn.headers ≡ 64 = omega arith in
    let over : RequestOverflows 64 c.push.new.self.items = rw (c.as_slice.ensures.value, room) at c.in-Err-parse_lines.ensures.no_room in
    let next : NextByte (g.R.Read.remaining c.loop-turn.reader) (g.R.Read.remaining c.next_byte.new.reader) (Some c.in-Ok-Some.byte) = rw c.in-Ok-Some.field-0-is at c.in-Ok-Some.ensures.next in
    refused _ _ _ (subst (Consumes _ _) (sym pushed) (taken_more _ _ _ _ _ c.loop-turn.invariant.taken next)) over

pub loop-turn-preserved : goal.loop-turn-preserved
loop-turn-preserved g c =
    let pushed : c.push.new.self.items ≡ c.loop-turn.buf.items ++ c.in-Ok-Some.byte ∷ [] = search rules in
    let next : NextByte (g.R.Read.remaining c.loop-turn.reader) (g.R.Read.remaining c.next_byte.new.reader) (Some c.in-Ok-Some.byte) = rw c.in-Ok-Some.field-0-is at c.in-Ok-Some.ensures.next in
    record {
      taken = subst (Consumes _ _) (sym pushed) (taken_more _ _ _ _ _ c.loop-turn.invariant.taken next);
      none = elim c.if-byte-eq10.branch [ then-byte-eq10+in-Ok-Partial w ↦ search rules | else-byte-eq10 w ↦ pushed_other _ _ _ pushed c.loop-turn.invariant.none (search rules) ];
      going =
          elim c.if-byte-eq10.branch [
            | then-byte-eq10+in-Ok-Partial w ↦ pushed_open _ _ _ pushed c.loop-turn.invariant.going (λ _. rw (w.in-Ok-Partial.is, w.in-Ok-Partial.field-0-is, w.as_slice.ensures.value) at w.parse_lines.ensures.unfinished)
            | else-byte-eq10 w ↦ pushed_within _ _ _ pushed c.loop-turn.invariant.going (search rules)
          ];
      count = rw (pushed, length-append) (omega arith);
      front =
          elim c.if-byte-eq10.branch [
            | then-byte-eq10+in-Ok-Partial w ↦ rw (w.blank-is, ← w.as_slice.ensures.value) w.parse_lines.ensures.front
            | else-byte-eq10 w ↦ rw (w.blank-is, pushed, length-append) (omega (arith, c.loop-turn.invariant.front))
          ];
      blank =
          elim c.if-byte-eq10.branch [
            | then-byte-eq10+in-Ok-Partial w ↦ rw (w.blank-is, ← w.as_slice.ensures.value) w.parse_lines.ensures.blank
            | else-byte-eq10 w ↦ rw (w.blank-is) (pushed_blank _ _ _ _ pushed c.loop-turn.invariant.front c.loop-turn.invariant.blank)
          ];
    }

pub returns-clause-front : goal.returns-clause-front
returns-clause-front g c = too_long _ _ _ c.loop-turn.invariant.taken (omega arith) c.loop-turn.invariant.none

pub returns-in-Err-parse_lines-clause-prompt : goal.returns-in-Err-parse_lines-clause-prompt
returns-in-Err-parse_lines-clause-prompt g c =
    let pushed : c.push.new.self.items ≡ c.loop-turn.buf.items ++ c.in-Ok-Some.byte ∷ [] = search rules in
    pushed_prompt _ _ _ pushed c.loop-turn.invariant.going

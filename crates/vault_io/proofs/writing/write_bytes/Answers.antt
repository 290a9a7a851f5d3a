use Rattle.std.proofs.Common.{◌≡◌, ℕ, List, ◌++◌, take, drop, append_assoc}
use Rattle.std.proofs.lemmas.List.{take-append-drop}
use Rattle.std.proofs.KnownBytes.{Appends-trans}
use Rattle.vault_io.proofs.writing.write_bytes.Goals as goal

cut : (bytes sent rest later : List ℕ) (n : ℕ) → bytes ≡ sent ++ rest → later ≡ drop n rest → bytes ≡ (sent ++ take n rest) ++ later
cut bytes sent rest later n so e = rw (e, append_assoc, take-append-drop) so

pub loop-turn-preserved : goal.loop-turn-preserved
loop-turn-preserved g c =
    let sent = c.loop-turn.invariant.0 in
    let so = c.loop-turn.invariant.1 in
    let wrote = Appends-trans _ _ _ _ _ c.loop-turn.invariant.2 c.in-Ok.ensures.ok in
    let rest = c.loop-turn.rest.now in
    let n = c.in-Ok.n in
    (sent ++ take n rest, cut c.args.bytes.now sent rest c.split_at.result.1.now n so c.split_at.ensures.back, wrote)

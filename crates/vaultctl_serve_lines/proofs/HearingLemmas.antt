-- The first line of bytes, and what comes after it.
use Rattle.std.proofs.Common.{◌≡◌, ◌≢◌, ◌∙◌, ◌+◌, ◌-◌, ◌<◌, ◌≤◌, ℕ, true, false, List, [], ◌∷◌, ◌++◌, length, take, drop, get_or, None, Some, append_assoc, ap, sym, subst, arith}
use Rattle.std.proofs.lemmas.Bool.Decides.{nat_tests}
use Rattle.std.proofs.lemmas.Grind.{common_steps}
use Rattle.std.proofs.lemmas.List.{drop_more, get_or-take, get_or_default, length-drop, length-take-le, take_all, take-append-drop}
use Rattle.std.proofs.lemmas.List.Quantifiers.{position-Some}
use Rattle.std.proofs.lemmas.List.Sums.{fails_before_first}
use Rattle.std.specs.List.{position, position_or_len}
use Rattle.std.specs.Prelude.{◌==◌}
use Rattle.vaultctl_replay.specs.Lines.{ended, HasNoLf}

-- ---- the first LF

is-lf : (b : ℕ) → (b == 10) ≡ true → b ≡ 10
is-lf b e = grind (arith, nat_tests)

not-lf : (b : ℕ) → (b == 10) ≡ false → b ≢ 10
not-lf b e same = grind (arith, nat_tests)

none-before : (bytes : List ℕ) (i : ℕ) → i ≤ length bytes → ((k : ℕ) → k < i → (get_or bytes k 0 == 10) ≡ false) → HasNoLf (take i bytes)
none-before bytes i within fails k d m =
    let inside : k < i = omega (arith, m, length-take-le i bytes within) in
    let same : get_or (take i bytes) k d ≡ get_or bytes k d = get_or-take i bytes k d inside in
    let P : ℕ → Type 0 = λ b. b ≢ 10 in
    let at : get_or bytes k 0 ≡ get_or bytes k d = get_or_default bytes k 0 d (omega (arith, inside, within)) in
    subst P (at ∙ sym same) (not-lf (get_or bytes k 0) (fails k inside))

pub cuts-some : (bytes : List ℕ) (i : ℕ) → position (λ b. b == 10) bytes ≡ Some i → HasNoLf (take i bytes) × (bytes ≡ ended (take i bytes) ++ drop (i + 1) bytes)
cuts-some bytes i e =
    let found = position-Some (λ b. b == 10) bytes i 0 e in
    let lf : get_or bytes i 0 ≡ 10 = is-lf (get_or bytes i 0) found.1 in
    let rest : drop i bytes ≡ 10 ∷ drop (i + 1) bytes = drop_more bytes i 0 found.0 ∙ ap (λ b. b ∷ drop (i + 1) bytes) lf in
    let whole : bytes ≡ take i bytes ++ (10 ∷ drop (i + 1) bytes) = sym (take-append-drop i bytes) ∙ ap (λ l. take i bytes ++ l) rest in
    (none-before bytes i (omega (arith, found.0)) found.2, whole ∙ sym (append_assoc (take i bytes) (10 ∷ []) (drop (i + 1) bytes)))

pub cuts-none : (bytes : List ℕ) → position (λ b. b == 10) bytes ≡ None → HasNoLf bytes
cuts-none bytes e k d m =
    let at : length bytes ≤ position_or_len (λ b. b == 10) bytes = grind (arith, common_steps) in
    not-lf (get_or bytes k d) (fails_before_first (λ b. b == 10) bytes k d (omega (arith, at, m)))

-- what comes after a place is all that is left there
pub all-after : (bytes : List ℕ) (i : ℕ) → take (length bytes - i) (drop i bytes) ≡ drop i bytes
all-after bytes i = take_all (length bytes - i) (drop i bytes) (omega (arith, length-drop i bytes))

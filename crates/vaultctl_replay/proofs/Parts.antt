-- A beginning of a line and its LF.
use Rattle.std.proofs.Common.{◌≡◌, ◌≢◌, ℕ, List, [], ◌∷◌, ◌++◌, refl, ap, ap₂, subst, inl, inr}
use Rattle.std.specs.Prelude.{◌⊎◌}
use Rattle.std.proofs.lemmas.List.Elements.{All-nil, All-cons, All-head, All-tail}
use Rattle.vaultctl_replay.specs.Lines.{HasNoLf, ended}

-- the whole line, or a part of it that has no LF
abbrev pub IsPart : List ℕ → List ℕ → Type 0
IsPart line sent = (sent ≡ ended line) ⊎ HasNoLf sent

one-more : (b : ℕ) (line sent : List ℕ) → b ≢ 10 → IsPart line sent → IsPart (b ∷ line) (b ∷ sent)
one-more b line sent other (inl is) = inl (ap (λ l. b ∷ l) is)
one-more b line sent other (inr no_lf) = inr (All-cons (λ x. x ≢ 10) b sent other no_lf)

none-after : (sent unsent : List ℕ) → [] ≡ sent ++ unsent → sent ≡ []
none-after [] unsent e = refl
none-after (x ∷ sent) unsent e = absurd cc

pub part-of : (line sent unsent : List ℕ) → HasNoLf line → ended line ≡ sent ++ unsent → IsPart line sent
part-of line [] unsent no_lf e = inr (All-nil (λ x. x ≢ 10))
part-of [] (x ∷ sent) unsent no_lf e =
    let head : x ≡ 10 = cc in
    let later : [] ≡ sent ++ unsent = cc in
    inl (ap₂ (λ a b. a ∷ b) head (none-after sent unsent later))
part-of (b ∷ line) (x ∷ sent) unsent no_lf e =
    let head : b ≡ x = cc in
    let later : ended line ≡ sent ++ unsent = cc in
    subst (λ y. IsPart (b ∷ line) (y ∷ sent)) head
    (one-more b line sent (All-head (λ y. y ≢ 10) b line no_lf) (part-of line sent unsent (All-tail (λ y. y ≢ 10) b line no_lf) later))

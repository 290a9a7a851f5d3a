-- Lemmas on the lines of an input.
use Rattle.std.proofs.Common.{◌≡◌, ◌≢◌, ℕ, zero, suc, List, [], ◌∷◌, ◌++◌, take, drop, map, refl, ap, ap₂, sym, ◌∙◌, append_assoc, append-nil, Bool, true, false, cond, ◌==◌, ◌<◌, ◌≤◌, ◌+◌, ◌-◌, nat_lt, All, get_or, length, add-one, arith}
use Rattle.std.proofs.Math.Seq.{take-suc}
use Rattle.std.proofs.lemmas.Bool.Decides.{nat_tests}
use Rattle.std.proofs.lemmas.List.Elements.{All-nil, All-cons, All-head, All-tail, All-push}
use Rattle.std.proofs.lemmas.List.{length-take, take-append-drop, take_all, map-append}
use Rattle.std.proofs.lemmas.Bool.{lt-ltb, ltb-true, ltb-false}
use Rattle.std.specs.List.{flat_map}
use Rattle.vaultctl_replay.specs.Lines.{HasNoLf, ended, Splits, AskFor, EndedAskFor, last_of, unended_of, advance, asked_in}
use Rattle.vault_base.specs.Limits.{longest_line}
use Rattle.vault_lines_read.specs.declared.read_line.Line.{Line}
use Rattle.vault_lines_read.specs.ReadLine.{line_of}

-- bytes after bytes
pub advance-append : (most : ℕ) (part xs ys : List ℕ) → advance most part (xs ++ ys) ≡ ((advance most part xs).0 ++ (advance most (advance most part xs).1 ys).0, (advance most (advance most part xs).1 ys).1)
advance-append most part [] ys = refl
advance-append most part (x ∷ xs) ys =
    elim (x == 10) as (λ b.
    cond b (part ∷ (advance most [] (xs ++ ys)).0, (advance most [] (xs ++ ys)).1) (advance most (take most (part ++ x ∷ [])) (xs ++ ys))
    ≡ (
      (cond b (part ∷ (advance most [] xs).0, (advance most [] xs).1) (advance most (take most (part ++ x ∷ [])) xs)).0
          ++ (advance most (cond b (part ∷ (advance most [] xs).0, (advance most [] xs).1) (advance most (take most (part ++ x ∷ [])) xs)).1 ys).0,
      (advance most (cond b (part ∷ (advance most [] xs).0, (advance most [] xs).1) (advance most (take most (part ++ x ∷ [])) xs)).1 ys).1,
    )) [
      | true ↦ ap (λ (p : List (List ℕ) × List ℕ). (part ∷ p.0, p.1)) (advance-append most [] xs ys)
      | false ↦ advance-append most (take most (part ++ x ∷ [])) xs ys
    ]

-- the first i bytes and the next one
pub take_next : (s : List ℕ) (i : ℕ) → i < length s → take (i + 1) s ≡ take i s ++ get_or s i 0 ∷ []
take_next s i h = rw (add-one, take-suc s i 0)

pub whole_cut : (s : List ℕ) (i : ℕ) → i < length s → s ≡ (take i s ++ get_or s i 0 ∷ []) ++ drop (i + 1) s
whole_cut s i h = rw (← take_next s i h) (sym (take-append-drop (i + 1) s))

take-nil : (most : ℕ) → take {A = ℕ} most [] ≡ []
take-nil zero = refl
take-nil (suc n) = refl

-- what was cut off is cut off again
take-take-append : (most : ℕ) (xs ys : List ℕ) → take most (take most xs ++ ys) ≡ take most (xs ++ ys)
take-take-append zero xs ys = refl
take-take-append (suc n) [] ys = refl
take-take-append (suc n) (x ∷ xs) ys = ap (λ t. x ∷ t) (take-take-append n xs ys)

whole_line : (line bytes ended_lines rest : List ℕ) → bytes ≡ ended_lines ++ rest → line ++ 10 ∷ bytes ≡ ((line ++ 10 ∷ []) ++ ended_lines) ++ rest
whole_line line bytes ended_lines rest e =
    ap (λ (t : List ℕ). line ++ 10 ∷ t) e ∙ sym (append_assoc (line ++ 10 ∷ []) ended_lines rest ∙ append_assoc line (10 ∷ []) (ended_lines ++ rest))

-- the lines and the rest that were found are those of the bytes, as far as they are kept
abbrev pub Cuts : ℕ → List ℕ → List (List ℕ) × List ℕ → Type 0
Cuts most bytes found = (lines : List (List ℕ)) × (rest : List ℕ) × Splits bytes lines rest × (found ≡ (map (take most) lines, take most rest))

module _ (most : ℕ) (part : List ℕ) (x : ℕ) (xs : List ℕ) (no_lf : HasNoLf part) where
  cut_at : x ≡ 10 → Cuts most xs (advance most [] xs) → Cuts most (part ++ x ∷ xs) (take most part ∷ (advance most [] xs).0, (advance most [] xs).1)
  cut_at is later =
      let whole = ap (λ (b : ℕ). part ++ b ∷ xs) is ∙ whole_line part xs (flat_map ended later.0) later.1 later.2.whole in (
        part ∷ later.0,
        later.1,
        record { whole = whole; each = All-cons HasNoLf part later.0 no_lf later.2.each; last = later.2.last },
        ap (λ (found : List (List ℕ) × List ℕ). (take most part ∷ found.0, found.1)) later.3,
      )

  cut_on : Cuts most ((part ++ x ∷ []) ++ xs) (advance most (take most (part ++ x ∷ [])) xs) → Cuts most (part ++ x ∷ xs) (advance most (take most (take most part ++ x ∷ [])) xs)
  cut_on later = rw (take-take-append most part (x ∷ []), ← append_assoc part (x ∷ []) xs) later

  cut_next : (is_lf : Bool) → (x == 10) ≡ is_lf → Cuts most xs (advance most [] xs) → (x ≢ 10 → Cuts most ((part ++ x ∷ []) ++ xs) (advance most (take most (part ++ x ∷ [])) xs))
      → Cuts most (part ++ x ∷ xs) (cond is_lf (take most part ∷ (advance most [] xs).0, (advance most [] xs).1) (advance most (take most (take most part ++ x ∷ [])) xs))
  cut_next true e at_lf on = cut_at (grind (arith, nat_tests)) at_lf
  cut_next false e at_lf on = cut_on (on (λ is. grind (arith, nat_tests)))

-- The lines are those of the bytes, however many of each are kept.
pub cut : (most : ℕ) (part xs : List ℕ) → HasNoLf part → Cuts most (part ++ xs) (advance most (take most part) xs)
cut most part [] no_lf = (([]), part, record { whole = append-nil part; each = All-nil HasNoLf; last = no_lf }, refl)
cut most part (x ∷ xs) no_lf =
    cut_next most part x xs no_lf (x == 10) refl
    (rw (take-nil most) at (cut most [] xs (All-nil (λ b. b ≢ 10))))
    (λ other. cut most (part ++ x ∷ []) xs (All-push (λ b. b ≢ 10) part x no_lf other))

pub cut_whole : (most : ℕ) (bytes : List ℕ) → Cuts most bytes (advance most [] bytes)
cut_whole most bytes = rw (take-nil most) at (cut most [] bytes (All-nil (λ b. b ≢ 10)))

-- ---- what is kept of a line asks for the same

-- the bytes of a line that are kept: one more than a line may have, so that a longer one is seen to be too long
abbrev pub most_kept : ℕ
most_kept = longest_line + 1

-- a line that is cut is too long as it is and as it is cut
line_of-cut : (line cut : List ℕ) → (length line ≤ longest_line → cut ≡ line) → (longest_line < length line → longest_line < length cut) → (too_long : Bool) → nat_lt longest_line (length line) ≡ too_long → line_of cut ≡ line_of line
unfolding line_of
line_of-cut line cut same long true e =
    let cut_long : nat_lt longest_line (length cut) ≡ true = lt-ltb longest_line (length cut) (long (ltb-true longest_line (length line) e)) in
    rw (cut_long, e) refl
line_of-cut line cut same long false e = ap line_of (same (ltb-false longest_line (length line) e))

pub line_of-take : (line : List ℕ) → line_of (take most_kept line) ≡ line_of line
line_of-take line =
    line_of-cut line (take most_kept line) (λ short. take_all most_kept line (omega arith)) (λ long. simp length-take (omega arith)) (nat_lt longest_line (length line)) refl

unended_of-long : (b c : ℕ) (bytes : List ℕ) → unended_of (b ∷ c ∷ bytes) ≡ line_of (b ∷ c ∷ bytes)
unended_of-long b c bytes =
    let other : (length (b ∷ c ∷ bytes) == 1) ≡ false = grind (arith, nat_tests) in
    rw other refl

last_of-take : (rest : List ℕ) → last_of (take most_kept rest) ≡ last_of rest
last_of-take [] = refl
last_of-take (b ∷ []) = refl
last_of-take (b ∷ c ∷ bytes) =
    ap (λ (l : Line). l ∷ []) (unended_of-long b c (take (longest_line - 1) bytes) ∙ line_of-take (b ∷ c ∷ bytes) ∙ sym (unended_of-long b c bytes))

lines_of-take : (lines : List (List ℕ)) → map line_of (map (take most_kept) lines) ≡ map line_of lines
lines_of-take [] = refl
lines_of-take (line ∷ lines) = cc (line_of-take line, lines_of-take lines)

-- what is asked in bytes is what their lines ask for
pub asked_ended : (bytes : List ℕ) → EndedAskFor bytes (asked_in most_kept [] bytes)
asked_ended bytes =
    let found = cut_whole most_kept bytes in
    (found.0, found.1, found.2, ap (λ (f : List (List ℕ) × List ℕ). map line_of f.0) found.3 ∙ lines_of-take found.0)

pub asked_all : (bytes : List ℕ) → AskFor bytes (asked_in most_kept [] bytes ++ last_of (advance most_kept [] bytes).1)
asked_all bytes =
    let found = cut_whole most_kept bytes in
    let lines = ap (λ (f : List (List ℕ) × List ℕ). map line_of f.0) found.3 ∙ lines_of-take found.0 in
    let last = ap (λ (f : List (List ℕ) × List ℕ). last_of f.1) found.3 ∙ last_of-take found.1 in
    (found.0, found.1, found.2, ap₂ (λ (a b : List Line). a ++ b) lines last)

-- what is asked in bytes after bytes
pub asked_in-append : (most : ℕ) (part xs ys : List ℕ) → asked_in most part (xs ++ ys) ≡ asked_in most part xs ++ asked_in most (advance most part xs).1 ys
asked_in-append most part xs ys = rw (advance-append most part xs ys, map-append) refl

-- ---- one input has one reading

-- two lines with what follows their LF
first_line : (l m a b : List ℕ) → HasNoLf l → HasNoLf m → l ++ 10 ∷ a ≡ m ++ 10 ∷ b → (l ≡ m) × (a ≡ b)
first_line [] [] a b p q e = (refl, cc)
first_line [] (y ∷ m) a b p q e = absurd (All-head (λ b. b ≢ 10) y m q (cc))
first_line (x ∷ l) [] a b p q e = absurd (All-head (λ b. b ≢ 10) x l p (cc))
first_line (x ∷ l) (y ∷ m) a b p q e =
    let after : l ++ 10 ∷ a ≡ m ++ 10 ∷ b = cc in
    let r = first_line l m a b (All-tail (λ b. b ≢ 10) x l p) (All-tail (λ b. b ≢ 10) y m q) after in
    (cc (r.0, e), r.1)

-- a rest without LF isn't a line that ends
no_line : (l a r : List ℕ) → HasNoLf r → r ≡ l ++ 10 ∷ a → ⊥
no_line [] a [] p e = cc
no_line [] a (y ∷ r) p e = All-head (λ b. b ≢ 10) y r p (cc)
no_line (x ∷ l) a [] p e = cc
no_line (x ∷ l) a (y ∷ r) p e = no_line l a r (All-tail (λ b. b ≢ 10) y r p) (cc)

one_reading : (ls ms : List (List ℕ)) (r s : List ℕ) → All HasNoLf ls → HasNoLf r → All HasNoLf ms → HasNoLf s → flat_map ended ls ++ r ≡ flat_map ended ms ++ s → (ls ≡ ms) × (r ≡ s)
one_reading [] [] r s ea la eb lb e = (refl, e)
one_reading [] (m ∷ ms) r s ea la eb lb e = absurd (no_line m (flat_map ended ms ++ s) r la (e ∙ sym (whole_line m _ (flat_map ended ms) s refl)))
one_reading (l ∷ ls) [] r s ea la eb lb e = absurd (no_line l (flat_map ended ls ++ r) s lb (sym e ∙ sym (whole_line l _ (flat_map ended ls) r refl)))
one_reading (l ∷ ls) (m ∷ ms) r s ea la eb lb e =
    let both = first_line l m (flat_map ended ls ++ r) (flat_map ended ms ++ s) (All-head HasNoLf l ls ea) (All-head HasNoLf m ms eb)
    (whole_line l _ (flat_map ended ls) r refl ∙ e ∙ sym (whole_line m _ (flat_map ended ms) s refl)) in
    let later = one_reading ls ms r s (All-tail HasNoLf l ls ea) la (All-tail HasNoLf m ms eb) lb both.1 in
    (cc (both.0, later.0), later.1)

pub Splits-one : (bytes : List ℕ) (lines others : List (List ℕ)) (rest other : List ℕ) → Splits bytes lines rest → Splits bytes others other → (lines ≡ others) × (rest ≡ other)
Splits-one bytes lines others rest other a b = one_reading lines others rest other a.each a.last b.each b.last (sym a.whole ∙ b.whole)

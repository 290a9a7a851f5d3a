-- Lines of a text, one after another: each is the same where the texts are.
use Rattle.std.proofs.Common.{◌≡◌, ◌≢◌, ℕ, suc, ◌+◌, ◌/◌, ◌%◌, ◌<◌, ◌^◌, Bool, true, false, List, [], ◌∷◌, ◌++◌, length, get_or, take, drop, slice_index, None, codes, refl, sym, ap, ◌∙◌, append_assoc, arith, decimal, length-append}
use Rattle.std.specs.List.{AllByRecursion, list_all}
use Rattle.std.proofs.lemmas.Bool.{and_parts}
use Rattle.std.proofs.lemmas.Fmt.{decimal_by_steps}
use Rattle.std.proofs.lemmas.List.{append_cancel_left, drop_at, take_at}
use Rattle.hex.specs.Hex.{IsBytes, encode_lower, encode_with, hex_digit_value, lower_digits}
use Rattle.hex.proofs.HexLemmas.{IsDigits-lower_digits}
use Rattle.vault_files_texts.specs.Certificate.{labelled}

-- ---- texts of one length

-- fronts of one length
pub same-fronts : (x y a b : List ℕ) → length x ≡ length y → x ++ a ≡ y ++ b → (x ≡ y) × (a ≡ b)
same-fronts x y a b size e =
    (sym (take_at x a (length y) size) ∙ (ap (take (length y)) e ∙ take_at y b (length y) refl), sym (drop_at x a (length y) size) ∙ (ap (drop (length y)) e ∙ drop_at y b (length y) refl))

-- and backs
pub same-backs : (x y a b : List ℕ) → length a ≡ length b → x ++ a ≡ y ++ b → (x ≡ y) × (a ≡ b)
same-backs x y a b size e =
    let whole : length (x ++ a) ≡ length (y ++ b) = ap length e in
    same-fronts x y a b (omega (arith, size, whole, length-append x a, length-append y b)) e

-- ---- lines

-- no byte of it ends a line
abbrev pub IsOfOneLine : List ℕ → Type 0
IsOfOneLine text = AllByRecursion (λ b. b ≢ 10) text

pub same-line : (x y a b : List ℕ) → IsOfOneLine x → IsOfOneLine y → x ++ 10 ∷ a ≡ y ++ 10 ∷ b → (x ≡ y) × (a ≡ b)
same-line [] [] a b is own e = (refl, ap (drop 1) e)
same-line [] (d ∷ y) a b is own e = absurd (own.0 (sym (ap (λ l. get_or l 0 10) e)))
same-line (c ∷ x) [] a b is own e = absurd (is.0 (ap (λ l. get_or l 0 10) e))
same-line (c ∷ x) (d ∷ y) a b is own e =
    let rest = same-line x y a b is.1 own.1 (ap (drop 1) e) in
    (ap (λ n. n ∷ x) (ap (λ l. get_or l 0 10) e) ∙ ap (λ (l : List ℕ). d ∷ l) rest.0, rest.1)

-- a label, and what is after it
flat : (label value rest : List ℕ) → labelled label value ++ rest ≡ label ++ (codes ": " ++ (value ++ 10 ∷ rest))
flat label value rest = split label (codes ": ") value (10 ∷ []) rest
  where
    split : (a b c d e : List ℕ) → (((a ++ b) ++ c) ++ d) ++ e ≡ a ++ (b ++ (c ++ (d ++ e)))
    split a b c d e = simp append_assoc

pub same-after-label : (label x y a b : List ℕ) → labelled label x ++ a ≡ labelled label y ++ b → x ++ 10 ∷ a ≡ y ++ 10 ∷ b
same-after-label label x y a b e =
    ap (drop 2) (append_cancel_left label (codes ": " ++ (x ++ 10 ∷ a)) (codes ": " ++ (y ++ 10 ∷ b)) (sym (flat label x a) ∙ (e ∙ flat label y b)))

pub same-labelled : (label x y a b : List ℕ) → IsOfOneLine x → IsOfOneLine y → labelled label x ++ a ≡ labelled label y ++ b → (x ≡ y) × (a ≡ b)
same-labelled label x y a b is own e = same-line x y a b is own (same-after-label label x y a b e)

-- ---- values of one line

pub joined : (x y : List ℕ) → IsOfOneLine x → IsOfOneLine y → IsOfOneLine (x ++ y)
joined [] y is own = own
joined (b ∷ x) y is own = (is.0, joined x y is.1 own)

pub passing : (p : ℕ → Bool) (text : List ℕ) → p 10 ≡ false → list_all p text ≡ true → IsOfOneLine text
passing p [] no_end all = tt
passing p (b ∷ text) no_end all =
    let parts = and_parts (p b) (list_all p text) all in
    ((λ is. absurd (cc (sym (ap p is ∙ no_end) ∙ parts.0))), passing p text no_end parts.1)

pub number-of-one-line : (n : ℕ) → n < 2 ^ 64 → IsOfOneLine (decimal n)
number-of-one-line n fits = decimal_by_steps (λ n ds. IsOfOneLine ds) (λ n digit. ((λ is. absurd (omega (arith, is))), tt)) (λ n ds more is. joined ds ((48 + n % 10) ∷ []) is ((λ own. absurd (omega (arith, own))), tt)) n fits

digit-apart : (d : ℕ) → d < 16 → slice_index lower_digits d ≢ 10
digit-apart d low is =
    let none : hex_digit_value (slice_index lower_digits d) ≡ None = ap hex_digit_value is in
    absurd (cc (sym none ∙ IsDigits-lower_digits d low))

pub hex-of-one-line : (bytes : List ℕ) → IsBytes bytes → IsOfOneLine (encode_lower bytes)
unfolding encode_with
hex-of-one-line [] are = tt
hex-of-one-line (b ∷ bytes) are =
    let low : b < 256 = are 0 in
    (digit-apart (b / 16) (omega (arith, low)), (digit-apart (b % 16) (omega (arith, low)), hex-of-one-line bytes (λ k. are (suc k))))

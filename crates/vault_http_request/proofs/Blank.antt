-- Empty lines in front of a head: they are no head, and one may still come.
use Rattle.std.proofs.Common.{◌≡◌, ◌≤◌, ℕ, List, [], ◌∷◌, ◌++◌, ◌-◌, Bool, true, false, ◌&&◌, not, length, take, drop, inl, refl, sym, ap, ◌∙◌, append_assoc, append-nil, subst, true≢false, IsTrue, All, arith}
use Rattle.std.specs.List.{list_all}
use Rattle.std.proofs.lemmas.Grind.{flat_map-append}
use Rattle.std.proofs.lemmas.List.{take-append-drop, take-append-le, take_all, length-drop}
use Rattle.std.proofs.lemmas.List.Elements.{All-head, All-cons, All-nil}
use Rattle.std.proofs.lemmas.List.Folds.{list_all-append}
use Rattle.std.proofs.lemmas.Str.{IsUtf8-from_ascii}
use Rattle.std.proofs.lemmas.Str.Ascii.{IsAscii-cons, IsAscii-nil}
use Rattle.httparse.specs.Grammar.{RequestHead, IsRequestHead, IsField, is_uri_byte, IsToken, HasNoRequest, MayBecomeRequest, LineEnd, crlf, lf, is_token_byte, print_blank, print_end, print_request, print_version}
use Rattle.vault_http_request.specs.Head.{IsBlank}

-- one empty line more
pub one_more : (buf : List ℕ) (blank : ℕ) → IsBlank (take blank buf) → ((end : LineEnd) × (take (length buf - blank) (drop blank buf) ≡ print_end end)) → IsBlank buf
one_more buf blank (ends, front) (end, last) =
    let back : drop blank buf ≡ print_end end = sym (take_all (length buf - blank) (drop blank buf) (omega (arith, length-drop blank buf))) ∙ last in
    let whole : buf ≡ print_blank ends ++ print_end end = sym (take-append-drop blank buf) ∙ ap (λ t. t ++ drop blank buf) front ∙ ap (λ t. print_blank ends ++ t) back in
    let more : print_blank (ends ++ end ∷ []) ≡ print_blank ends ++ print_end end =
    flat_map-append print_end ends (end ∷ []) ∙ ap (λ t. print_blank ends ++ t) (append-nil (print_end end)) in
    (ends ++ end ∷ [], whole ∙ sym more)

-- ---- they are no head

-- no byte of a method
abbrev no_token : ℕ → Bool
no_token b = not (is_token_byte b)

blank_passes : (ends : List LineEnd) → list_all no_token (print_blank ends) ≡ true
unfolding is_token_byte
blank_passes [] = refl
blank_passes (crlf ∷ ends) = blank_passes ends
blank_passes (lf ∷ ends) = blank_passes ends

both_left : (a b : Bool) → (a && b) ≡ true → a ≡ true
both_left true b h = refl
both_left false b h = h

both_right : (a b : Bool) → (a && b) ≡ true → b ≡ true
both_right true b h = h
both_right false b h = absurd (true≢false (sym h))

front_passes : (xs ys : List ℕ) → list_all no_token (xs ++ ys) ≡ true → list_all no_token xs ≡ true
front_passes xs ys h = both_left _ _ (sym (list_all-append no_token xs ys) ∙ h)

back_passes : (xs ys : List ℕ) → list_all no_token (xs ++ ys) ≡ true → list_all no_token ys ≡ true
back_passes xs ys h = both_right (list_all no_token xs) _ (sym (list_all-append no_token xs ys) ∙ h)

token_fails : (bytes : List ℕ) → IsToken bytes → list_all no_token bytes ≡ true → ⊥
token_fails [] (some, pass) h = absurd (omega (arith, some))
token_fails (b ∷ bytes) (some, pass) h =
    let is : is_token_byte b ≡ true = All-head (λ c. IsTrue (is_token_byte c)) b bytes pass in
    true≢false (sym (ap not (sym is) ∙ both_left (no_token b) _ h))

pub no_head : (buf : List ℕ) → IsBlank buf → HasNoRequest buf
unfolding print_request
no_head buf (ends, is) h rest reads =
    let all : list_all no_token (print_request h ++ rest) ≡ true = subst (λ t. list_all no_token t ≡ true) (sym is ∙ reads.1) (blank_passes ends) in
    let line = front_passes _ _ (front_passes _ _ (front_passes _ _ (front_passes _ _ (front_passes (print_request h) rest all)))) in
    token_fails h.method reads.0.method (back_passes (print_blank h.blank) h.method line)

-- ---- one may still come

-- the head `G / HTTP/1.1` after empty lines
abbrev some_head : List LineEnd → RequestHead
some_head ends = record { blank = ends; method = 71 ∷ []; target = 47 ∷ []; minor = 1; line_end = lf; fields = []; last = lf }

All-one : (P : ℕ → Type 0) (x : ℕ) → P x → All P (x ∷ [])
All-one P x h = All-cons P x [] h (All-nil P)

is_some_head : (ends : List LineEnd) → IsRequestHead (some_head ends)
unfolding is_token_byte
is_some_head ends = record {
  method = (omega arith, All-one (λ b. IsTrue (is_token_byte b)) 71 refl);
  target = (omega arith, All-one (λ b. IsTrue (is_uri_byte b)) 47 refl);
  target_text = IsUtf8-from_ascii (47 ∷ []) (IsAscii-cons 47 [] (omega arith) IsAscii-nil);
  minor = omega arith;
  fields = All-nil IsField;
}

-- what stands after the first of six parts is of one piece
five_after : (a b c d e f : List ℕ) → a ++ b ++ c ++ d ++ e ++ f ≡ a ++ (b ++ c ++ d ++ e ++ f)
five_after a b c d e f =
    let two : a ++ b ++ c ≡ a ++ (b ++ c) = append_assoc a b c in
    let three : a ++ b ++ c ++ d ≡ a ++ (b ++ c ++ d) = ap (λ t. t ++ d) two ∙ append_assoc a (b ++ c) d in
    let four : a ++ b ++ c ++ d ++ e ≡ a ++ (b ++ c ++ d ++ e) = ap (λ t. t ++ e) three ∙ append_assoc a (b ++ c ++ d) e in
    ap (λ t. t ++ f) four ∙ append_assoc a (b ++ c ++ d ++ e) f

pub head_may_come : (buf : List ℕ) → IsBlank buf → MayBecomeRequest buf
unfolding print_request
head_may_come buf (ends, is) =
    let parts : print_request (some_head ends) ≡ print_blank ends ++ print_request (some_head []) =
    five_after (print_blank ends) (71 ∷ []) (32 ∷ 47 ∷ []) (32 ∷ print_version 1) (10 ∷ []) (10 ∷ []) in
    let reads : buf ++ print_request (some_head []) ≡ print_request (some_head ends) ++ [] =
    ap (λ t. t ++ print_request (some_head [])) is ∙ sym parts ∙ sym (append-nil (print_request (some_head ends))) in
    inl (print_request (some_head []), some_head ends, (is_some_head ends, reads))

-- ---- with one byte more

pub pushed_blank : (blank : ℕ) (buf all : List ℕ) (b : ℕ) → all ≡ buf ++ b ∷ [] → blank ≤ length buf → IsBlank (take blank buf) → IsBlank (take blank all)
pushed_blank blank buf all b is within front = subst IsBlank (sym (ap (take blank) is ∙ take-append-le blank buf (b ∷ []) within)) front

-- Where no head can come any more.
use Rattle.std.proofs.Common.{◌≡◌, ◌≢◌, ℕ, List, [], ◌∷◌, ◌++◌, inl, inr, sym, ap, ◌∙◌, subst, append_assoc, append-nil, true≢false, IsTrue, All, arith}
use Rattle.std.proofs.lemmas.List.{same_from_push}
use Rattle.std.proofs.lemmas.List.Elements.{All-head, All-tail}
use Rattle.httparse.specs.Grammar.{NeverHasRequest, MayBecomeRequest, EndsInTarget, is_uri_byte, print_blank}
use Rattle.vault_http_request.specs.Head.{IsPrompt}
use Rattle.vault_http_request.proofs.Heads.{last_of}

-- with each line that was taken a head may still come
abbrev pub IsOpen : List ℕ → Type 0
IsOpen buf = (line later : List ℕ) → buf ≡ (line ++ 10 ∷ []) ++ later → NeverHasRequest (line ++ 10 ∷ []) → ⊥

last_passes : (P : ℕ → Type 0) (ys : List ℕ) (y : ℕ) → All P (ys ++ y ∷ []) → P y
last_passes P [] y h = All-head P y [] h
last_passes P (x ∷ xs) y h = last_passes P xs y (All-tail P x (xs ++ y ∷ []) h)

-- no line ends inside a target
not_in_target : (buf : List ℕ) → EndsInTarget (buf ++ 10 ∷ []) → ⊥
not_in_target buf (blank, method, target, token, pass, e) = elim (last_of target) [
  | inl none ↦
      let whole : buf ++ 10 ∷ [] ≡ (print_blank blank ++ method) ++ 32 ∷ [] = e ∙ ap (λ t. print_blank blank ++ method ++ 32 ∷ t) none in
      absurd (omega (arith, (same_from_push buf (print_blank blank ++ method) 10 32 whole).1))
  | inr (ys, y, is) ↦
      let whole : buf ++ 10 ∷ [] ≡ (print_blank blank ++ method ++ 32 ∷ ys) ++ y ∷ [] =
      e ∙ ap (λ t. print_blank blank ++ method ++ 32 ∷ t) is ∙ sym (append_assoc (print_blank blank ++ method) (32 ∷ ys) (y ∷ [])) in
      let line_feed : 10 ≡ y = (same_from_push buf (print_blank blank ++ method ++ 32 ∷ ys) 10 y whole).1 in
      let passes : IsTrue (is_uri_byte y) = last_passes (λ b. IsTrue (is_uri_byte b)) ys y (subst (All (λ b. IsTrue (is_uri_byte b))) is pass) in
      true≢false (sym (subst (λ b. IsTrue (is_uri_byte b)) (sym line_feed) passes))
]

-- what may become a head at the end of a line may become one
may_come : (buf : List ℕ) → MayBecomeRequest (buf ++ 10 ∷ []) → NeverHasRequest (buf ++ 10 ∷ []) → ⊥
may_come buf (inl (more, h, reads)) never = never more h [] reads
may_come buf (inr ends) never = not_in_target buf ends

-- the last byte of what was taken, and the line that it may end
pub pushed_prompt : (buf all : List ℕ) (b : ℕ) → all ≡ buf ++ b ∷ [] → IsOpen buf → IsPrompt all
pushed_prompt buf all b is going line later e never = elim (last_of later) [
  | inl none ↦ none
  | inr (ys, y, more) ↦
      absurd (going line ys (same_from_push buf ((line ++ 10 ∷ []) ++ ys) b y (sym is ∙ e ∙ ap (λ t. (line ++ 10 ∷ []) ++ t) more ∙ sym (append_assoc (line ++ 10 ∷ []) ys (y ∷ [])))).0 never)
]

pub pushed_open : (buf all : List ℕ) (b : ℕ) → all ≡ buf ++ b ∷ [] → IsOpen buf → (b ≡ 10 → MayBecomeRequest all) → IsOpen all
pushed_open buf all b is going may line later e never =
    let none = pushed_prompt buf all b is going line later e never in
    let whole : buf ++ b ∷ [] ≡ line ++ 10 ∷ [] = sym is ∙ e ∙ ap (λ t. (line ++ 10 ∷ []) ++ t) none ∙ append-nil (line ++ 10 ∷ []) in
    let same = same_from_push buf line b 10 whole in
    may_come line (subst MayBecomeRequest (is ∙ whole) (may same.1)) never

pub pushed_within : (buf all : List ℕ) (b : ℕ) → all ≡ buf ++ b ∷ [] → IsOpen buf → b ≢ 10 → IsOpen all
pushed_within buf all b is going other = pushed_open buf all b is going (λ e. absurd (other e))

-- no byte is no line
pub nothing_open : (bs : List ℕ) → bs ≡ [] → IsOpen bs
nothing_open bs none [] later e never = absurd (cc (sym none ∙ e))
nothing_open bs none (x ∷ line) later e never = absurd (cc (sym none ∙ e))

-- The line of a reply has its one value within its one member.
use Rattle.std.proofs.Common.{◌≡◌, ◌≤◌, ◌+◌, ◌-◌, ◌∙◌, ℕ, List, [], ◌∷◌, ◌++◌, length, take, drop, ap, arith, append_assoc, length-append, codes}
use Rattle.std.proofs.lemmas.List.{take_at, drop_at}
use Rattle.json.specs.Print.{escape_byte}
use Rattle.serde_json.specs.Written.{compact_text}
use Rattle.vault_base.specs.declared.refusal.Refusal.{Refusal}
use Rattle.vault_core_model.specs.declared.reply.Answer.{Answer}
use Rattle.vault_core_model.specs.declared.reply.Reply.TheVariants.{Done, Refused}
use Rattle.vault_lines_reply.specs.ReplyLine.{reply_text, answer_value, refusal_value}
use Rattle.vault_http.specs.Reply.{refusal_text, answer_text}

pub refused_line : (r : Refusal) → reply_text (Refused r) ≡ codes "{\"error\":" ++ (refusal_text r ++ 125 ∷ 10 ∷ [])
unfolding reply_text refusal_text escape_byte
refused_line r = ap (λ t. codes "{\"error\":" ++ t) (append_assoc (compact_text (refusal_value r)) (125 ∷ []) (10 ∷ []))

pub done_line : (a : Answer) → reply_text (Done a) ≡ codes "{\"ok\":" ++ (answer_text a ++ 125 ∷ 10 ∷ [])
unfolding reply_text answer_text escape_byte
done_line a = ap (λ t. codes "{\"ok\":" ++ t) (append_assoc (compact_text (answer_value a)) (125 ∷ []) (10 ∷ []))

-- the line is long enough for what stands round the value
pub has_room : (n : ℕ) (front text line : List ℕ) → length front ≡ n → line ≡ front ++ (text ++ 125 ∷ 10 ∷ []) → n + 2 ≤ length line
has_room n front text line size e = omega (arith, simp (length-append) at (ap length e), size)

-- what is left without it is the value
pub value_within : (n : ℕ) (front text line : List ℕ) → length front ≡ n → line ≡ front ++ (text ++ 125 ∷ 10 ∷ []) → take (length line - 2 - n) (drop n line) ≡ text
value_within n front text line size e =
    let tail : drop n line ≡ text ++ 125 ∷ 10 ∷ [] = ap (drop n) e ∙ drop_at front _ n size in
    let count : length text ≡ length line - 2 - n = omega (arith, simp (length-append) at (ap length e), size) in
    ap (take _) tail ∙ take_at text _ _ count

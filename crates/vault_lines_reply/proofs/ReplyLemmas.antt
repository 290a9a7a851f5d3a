-- The line of a reply: whole numbers alone, so its text is the compact one.
use Rattle.std.proofs.Common.{◌≡◌, ℕ, List, [], ◌∷◌, ◌++◌, ◌∙◌, ap, refl, map, Bool, true, false, Option, Some, None}
use Rattle.std.specs.Prelude.{option_map}
use Rattle.serde_json.specs.Data.{Data, Members}
use Rattle.serde_json.specs.View.{items_of}
use Rattle.serde_json.specs.Written.{compact_text, has_float, items_have_float, members_have_float}
use Rattle.vault_base.specs.declared.content.Content.{Content}
use Rattle.vault_base.specs.declared.content.Content.TheVariants.{Inside, External}
use Rattle.vault_base.specs.declared.refusal.Refusal.{Refusal}
use Rattle.vault_base.specs.declared.refusal.Refusal.TheVariants.{AccessDenied, NoSuchKey}
use Rattle.vault_core_model.specs.declared.reply.Answer.{Answer}
use Rattle.vault_core_model.specs.declared.reply.Answer.TheVariants as answer
use Rattle.vault_core_model.specs.declared.reply.Reply.{Reply}
use Rattle.vault_core_model.specs.declared.reply.Reply.TheVariants.{Done, Refused, Stopped}
use Rattle.vault_core_model.specs.declared.reply.Listed.{Listed}
use Rattle.vault_core_model.specs.declared.reply.Version.{Version}
use Rattle.vault_lock.specs.declared.retention.Default.{Default}
use Rattle.vault_lock.specs.declared.retention.Mode.{Mode}
use Rattle.vault_lock.specs.declared.retention.Period.{Period}
use Rattle.vault_lock.specs.declared.retention.Period.TheVariants.{Days, Years}
use Rattle.vault_lock.specs.declared.retention.Retention.{Retention}
use Rattle.vault_rules.specs.declared.rule.Noncurrent.{Noncurrent}
use Rattle.vault_rules.specs.declared.rule.Rule.{Rule}
use Rattle.vault_lines_reply.specs.ReplyLine.{reply_text, reply_value, answer_value, refusal_value, retention_value, digest_value, held, version_value, period_value, default_value, if_there, expiration_of, noncurrent_value, bounded_members, rule_value, listed_value, whole}

retention-whole : (r : Option Retention) → has_float (retention_value r) ≡ false
retention-whole None = refl
retention-whole (Some r) = refl

digest-whole : (d : Option (List ℕ)) → has_float (digest_value d) ≡ false
digest-whole None = refl
digest-whole (Some d) = refl

held-whole : (v : Version) → members_have_float (held v) ≡ false
held-whole v = rw (retention-whole v.lock.retention, digest-whole v.entry.digest) refl

version-whole : (v : Version) (content : Content) → has_float (version_value v content) ≡ false
version-whole v (Inside bytes) = held-whole v
version-whole v (External r) = held-whole v

period-whole : (mode : Mode) (p : Period) → has_float (period_value mode p) ≡ false
period-whole mode (Days n) = refl
period-whole mode (Years n) = refl

default-whole : (d : Option Default) → has_float (default_value d) ≡ false
default-whole None = refl
default-whole (Some d) = period-whole d.mode d.period

expiration-whole : (name : List ℕ) (days : Option ℕ) (lone : Bool) (others : Members) → members_have_float others ≡ false → members_have_float (if_there name (expiration_of days lone) others) ≡ false
expiration-whole name (Some days) lone others rest = rest
expiration-whole name None true others rest = rest
expiration-whole name None false others rest = rest

newer-whole : (name : List ℕ) (newer : Option ℕ) (others : Members) → members_have_float others ≡ false → members_have_float (if_there name (option_map whole newer) others) ≡ false
newer-whole name None others rest = rest
newer-whole name (Some n) others rest = rest

noncurrent-whole : (name : List ℕ) (n : Option Noncurrent) (others : Members) → members_have_float others ≡ false → members_have_float (if_there name (option_map noncurrent_value n) others) ≡ false
noncurrent-whole name None others rest = rest
noncurrent-whole name (Some n) others rest = rw (newer-whole _ n.newer _ refl) rest

bounds-whole : (r : Rule) → members_have_float (bounded_members r) ≡ false
bounds-whole r = newer-whole _ r.larger _ (newer-whole _ r.smaller _ refl)

rule-whole : (r : Rule) → has_float (rule_value r) ≡ false
rule-whole r = expiration-whole _ r.days r.lone_markers _ (noncurrent-whole _ r.noncurrent _ (bounds-whole r))

pub rules-whole : (rules : List Rule) → items_have_float (items_of (map rule_value rules)) ≡ false
rules-whole [] = refl
rules-whole (r ∷ rs) = rw (rule-whole r) (rules-whole rs)

listed-whole : (entries : List Listed) → items_have_float (items_of (map listed_value entries)) ≡ false
listed-whole [] = refl
listed-whole (l ∷ ls) = listed-whole ls

answer-whole : (a : Answer) → has_float (answer_value a) ≡ false
answer-whole answer.Nothing = refl
answer-whole (answer.Default d) = rw (default-whole d) refl
answer-whole (answer.Rules rules) = rw (rules-whole rules) refl
answer-whole (answer.Admitted id) = refl
answer-whole (answer.Version v content) = version-whole v content
answer-whole (answer.Head v) = held-whole v
answer-whole (answer.Versions page) = rw (listed-whole page.entries) refl
answer-whole (answer.Marked id) = refl
answer-whole (answer.Removed r) = refl
answer-whole (answer.Retention r) = rw (retention-whole r) refl
answer-whole (answer.Hold hold) = refl
answer-whole (answer.Ran c) = refl
answer-whole (answer.Report r) = refl
answer-whole (answer.Certificate e tenures) = refl
answer-whole (answer.Moved bytes) = refl
answer-whole (answer.TakenIn t) = refl

refusal-whole : (r : Refusal) → has_float (refusal_value r) ≡ false
refusal-whole (AccessDenied reason) = refl
refusal-whole (NoSuchKey marker) = refl
refusal-whole _ = refl

reply-whole : (r : Reply) → has_float (reply_value r) ≡ false
reply-whole (Done a) = rw (answer-whole a) refl
reply-whole (Refused r) = rw (refusal-whole r) refl
reply-whole (Stopped changes stop) = refl

pub reply_text-is : (line text : List ℕ) (value : Data) (reply : Reply) → line ≡ text ++ 10 ∷ [] → (has_float value ≡ false → text ≡ compact_text value) → value ≡ reply_value reply → line ≡ reply_text reply
unfolding reply_text
reply_text-is line text value reply ended printed stated =
    ended ∙ ap (λ t. t ++ 10 ∷ []) (printed (ap has_float stated ∙ reply-whole reply) ∙ ap compact_text stated)

-- Lines and their grammar: what a line asks for, by the JSON value that it is.
use Rattle.std.proofs.Common.{◌≡◌, ◌≤◌, ◌+◌, ◌-◌, ℕ, Bool, true, false, List, [], ◌∷◌, refl, sym, ◌∙◌, ap, subst, length, take, arith}
use Rattle.std.specs.Prelude.{◌==◌, nat_lt, slice_index, if◌then◌else◌, Option, Some, None, Result, Ok, Err, IsTrue}
use Rattle.std.proofs.lemmas.Grind.{common_steps}
use Rattle.serde_json.specs.Data.{Data}
use Rattle.serde_json.specs.Read.{read}
use Rattle.std.specs.Str.{is_utf8}
use Rattle.serde_json.proofs.OnLiterals.{serde_json_on_literals}
use Rattle.vault_base.specs.declared.refusal.Refusal.{Refusal}
use Rattle.vault_base.specs.declared.refusal.Refusal.TheVariants.{MalformedBody}
use Rattle.vault_base.specs.Limits.{longest_line}
use Rattle.vault_core_model.specs.declared.command.Timed.{Timed}
use Rattle.vault_lines_read.specs.declared.read_line.Line.{Line}
use Rattle.vault_lines_read.specs.declared.read_line.Line.TheVariants as line
use Rattle.vault_lines_json.specs.Document.{json_of, or_malformed}
use Rattle.vault_values.specs.Fault.{◌>>=◌}
use Rattle.vault_lines_read.specs.Grammar.{HasForm, HasShape, IsLineOf, Spells}
use Rattle.vault_lines_read.specs.ReadLine.{timed_of, command_of, without_cr, stated, line_of}
use Rattle.vault_lines_read.specs.Verb.{is_shaped}
use Rattle.vault_lines_read.proofs.GrammarLemmas.{Decided, has_shape, some-verb, stated-timed, test-is}
use Rattle.vault_lines_read.proofs.SpelledLemmas.{reads-timed}

-- what is said of a line by whether it is too long or empty, and the value that it is
abbrev pub read_as : Bool → Bool → Option Data → Line
read_as long empty found = if long then line.Refused MalformedBody else if empty then line.Skip else stated (or_malformed found >>= timed_of)

is-read-as : (bytes : List ℕ) → line_of bytes ≡ read_as (nat_lt longest_line (length bytes)) (length (without_cr bytes) == 0) (json_of (without_cr bytes))
unfolding line_of command_of
is-read-as bytes = refl

pub stated-ok : (r : Result Timed Refusal) (t : Timed) → stated r ≡ line.Command t → r ≡ Ok t
stated-ok (Ok u) t e = cc
stated-ok (Err x) t e = cc

-- a line that asks for a command
pub record Asked (long empty : Bool) (found : Option Data) (t : Timed) : Type 0 where
  pub short : long ≡ false
  pub filled : empty ≡ false
  pub value : Data
  pub is_value : found ≡ Some value
  pub reading : timed_of value ≡ Ok t

asks : (long empty : Bool) (found : Option Data) (t : Timed) → read_as long empty found ≡ line.Command t → Asked long empty found t
asks true empty found t e = cc
asks false true found t e = cc
asks false false None t e = cc
asks false false (Some d) t e = record { short = refl; filled = refl; value = d; is_value = refl; reading = stated-ok (timed_of d) t e }

pub not-long : (n : ℕ) → nat_lt longest_line n ≡ false → n ≤ longest_line
not-long n e = grind (arith, common_steps)

pub is-short : (n : ℕ) → n ≤ longest_line → nat_lt longest_line n ≡ false
is-short n e = grind (arith, common_steps)

pub spelled : (b : Bool) (P : Timed → Type 0) (r : Result Timed Refusal) (t : Timed) → Decided b P r → r ≡ Ok t → IsTrue b × P t
spelled true P (Ok u) t h e =
    let same : u ≡ t = cc in
    (refl, subst P same h)
spelled true P (Err x) t h e = cc
spelled false P (Ok u) t h e = cc
spelled false P (Err x) t h e = cc

-- a value has the form of its line exactly where it has the shape of its verb
has-shape : (d : Data) → HasForm d → has_shape d ≡ true
has-shape d (verb, do_is, shaped) = test-is is_shaped d verb do_is ∙ shaped

has-form : (d : Data) → has_shape d ≡ true → HasForm d
has-form d shape =
    let found = some-verb is_shaped d shape in
    (found.0, found.1.0, found.1.1)

pub command-is-spelled : (bytes : List ℕ) (t : Timed) → line_of bytes ≡ line.Command t → IsLineOf bytes t
command-is-spelled bytes t e =
    let asked = asks _ _ _ t (sym (is-read-as bytes) ∙ e) in
    let found = spelled (has_shape asked.value) (Spells asked.value) (timed_of asked.value) t (stated-timed asked.value) asked.reading in
    (not-long (length bytes) asked.short, (asked.value, asked.is_value, has-form asked.value found.0, found.1))

none-either : (b : Bool) → (let found : Option Data = if b then read [] else None in found) ≡ None
unfolding serde_json_on_literals
none-either true = refl
none-either false = refl

-- no bytes are no JSON
no-value : json_of [] ≡ None
no-value = none-either (is_utf8 [])

pub no-items : (xs : List ℕ) → (length xs == 0) ≡ true → xs ≡ []
no-items [] e = refl
no-items (x ∷ xs) e = grind (arith, common_steps)

keeps-all-but-one : (b : Bool) (bytes : List ℕ) → length bytes ≤ length (let kept : List ℕ = if b then take (length bytes - 1) bytes else bytes in kept) + 1
keeps-all-but-one true bytes = grind (arith, common_steps)
keeps-all-but-one false bytes = omega arith

pub short-if-empty : (bytes : List ℕ) → without_cr bytes ≡ [] → nat_lt longest_line (length bytes) ≡ false
short-if-empty bytes e =
    let kept = keeps-all-but-one (slice_index bytes (length bytes - 1) == 13) bytes in
    let none : length (without_cr bytes) ≡ 0 = rw e refl in
    is-short (length bytes) (omega arith)

-- an empty line asks for nothing
pub skip-empty : (bytes : List ℕ) → without_cr bytes ≡ [] → line_of bytes ≡ line.Skip
skip-empty bytes e = is-read-as bytes ∙ rw (short-if-empty bytes e, e) refl

pub not-malformed : (b : Bool) (P : Timed → Type 0) (r : Result Timed Refusal) → Decided b P r → IsTrue b → stated r ≡ line.Refused MalformedBody → ⊥
not-malformed true P (Ok u) h s e = cc
not-malformed true P (Err x) h s e = h cc
not-malformed false P r h s e = cc

pub is-filled : (found : Option Data) (bytes : List ℕ) (d : Data) → json_of bytes ≡ Some d → (length bytes == 0) ≡ false
is-filled found [] d e = let none = no-value in cc
is-filled found (b ∷ bytes) d e = grind (arith, common_steps)

reads : (bytes : List ℕ) (d : Data) → length bytes ≤ longest_line → json_of (without_cr bytes) ≡ Some d → line_of bytes ≡ stated (timed_of d)
reads bytes d short found = is-read-as bytes ∙ rw (is-short (length bytes) short, is-filled None (without_cr bytes) d found, found) refl

pub shape-is-kept : (bytes : List ℕ) → line_of bytes ≡ line.Refused MalformedBody → HasShape bytes → ⊥
shape-is-kept bytes e h = not-malformed (has_shape h.1.0) (Spells h.1.0) (timed_of h.1.0) (stated-timed h.1.0) (has-shape h.1.0 h.1.2) (sym (reads bytes h.1.0 h.0 h.1.1) ∙ e)

pub stated-malformed : (b : Bool) (P : Timed → Type 0) (r : Result Timed Refusal) → Decided b P r → (b ≡ true → ⊥) → stated r ≡ line.Refused MalformedBody
stated-malformed true P r h other = absurd (other refl)
stated-malformed false P r h other = rw h refl

malformed-read : (long empty : Bool) (found : Option Data) → (empty ≡ true → ⊥) → ((d : Data) → long ≡ false → found ≡ Some d → has_shape d ≡ true → ⊥) → read_as long empty found ≡ line.Refused MalformedBody
malformed-read true empty found filled other = refl
malformed-read false true found filled other = absurd (filled refl)
malformed-read false false None filled other = refl
malformed-read false false (Some d) filled other = stated-malformed (has_shape d) (Spells d) (timed_of d) (stated-timed d) (other d refl refl)

pub malformed : (bytes : List ℕ) → (without_cr bytes ≡ [] → ⊥) → (HasShape bytes → ⊥) → line_of bytes ≡ line.Refused MalformedBody
malformed bytes filled other =
    is-read-as bytes ∙ malformed-read _ _ _
    (λ e. filled (no-items (without_cr bytes) e))
    (λ d short found shape. other (not-long (length bytes) short, (d, found, has-form d shape)))

pub spelled-is-command : (bytes : List ℕ) (t : Timed) → IsLineOf bytes t → line_of bytes ≡ line.Command t
spelled-is-command bytes t h =
    reads bytes h.1.0 h.0 h.1.1
    ∙ ap (λ r. stated r) (reads-timed h.1.0 t.at t.who t.command (has-shape h.1.0 h.1.2) h.1.3.0 h.1.3.1 h.1.3.2)

pub stated-skip : (r : Result Timed Refusal) → stated r ≡ line.Skip → false ≡ true
stated-skip (Ok t) q = cc
stated-skip (Err x) q = cc

skips : (long empty : Bool) (found : Option Data) → read_as long empty found ≡ line.Skip → empty ≡ true
skips true empty found e = cc
skips false true found e = refl
skips false false None e = cc
skips false false (Some d) e = stated-skip (timed_of d) e

pub skipped-is-empty : (bytes : List ℕ) → line_of bytes ≡ line.Skip → without_cr bytes ≡ []
skipped-is-empty bytes e = no-items (without_cr bytes) (skips _ _ _ (sym (is-read-as bytes) ∙ e))

pub malformed-is-filled : (bytes : List ℕ) → line_of bytes ≡ line.Refused MalformedBody → without_cr bytes ≡ [] → ⊥
malformed-is-filled bytes e f = let skipped = skip-empty bytes f in cc

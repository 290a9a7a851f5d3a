-- Lines without a reading and their grammar: what one asks for, by the JSON value that it is.
use Rattle.std.proofs.Common.{◌≡◌, ◌≤◌, ℕ, Bool, true, false, List, [], refl, sym, ◌∙◌, ap, length, codes}
use Rattle.std.specs.Prelude.{◌==◌, nat_lt, if◌then◌else◌, IsTrue, Option, Some, None, Ok}
use Rattle.serde_json.specs.Data.{Data}
use Rattle.serde_json.specs.Find.{get}
use Rattle.vault_base.specs.declared.refusal.Refusal.TheVariants.{MalformedBody}
use Rattle.vault_base.specs.Limits.{longest_line}
use Rattle.vault_core_model.specs.declared.command.Command.{Command}
use Rattle.vault_core_model.specs.declared.command.Timed.{Timed}
use Rattle.vault_values.specs.Fault.{◌>>=◌}
use Rattle.vault_lines_json.specs.Document.{json_of, or_malformed}
use Rattle.vault_lines_json.specs.Members.{text_of}
use Rattle.vault_lines_json.specs.Spelling.{IsName}
use Rattle.vault_lines_json.specs.Values.{asker_of}
use Rattle.vault_lines_json.proofs.ReadLemmas.{Reads, reads-then}
use Rattle.vault_lines_json.proofs.SpelledLemmas.{asker-ok}
use Rattle.vault_lines_json.proofs.ValueLemmas.{reads-asker}
use Rattle.vault_lines_read.specs.Grammar.{IsDo, SpellsCommand}
use Rattle.vault_lines_read.specs.ReadLine.{stated, without_cr}
use Rattle.vault_lines_read.specs.Stamped.{clock_of, HasTimelessForm, HasTimelessShape, is_timeless, IsStampedLineOf, stamped_command_of, stamped_line_of, stamped_of, timeless_verb_of}
use Rattle.vault_lines_read.specs.Verb.{values_of}
use Rattle.vault_lines_read.specs.declared.read_line.Line.{Line}
use Rattle.vault_lines_read.specs.declared.read_line.Line.TheVariants as line
use Rattle.vault_lines_read.specs.declared.verb.Verb.{Verb}
use Rattle.vault_lines_read.proofs.CommandLemmas.{timeless-asker-fits, timeless-values, values-spelled}
use Rattle.vault_lines_read.proofs.GrammarLemmas.{Decided, Passes, passes, passes-ok, some-verb, stated-then, test-is, verb-found}
use Rattle.vault_lines_read.proofs.LineLemmas.{is-filled, is-short, no-items, not-long, not-malformed, short-if-empty, spelled, stated-malformed, stated-ok, stated-skip}

-- ---- what a value asks for

-- the members spell that command of the caller who asks, and the clock shows its moment
abbrev pub SpellsAt : Option ℕ → Data → Timed → Type 0
SpellsAt moment d t = (moment ≡ Some t.at) × IsName d (codes "as") t.who × SpellsCommand d t.command

abbrev has_timeless_shape : Data → Bool
has_timeless_shape d = passes is_timeless d

stated-verb : (d : Data) → Decided (has_timeless_shape d) (Passes is_timeless d) (timeless_verb_of d)
unfolding timeless_verb_of text_of
stated-verb d = verb-found is_timeless d (get (codes "do") d) refl

reads-clock : (moment : Option ℕ) → Reads (λ at. moment ≡ Some at) (clock_of moment)
reads-clock None = λ e. cc
reads-clock (Some at) = refl

stated-stamped : (moment : Option ℕ) (d : Data) → Decided (has_timeless_shape d) (SpellsAt moment d) (stamped_of moment d)
unfolding stamped_of
stated-stamped moment d =
    stated-then (has_timeless_shape d) _ (SpellsAt moment d) (timeless_verb_of d) _ (stated-verb d) (λ verb verb_is.
    reads-then _ (SpellsAt moment d) (clock_of moment) _ (reads-clock moment) (λ at at_is.
    reads-then _ (SpellsAt moment d) (asker_of d) _ (reads-asker d (timeless-asker-fits verb d verb_is.1)) (λ who who_is.
    reads-then _ (SpellsAt moment d) (values_of verb d) _ (timeless-values verb d verb_is.0 verb_is.1) (λ command command_is.
    (at_is, who_is, command_is)))))

-- ---- what spells a command

verb-ok : (d : Data) (verb : Verb) → IsDo d verb → IsTrue (is_timeless verb d) → timeless_verb_of d ≡ Ok verb
unfolding timeless_verb_of
verb-ok d verb do_is shaped = passes-ok is_timeless d verb do_is shaped

reads-as-verb : (verb : Verb) (d : Data) (at : ℕ) (who : List ℕ) (c : Command) → IsDo d verb → IsTrue (has_timeless_shape d) → IsName d (codes "as") who → values_of verb d ≡ Ok c → stamped_of (Some at) d ≡ Ok (record { at = at; who = who; command = c })
unfolding stamped_of
reads-as-verb verb d at who c do_is shape who_is values =
    rw (verb-ok d verb do_is (sym (test-is is_timeless d verb do_is) ∙ shape), asker-ok d who who_is, values) refl

reads-stamped : (moment : Option ℕ) (d : Data) (t : Timed) → IsTrue (has_timeless_shape d) → SpellsAt moment d t → stamped_of moment d ≡ Ok t
reads-stamped moment d t shape s =
    let command = values-spelled d t.command s.2 in
    ap (λ (m : Option ℕ). stamped_of m d) s.0 ∙ reads-as-verb command.0 d t.at t.who t.command command.1 shape s.1 command.2

-- ---- lines

-- what is said of a line by whether it is too long or empty, and the value that it is
abbrev pub read_as : Option ℕ → Bool → Bool → Option Data → Line
read_as moment long empty found = if long then line.Refused MalformedBody else if empty then line.Skip else stated (or_malformed found >>= stamped_of moment)

is-read-as : (moment : Option ℕ) (bytes : List ℕ) → stamped_line_of moment bytes ≡ read_as moment (nat_lt longest_line (length bytes)) (length (without_cr bytes) == 0) (json_of (without_cr bytes))
unfolding stamped_line_of stamped_command_of
is-read-as moment bytes = refl

-- a line that asks for a command
pub record Asked (moment : Option ℕ) (long empty : Bool) (found : Option Data) (t : Timed) : Type 0 where
  pub short : long ≡ false
  pub filled : empty ≡ false
  pub value : Data
  pub is_value : found ≡ Some value
  pub reading : stamped_of moment value ≡ Ok t

asks : (moment : Option ℕ) (long empty : Bool) (found : Option Data) (t : Timed) → read_as moment long empty found ≡ line.Command t → Asked moment long empty found t
asks moment true empty found t e = cc
asks moment false true found t e = cc
asks moment false false None t e = cc
asks moment false false (Some d) t e = record { short = refl; filled = refl; value = d; is_value = refl; reading = stated-ok (stamped_of moment d) t e }

has-shape : (d : Data) → HasTimelessForm d → has_timeless_shape d ≡ true
has-shape d (verb, do_is, shaped) = test-is is_timeless d verb do_is ∙ shaped

has-form : (d : Data) → has_timeless_shape d ≡ true → HasTimelessForm d
has-form d shape =
    let found = some-verb is_timeless d shape in
    (found.0, found.1.0, found.1.1)

pub command-is-spelled : (moment : Option ℕ) (bytes : List ℕ) (t : Timed) → stamped_line_of moment bytes ≡ line.Command t → IsStampedLineOf moment bytes t
command-is-spelled moment bytes t e =
    let asked = asks moment _ _ _ t (sym (is-read-as moment bytes) ∙ e) in
    let found = spelled (has_timeless_shape asked.value) (SpellsAt moment asked.value) (stamped_of moment asked.value) t (stated-stamped moment asked.value) asked.reading in
    (not-long (length bytes) asked.short, (asked.value, asked.is_value, has-form asked.value found.0, found.1.0, found.1.1, found.1.2))

reads : (moment : Option ℕ) (bytes : List ℕ) (d : Data) → length bytes ≤ longest_line → json_of (without_cr bytes) ≡ Some d → stamped_line_of moment bytes ≡ stated (stamped_of moment d)
reads moment bytes d short found = is-read-as moment bytes ∙ rw (is-short (length bytes) short, is-filled None (without_cr bytes) d found, found) refl

pub spelled-is-command : (moment : Option ℕ) (bytes : List ℕ) (t : Timed) → IsStampedLineOf moment bytes t → stamped_line_of moment bytes ≡ line.Command t
spelled-is-command moment bytes t h =
    reads moment bytes h.1.0 h.0 h.1.1 ∙ ap (λ r. stated r) (reads-stamped moment h.1.0 t (has-shape h.1.0 h.1.2) (h.1.3, h.1.4, h.1.5))

pub shape-is-kept : (moment : Option ℕ) (bytes : List ℕ) → stamped_line_of moment bytes ≡ line.Refused MalformedBody → HasTimelessShape bytes → ⊥
shape-is-kept moment bytes e h = not-malformed (has_timeless_shape h.1.0) (SpellsAt moment h.1.0) (stamped_of moment h.1.0) (stated-stamped moment h.1.0) (has-shape h.1.0 h.1.2) (sym (reads moment bytes h.1.0 h.0 h.1.1) ∙ e)

malformed-read : (moment : Option ℕ) (long empty : Bool) (found : Option Data) → (empty ≡ true → ⊥) → ((d : Data) → long ≡ false → found ≡ Some d → has_timeless_shape d ≡ true → ⊥) → read_as moment long empty found ≡ line.Refused MalformedBody
malformed-read moment true empty found filled other = refl
malformed-read moment false true found filled other = absurd (filled refl)
malformed-read moment false false None filled other = refl
malformed-read moment false false (Some d) filled other = stated-malformed (has_timeless_shape d) (SpellsAt moment d) (stamped_of moment d) (stated-stamped moment d) (other d refl refl)

pub malformed : (moment : Option ℕ) (bytes : List ℕ) → (without_cr bytes ≡ [] → ⊥) → (HasTimelessShape bytes → ⊥) → stamped_line_of moment bytes ≡ line.Refused MalformedBody
malformed moment bytes filled other =
    is-read-as moment bytes ∙ malformed-read moment _ _ _
    (λ e. filled (no-items (without_cr bytes) e))
    (λ d short found shape. other (not-long (length bytes) short, (d, found, has-form d shape)))

-- an empty line asks for nothing
pub skip-empty : (moment : Option ℕ) (bytes : List ℕ) → without_cr bytes ≡ [] → stamped_line_of moment bytes ≡ line.Skip
skip-empty moment bytes e = is-read-as moment bytes ∙ rw (short-if-empty bytes e, e) refl

skips : (moment : Option ℕ) (long empty : Bool) (found : Option Data) → read_as moment long empty found ≡ line.Skip → empty ≡ true
skips moment true empty found e = cc
skips moment false true found e = refl
skips moment false false None e = cc
skips moment false false (Some d) e = stated-skip (stamped_of moment d) e

pub skipped-is-empty : (moment : Option ℕ) (bytes : List ℕ) → stamped_line_of moment bytes ≡ line.Skip → without_cr bytes ≡ []
skipped-is-empty moment bytes e = no-items (without_cr bytes) (skips moment _ _ _ (sym (is-read-as moment bytes) ∙ e))

pub malformed-is-filled : (moment : Option ℕ) (bytes : List ℕ) → stamped_line_of moment bytes ≡ line.Refused MalformedBody → without_cr bytes ≡ [] → ⊥
malformed-is-filled moment bytes e f = let skipped = skip-empty moment bytes f in cc

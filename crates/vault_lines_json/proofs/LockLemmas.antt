-- Retentions, holds and defaults that are read from members of their kinds.
use Rattle.std.proofs.Common.{◌≡◌, ℕ, Bool, true, false, List, refl, ◌∙◌, ap, codes}
use Rattle.std.specs.Prelude.{if◌then◌else◌, IsTrue, Option, Some, None, option_map, MatchOption, Result, Ok, Err}
use Rattle.std.specs.Str.{bytes_eq}
use Rattle.std.proofs.lemmas.Slice.Eq.{bytes_eq-Decides}
use Rattle.serde_json.specs.Data.{Data, string}
use Rattle.serde_json.specs.Find.{get}
use Rattle.vault_base.specs.Moment.{moment_of}
use Rattle.vault_base.specs.MomentFault.{MomentFault}
use Rattle.vault_base.specs.MomentFault.TheVariants as moment
use Rattle.vault_lock.specs.declared.retention.Mode.TheVariants.{Governance, Compliance}
use Rattle.vault_lines_json.specs.declared.members.Whole.{Whole}
use Rattle.vault_lines_json.specs.declared.shape.Kind.TheVariants.{Text, OptionalText, OptionalNumber, OptionalFlag}
use Rattle.vault_values.specs.Fault.{or_invalid}
use Rattle.vault_values.specs.Named.{or_until_refusal, until_named}
use Rattle.vault_values.specs.Locks.{retention_spelled, both_or_none}
use Rattle.vault_lines_json.specs.Locks.{retention_of, optional_retention_of, hold_of, optional_hold_of, bypass_of, default_spelled, default_of}
use Rattle.vault_lines_json.specs.Members.{text_of, optional_text_of, optional_whole_of}
use Rattle.vault_lines_json.specs.Shape.{fits}
use Rattle.vault_lines_json.specs.Spelling.{IsAbsent, IsText, IsRetention, IsOptionalRetention, IsHold, IsOptionalHold, IsFlag, IsDefault}
use Rattle.vault_lines_json.specs.Values.{below}
use Rattle.vault_values.specs.Words.{named, mode_name, mode_named, hold_name, hold_named}
use Rattle.vault_lines_json.proofs.ReadLemmas.{Reads, reads-then, reads-as, IsWhole, reads-text, reads-optional-text, reads-optional-whole, reads-flag}
use Rattle.vault_lines_json.proofs.ValueLemmas.{reads-if-given, reads-below}

-- one of two names
one-named : {A : Type 0} (name : A → List ℕ) (a b : A) (text : List ℕ) (p q : Bool) → bytes_eq text (name a) ≡ p → bytes_eq text (name b) ≡ q → Reads (λ found. text ≡ name found) (or_invalid (if p then Some a else if q then Some b else None))
one-named name a b text true q e f = (bytes_eq-Decides text (name a)).0 e
one-named name a b text false true e f = (bytes_eq-Decides text (name b)).0 f
one-named name a b text false false e f = λ h. cc

pub reads-named : {A : Type 0} (name : A → List ℕ) (a b : A) (text : List ℕ) → Reads (λ found. text ≡ name found) (or_invalid (named name a b text))
reads-named name a b text = one-named name a b text (bytes_eq text (name a)) (bytes_eq text (name b)) refl refl

reads-mode : (text : List ℕ) → Reads (λ mode. text ≡ mode_name mode) (or_invalid (mode_named text))
reads-mode text = reads-named mode_name Governance Compliance text

until-read : (x : Result ℕ MomentFault) → Reads (λ at. x ≡ Ok at) (or_until_refusal x)
until-read (Ok at) = refl
until-read (Err moment.Form) = λ h. cc
until-read (Err moment.Range) = λ h. cc

reads-retention-spelled : (d : Data) (mode until : List ℕ) → IsText d (codes "mode") mode → IsText d (codes "until") until → Reads (IsRetention d) (retention_spelled mode until)
unfolding retention_spelled
reads-retention-spelled d mode until mode_is until_is =
    reads-then _ _ (or_invalid (mode_named mode)) _ (reads-mode mode) (λ m m_is.
    reads-then _ _ (until_named until) _ (until-read (moment_of until)) (λ u u_is.
    (mode_is ∙ ap (λ t. Some (string t)) m_is, (until, until_is, u_is))))

pub reads-retention : (d : Data) → IsTrue (fits Text (get (codes "mode") d)) → IsTrue (fits Text (get (codes "until") d)) → Reads (IsRetention d) (retention_of d)
unfolding retention_of
reads-retention d mode_fits until_fits =
    reads-then _ _ (text_of (codes "mode") d) _ (reads-text (codes "mode") d mode_fits) (λ mode mode_is.
    reads-then _ _ (text_of (codes "until") d) _ (reads-text (codes "until") d until_fits) (λ until until_is.
    reads-retention-spelled d mode until mode_is until_is))

reads-both-or-none : (d : Data) (mode until : Option (List ℕ)) → get (codes "mode") d ≡ option_map string mode → get (codes "until") d ≡ option_map string until → Reads (IsOptionalRetention d) (both_or_none mode until)
unfolding both_or_none
reads-both-or-none d None None e f = (e, f)
reads-both-or-none d None (Some until) e f = λ h. cc
reads-both-or-none d (Some mode) None e f = λ h. cc
reads-both-or-none d (Some mode) (Some until) e f =
    reads-then (IsRetention d) _ (retention_spelled mode until) _ (reads-retention-spelled d mode until e f) (λ r r_is. r_is)

pub reads-optional-retention : (d : Data) → IsTrue (fits OptionalText (get (codes "mode") d)) → IsTrue (fits OptionalText (get (codes "until") d)) → Reads (IsOptionalRetention d) (optional_retention_of d)
unfolding optional_retention_of
reads-optional-retention d mode_fits until_fits =
    reads-then _ _ (optional_text_of (codes "mode") d) _ (reads-optional-text (codes "mode") d mode_fits) (λ mode mode_is.
    reads-then _ _ (optional_text_of (codes "until") d) _ (reads-optional-text (codes "until") d until_fits) (λ until until_is.
    reads-both-or-none d mode until mode_is until_is))

hold-read : (d : Data) (text : List ℕ) → IsText d (codes "hold") text → Reads (IsHold d) (or_invalid (hold_named text))
hold-read d text text_is = reads-as _ _ (or_invalid (hold_named text)) (reads-named hold_name true false text) (λ hold hold_is. text_is ∙ ap (λ t. Some (string t)) hold_is)

pub reads-hold : (d : Data) → IsTrue (fits Text (get (codes "hold") d)) → Reads (IsHold d) (hold_of d)
unfolding hold_of
reads-hold d fit =
    reads-then _ _ (text_of (codes "hold") d) _ (reads-text (codes "hold") d fit) (λ text text_is. hold-read d text text_is)

given-hold : (d : Data) (o : Option (List ℕ)) → get (codes "hold") d ≡ option_map string o → MatchOption o (IsAbsent d (codes "hold")) (IsText d (codes "hold"))
given-hold d None e = e
given-hold d (Some text) e = e

pub reads-optional-hold : (d : Data) → IsTrue (fits OptionalText (get (codes "hold") d)) → Reads (IsOptionalHold d) (optional_hold_of d)
unfolding optional_hold_of
reads-optional-hold d fit =
    reads-then _ _ (optional_text_of (codes "hold") d) _ (reads-optional-text (codes "hold") d fit) (λ o o_is.
    reads-if-given (IsText d (codes "hold")) (IsHold d) _ (λ text. or_invalid (hold_named text)) o (given-hold d o o_is) (λ text text_is. hold-read d text text_is))

pub reads-bypass : (d : Data) → IsTrue (fits OptionalFlag (get (codes "bypass") d)) → Reads (IsFlag d (codes "bypass")) (bypass_of d)
unfolding bypass_of
reads-bypass d fit = reads-flag (codes "bypass") d fit

reads-default-spelled : (d : Data) (mode : Option (List ℕ)) (days years : Option Whole) → get (codes "mode") d ≡ option_map string mode → MatchOption days (get (codes "days") d ≡ None) (IsWhole (get (codes "days") d)) → MatchOption years (get (codes "years") d ≡ None) (IsWhole (get (codes "years") d)) → Reads (IsDefault d) (default_spelled mode days years)
unfolding default_spelled
reads-default-spelled d None None None e f g = (e, f, g)
reads-default-spelled d (Some mode) (Some days) None e f g =
    reads-then _ _ (or_invalid (mode_named mode)) _ (reads-mode mode) (λ m m_is.
    reads-then _ _ (below 4294967296 days) _ (reads-below 4294967296 (get (codes "days") d) days f) (λ n n_is.
    (e ∙ ap (λ t. Some (string t)) m_is, (n_is, g))))
reads-default-spelled d (Some mode) None (Some years) e f g =
    reads-then _ _ (or_invalid (mode_named mode)) _ (reads-mode mode) (λ m m_is.
    reads-then _ _ (below 65536 years) _ (reads-below 65536 (get (codes "years") d) years g) (λ n n_is.
    (e ∙ ap (λ t. Some (string t)) m_is, (n_is, f))))
reads-default-spelled d None (Some days) years e f g = λ h. cc
reads-default-spelled d None None (Some years) e f g = λ h. cc
reads-default-spelled d (Some mode) None None e f g = λ h. cc
reads-default-spelled d (Some mode) (Some days) (Some years) e f g = λ h. cc

pub reads-default : (d : Data) → IsTrue (fits OptionalText (get (codes "mode") d)) → IsTrue (fits OptionalNumber (get (codes "days") d)) → IsTrue (fits OptionalNumber (get (codes "years") d)) → Reads (IsDefault d) (default_of d)
unfolding default_of
reads-default d mode_fits days_fits years_fits =
    reads-then _ _ (optional_text_of (codes "mode") d) _ (reads-optional-text (codes "mode") d mode_fits) (λ mode mode_is.
    reads-then _ _ (optional_whole_of (codes "days") d) _ (reads-optional-whole (codes "days") d days_fits) (λ days days_is.
    reads-then _ _ (optional_whole_of (codes "years") d) _ (reads-optional-whole (codes "years") d years_fits) (λ years years_is.
    reads-default-spelled d mode days years mode_is days_is years_is)))

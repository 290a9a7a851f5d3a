-- Members that spell a value are read as that value.
use Rattle.std.proofs.Common.{◌≡◌, ◌<◌, ℕ, Bool, true, false, List, [], ◌∷◌, refl, inl, inr, codes, arith}
use Rattle.std.specs.Prelude.{nat_lt, IsTrue, Option, Some, None, MatchOption, Ok}
use Rattle.std.proofs.lemmas.Grind.{common_steps}
use Rattle.serde_json.specs.Data.{Data, array, Items, no_items, item}
use Rattle.serde_json.specs.Find.{get}
use Rattle.vault_base.specs.Moment.{moment_of}
use Rattle.vault_base.specs.Name.{is_plain_name, is_version_id}
use Rattle.vault_base.specs.declared.content.Content.{Content}
use Rattle.vault_base.specs.declared.content.Content.TheVariants.{Inside, External}
use Rattle.vault_core_model.specs.declared.rights.Rights.{Rights}
use Rattle.vault_lock.specs.declared.retention.Default.{Default}
use Rattle.vault_lock.specs.declared.retention.Mode.{Mode}
use Rattle.vault_lock.specs.declared.retention.Mode.TheVariants.{Governance, Compliance}
use Rattle.vault_lock.specs.declared.retention.Period.{Period}
use Rattle.vault_lock.specs.declared.retention.Period.TheVariants.{Days, Years}
use Rattle.vault_lock.specs.declared.retention.Retention.{Retention}
use Rattle.vault_rules.specs.declared.rule.Noncurrent.{Noncurrent}
use Rattle.vault_rules.specs.declared.rule.Rule.{Rule}
use Rattle.vault_lines_json.specs.declared.members.Whole.TheVariants.{Natural}
use Rattle.vault_values.specs.Fault.{or_invalid}
use Rattle.vault_values.specs.Named.{until_named, name_of, prefix_named}
use Rattle.vault_values.specs.Locks.{retention_spelled, both_or_none}
use Rattle.vault_lines_json.specs.Locks.{retention_of, optional_retention_of, hold_of, optional_hold_of, bypass_of, default_spelled, default_of}
use Rattle.vault_lines_json.specs.Members.{text_of, optional_text_of, optional_digest_of, whole_of, optional_whole_of, as_texts, texts_of, items_of, flag_of}
use Rattle.vault_lines_json.specs.Rules.{rule_id_in, bounds_in, status_in, expiration_spelled, expiration_in, noncurrent_spelled, noncurrent_in, rule_of, rules_in, rules_of}
use Rattle.vault_lines_json.specs.Spelling.{IsAbsent, IsText, IsName, IsBucket, IsKey, IsPrefix, IsMoment, IsNumber, IsSmall, IsOptionalSmall, IsId, IsOptionalId, IsFlag, IsRights, IsDigest, IsContent, IsRetention, IsOptionalRetention, IsHold, IsOptionalHold, IsPeriod, IsDefault, IsExpiration, IsNoncurrent, AreBounds, IsRule, AreRules, IsRules, items_of_texts}
use Rattle.vault_lines_json.specs.Values.{reading_of, asker_of, caller_of, dept_of, optional_dept_of, batch_of, bucket_of, key_of, prefix_of, below, number_of, optional_number_of, version_of, id_of, optional_id_of, rights_of, inside_of, external_of, content_written, content_of}
use Rattle.vault_values.specs.Words.{mode_name, mode_named, hold_name, hold_named, status_name, status_named}
use Rattle.vault_lines_json.proofs.RightsLemmas.{rights-ok}

-- ---- members of a kind

text-ok : (name : List ℕ) (d : Data) (text : List ℕ) → IsText d name text → text_of name d ≡ Ok text
unfolding text_of
text-ok name d text e = rw e refl

some-text-ok : (name : List ℕ) (d : Data) (text : List ℕ) → IsText d name text → optional_text_of name d ≡ Ok (Some text)
unfolding optional_text_of
some-text-ok name d text e = rw e refl

no-text-ok : (name : List ℕ) (d : Data) → IsAbsent d name → optional_text_of name d ≡ Ok None
unfolding optional_text_of
no-text-ok name d e = rw e refl

some-digest-ok : (name : List ℕ) (d : Data) (digest : List ℕ) → IsDigest d name digest → optional_digest_of name d ≡ Ok (Some digest)
unfolding optional_digest_of
some-digest-ok name d digest (digits, e, f) = rw (e, f) refl

no-digest-ok : (name : List ℕ) (d : Data) → IsAbsent d name → optional_digest_of name d ≡ Ok None
unfolding optional_digest_of
no-digest-ok name d e = rw e refl

whole-ok : (name : List ℕ) (d : Data) (n : ℕ) → IsNumber d name n → whole_of name d ≡ Ok (Natural n)
unfolding whole_of
whole-ok name d n e = rw e refl

some-whole-ok : (name : List ℕ) (d : Data) (n : ℕ) → IsNumber d name n → optional_whole_of name d ≡ Ok (Some (Natural n))
unfolding optional_whole_of
some-whole-ok name d n e = rw e refl

no-whole-ok : (name : List ℕ) (d : Data) → IsAbsent d name → optional_whole_of name d ≡ Ok None
unfolding optional_whole_of
no-whole-ok name d e = rw e refl

pub flag-ok : (name : List ℕ) (d : Data) (flag : Bool) → IsFlag d name flag → flag_of name d ≡ Ok flag
unfolding flag_of
flag-ok name d flag (inl e) = rw e refl
flag-ok name d flag (inr (e, f)) = rw (e, f) refl

items-of-texts-ok : (texts : List (List ℕ)) → as_texts (items_of_texts texts) ≡ Ok texts
items-of-texts-ok [] = refl
items-of-texts-ok (text ∷ texts) = rw (items-of-texts-ok texts) refl

texts-ok : (name : List ℕ) (d : Data) (texts : List (List ℕ)) → get name d ≡ Some (array (items_of_texts texts)) → texts_of name d ≡ Ok texts
unfolding texts_of
texts-ok name d texts e = rw e (items-of-texts-ok texts)

items-ok : (name : List ℕ) (d : Data) (items : Items) → get name d ≡ Some (array items) → items_of name d ≡ Ok items
unfolding items_of
items-ok name d items e = rw e refl

-- ---- names and moments

pub reading-ok : (d : Data) (at : ℕ) → IsMoment d (codes "at") at → reading_of d ≡ Ok at
unfolding reading_of
reading-ok d at h = rw (text-ok (codes "at") d h.0 h.1, h.2) refl

pub asker-ok : (d : Data) (name : List ℕ) → IsName d (codes "as") name → asker_of d ≡ Ok name
unfolding asker_of
asker-ok d name h = rw (text-ok (codes "as") d name h.0, h.1) refl

name-ok : (name : List ℕ) → IsTrue (is_plain_name name) → name_of name ≡ Ok name
unfolding name_of
name-ok name h = rw h refl

pub caller-ok : (d : Data) (name : List ℕ) → IsName d (codes "caller") name → caller_of d ≡ Ok name
unfolding caller_of
caller-ok d name h = rw (text-ok (codes "caller") d name h.0) (name-ok name h.1)

pub dept-ok : (d : Data) (name : List ℕ) → IsName d (codes "dept") name → dept_of d ≡ Ok name
unfolding dept_of
dept-ok d name h = rw (text-ok (codes "dept") d name h.0) (name-ok name h.1)

pub optional-dept-ok : (d : Data) (dept : Option (List ℕ)) → MatchOption dept (IsAbsent d (codes "dept")) (λ dept. IsName d (codes "dept") dept) → optional_dept_of d ≡ Ok dept
unfolding optional_dept_of
optional-dept-ok d None h = rw (no-text-ok (codes "dept") d h) refl
optional-dept-ok d (Some dept) h = rw (some-text-ok (codes "dept") d dept h.0, name-ok dept h.1) refl

pub batch-ok : (d : Data) (name : List ℕ) → IsName d (codes "batch") name → batch_of d ≡ Ok name
unfolding batch_of
batch-ok d name h = rw (text-ok (codes "batch") d name h.0) (name-ok name h.1)

pub bucket-ok : (d : Data) (name : List ℕ) → IsBucket d name → bucket_of d ≡ Ok name
unfolding bucket_of
bucket-ok d name h = rw (text-ok (codes "bucket") d name h.0, h.1) refl

pub key-ok : (d : Data) (name : List ℕ) → IsKey d name → key_of d ≡ Ok name
unfolding key_of
key-ok d name h = rw (text-ok (codes "key") d name h.0, h.1) refl

pub prefix-ok : (name : List ℕ) (d : Data) (prefix : List ℕ) → IsPrefix d name prefix → prefix_of name d ≡ Ok prefix
unfolding prefix_of prefix_named
prefix-ok name d prefix (inl (e, f)) = rw (some-text-ok name d prefix e, f) refl
prefix-ok name d prefix (inr (e, f)) = rw (no-text-ok name d e, f) refl

-- ---- numbers

is-below : (limit n : ℕ) → n < limit → nat_lt n limit ≡ true
is-below limit n h = grind (arith, common_steps)

below-ok : (limit n : ℕ) → n < limit → below limit (Natural n) ≡ Ok n
unfolding below
below-ok limit n h = rw (is-below limit n h) refl

pub number-ok : (name : List ℕ) (d : Data) (n : ℕ) → IsSmall d name n → number_of name d ≡ Ok n
unfolding number_of
number-ok name d n h = rw (whole-ok name d n h.0) (below-ok 4294967296 n h.1)

pub optional-number-ok : (name : List ℕ) (d : Data) (n : Option ℕ) → IsOptionalSmall d name n → optional_number_of name d ≡ Ok n
unfolding optional_number_of
optional-number-ok name d None h = rw (no-whole-ok name d h) refl
optional-number-ok name d (Some n) h = rw (some-whole-ok name d n h.0, below-ok 4294967296 n h.1) refl

version-ok : (n : ℕ) → IsTrue (is_version_id n) → version_of (Natural n) ≡ Ok n
unfolding version_of
version-ok n h = rw h refl

pub id-ok : (d : Data) (id : ℕ) → IsId d (codes "id") id → id_of d ≡ Ok id
unfolding id_of
id-ok d id h = rw (whole-ok (codes "id") d id h.0) (version-ok id h.1)

pub optional-id-ok : (name : List ℕ) (d : Data) (id : Option ℕ) → IsOptionalId d name id → optional_id_of name d ≡ Ok id
unfolding optional_id_of
optional-id-ok name d None h = rw (no-whole-ok name d h) refl
optional-id-ok name d (Some id) h = rw (some-whole-ok name d id h.0, version-ok id h.1) refl

-- ---- rights and contents

pub rights-are : (d : Data) (rights : Rights) → IsRights d rights → rights_of d ≡ Ok rights
unfolding rights_of
rights-are d rights h = rw (texts-ok (codes "rights") d h.0 h.1) (rights-ok h.0 rights h.2 h.3)

pub content-ok : (d : Data) (content : Content) → IsContent d content → content_of d ≡ Ok content
unfolding content_of content_written inside_of external_of
content-ok d (Inside bytes) (inl (e, f), g, h) = rw (some-text-ok (codes "text") d bytes e, no-text-ok (codes "hex") d f, no-digest-ok (codes "sha256") d g, no-whole-ok (codes "size") d h) refl
content-ok d (Inside bytes) (inr (e, (digits, f, i)), g, h) = rw (no-text-ok (codes "text") d e, some-text-ok (codes "hex") d digits f, no-digest-ok (codes "sha256") d g, no-whole-ok (codes "size") d h, i) refl
content-ok d (External r) (e, f, g, h) = rw (no-text-ok (codes "text") d e, no-text-ok (codes "hex") d f, some-digest-ok (codes "sha256") d r.digest g, some-whole-ok (codes "size") d r.size h) refl

-- ---- retention and legal hold

mode-ok : (mode : Mode) → or_invalid (mode_named (mode_name mode)) ≡ Ok mode
mode-ok Governance = refl
mode-ok Compliance = refl

until-ok : (text : List ℕ) (at : ℕ) → moment_of text ≡ Ok at → until_named text ≡ Ok at
until-ok text at e = rw e refl

spelled-ok : (text : List ℕ) (r : Retention) → moment_of text ≡ Ok r.until → retention_spelled (mode_name r.mode) text ≡ Ok r
unfolding retention_spelled
spelled-ok text r e = rw (mode-ok r.mode, until-ok text r.until e) refl

pub retention-ok : (d : Data) (r : Retention) → IsRetention d r → retention_of d ≡ Ok r
unfolding retention_of
retention-ok d r h = rw (text-ok (codes "mode") d (mode_name r.mode) h.0, text-ok (codes "until") d h.1.0 h.1.1) (spelled-ok h.1.0 r h.1.2)

pub optional-retention-ok : (d : Data) (r : Option Retention) → IsOptionalRetention d r → optional_retention_of d ≡ Ok r
unfolding optional_retention_of both_or_none
optional-retention-ok d None h = rw (no-text-ok (codes "mode") d h.0, no-text-ok (codes "until") d h.1) refl
optional-retention-ok d (Some r) h = rw (some-text-ok (codes "mode") d (mode_name r.mode) h.0, some-text-ok (codes "until") d h.1.0 h.1.1, spelled-ok h.1.0 r h.1.2) refl

on-ok : (hold : Bool) → or_invalid (hold_named (hold_name hold)) ≡ Ok hold
on-ok true = refl
on-ok false = refl

pub hold-ok : (d : Data) (hold : Bool) → IsHold d hold → hold_of d ≡ Ok hold
unfolding hold_of
hold-ok d hold h = rw (text-ok (codes "hold") d (hold_name hold) h) (on-ok hold)

pub optional-hold-ok : (d : Data) (hold : Option Bool) → IsOptionalHold d hold → optional_hold_of d ≡ Ok hold
unfolding optional_hold_of
optional-hold-ok d None h = rw (no-text-ok (codes "hold") d h) refl
optional-hold-ok d (Some hold) h = rw (some-text-ok (codes "hold") d (hold_name hold) h, on-ok hold) refl

pub bypass-ok : (d : Data) (flag : Bool) → IsFlag d (codes "bypass") flag → bypass_of d ≡ Ok flag
unfolding bypass_of
bypass-ok d flag h = flag-ok (codes "bypass") d flag h

pub default-ok : (d : Data) (default : Option Default) → IsDefault d default → default_of d ≡ Ok default
unfolding default_of default_spelled
default-ok d None h = rw (no-text-ok (codes "mode") d h.0, no-whole-ok (codes "days") d h.1, no-whole-ok (codes "years") d h.2) refl
default-ok d (Some default) h = of-period default.mode default.period h.0 h.1
  where
    of-period : (mode : Mode) (period : Period) → IsText d (codes "mode") (mode_name mode) → IsPeriod d period → default_of d ≡ Ok (Some (record { mode = mode; period = period }))
    of-period mode (Days n) e f = rw (some-text-ok (codes "mode") d (mode_name mode) e, some-whole-ok (codes "days") d n f.0.0, no-whole-ok (codes "years") d f.1, mode-ok mode, below-ok 4294967296 n f.0.1) refl
    of-period mode (Years n) e f = rw (some-text-ok (codes "mode") d (mode_name mode) e, no-whole-ok (codes "days") d f.1, some-whole-ok (codes "years") d n f.0.0, mode-ok mode, below-ok 65536 n f.0.1) refl

-- ---- lifecycle rules

rule-id-ok : (d : Data) (rule : Rule) → IsRule d rule → rule_id_in d ≡ Ok rule.id
unfolding rule_id_in
rule-id-ok d rule h = rw (text-ok (codes "ID") d rule.id h.0.0, h.0.1) refl

enabled-ok : (enabled : Bool) → or_invalid (status_named (status_name enabled)) ≡ Ok enabled
enabled-ok true = refl
enabled-ok false = refl

status-ok : (d : Data) (enabled : Bool) → IsText d (codes "Status") (status_name enabled) → status_in d ≡ Ok enabled
unfolding status_in
status-ok d enabled h = rw (text-ok (codes "Status") d (status_name enabled) h) (enabled-ok enabled)

expiration-spelled-ok : (d : Data) (days : Option ℕ) (lone : Bool) → IsOptionalSmall d (codes "Days") days → IsFlag d (codes "ExpiredObjectDeleteMarker") lone → expiration_spelled d ≡ Ok (record { days = days; lone_markers = lone })
unfolding expiration_spelled
expiration-spelled-ok d days lone e f = rw (optional-number-ok (codes "Days") d days e, flag-ok (codes "ExpiredObjectDeleteMarker") d lone f) refl

expiration-ok : (d : Data) (days : Option ℕ) (lone : Bool) → IsExpiration d days lone → expiration_in d ≡ Ok (record { days = days; lone_markers = lone })
unfolding expiration_in
expiration-ok d days lone (inl (e, f, g)) = rw (e, f, g) refl
expiration-ok d days lone (inr (value, e, f, g)) = rw e (expiration-spelled-ok value days lone f g)

noncurrent-spelled-ok : (d : Data) (n : Noncurrent) → IsSmall d (codes "NoncurrentDays") n.days → IsOptionalSmall d (codes "NewerNoncurrentVersions") n.newer → noncurrent_spelled d ≡ Ok n
unfolding noncurrent_spelled
noncurrent-spelled-ok d n e f = rw (number-ok (codes "NoncurrentDays") d n.days e, optional-number-ok (codes "NewerNoncurrentVersions") d n.newer f) refl

noncurrent-ok : (d : Data) (n : Option Noncurrent) → IsNoncurrent d n → noncurrent_in d ≡ Ok n
unfolding noncurrent_in
noncurrent-ok d None h = rw h refl
noncurrent-ok d (Some n) h = rw (h.1, noncurrent-spelled-ok h.0 n h.2 h.3) refl

bounds-ok : (d : Data) (larger smaller : Option ℕ) → AreBounds d larger smaller → bounds_in d ≡ Ok (record { larger = larger; smaller = smaller })
unfolding bounds_in
bounds-ok d larger smaller h = rw (optional-number-ok (codes "ObjectSizeGreaterThan") d larger h.0, optional-number-ok (codes "ObjectSizeLessThan") d smaller h.1) refl

rule-ok : (d : Data) (rule : Rule) → IsRule d rule → rule_of d ≡ Ok rule
unfolding rule_of
rule-ok d rule h =
    rw (rule-id-ok d rule h, prefix-ok (codes "Prefix") d rule.prefix h.1, bounds-ok d rule.larger rule.smaller h.2, status-ok d rule.enabled h.3, expiration-ok d rule.days rule.lone_markers h.4, noncurrent-ok d rule.noncurrent h.5) refl

rules-in-ok : (items : Items) (rules : List Rule) → AreRules items rules → rules_in items ≡ Ok rules
rules-in-ok no_items [] h = refl
rules-in-ok no_items (rule ∷ rules) h = absurd h
rules-in-ok (item d ds) [] h = absurd h
rules-in-ok (item d ds) (rule ∷ rules) h = rw (rule-ok d rule h.0, rules-in-ok ds rules h.1) refl

pub rules-ok : (d : Data) (rules : List Rule) → IsRules d rules → rules_of d ≡ Ok rules
unfolding rules_of
rules-ok d rules h = rw (items-ok (codes "rules") d h.0 h.1, rules-in-ok h.0 rules h.2, h.3) refl

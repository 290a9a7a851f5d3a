-- What members spell, said of the values that they are.
use Rattle.std.specs.Prelude.{◌≡◌, ◌<◌, ◌⊎◌, ℕ, List, [], ◌∷◌, codes, Bool, false, IsTrue, Option, Some, None, is_some, MatchOption, Ok}
use Rattle.std.specs.List.{list_all, list_any}
use Rattle.std.specs.Str.{bytes_eq}
use Rattle.hex.specs.Hex.{decode_of, decode_sized}
use Rattle.serde_json.specs.Data.{Data, boolean, string, number, unsigned, array, Items, no_items, item}
use Rattle.serde_json.specs.Find.{get}
use Rattle.vault_base.specs.Moment.{moment_of}
use Rattle.vault_base.specs.Name.{is_bucket_name, is_object_key, is_key_prefix, is_plain_name, is_rule_id, is_version_id}
use Rattle.vault_base.specs.Right.{right_name, right_of}
use Rattle.vault_base.specs.declared.content.Content.{Content}
use Rattle.vault_base.specs.declared.content.Content.TheVariants.{Inside, External}
use Rattle.vault_base.specs.declared.right.Right.{Right}
use Rattle.vault_core_model.specs.Rights.{has}
use Rattle.vault_core_model.specs.declared.rights.Rights.{Rights}
use Rattle.vault_lock.specs.declared.retention.Default.{Default}
use Rattle.vault_lock.specs.declared.retention.Period.{Period}
use Rattle.vault_lock.specs.declared.retention.Period.TheVariants.{Days, Years}
use Rattle.vault_lock.specs.declared.retention.Retention.{Retention}
use Rattle.vault_rules.specs.Rules.{rules_fault}
use Rattle.vault_rules.specs.declared.rule.Noncurrent.{Noncurrent}
use Rattle.vault_rules.specs.declared.rule.Rule.{Rule}
use Rattle.vault_values.specs.Words.{mode_name, hold_name, status_name}

-- the member is left out
abbrev pub IsAbsent : Data → List ℕ → Type 0
IsAbsent d name = get name d ≡ None

-- the member is that text
abbrev pub IsText : Data → List ℕ → List ℕ → Type 0
IsText d name text = get name d ≡ Some (string text)

-- ---- names and moments

-- the member is that name of a caller, a department or a batch
abbrev pub IsName : Data → List ℕ → List ℕ → Type 0
IsName d name text = IsText d name text × IsTrue (is_plain_name text)

abbrev pub IsBucket : Data → List ℕ → Type 0
IsBucket d text = IsText d (codes "bucket") text × IsTrue (is_bucket_name text)

abbrev pub IsKey : Data → List ℕ → Type 0
IsKey d text = IsText d (codes "key") text × IsTrue (is_object_key text)

-- the member is that key prefix; left out, it is the empty one
abbrev pub IsPrefix : Data → List ℕ → List ℕ → Type 0
IsPrefix d name text = (IsText d name text × IsTrue (is_key_prefix text)) ⊎ (IsAbsent d name × (text ≡ []))

-- the member is the text of that moment
abbrev pub IsMoment : Data → List ℕ → ℕ → Type 0
IsMoment d name at = (text : List ℕ) × IsText d name text × (moment_of text ≡ Ok at)

-- ---- numbers and truth values

abbrev pub IsNumber : Data → List ℕ → ℕ → Type 0
IsNumber d name n = get name d ≡ Some (number (unsigned n))

-- the member is that number of 32 bits
abbrev pub IsSmall : Data → List ℕ → ℕ → Type 0
IsSmall d name n = IsNumber d name n × (n < 4294967296)

abbrev pub IsOptionalSmall : Data → List ℕ → Option ℕ → Type 0
IsOptionalSmall d name n = MatchOption n (IsAbsent d name) (λ n. IsSmall d name n)

abbrev pub IsId : Data → List ℕ → ℕ → Type 0
IsId d name id = IsNumber d name id × IsTrue (is_version_id id)

abbrev pub IsOptionalId : Data → List ℕ → Option ℕ → Type 0
IsOptionalId d name id = MatchOption id (IsAbsent d name) (λ id. IsId d name id)

-- the member is that truth value; left out, it is false
abbrev pub IsFlag : Data → List ℕ → Bool → Type 0
IsFlag d name flag = (get name d ≡ Some (boolean flag)) ⊎ (IsAbsent d name × (flag ≡ false))

-- ---- rights

-- the items are these texts
abbrev pub items_of_texts : List (List ℕ) → Items
items_of_texts [] = no_items
items_of_texts (text ∷ texts) = item (string text) (items_of_texts texts)

-- each is the name of a right
abbrev pub are_rights : List (List ℕ) → Bool
are_rights names = list_all (λ name. is_some (right_of name)) names

-- the right's name is among these
abbrev pub is_right_named : List (List ℕ) → Right → Bool
is_right_named names right = list_any (λ name. bytes_eq name (right_name right)) names

-- the member is a list of names of rights, and these are the rights that are named
abbrev pub IsRights : Data → Rights → Type 0
IsRights d rights =
    (names : List (List ℕ)) × (get (codes "rights") d ≡ Some (array (items_of_texts names)))
    × IsTrue (are_rights names) × ((right : Right) → has rights right ≡ is_right_named names right)

-- ---- contents

-- the bytes are those of the member text, or those that the digits of the member hex write
abbrev pub AreBytes : Data → List ℕ → Type 0
AreBytes d bytes =
    (IsText d (codes "text") bytes × IsAbsent d (codes "hex"))
    ⊎ (IsAbsent d (codes "text") × ((digits : List ℕ) × IsText d (codes "hex") digits × (decode_of digits ≡ Ok bytes)))

-- the member is the digest, in 64 hex digits
abbrev pub IsDigest : Data → List ℕ → List ℕ → Type 0
IsDigest d name digest = (digits : List ℕ) × IsText d name digits × (decode_sized digits 32 ≡ Ok digest)

-- the bytes are written by text or hex; of bytes that are kept outside, sha256 and size are the digest and the size
abbrev pub IsContent : Data → Content → Type 0
IsContent d (Inside bytes) = AreBytes d bytes × IsAbsent d (codes "sha256") × IsAbsent d (codes "size")
IsContent d (External r) =
    IsAbsent d (codes "text") × IsAbsent d (codes "hex") × IsDigest d (codes "sha256") r.digest × IsNumber d (codes "size") r.size

-- ---- retention and legal hold

abbrev pub IsRetention : Data → Retention → Type 0
IsRetention d retention = IsText d (codes "mode") (mode_name retention.mode) × IsMoment d (codes "until") retention.until

abbrev pub IsOptionalRetention : Data → Option Retention → Type 0
IsOptionalRetention d retention =
    MatchOption retention (IsAbsent d (codes "mode") × IsAbsent d (codes "until")) (λ retention. IsRetention d retention)

abbrev pub IsHold : Data → Bool → Type 0
IsHold d hold = IsText d (codes "hold") (hold_name hold)

abbrev pub IsOptionalHold : Data → Option Bool → Type 0
IsOptionalHold d hold = MatchOption hold (IsAbsent d (codes "hold")) (λ hold. IsHold d hold)

abbrev pub IsPeriod : Data → Period → Type 0
IsPeriod d (Days n) = IsSmall d (codes "days") n × IsAbsent d (codes "years")
IsPeriod d (Years n) = (IsNumber d (codes "years") n × (n < 65536)) × IsAbsent d (codes "days")

-- a mode with days or years; nothing of them says that there is no default
abbrev pub IsDefault : Data → Option Default → Type 0
IsDefault d default =
    MatchOption default
    (IsAbsent d (codes "mode") × IsAbsent d (codes "days") × IsAbsent d (codes "years"))
    (λ default. IsText d (codes "mode") (mode_name default.mode) × IsPeriod d default.period)

-- ---- lifecycle rules

-- an Expiration that is left out, or empty, asks for nothing
abbrev pub IsExpiration : Data → Option ℕ → Bool → Type 0
IsExpiration d days lone_markers =
    (IsAbsent d (codes "Expiration") × (days ≡ None) × (lone_markers ≡ false))
    ⊎ ((e : Data) × (get (codes "Expiration") d ≡ Some e) × IsOptionalSmall e (codes "Days") days × IsFlag e (codes "ExpiredObjectDeleteMarker") lone_markers)

abbrev pub IsNoncurrent : Data → Option Noncurrent → Type 0
IsNoncurrent d noncurrent =
    MatchOption noncurrent
    (IsAbsent d (codes "NoncurrentVersionExpiration"))
    (λ noncurrent. (e : Data) × (get (codes "NoncurrentVersionExpiration") d ≡ Some e) × IsSmall e (codes "NoncurrentDays") noncurrent.days × IsOptionalSmall e (codes "NewerNoncurrentVersions") noncurrent.newer)

-- the bounds of sizes, each of which may be left out
abbrev pub AreBounds : Data → Option ℕ → Option ℕ → Type 0
AreBounds d larger smaller = IsOptionalSmall d (codes "ObjectSizeGreaterThan") larger × IsOptionalSmall d (codes "ObjectSizeLessThan") smaller

abbrev pub IsRule : Data → Rule → Type 0
IsRule d rule =
    (IsText d (codes "ID") rule.id × IsTrue (is_rule_id rule.id))
    × IsPrefix d (codes "Prefix") rule.prefix
    × AreBounds d rule.larger rule.smaller
    × IsText d (codes "Status") (status_name rule.enabled)
    × IsExpiration d rule.days rule.lone_markers
    × IsNoncurrent d rule.noncurrent

-- the items are these rules, one after another
abbrev pub AreRules : Items → List Rule → Type 0
AreRules no_items [] = Unit {0}
AreRules no_items (rule ∷ rules) = ⊥
AreRules (item d ds) [] = ⊥
AreRules (item d ds) (rule ∷ rules) = IsRule d rule × AreRules ds rules

-- the member is a list of these rules, and nothing is wrong with it
abbrev pub IsRules : Data → List Rule → Type 0
IsRules d rules = (items : Items) × (get (codes "rules") d ≡ Some (array items)) × AreRules items rules × (rules_fault rules ≡ None)

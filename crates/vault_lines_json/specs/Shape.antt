-- The shape of an object: which members it has, each of its JSON type.
use Rattle.std.specs.Prelude.{ℕ, List, [], ◌∷◌, ◌&&◌, codes, Bool, true, false, Option, is_some}
use Rattle.std.specs.List.{list_all, list_any}
use Rattle.std.specs.Option.{option_map_or}
use Rattle.std.specs.Str.{bytes_eq}
use Rattle.serde_json.specs.Data.{Data, Items, no_items, item, Members, no_members, member}
use Rattle.serde_json.specs.Find.{get, as_str, as_bool, as_array, as_object}
use Rattle.vault_lines_json.specs.Members.{as_digest, as_whole}
use Rattle.vault_lines_json.specs.declared.shape.Kind.{Kind}
use Rattle.vault_lines_json.specs.declared.shape.Kind.TheVariants.{Text, OptionalText, OptionalDigest, Number, OptionalNumber, OptionalFlag, Texts, Rules}

-- ---- JSON types

abbrev pub is_text : Data → Bool
is_text d = is_some (as_str d)

-- a text of 64 hex digits
abbrev pub is_digest : Data → Bool
is_digest d = is_some (as_digest d)

-- a number with a point or an exponent isn't whole, and neither is -0 or one beyond 64 bits
abbrev pub is_number : Data → Bool
is_number d = is_some (as_whole d)

abbrev pub is_flag : Data → Bool
is_flag d = is_some (as_bool d)

abbrev pub all_items : (Data → Bool) → Items → Bool
all_items test no_items = true
all_items test (item d ds) = test d && all_items test ds

abbrev pub is_list_of : (Data → Bool) → Data → Bool
is_list_of test d = option_map_or (all_items test) (as_array d) false

abbrev pub are_texts : Data → Bool
are_texts d = is_list_of is_text d

-- a member that must be there
abbrev pub needed : (Data → Bool) → Option Data → Bool
needed test found = option_map_or test found false

-- a member that may be left out; null is a value like others
abbrev pub optional : (Data → Bool) → Option Data → Bool
optional test found = option_map_or test found true

-- ---- names of members

abbrev pub is_among : List (List ℕ) → List ℕ → Bool
is_among names name = list_any (bytes_eq name) names

abbrev pub are_within : List (List ℕ) → Members → Bool
are_within names no_members = true
are_within names (member name value others) = is_among names name && are_within names others

-- the value is an object, and no member has another name than these
abbrev pub is_within : List (List ℕ) → Data → Bool
is_within names d = option_map_or (are_within names) (as_object d) false

-- ---- lifecycle rules, as S3's JSON has them

abbrev pub is_expiration : Data → Bool
is_expiration d =
    is_within (codes "Days" ∷ codes "ExpiredObjectDeleteMarker" ∷ []) d
    && (optional is_number (get (codes "Days") d) && optional is_flag (get (codes "ExpiredObjectDeleteMarker") d))

abbrev pub may_have_expiration : Data → Bool
may_have_expiration d = optional is_expiration (get (codes "Expiration") d)

abbrev pub is_noncurrent : Data → Bool
is_noncurrent d =
    is_within (codes "NoncurrentDays" ∷ codes "NewerNoncurrentVersions" ∷ []) d
    && (needed is_number (get (codes "NoncurrentDays") d) && optional is_number (get (codes "NewerNoncurrentVersions") d))

abbrev pub may_have_noncurrent : Data → Bool
may_have_noncurrent d = optional is_noncurrent (get (codes "NoncurrentVersionExpiration") d)

abbrev pub may_have_bounds : Data → Bool
may_have_bounds d = optional is_number (get (codes "ObjectSizeGreaterThan") d) && optional is_number (get (codes "ObjectSizeLessThan") d)

abbrev pub has_rule_names : Data → Bool
has_rule_names d =
    is_within
    (codes "ID" ∷ codes "Prefix" ∷ codes "ObjectSizeGreaterThan" ∷ codes "ObjectSizeLessThan" ∷ codes "Status" ∷ codes "Expiration"
    ∷ codes "NoncurrentVersionExpiration" ∷ [])
    d

abbrev pub is_rule : Data → Bool
is_rule d =
    has_rule_names d
    && (needed is_text (get (codes "ID") d)
    && (optional is_text (get (codes "Prefix") d)
    && (may_have_bounds d && (needed is_text (get (codes "Status") d) && (may_have_expiration d && may_have_noncurrent d)))))

abbrev pub are_rules : Data → Bool
are_rules d = is_list_of is_rule d

-- ---- objects

-- what is found of a member is of that kind
abbrev pub fits : Kind → Option Data → Bool
fits Text found = needed is_text found
fits OptionalText found = optional is_text found
fits OptionalDigest found = optional is_digest found
fits Number found = needed is_number found
fits OptionalNumber found = optional is_number found
fits OptionalFlag found = optional is_flag found
fits Texts found = needed are_texts found
fits Rules found = needed are_rules found

-- each of these members is of its kind
abbrev pub fits_each : List (List ℕ × Kind) → Data → Bool
fits_each members d = list_all (λ m. fits m.1 (get m.0 d)) members

abbrev pub is_named : List (List ℕ × Kind) → List ℕ → Bool
is_named members name = list_any (λ m. bytes_eq name m.0) members

abbrev pub have_names : List (List ℕ × Kind) → Members → Bool
have_names members no_members = true
have_names members (member name value others) = is_named members name && have_names members others

-- the value is an object, and each member has one of these names
abbrev pub are_named : List (List ℕ × Kind) → Data → Bool
are_named members d = option_map_or (have_names members) (as_object d) false

-- the value is an object of just these members, each of its kind
abbrev pub has_members : List (List ℕ × Kind) → Data → Bool
has_members members d = are_named members d && fits_each members d

-- of text, hex, sha256 and size, those are there that write one content: text, or hex, or the two others
abbrev pub write_one : Bool → Bool → Bool → Bool → Bool
write_one true false false false = true
write_one false true false false = true
write_one false false true true = true
write_one _ _ _ _ = false

abbrev pub has_one_content : Data → Bool
has_one_content d = write_one (is_some (get (codes "text") d)) (is_some (get (codes "hex") d)) (is_some (get (codes "sha256") d)) (is_some (get (codes "size") d))

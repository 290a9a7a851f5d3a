-- What a target asks about: first its path, then the names and the values of its query.
use Rattle.std.specs.Prelude.{ℕ, ◌==◌, ◌&&◌, not, nat_le, List, [], ◌∷◌, codes, Bool, Option, Some, None, is_some, Result, Ok, Err, if◌then◌else◌, ⊤}
use Rattle.std.specs.Str.{bytes_eq}
use Rattle.vault_base.specs.Limits.{most_listed}
use Rattle.vault_base.specs.Name.{version_id_of}
use Rattle.vault_base.specs.declared.refusal.Refusal.{Refusal}
use Rattle.vault_base.specs.declared.refusal.Refusal.TheVariants.{InvalidArgument, NotImplemented}
use Rattle.vault_core_model.specs.declared.command.ListVersions.{ListVersions}
use Rattle.vault_values.specs.Fault.{◌>>=◌, or_refused, if_given}
use Rattle.vault_values.specs.Named.{prefix_if}
use Rattle.vault_http_target.specs.Fields.{Fields}
use Rattle.vault_http_target.specs.Number.{number_upto}
use Rattle.vault_http_target.specs.Path.{before, after}
use Rattle.vault_http_target.specs.ResourcePath.{resource_path_of}
use Rattle.vault_http_target.specs.Query.{pairs_of, value_named, has_named, are_among, count_among}
use Rattle.vault_http_target.specs.declared.resource_path.ResourcePath.{ResourcePath}
use Rattle.vault_http_target.specs.declared.resource_path.ResourcePath.TheVariants as path
use Rattle.vault_http_target.specs.declared.target.Object.{Object}
use Rattle.vault_http_target.specs.declared.target.Target.{Target}
use Rattle.vault_http_target.specs.declared.target.Target.TheVariants as target

abbrev pub at_most_one : List (List ℕ) → Fields → Bool
at_most_one names pairs = nat_le (count_among names pairs) 1

-- ---- a key

abbrev pub key_subresources : List (List ℕ)
key_subresources = codes "retention" ∷ codes "legal-hold" ∷ []

abbrev pub key_names : List (List ℕ)
key_names = codes "retention" ∷ codes "legal-hold" ∷ codes "versionId" ∷ codes "x-id" ∷ []

-- x-id may stand more than once
abbrev pub are_single_of_key : Fields → Bool
are_single_of_key pairs = at_most_one key_subresources pairs && at_most_one (codes "versionId" ∷ []) pairs

-- a foreign name anywhere comes before a name too many
abbrev pub names_of_key : Fields → Result ⊤ Refusal
names_of_key pairs =
    if are_among key_names pairs then (if are_single_of_key pairs then Ok tt else Err InvalidArgument) else Err NotImplemented

-- a version id, where one is given
abbrev pub version : Option (List ℕ) → Result (Option ℕ) Refusal
version text = if_given (λ t. or_refused InvalidArgument (version_id_of t)) text

-- a new version gets the next id, and none can be asked for
abbrev pub unless_new : Bool → Option ℕ → Result (Option ℕ) Refusal
unless_new is_put id = if is_some id && is_put then Err InvalidArgument else Ok id

abbrev pub makes_version : Fields → List ℕ → Bool
makes_version pairs method = count_among key_subresources pairs == 0 && bytes_eq method (codes "PUT")

unfoldable pub id_of : Fields → List ℕ → Result (Option ℕ) Refusal
id_of pairs method = do
  id ← version (value_named (codes "versionId") pairs)
  unless_new (makes_version pairs method) id

abbrev pub about_object : Fields → Object → Target
about_object pairs object =
    if has_named (codes "retention") pairs then target.Retention object
    else (if has_named (codes "legal-hold") pairs then target.LegalHold object else target.Object object)

unfoldable pub target_of_key : List ℕ → List ℕ → Fields → List ℕ → Result Target Refusal
target_of_key bucket key pairs method = do
  _ ← names_of_key pairs
  id ← id_of pairs method
  Ok (about_object pairs (record { bucket = bucket; key = key; id = id }))

-- ---- a bucket

abbrev pub bucket_subresources : List (List ℕ)
bucket_subresources = codes "versions" ∷ codes "object-lock" ∷ codes "lifecycle" ∷ []

abbrev pub bucket_names : List (List ℕ)
bucket_names = codes "versions" ∷ codes "object-lock" ∷ codes "lifecycle" ∷ codes "x-id" ∷ []

abbrev pub listing_names : List (List ℕ)
listing_names = codes "versions" ∷ codes "object-lock" ∷ codes "lifecycle" ∷ codes "x-id" ∷ codes "prefix" ∷ codes "key-marker" ∷ codes "version-id-marker" ∷ codes "max-keys" ∷ []

-- the names of a listing belong to no other target
abbrev pub are_known_of_bucket : Fields → Bool
are_known_of_bucket pairs =
    if has_named (codes "versions") pairs then are_among listing_names pairs else are_among bucket_names pairs

abbrev pub are_single_of_bucket : Fields → Bool
are_single_of_bucket pairs =
    at_most_one bucket_subresources pairs
    && (at_most_one (codes "prefix" ∷ []) pairs
    && (at_most_one (codes "key-marker" ∷ []) pairs
    && (at_most_one (codes "version-id-marker" ∷ []) pairs && at_most_one (codes "max-keys" ∷ []) pairs)))

abbrev pub names_of_bucket : Fields → Result ⊤ Refusal
names_of_bucket pairs =
    if are_known_of_bucket pairs then (if are_single_of_bucket pairs then Ok tt else Err InvalidArgument) else Err NotImplemented

-- the entry after which a listing begins means nothing without its key
abbrev pub with_key : Bool → Option ℕ → Result (Option ℕ) Refusal
with_key has_key id = if is_some id && not has_key then Err InvalidArgument else Ok id

unfoldable pub after_id_of : Fields → Result (Option ℕ) Refusal
after_id_of pairs = do
  id ← version (value_named (codes "version-id-marker") pairs)
  with_key (has_named (codes "key-marker") pairs) id

-- 1,000 where it isn't given; zeros may stand in front
abbrev pub most : Option (List ℕ) → Result ℕ Refusal
most None = Ok most_listed
most (Some text) = or_refused InvalidArgument (number_upto 4294967295 text)

-- a value that is given is read also where it is empty
unfoldable pub listing_of : List ℕ → Fields → Result ListVersions Refusal
listing_of bucket pairs = do
  prefix ← prefix_if (value_named (codes "prefix") pairs)
  after_key ← prefix_if (value_named (codes "key-marker") pairs)
  after_id ← after_id_of pairs
  most ← most (value_named (codes "max-keys") pairs)
  Ok (record { bucket = bucket; prefix = prefix; after_key = after_key; after_id = after_id; most = most })

abbrev pub listed : List ℕ → Fields → Result Target Refusal
listed bucket pairs = do
  listing ← listing_of bucket pairs
  Ok (target.Versions listing)

abbrev pub about_bucket : List ℕ → Fields → Result Target Refusal
about_bucket bucket pairs =
    if has_named (codes "versions") pairs then listed bucket pairs
    else (if has_named (codes "object-lock") pairs then Ok (target.ObjectLock bucket)
    else (if has_named (codes "lifecycle") pairs then Ok (target.Lifecycle bucket) else Ok (target.Bucket bucket)))

unfoldable pub target_of_bucket : List ℕ → Fields → Result Target Refusal
target_of_bucket bucket pairs = do
  _ ← names_of_bucket pairs
  about_bucket bucket pairs

-- ---- targets

abbrev pub target_at : ResourcePath → Fields → List ℕ → Result Target Refusal
target_at (path.Bucket bucket) pairs method = target_of_bucket bucket pairs
target_at (path.Key bucket key) pairs method = target_of_key bucket key pairs method

-- the query stands after the first question mark
unfoldable pub target_of : List ℕ → List ℕ → Result Target Refusal
target_of method target = do
  path ← resource_path_of (before 63 target)
  target_at path (pairs_of (after 63 target)) method

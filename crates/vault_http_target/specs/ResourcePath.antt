-- The bucket that a path names, and its key.
use Rattle.std.specs.Prelude.{ℕ, ◌==◌, List, length, drop, Result, Ok, Err, if◌then◌else◌, ⊤}
use Rattle.vault_base.specs.declared.refusal.Refusal.{Refusal}
use Rattle.vault_base.specs.declared.refusal.Refusal.TheVariants.{InvalidArgument, InvalidBucketName}
use Rattle.vault_values.specs.Fault.{◌>>=◌}
use Rattle.vault_values.specs.Named.{bucket_named, key_named}
use Rattle.vault_http_target.specs.Path.{before, after, decoded}
use Rattle.vault_http_target.specs.Routes.{is_routed}
use Rattle.vault_http_target.specs.declared.resource_path.ResourcePath.{ResourcePath}
use Rattle.vault_http_target.specs.declared.resource_path.ResourcePath.TheVariants.{Bucket, Key}

abbrev pub routed : List ℕ → Result ⊤ Refusal
routed path = if is_routed path then Ok tt else Err InvalidArgument

unfoldable pub bucket_in : List ℕ → Result (List ℕ) Refusal
bucket_in part = do
  text ← decoded InvalidBucketName part
  bucket_named text

unfoldable pub key_in : List ℕ → Result (List ℕ) Refusal
key_in part = do
  text ← decoded InvalidArgument part
  key_named text

abbrev pub key_of_bucket : List ℕ → List ℕ → Result ResourcePath Refusal
key_of_bucket bucket part = do
  key ← key_in part
  Ok (Key bucket key)

-- after the bucket's slash stands a key, or nothing
unfoldable pub resource_path_within : List ℕ → List ℕ → Result ResourcePath Refusal
resource_path_within bucket part = if length part == 0 then Ok (Bucket bucket) else key_of_bucket bucket part

-- the path is cut at its second slash before it is decoded, so that %2F cuts nothing
unfoldable pub resource_path_of : List ℕ → Result ResourcePath Refusal
resource_path_of path = do
  _ ← routed path
  bucket ← bucket_in (before 47 (drop 1 path))
  resource_path_within bucket (after 47 (drop 1 path))

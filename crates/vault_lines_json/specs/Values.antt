-- What the members of an object spell, each with its refusal: names, moments, numbers, rights and contents.
use Rattle.std.specs.Prelude.{ℕ, List, codes, nat_lt, if◌then◌else◌, Option, Some, None, Result, Ok, Err}
use Rattle.hex.specs.Hex.{decode_of}
use Rattle.serde_json.specs.Data.{Data}
use Rattle.vault_base.specs.Name.{is_version_id}
use Rattle.vault_base.specs.declared.content.Content.{Content}
use Rattle.vault_base.specs.declared.content.Content.TheVariants.{Inside, External}
use Rattle.vault_base.specs.declared.refusal.Refusal.{Refusal}
use Rattle.vault_base.specs.declared.refusal.Refusal.TheVariants.{InvalidArgument, MalformedBody}
use Rattle.vault_core_model.specs.declared.rights.Rights.{Rights}
use Rattle.vault_values.specs.Fault.{◌>>=◌, if_given, or_refused}
use Rattle.vault_values.specs.Named.{reading_named, asker_named, name_of, bucket_named, key_named, prefix_if}
use Rattle.vault_values.specs.Rights.{rights_named}
use Rattle.vault_lines_json.specs.Members.{text_of, optional_text_of, optional_digest_of, whole_of, optional_whole_of, texts_of}
use Rattle.vault_lines_json.specs.declared.members.Whole.{Whole}
use Rattle.vault_lines_json.specs.declared.members.Whole.TheVariants.{Negative, Natural}

-- ---- moments

unfoldable pub reading_of : Data → Result ℕ Refusal
reading_of d = do
  text ← text_of (codes "at") d
  reading_named text

-- ---- names

unfoldable pub asker_of : Data → Result (List ℕ) Refusal
asker_of d = do
  text ← text_of (codes "as") d
  asker_named text

unfoldable pub caller_of : Data → Result (List ℕ) Refusal
caller_of d = do
  text ← text_of (codes "caller") d
  name_of text

unfoldable pub dept_of : Data → Result (List ℕ) Refusal
dept_of d = do
  text ← text_of (codes "dept") d
  name_of text

unfoldable pub optional_dept_of : Data → Result (Option (List ℕ)) Refusal
optional_dept_of d = do
  text ← optional_text_of (codes "dept") d
  if_given name_of text

unfoldable pub bucket_of : Data → Result (List ℕ) Refusal
bucket_of d = do
  text ← text_of (codes "bucket") d
  bucket_named text

unfoldable pub key_of : Data → Result (List ℕ) Refusal
key_of d = do
  text ← text_of (codes "key") d
  key_named text

unfoldable pub prefix_of : List ℕ → Data → Result (List ℕ) Refusal
prefix_of name d = do
  text ← optional_text_of name d
  prefix_if text

unfoldable pub batch_of : Data → Result (List ℕ) Refusal
batch_of d = do
  text ← text_of (codes "batch") d
  name_of text

-- ---- numbers

-- a number below that limit
unfoldable pub below : ℕ → Whole → Result ℕ Refusal
below limit Negative = Err InvalidArgument
below limit (Natural n) = if nat_lt n limit then Ok n else Err InvalidArgument

-- a number of 32 bits
unfoldable pub number_of : List ℕ → Data → Result ℕ Refusal
number_of name d = do
  number ← whole_of name d
  below 4294967296 number

unfoldable pub optional_number_of : List ℕ → Data → Result (Option ℕ) Refusal
optional_number_of name d = do
  number ← optional_whole_of name d
  if_given (below 4294967296) number

-- 1 to 1,000,000,000
unfoldable pub version_of : Whole → Result ℕ Refusal
version_of Negative = Err InvalidArgument
version_of (Natural n) = if is_version_id n then Ok n else Err InvalidArgument

unfoldable pub id_of : Data → Result ℕ Refusal
id_of d = do
  number ← whole_of (codes "id") d
  version_of number

unfoldable pub optional_id_of : List ℕ → Data → Result (Option ℕ) Refusal
optional_id_of name d = do
  number ← optional_whole_of name d
  if_given version_of number

-- ---- rights

unfoldable pub rights_of : Data → Result Rights Refusal
rights_of d = do
  names ← texts_of (codes "rights") d
  rights_named names

-- ---- contents

-- the bytes that the hex digits write, in either letter case
unfoldable pub inside_of : List ℕ → Result Content Refusal
inside_of hex = do
  bytes ← or_refused InvalidArgument (decode_of hex)
  Ok (Inside bytes)

-- bytes that are kept outside, of that digest and size
unfoldable pub external_of : List ℕ → Whole → Result Content Refusal
external_of digest Negative = Err InvalidArgument
external_of digest (Natural size) = Ok (External (record { size = size; digest = digest }))

-- the bytes of the text, or those that the hex digits write, or bytes that are kept outside
unfoldable pub content_written : Option (List ℕ) → Option (List ℕ) → Option (List ℕ) → Option Whole → Result Content Refusal
content_written (Some text) None None None = Ok (Inside text)
content_written None (Some hex) None None = inside_of hex
content_written None None (Some digest) (Some size) = external_of digest size
content_written _ _ _ _ = Err MalformedBody

unfoldable pub content_of : Data → Result Content Refusal
content_of d = do
  text ← optional_text_of (codes "text") d
  hex ← optional_text_of (codes "hex") d
  digest ← optional_digest_of (codes "sha256") d
  size ← optional_whole_of (codes "size") d
  content_written text hex digest size

-- The content of a version: its bytes, or what is registered of bytes that are kept outside.
use Rattle.std.specs.Prelude.{ℕ, List, length, Bool, true, false}
use Rattle.sha2.specs.Sha256.{sha256}
use Rattle.vault_base.specs.declared.content.Content.{Content}
use Rattle.vault_base.specs.declared.content.Content.TheVariants.{Inside, External}
use Rattle.vault_base.specs.Limits.{most_content, most_external}

-- how many bytes it has
abbrev pub size : Content → ℕ
size (Inside bytes) = length bytes
size (External r) = r.size

-- the SHA-256 digest of its bytes (FIPS 180-4)
abbrev pub digest : Content → List ℕ
digest (Inside bytes) = sha256 bytes
digest (External r) = r.digest

-- its bytes are kept outside
abbrev pub is_external : Content → Bool
is_external (Inside bytes) = false
is_external (External r) = true

-- how many bytes it may have
abbrev pub most_size : Content → ℕ
most_size (Inside bytes) = most_content
most_size (External r) = most_external

-- The JSON value that bytes are.
use Rattle.std.specs.Prelude.{ℕ, List, if◌then◌else◌, Option, Some, None, Result, Ok, Err}
use Rattle.std.specs.Str.{is_utf8}
use Rattle.serde_json.specs.Data.{Data}
use Rattle.serde_json.specs.Read.{read}
use Rattle.vault_base.specs.declared.refusal.Refusal.{Refusal}
use Rattle.vault_base.specs.declared.refusal.Refusal.TheVariants.{MalformedBody}

-- a value that is there, or else MalformedBody
abbrev pub or_malformed : {A : Type 0} → Option A → Result A Refusal
or_malformed None = Err MalformedBody
or_malformed (Some x) = Ok x

-- the value of a text in UTF-8 that is JSON, of a member that is repeated the last value
abbrev pub json_of : List ℕ → Option Data
json_of bytes = if is_utf8 bytes then read bytes else None

abbrev pub document_of : List ℕ → Result Data Refusal
document_of bytes = or_malformed (json_of bytes)

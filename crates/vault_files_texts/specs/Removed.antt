-- What is said of a removed entry: its digest, who admitted it, why it was removed, and how long it was held.
use Rattle.std.specs.Prelude.{ℕ, ◌-◌, List, [], ◌++◌, Option, Some, None, codes}
use Rattle.hex.specs.Hex.{encode_lower}
use Rattle.vault_base.specs.Days.{day}
use Rattle.vault_core_model.specs.declared.records.Author.{Author}
use Rattle.vault_core_model.specs.declared.records.Author.TheVariants as author
use Rattle.vault_core_model.specs.declared.records.Cause.{Cause}
use Rattle.vault_core_model.specs.declared.records.Cause.TheVariants as cause

-- the hex digits of a digest; a marker has none
abbrev pub digest_text : Option (List ℕ) → List ℕ
digest_text None = []
digest_text (Some digest) = encode_lower digest

-- a caller's name, or the rule of a run that admitted a marker
abbrev pub author_text : Author → List ℕ
author_text (author.Caller caller) = caller
author_text (author.Rule rule) = codes "rule " ++ rule

-- the kind of a removal
abbrev pub cause_kind : Cause → List ℕ
cause_kind (cause.Request caller) = codes "request"
cause_kind (cause.Bypass caller) = codes "bypass"
cause_kind (cause.Rule rule) = codes "rule"

-- the caller who asked for it, or the rule that made it due
abbrev pub cause_name : Cause → List ℕ
cause_name (cause.Request caller) = caller
cause_name (cause.Bypass caller) = caller
cause_name (cause.Rule rule) = rule

-- the whole days from one moment to another: midnights in UTC that lie between
abbrev pub days_between : ℕ → ℕ → ℕ
days_between admitted removed = day removed - day admitted

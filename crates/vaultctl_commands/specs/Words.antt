-- What words spell, each with its refusal, beside what the members of a script's line do.
use Rattle.std.specs.Prelude.{ℕ, List, Option, Result}
use Rattle.vault_base.specs.Moment.{moment_of}
use Rattle.vault_base.specs.Name.{version_id_of}
use Rattle.vault_base.specs.declared.refusal.Refusal.{Refusal}
use Rattle.vault_base.specs.declared.refusal.Refusal.TheVariants.{InvalidArgument}
use Rattle.vault_values.specs.Fault.{if_given, or_refused}
use Rattle.vault_values.specs.Named.{name_of, reading_named}

-- the reading, where one is given
unfoldable pub optional_reading : Option (List ℕ) → Result (Option ℕ) Refusal
optional_reading text = if_given reading_named text

-- a moment that is no reading
abbrev pub moment_named : List ℕ → Result ℕ Refusal
moment_named text = or_refused InvalidArgument (moment_of text)

-- the same, where one is given
unfoldable pub optional_moment : Option (List ℕ) → Result (Option ℕ) Refusal
optional_moment text = if_given moment_named text

-- the name of a department, where one is given
unfoldable pub optional_dept : Option (List ℕ) → Result (Option (List ℕ)) Refusal
optional_dept text = if_given name_of text

-- a number from 1 to 1,000,000,000, in decimal without a sign and without zeros in front
unfoldable pub version_named : List ℕ → Result ℕ Refusal
version_named text = or_refused InvalidArgument (version_id_of text)

-- What texts name, each with its refusal: moments, callers, departments, batches, buckets and keys.
use Rattle.std.specs.Prelude.{ℕ, List, [], Option, Some, None, Result, Ok, Err}
use Rattle.vault_base.specs.Moment.{moment_of}
use Rattle.vault_base.specs.Name.{bucket_name_of, object_key_of, key_prefix_of, plain_name_of}
use Rattle.vault_base.specs.MomentFault.{MomentFault}
use Rattle.vault_base.specs.MomentFault.TheVariants as moment
use Rattle.vault_base.specs.declared.name.NameFault.{NameFault}
use Rattle.vault_base.specs.declared.name.NameFault.TheVariants.{Empty, TooLong, Form}
use Rattle.vault_base.specs.declared.refusal.Reason.TheVariants.{UnknownCaller}
use Rattle.vault_base.specs.declared.refusal.Refusal.{Refusal}
use Rattle.vault_base.specs.declared.refusal.Refusal.TheVariants.{AccessDenied, ClockOutOfRange, InvalidArgument, InvalidBucketName, KeyTooLongError, RetentionOutOfRange}
use Rattle.vault_values.specs.Fault.{or_refused}

-- ---- moments

-- why a text is no moment, where it is a reading
abbrev pub clock_refusal : MomentFault → Refusal
clock_refusal moment.Form = InvalidArgument
clock_refusal moment.Range = ClockOutOfRange

abbrev pub or_clock_refusal : Result ℕ MomentFault → Result ℕ Refusal
or_clock_refusal (Ok at) = Ok at
or_clock_refusal (Err fault) = Err (clock_refusal fault)

abbrev pub reading_named : List ℕ → Result ℕ Refusal
reading_named text = or_clock_refusal (moment_of text)

-- why a text is no moment, where it is the end of a retention
abbrev pub until_refusal : MomentFault → Refusal
until_refusal moment.Form = InvalidArgument
until_refusal moment.Range = RetentionOutOfRange

abbrev pub or_until_refusal : Result ℕ MomentFault → Result ℕ Refusal
or_until_refusal (Ok at) = Ok at
or_until_refusal (Err fault) = Err (until_refusal fault)

abbrev pub until_named : List ℕ → Result ℕ Refusal
until_named text = or_until_refusal (moment_of text)

-- ---- names

-- nobody can be known by what is no name
abbrev pub asker_named : List ℕ → Result (List ℕ) Refusal
asker_named text = or_refused (AccessDenied UnknownCaller) (plain_name_of text)

-- the name of a caller, a department or a batch
unfoldable pub name_of : List ℕ → Result (List ℕ) Refusal
name_of text = or_refused InvalidArgument (plain_name_of text)

abbrev pub bucket_named : List ℕ → Result (List ℕ) Refusal
bucket_named text = or_refused InvalidBucketName (bucket_name_of text)

-- why a text is no key
abbrev pub key_refusal : NameFault → Refusal
key_refusal Empty = InvalidArgument
key_refusal TooLong = KeyTooLongError
key_refusal Form = InvalidArgument

abbrev pub or_key_refusal : Result (List ℕ) NameFault → Result (List ℕ) Refusal
or_key_refusal (Ok key) = Ok key
or_key_refusal (Err fault) = Err (key_refusal fault)

abbrev pub key_named : List ℕ → Result (List ℕ) Refusal
key_named text = or_key_refusal (object_key_of text)

unfoldable pub prefix_named : List ℕ → Result (List ℕ) Refusal
prefix_named text = or_key_refusal (key_prefix_of text)

-- left out, it is empty
abbrev pub prefix_if : Option (List ℕ) → Result (List ℕ) Refusal
prefix_if None = prefix_named []
prefix_if (Some text) = prefix_named text

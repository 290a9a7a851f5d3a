-- What the types of a command's parts say of them: each name is one, and each number has its bits.
use Rattle.std.specs.Prelude.{◌≡◌, ◌<◌, ℕ, List, [], ◌∷◌, length, All, IsTrue, Option, Some, None, Ok}
use Rattle.hex.specs.Hex.{IsBytes}
use Rattle.vault_base.specs.Moment.{moment_of, moment_text}
use Rattle.vault_base.specs.declared.content.Content.{Content}
use Rattle.vault_base.specs.declared.content.Content.TheVariants.{Inside, External}
use Rattle.vault_base.specs.Name.{is_bucket_name, is_key_prefix, is_object_key, is_plain_name, is_version_id}
use Rattle.vault_core_model.specs.declared.command.Command.{Command}
use Rattle.vault_core_model.specs.declared.command.Timed.{Timed}
use Rattle.vault_lock.specs.declared.retention.Default.{Default}
use Rattle.vault_lock.specs.declared.retention.Period.{Period}
use Rattle.vault_lock.specs.declared.retention.Period.TheVariants.{Days, Years}
use Rattle.vault_lock.specs.declared.retention.Retention.{Retention}
use Rattle.vault_rules.specs.Rules.{is_rule_set}
use Rattle.vault_lines_read.specs.Fields as field
use Rattle.vault_lines_read.specs.Fields.{Field, meaning_of}
use Rattle.vault_lines_read.specs.Verb.{fields_of}
use Rattle.vault_lines_reply.specs.SpelledRule.{IsSpelledRule}
use Rattle.vault_lines_print.specs.Members.{AllSaid, of_said}

-- the text of the moment is read as it
abbrev pub ReadsBack : ℕ → Type 0
ReadsBack at = moment_of (moment_text at) ≡ Ok at

abbrev pub ReadsBackIfGiven : Option Retention → Type 0
ReadsBackIfGiven None = Unit {0}
ReadsBackIfGiven (Some r) = ReadsBack r.until

abbrev pub IsNameIfGiven : Option (List ℕ) → Type 0
IsNameIfGiven None = Unit {0}
IsNameIfGiven (Some name) = IsTrue (is_plain_name name)

abbrev pub IsIdIfGiven : Option ℕ → Type 0
IsIdIfGiven None = Unit {0}
IsIdIfGiven (Some id) = IsTrue (is_version_id id)

abbrev pub HasBits : Period → Type 0
HasBits (Days n) = n < 4294967296
HasBits (Years n) = n < 65536

abbrev pub HasPeriodIfGiven : Option Default → Type 0
HasPeriodIfGiven None = Unit {0}
HasPeriodIfGiven (Some d) = HasBits d.period

abbrev pub IsContentSpelled : Content → Type 0
IsContentSpelled (Inside bytes) = IsBytes bytes
IsContentSpelled (External r) = IsBytes r.digest × (length r.digest ≡ 32)

-- what the type of a field's value says of it
abbrev pub IsFieldSpelled : (f : Field) → (meaning_of f).Value → Type 0
IsFieldSpelled field.dept x = IsTrue (is_plain_name x)
IsFieldSpelled field.optional_dept x = IsNameIfGiven x
IsFieldSpelled field.caller x = IsTrue (is_plain_name x)
IsFieldSpelled field.bucket x = IsTrue (is_bucket_name x)
IsFieldSpelled field.key x = IsTrue (is_object_key x)
IsFieldSpelled field.id x = IsTrue (is_version_id x)
IsFieldSpelled field.optional_id x = IsIdIfGiven x
IsFieldSpelled field.content x = IsContentSpelled x
IsFieldSpelled field.retention x = ReadsBack x.until
IsFieldSpelled field.optional_retention x = ReadsBackIfGiven x
IsFieldSpelled field.default x = HasPeriodIfGiven x
IsFieldSpelled field.rules x = IsTrue (is_rule_set x) × All IsSpelledRule x
IsFieldSpelled field.prefix x = IsTrue (is_key_prefix x)
IsFieldSpelled field.after_key x = IsTrue (is_key_prefix x)
IsFieldSpelled field.after_id x = IsIdIfGiven x
IsFieldSpelled field.most x = x < 4294967296
IsFieldSpelled field.batch x = IsTrue (is_plain_name x)
IsFieldSpelled field.line x = x < 4294967296
IsFieldSpelled _ x = Unit {0}

abbrev pub AreSpelled : (fs : List Field) → AllSaid fs → Type 0
AreSpelled [] s = Unit {0}
AreSpelled (f ∷ fs) s = IsFieldSpelled f s.0 × AreSpelled fs s.1

abbrev pub IsSpelled : Command → Type 0
IsSpelled = of_said (λ verb s. AreSpelled (fields_of verb) s)

-- the same of a command with its reading and the caller who asks
abbrev pub IsTimedSpelled : Timed → Type 0
IsTimedSpelled t = ReadsBack t.at × IsTrue (is_plain_name t.who) × IsSpelled t.command

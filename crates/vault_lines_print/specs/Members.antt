-- The members of the line that asks for a command.
use Rattle.std.specs.Prelude.{ℕ, List, [], ◌∷◌, codes, Bool, map, Option, Some, None, option_map, if◌then◌else◌}
use Rattle.std.specs.List.{flat_map}
use Rattle.hex.specs.Hex.{encode_lower}
use Rattle.serde_json.specs.Data.{Data, boolean, string, number, unsigned, array, object, Members, no_members, put}
use Rattle.serde_json.specs.View.{items_of}
use Rattle.serde_json.specs.Written.{compact_text}
use Rattle.vault_base.specs.Moment.{moment_text}
use Rattle.vault_base.specs.declared.content.Content.{Content}
use Rattle.vault_base.specs.declared.content.Content.TheVariants.{Inside, External}
use Rattle.vault_base.specs.Right.{right_name, rights}
use Rattle.vault_base.specs.declared.right.Right.{Right}
use Rattle.vault_core_model.specs.Rights.{has}
use Rattle.vault_core_model.specs.declared.command.Command.{Command}
use Rattle.vault_core_model.specs.declared.command.Command.TheVariants as command
use Rattle.vault_core_model.specs.declared.command.Put.{Put}
use Rattle.vault_core_model.specs.declared.command.Timed.{Timed}
use Rattle.vault_core_model.specs.declared.rights.Rights.{Rights}
use Rattle.vault_lock.specs.declared.retention.Default.{Default}
use Rattle.vault_lock.specs.declared.retention.Period.{Period}
use Rattle.vault_lock.specs.declared.retention.Period.TheVariants.{Days, Years}
use Rattle.vault_lock.specs.declared.retention.Retention.{Retention}
use Rattle.vault_values.specs.Words.{mode_name, hold_name}
use Rattle.vault_lines_read.specs.Fields as field
use Rattle.vault_lines_read.specs.Fields.{Field, meaning_of}
use Rattle.vault_lines_read.specs.Verb.{fields_of, verb_name}
use Rattle.vault_lines_read.specs.declared.verb.Verb.{Verb}
use Rattle.vault_lines_read.specs.declared.verb.Verb.TheVariants as verb
use Rattle.vault_lines_reply.specs.Putting.{put_if}
use Rattle.vault_lines_reply.specs.ReplyLine.{rule_value}

abbrev pub whole : ℕ → Data
whole n = number (unsigned n)

-- ---- members that lines of several commands have

abbrev pub named : Verb → Members
named v = put (codes "do") (string (verb_name v)) no_members

abbrev pub of_dept : Verb → List ℕ → Members
of_dept v dept = put (codes "dept") (string dept) (named v)

abbrev pub of_bucket : Verb → List ℕ → Members
of_bucket v bucket = put (codes "bucket") (string bucket) (named v)

abbrev pub of_bucket_and_dept : Verb → List ℕ → List ℕ → Members
of_bucket_and_dept v bucket dept = put (codes "dept") (string dept) (of_bucket v bucket)

abbrev pub of_key : Verb → List ℕ → List ℕ → Members
of_key v bucket key = put (codes "key") (string key) (of_bucket v bucket)

abbrev pub of_entry : Verb → List ℕ → List ℕ → Option ℕ → Members
of_entry v bucket key id = put_if (codes "id") (option_map whole id) (of_key v bucket key)

-- ---- rights

-- the name of a right that is among these
abbrev pub right_if : Rights → Right → List Data
right_if held right = if has held right then string (right_name right) ∷ [] else []

abbrev pub right_values : Rights → List Data
right_values held = flat_map (right_if held) rights

abbrev pub with_rights : Rights → Members → Members
with_rights held ms = put (codes "rights") (array (items_of (right_values held))) ms

-- ---- what a version gets

abbrev pub with_period : Period → Members → Members
with_period (Days n) ms = put (codes "days") (whole n) ms
with_period (Years n) ms = put (codes "years") (whole n) ms

-- a default that is cleared has no members
abbrev pub with_default : Option Default → Members → Members
with_default None ms = ms
with_default (Some d) ms = with_period d.period (put (codes "mode") (string (mode_name d.mode)) ms)

-- bytes under that name, in hex digits
abbrev pub with_hex : List ℕ → List ℕ → Members → Members
with_hex name bytes ms = put name (string (encode_lower bytes)) ms

-- the bytes of a content, or the digest and the size of one that is kept outside
abbrev pub with_content : Content → Members → Members
with_content (Inside bytes) ms = with_hex (codes "hex") bytes ms
with_content (External r) ms = put (codes "size") (whole r.size) (with_hex (codes "sha256") r.digest ms)

abbrev pub with_texts : List ℕ → List ℕ → Members → Members
with_texts mode until ms = put (codes "until") (string until) (put (codes "mode") (string mode) ms)

abbrev pub with_retention : Retention → Members → Members
with_retention r ms = with_texts (mode_name r.mode) (moment_text r.until) ms

abbrev pub with_retention_if : Option Retention → Members → Members
with_retention_if None ms = ms
with_retention_if (Some r) ms = with_retention r ms

abbrev pub with_hold : Bool → Members → Members
with_hold hold ms = put (codes "hold") (string (hold_name hold)) ms

abbrev pub with_hold_if : Option Bool → Members → Members
with_hold_if None ms = ms
with_hold_if (Some hold) ms = with_hold hold ms

-- ---- lines

-- with the members that say that value of the field; what isn't given is left out
abbrev pub put_field : (f : Field) → (meaning_of f).Value → Members → Members
put_field field.dept x ms = put (codes "dept") (string x) ms
put_field field.optional_dept x ms = put_if (codes "dept") (option_map string x) ms
put_field field.caller x ms = put (codes "caller") (string x) ms
put_field field.rights x ms = with_rights x ms
put_field field.bucket x ms = put (codes "bucket") (string x) ms
put_field field.key x ms = put (codes "key") (string x) ms
put_field field.id x ms = put (codes "id") (whole x) ms
put_field field.optional_id x ms = put_if (codes "id") (option_map whole x) ms
put_field field.content x ms = with_content x ms
put_field field.retention x ms = with_retention x ms
put_field field.optional_retention x ms = with_retention_if x ms
put_field field.hold x ms = with_hold x ms
put_field field.optional_hold x ms = with_hold_if x ms
put_field field.bypass x ms = put (codes "bypass") (boolean x) ms
put_field field.default x ms = with_default x ms
put_field field.rules x ms = put (codes "rules") (array (items_of (map rule_value x))) ms
put_field field.prefix x ms = put (codes "prefix") (string x) ms
put_field field.after_key x ms = put (codes "after_key") (string x) ms
put_field field.after_id x ms = put_if (codes "after_id") (option_map whole x) ms
put_field field.most x ms = put (codes "most") (whole x) ms
put_field field.batch x ms = put (codes "batch") (string x) ms
put_field field.line x ms = put (codes "line") (whole x) ms

-- a value of each field
abbrev pub AllSaid : List Field → Type 0
AllSaid [] = Unit {0}
AllSaid (f ∷ fs) = (meaning_of f).Value × AllSaid fs

abbrev pub put_fields : (fs : List Field) → AllSaid fs → Members → Members
put_fields [] s ms = ms
put_fields (f ∷ fs) s ms = put_fields fs s.1 (put_field f s.0 ms)

-- what is made of the verb of a command, and of the values of its line's fields
abbrev pub of_said {ℓ} : {A : Type ℓ} → ((verb : Verb) → AllSaid (fields_of verb) → A) → Command → A
of_said make (command.AddDept c) = make verb.AddDept (c.dept, tt)
of_said make (command.AddCaller c) = make verb.AddCaller (c.caller, (c.dept, (c.rights, tt)))
of_said make (command.CloseCaller c) = make verb.CloseCaller (c.caller, tt)
of_said make (command.AddBucket c) = make verb.AddBucket (c.bucket, (c.dept, tt))
of_said make (command.MoveBucket c) = make verb.MoveBucket (c.bucket, (c.dept, tt))
of_said make (command.SetDefault c) = make verb.SetDefault (c.bucket, (c.default, tt))
of_said make (command.GetDefault c) = make verb.GetDefault (c.bucket, tt)
of_said make (command.SetRules c) = make verb.SetRules (c.bucket, (c.rules, tt))
of_said make (command.GetRules c) = make verb.GetRules (c.bucket, tt)
of_said make (command.DropRules c) = make verb.DropRules (c.bucket, tt)
of_said make (command.Put c) = make verb.Put (c.bucket, (c.key, (c.content, (c.retention, (c.hold, tt)))))
of_said make (command.Get c) = make verb.Get (c.bucket, (c.key, (c.id, tt)))
of_said make (command.Head c) = make verb.Head (c.bucket, (c.key, (c.id, tt)))
of_said make (command.ListVersions c) = make verb.ListVersions (c.bucket, (c.prefix, (c.after_key, (c.after_id, (c.most, tt)))))
of_said make (command.Delete c) = make verb.Delete (c.bucket, (c.key, tt))
of_said make (command.DeleteVersion c) = make verb.DeleteVersion (c.bucket, (c.key, (c.id, (c.bypass, tt))))
of_said make (command.SetRetention c) = make verb.SetRetention (c.bucket, (c.key, (c.id, (c.retention, (c.bypass, tt)))))
of_said make (command.GetRetention c) = make verb.GetRetention (c.bucket, (c.key, (c.id, tt)))
of_said make (command.SetHold c) = make verb.SetHold (c.bucket, (c.key, (c.id, (c.hold, tt))))
of_said make (command.GetHold c) = make verb.GetHold (c.bucket, (c.key, (c.id, tt)))
of_said make (command.Run c) = make verb.Run (c.bucket, tt)
of_said make (command.Report c) = make verb.Report (c.dept, tt)
of_said make (command.Certificate c) = make verb.Certificate (c.bucket, (c.id, tt))
of_said make (command.Intake c) = make verb.Intake (c.put.bucket, (c.batch, (c.line, (c.put.key, (c.put.content, (c.put.retention, (c.put.hold, tt)))))))

-- the fields of what is put, but for its bucket
abbrev pub version : List Field
version = field.key ∷ field.content ∷ field.optional_retention ∷ field.optional_hold ∷ []

abbrev pub version_of : Put → AllSaid version
version_of c = (c.key, (c.content, (c.retention, (c.hold, tt))))

-- the members beside `at` and `as`
abbrev pub members_of : Command → Members
members_of = of_said (λ verb s. put_fields (fields_of verb) s (named verb))

-- a command with its reading and the caller who asks
abbrev pub timed : ℕ → List ℕ → Command → Timed
timed at who c = record { at = at; who = who; command = c }

-- the whole line
abbrev pub with_heading : List ℕ → List ℕ → Members → Members
with_heading who at ms = put (codes "at") (string at) (put (codes "as") (string who) ms)

abbrev pub line_value : Timed → Data
line_value t = object (with_heading t.who (moment_text t.at) (members_of t.command))

abbrev pub line_text : Timed → List ℕ
line_text t = compact_text (line_value t)

-- The lines that there are: the `do` of each, its fields, and the command that their values make.
use Rattle.std.specs.Prelude.{ℕ, List, [], ◌∷◌, ◌&&◌, codes, Bool, true, Option, Result}
use Rattle.std.specs.List.{find, flat_map}
use Rattle.std.specs.Str.{bytes_eq}
use Rattle.serde_json.specs.Data.{Data}
use Rattle.vault_base.specs.declared.refusal.Refusal.{Refusal}
use Rattle.vault_core_model.specs.declared.command.Command.{Command}
use Rattle.vault_core_model.specs.declared.command.Command.TheVariants as command
use Rattle.vault_lines_json.specs.Shape.{has_members, has_one_content}
use Rattle.vault_lines_json.specs.declared.shape.Kind.{Kind}
use Rattle.vault_lines_json.specs.declared.shape.Kind.TheVariants.{Text}
use Rattle.vault_lines_read.specs.Fields as field
use Rattle.vault_lines_read.specs.Fields.{Field, Makes, command_with, meaning_of}
use Rattle.vault_lines_read.specs.declared.verb.Verb.{Verb}
use Rattle.vault_lines_read.specs.declared.verb.Verb.TheVariants as verb

-- the `do` of a line, its own fields in their order, and the command that their values make
abbrev pub form_of : Verb → (name : List ℕ) × (fields : List Field) × Makes fields
form_of verb.AddDept = (codes "add-dept", field.dept ∷ [], λ dept. command.AddDept (record { dept = dept }))
form_of verb.AddCaller = (codes "add-caller", field.caller ∷ field.optional_dept ∷ field.rights ∷ [], λ caller dept rights. command.AddCaller (record { caller = caller; dept = dept; rights = rights }))
form_of verb.CloseCaller = (codes "close-caller", field.caller ∷ [], λ caller. command.CloseCaller (record { caller = caller }))
form_of verb.AddBucket = (codes "add-bucket", field.bucket ∷ field.dept ∷ [], λ bucket dept. command.AddBucket (record { bucket = bucket; dept = dept }))
form_of verb.MoveBucket = (codes "move-bucket", field.bucket ∷ field.dept ∷ [], λ bucket dept. command.MoveBucket (record { bucket = bucket; dept = dept }))
form_of verb.SetDefault = (codes "set-default", field.bucket ∷ field.default ∷ [], λ bucket default. command.SetDefault (record { bucket = bucket; default = default }))
form_of verb.GetDefault = (codes "get-default", field.bucket ∷ [], λ bucket. command.GetDefault (record { bucket = bucket }))
form_of verb.SetRules = (codes "set-rules", field.bucket ∷ field.rules ∷ [], λ bucket rules. command.SetRules (record { bucket = bucket; rules = rules }))
form_of verb.GetRules = (codes "get-rules", field.bucket ∷ [], λ bucket. command.GetRules (record { bucket = bucket }))
form_of verb.DropRules = (codes "drop-rules", field.bucket ∷ [], λ bucket. command.DropRules (record { bucket = bucket }))
form_of verb.Put = (codes "put", field.bucket ∷ field.key ∷ field.content ∷ field.optional_retention ∷ field.optional_hold ∷ [], λ bucket key content retention hold. command.Put (record { bucket = bucket; key = key; content = content; retention = retention; hold = hold }))
form_of verb.Get = (codes "get", field.bucket ∷ field.key ∷ field.optional_id ∷ [], λ bucket key id. command.Get (record { bucket = bucket; key = key; id = id }))
form_of verb.Head = (codes "head", field.bucket ∷ field.key ∷ field.optional_id ∷ [], λ bucket key id. command.Head (record { bucket = bucket; key = key; id = id }))
form_of verb.ListVersions = (codes "list-versions", field.bucket ∷ field.prefix ∷ field.after_key ∷ field.after_id ∷ field.most ∷ [], λ bucket prefix after_key after_id most. command.ListVersions (record { bucket = bucket; prefix = prefix; after_key = after_key; after_id = after_id; most = most }))
form_of verb.Delete = (codes "delete", field.bucket ∷ field.key ∷ [], λ bucket key. command.Delete (record { bucket = bucket; key = key }))
form_of verb.DeleteVersion = (codes "delete-version", field.bucket ∷ field.key ∷ field.id ∷ field.bypass ∷ [], λ bucket key id bypass. command.DeleteVersion (record { bucket = bucket; key = key; id = id; bypass = bypass }))
form_of verb.SetRetention = (codes "set-retention", field.bucket ∷ field.key ∷ field.optional_id ∷ field.retention ∷ field.bypass ∷ [], λ bucket key id retention bypass. command.SetRetention (record { bucket = bucket; key = key; id = id; retention = retention; bypass = bypass }))
form_of verb.GetRetention = (codes "get-retention", field.bucket ∷ field.key ∷ field.optional_id ∷ [], λ bucket key id. command.GetRetention (record { bucket = bucket; key = key; id = id }))
form_of verb.SetHold = (codes "set-hold", field.bucket ∷ field.key ∷ field.optional_id ∷ field.hold ∷ [], λ bucket key id hold. command.SetHold (record { bucket = bucket; key = key; id = id; hold = hold }))
form_of verb.GetHold = (codes "get-hold", field.bucket ∷ field.key ∷ field.optional_id ∷ [], λ bucket key id. command.GetHold (record { bucket = bucket; key = key; id = id }))
form_of verb.Run = (codes "run", field.bucket ∷ [], λ bucket. command.Run (record { bucket = bucket }))
form_of verb.Report = (codes "report", field.dept ∷ [], λ dept. command.Report (record { dept = dept }))
form_of verb.Certificate = (codes "certificate", field.bucket ∷ field.id ∷ [], λ bucket id. command.Certificate (record { bucket = bucket; id = id }))
form_of verb.Intake = (codes "intake", field.bucket ∷ field.batch ∷ field.line ∷ field.key ∷ field.content ∷ field.optional_retention ∷ field.optional_hold ∷ [], λ bucket batch line key content retention hold. command.Intake (record { batch = batch; line = line; put = record { bucket = bucket; key = key; content = content; retention = retention; hold = hold } }))

-- the `do` of a line
abbrev pub verb_name : Verb → List ℕ
verb_name verb = (form_of verb).0

abbrev pub fields_of : Verb → List Field
fields_of verb = (form_of verb).1

-- the members that every line has, the reading, the caller who asks, and the verb, and then those of its fields
abbrev pub members_of : Verb → List (List ℕ × Kind)
members_of verb = (codes "at", Text) ∷ (codes "as", Text) ∷ (codes "do", Text) ∷ flat_map (λ f. (meaning_of f).members) (fields_of verb)

-- a content, where the line has one, is written in exactly one way
abbrev pub has_single_content : Verb → Data → Bool
has_single_content verb.Put d = has_one_content d
has_single_content verb.Intake d = has_one_content d
has_single_content _ d = true

-- the value is an object of just the members of that line
abbrev pub is_shaped : Verb → Data → Bool
is_shaped verb d = has_members (members_of verb) d && has_single_content verb d

-- ---- reading

abbrev pub verbs : List Verb
verbs =
    verb.AddDept ∷ verb.AddCaller ∷ verb.CloseCaller ∷ verb.AddBucket ∷ verb.MoveBucket ∷ verb.SetDefault
    ∷ verb.GetDefault ∷ verb.SetRules ∷ verb.GetRules ∷ verb.DropRules ∷ verb.Put ∷ verb.Get ∷ verb.Head ∷ verb.ListVersions
    ∷ verb.Delete ∷ verb.DeleteVersion ∷ verb.SetRetention ∷ verb.GetRetention ∷ verb.SetHold ∷ verb.GetHold
    ∷ verb.Run ∷ verb.Report ∷ verb.Certificate ∷ verb.Intake ∷ []

-- the verb of that name
abbrev pub verb_named : List ℕ → Option Verb
verb_named name = find (λ verb. bytes_eq name (verb_name verb)) verbs

-- the command of a line of that verb, or the refusal of the first value that isn't allowed
unfoldable pub values_of : Verb → Data → Result Command Refusal
values_of verb d = command_with d (fields_of verb) (form_of verb).2

-- The command that an operation makes with its locks and its body.
use Rattle.std.specs.Prelude.{ℕ, List, [], ◌∷◌, codes, Bool, Result, Ok, Err, if◌then◌else◌}
use Rattle.serde_json.specs.Data.{Data}
use Rattle.vault_base.specs.declared.content.Content.TheVariants.{Inside}
use Rattle.vault_base.specs.declared.refusal.Refusal.{Refusal}
use Rattle.vault_base.specs.declared.refusal.Refusal.TheVariants.{MalformedBody}
use Rattle.vault_core_model.specs.declared.command.Command.{Command}
use Rattle.vault_core_model.specs.declared.command.Command.TheVariants as command
use Rattle.vault_lines_json.specs.Document.{document_of}
use Rattle.vault_values.specs.Fault.{◌>>=◌}
use Rattle.vault_lines_json.specs.Locks.{retention_of, hold_of, default_of}
use Rattle.vault_lines_json.specs.Rules.{rules_of}
use Rattle.vault_lines_json.specs.Shape.{has_members}
use Rattle.vault_lines_json.specs.declared.shape.Kind.{Kind}
use Rattle.vault_lines_json.specs.declared.shape.Kind.TheVariants.{Text, OptionalText, OptionalNumber, Rules}
use Rattle.vault_http_target.specs.declared.target.Object.{Object}
use Rattle.vault_http_request.specs.declared.operation.Operation.{Operation}
use Rattle.vault_http_request.specs.declared.operation.Operation.TheVariants as operation
use Rattle.vault_http_request.specs.declared.request_headers.Locks.{Locks}

abbrev pub if_formed : List (List ℕ × Kind) → Data → Result Data Refusal
if_formed members d = if has_members members d then Ok d else Err MalformedBody

-- the JSON object of just these members that a body is
unfoldable pub object_of : List ℕ → List (List ℕ × Kind) → Result Data Refusal
object_of body members = do
  d ← document_of body
  if_formed members d

unfoldable pub set_retention : Object → Bool → List ℕ → Result Command Refusal
set_retention o bypass body = do
  d ← object_of body ((codes "mode", Text) ∷ (codes "until", Text) ∷ [])
  retention ← retention_of d
  Ok (command.SetRetention (record { bucket = o.bucket; key = o.key; id = o.id; retention = retention; bypass = bypass }))

unfoldable pub set_hold : Object → List ℕ → Result Command Refusal
set_hold o body = do
  d ← object_of body ((codes "hold", Text) ∷ [])
  hold ← hold_of d
  Ok (command.SetHold (record { bucket = o.bucket; key = o.key; id = o.id; hold = hold }))

unfoldable pub set_default : List ℕ → List ℕ → Result Command Refusal
set_default bucket body = do
  d ← object_of body ((codes "mode", OptionalText) ∷ (codes "days", OptionalNumber) ∷ (codes "years", OptionalNumber) ∷ [])
  default ← default_of d
  Ok (command.SetDefault (record { bucket = bucket; default = default }))

unfoldable pub set_rules : List ℕ → List ℕ → Result Command Refusal
set_rules bucket body = do
  d ← object_of body ((codes "rules", Rules) ∷ [])
  rules ← rules_of d
  Ok (command.SetRules (record { bucket = bucket; rules = rules }))

abbrev pub put : List ℕ → List ℕ → Locks → List ℕ → Command
put bucket key locks bytes =
    command.Put (record { bucket = bucket; key = key; content = Inside bytes; retention = locks.retention; hold = locks.hold })

-- the body of a new version is its content; of a setting it is a JSON object; the others have none
abbrev pub command_of : Operation → Locks → List ℕ → Result Command Refusal
command_of (operation.Ready c) locks body = Ok c
command_of (operation.Put bucket key) locks body = Ok (put bucket key locks body)
command_of (operation.DeleteVersion bucket key id) locks body =
    Ok (command.DeleteVersion (record { bucket = bucket; key = key; id = id; bypass = locks.bypass }))
command_of (operation.SetRetention o) locks body = set_retention o locks.bypass body
command_of (operation.SetHold o) locks body = set_hold o body
command_of (operation.SetDefault bucket) locks body = set_default bucket body
command_of (operation.SetRules bucket) locks body = set_rules bucket body

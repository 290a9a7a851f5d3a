-- Which body makes which command of an operation; what its members spell is said as of a line's.
use Rattle.std.specs.Prelude.{◌≡◌, ℕ, List, [], ◌∷◌, codes, Option, Some, None, IfSome, IsTrue}
use Rattle.serde_json.specs.Data.{Data}
use Rattle.vault_core_model.specs.declared.command.Command.{Command}
use Rattle.vault_core_model.specs.declared.command.Command.TheVariants as command
use Rattle.vault_core_model.specs.declared.command.SetDefault.{SetDefault}
use Rattle.vault_core_model.specs.declared.command.SetHold.{SetHold}
use Rattle.vault_core_model.specs.declared.command.SetRetention.{SetRetention}
use Rattle.vault_core_model.specs.declared.command.SetRules.{SetRules}
use Rattle.vault_lines_json.specs.Document.{json_of}
use Rattle.vault_lines_json.specs.Shape.{has_members}
use Rattle.vault_lines_json.specs.Spelling.{IsDefault, IsHold, IsRetention, IsRules}
use Rattle.vault_lines_json.specs.declared.shape.Kind.{Kind}
use Rattle.vault_lines_json.specs.declared.shape.Kind.TheVariants.{Text, OptionalText, OptionalNumber, Rules}
use Rattle.vault_http_request.specs.Command.{put}
use Rattle.vault_http_request.specs.declared.operation.Operation.{Operation}
use Rattle.vault_http_request.specs.declared.operation.Operation.TheVariants as operation
use Rattle.vault_http_request.specs.declared.request_headers.Locks.{Locks}

-- the members of the body of a setting; no other body has to be JSON
abbrev pub body_members : Operation → Option (List (List ℕ × Kind))
body_members (operation.SetRetention o) = Some ((codes "mode", Text) ∷ (codes "until", Text) ∷ [])
body_members (operation.SetHold o) = Some ((codes "hold", Text) ∷ [])
body_members (operation.SetDefault bucket) = Some ((codes "mode", OptionalText) ∷ (codes "days", OptionalNumber) ∷ (codes "years", OptionalNumber) ∷ [])
body_members (operation.SetRules bucket) = Some ((codes "rules", Rules) ∷ [])
body_members _ = None

-- the body is the JSON of an object of just these members, each of its JSON type
abbrev pub IsBody : Operation → List ℕ → Data → Type 0
IsBody o body d = IfSome (body_members o) (λ members. (json_of body ≡ Some d) × IsTrue (has_members members d))

abbrev pub HasForm : Operation → List ℕ → Type 0
HasForm o body = (d : Data) × IsBody o body d

-- a body makes that command, with the locks of its request: the body of a new version is its content
abbrev pub Makes : Operation → Locks → List ℕ → Command → Type 0
Makes (operation.Ready ready) locks body c = c ≡ ready
Makes (operation.Put bucket key) locks body c = c ≡ put bucket key locks body
Makes (operation.DeleteVersion bucket key id) locks body c =
    c ≡ command.DeleteVersion (record { bucket = bucket; key = key; id = id; bypass = locks.bypass })
Makes (operation.SetRetention o) locks body c =
    (d : Data) × IsBody (operation.SetRetention o) body d × (s : SetRetention) × IsRetention d s.retention
    × (s.bucket ≡ o.bucket) × (s.key ≡ o.key) × (s.id ≡ o.id) × (s.bypass ≡ locks.bypass) × (c ≡ command.SetRetention s)
Makes (operation.SetHold o) locks body c =
    (d : Data) × IsBody (operation.SetHold o) body d × (s : SetHold) × IsHold d s.hold
    × (s.bucket ≡ o.bucket) × (s.key ≡ o.key) × (s.id ≡ o.id) × (c ≡ command.SetHold s)
Makes (operation.SetDefault bucket) locks body c =
    (d : Data) × IsBody (operation.SetDefault bucket) body d × (s : SetDefault) × IsDefault d s.default × (s.bucket ≡ bucket) × (c ≡ command.SetDefault s)
Makes (operation.SetRules bucket) locks body c =
    (d : Data) × IsBody (operation.SetRules bucket) body d × (s : SetRules) × IsRules d s.rules × (s.bucket ≡ bucket) × (c ≡ command.SetRules s)

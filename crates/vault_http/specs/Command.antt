-- The body of a request, and the command that it makes.
use Rattle.std.specs.Prelude.{ℕ, ◌≡◌, ◌≤◌, nat_le, List, [], length, take, Option, Some, None, Result, Err, if◌then◌else◌}
use Rattle.vault_base.specs.declared.refusal.Refusal.{Refusal}
use Rattle.vault_base.specs.declared.refusal.Refusal.TheVariants.{MalformedBody}
use Rattle.vault_core_model.specs.declared.command.Command.{Command}
use Rattle.vault_http_request.specs.Command.{command_of}
use Rattle.vault_http_request.specs.declared.operation.Operation.{Operation}
use Rattle.vault_http_request.specs.declared.request_headers.Locks.{Locks}

-- n bytes of what comes after the head, or nothing where there are fewer
unfoldable pub body_of : Option ℕ → List ℕ → Option (List ℕ)
body_of None rest = Some []
body_of (Some n) rest = if nat_le n (length rest) then Some (take n rest) else None

abbrev pub command_with : Operation → Locks → List ℕ → Result Command Refusal
command_with operation locks body = command_of operation locks body

-- the command of an operation and of its body, which may be cut
abbrev pub command_of_body : Operation → Locks → Option (List ℕ) → Result Command Refusal
command_of_body operation locks None = Err MalformedBody
command_of_body operation locks (Some body) = command_with operation locks body

-- the command of an operation and of what comes after its head
abbrev pub command_after : Operation → Locks → Option ℕ → List ℕ → Result Command Refusal
command_after operation locks size rest = command_of_body operation locks (body_of size rest)

-- what was taken after the head: nothing where there is no body, and no more than its length
abbrev pub IsWithinLength : Option ℕ → List ℕ → Type 0
IsWithinLength None taken = taken ≡ []
IsWithinLength (Some n) taken = length taken ≤ n

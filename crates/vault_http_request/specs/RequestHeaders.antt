-- What the headers of a request say of its operation: the body's length, who asks, and locks.
use Rattle.std.specs.Prelude.{ℕ, ◌≤◌, ◌==◌, ◌&&◌, ◌||◌, not, nat_lt, List, codes, Bool, true, false, Option, Some, None, is_some, option_and_then, Result, Ok, Err, if◌then◌else◌, ⊤}
use Rattle.vault_base.specs.declared.refusal.Reason.TheVariants.{UnknownCaller}
use Rattle.vault_base.specs.declared.refusal.Refusal.{Refusal}
use Rattle.vault_base.specs.declared.refusal.Refusal.TheVariants.{AccessDenied, EntityTooLarge, InvalidArgument, MissingContentLength}
use Rattle.vault_base.specs.Limits.{longest_body, most_content}
use Rattle.vault_lock.specs.declared.retention.Mode.{Mode}
use Rattle.vault_lock.specs.declared.retention.Retention.{Retention}
use Rattle.vault_values.specs.Fault.{◌>>=◌, or_invalid, if_given}
use Rattle.vault_values.specs.Named.{until_named, asker_named}
use Rattle.vault_values.specs.Words.{mode_named, hold_named}
use Rattle.vault_http_target.specs.Fields.{Fields, same_name, value_of, count_of}
use Rattle.vault_http_target.specs.Number.{number_upto}
use Rattle.vault_http_target.specs.Path.{as_text, or_refusal}
use Rattle.vault_http_target.specs.declared.number.NumberFault.{NumberFault}
use Rattle.vault_http_target.specs.declared.number.NumberFault.TheVariants.{Form, TooLarge}
use Rattle.vault_http_request.specs.declared.operation.Operation.{Operation}
use Rattle.vault_http_request.specs.declared.operation.Operation.TheVariants as operation
use Rattle.vault_http_request.specs.declared.request_headers.Locks.{Locks}
use Rattle.vault_http_request.specs.declared.request_headers.AcceptedHeaders.{AcceptedHeaders}
use Rattle.vault_http_request.specs.declared.request_headers.RequestHeaders.{RequestHeaders}

-- ---- which headers an operation accepts

abbrev pub no_headers : AcceptedHeaders
no_headers = record { limit = None; locks = false; bypass = false }

abbrev pub json_body : AcceptedHeaders
json_body = record { limit = Some longest_body; locks = false; bypass = false }

abbrev pub accepted_headers_of : Operation → AcceptedHeaders
accepted_headers_of (operation.Ready c) = no_headers
accepted_headers_of (operation.Put bucket key) = record { limit = Some most_content; locks = true; bypass = false }
accepted_headers_of (operation.DeleteVersion bucket key id) = record { limit = None; locks = false; bypass = true }
accepted_headers_of (operation.SetRetention o) = record { limit = Some longest_body; locks = false; bypass = true }
accepted_headers_of (operation.SetHold o) = json_body
accepted_headers_of (operation.SetDefault bucket) = json_body
accepted_headers_of (operation.SetRules bucket) = json_body

abbrev pub IsLimit : Option ℕ → Type 0
IsLimit None = Unit {0}
IsLimit (Some n) = n ≤ longest_body

-- ---- the length of the body

abbrev pub length_refusal : NumberFault → Refusal
length_refusal Form = InvalidArgument
length_refusal TooLarge = EntityTooLarge

abbrev pub or_length_refusal : Result ℕ NumberFault → Result ℕ Refusal
or_length_refusal (Ok n) = Ok n
or_length_refusal (Err fault) = Err (length_refusal fault)

abbrev pub length_upto : ℕ → Option (List ℕ) → Result ℕ Refusal
length_upto limit None = Err MissingContentLength
length_upto limit (Some text) = or_length_refusal (number_upto limit text)

-- of several the first is read
abbrev pub length_of : Option ℕ → Fields → Result (Option ℕ) Refusal
length_of limit fields = if_given (λ n. length_upto n (value_of (codes "content-length") fields)) limit

-- ---- headers that stand twice

abbrev pub is_twice : List ℕ → Fields → Bool
is_twice name fields = nat_lt 1 (count_of name fields)

abbrev pub is_lock_twice : Fields → Bool
is_lock_twice fields =
    is_twice (codes "x-amz-object-lock-mode") fields
    || (is_twice (codes "x-amz-object-lock-retain-until-date") fields || is_twice (codes "x-amz-object-lock-legal-hold") fields)

-- HTTP/1.0 has no expect
abbrev pub is_body_twice : ℕ → Fields → Bool
is_body_twice minor fields =
    is_twice (codes "content-length") fields || (minor == 1 && is_twice (codes "expect") fields)

-- a header that isn't used may stand as often as it likes
abbrev pub is_used_twice : AcceptedHeaders → ℕ → Fields → Bool
is_used_twice accepted minor fields =
    is_twice (codes "x-vault-caller") fields
    || ((is_some accepted.limit && is_body_twice minor fields)
    || ((accepted.locks && is_lock_twice fields)
    || (accepted.bypass && is_twice (codes "x-amz-bypass-governance-retention") fields)))

abbrev pub single : AcceptedHeaders → ℕ → Fields → Result ⊤ Refusal
single accepted minor fields = if is_used_twice accepted minor fields then Err InvalidArgument else Ok tt

-- ---- who asks

abbrev pub text_named : List ℕ → Fields → Option (List ℕ)
text_named name fields = option_and_then as_text (value_of name fields)

-- nobody can be known by what is no name
unfoldable pub caller_of : Fields → Result (List ℕ) Refusal
caller_of fields = do
  text ← or_refusal (AccessDenied UnknownCaller) (text_named (codes "x-vault-caller") fields)
  asker_named text

-- ---- locks

abbrev pub mode : List ℕ → Result Mode Refusal
mode value = or_invalid (option_and_then mode_named (as_text value))

abbrev pub until_text : Option (List ℕ) → Result ℕ Refusal
until_text None = Err InvalidArgument
until_text (Some text) = until_named text

abbrev pub until : List ℕ → Result ℕ Refusal
until value = until_text (as_text value)

-- the two stand together or not at all, and the mode is read before the moment
unfoldable pub retention : Option (List ℕ) → Option (List ℕ) → Result (Option Retention) Refusal
retention None None = Ok None
retention None (Some until_value) = Err InvalidArgument
retention (Some mode_value) None = Err InvalidArgument
retention (Some mode_value) (Some until_value) = do
  m ← mode mode_value
  u ← until until_value
  Ok (Some (record { mode = m; until = u }))

abbrev pub hold : Option (List ℕ) → Result (Option Bool) Refusal
hold value = if_given (λ v. or_invalid (option_and_then hold_named (as_text v))) value

abbrev pub truth : List ℕ → Result Bool Refusal
truth value =
    if same_name value (codes "true") then Ok true else (if same_name value (codes "false") then Ok false else Err InvalidArgument)

-- left out, it is false
abbrev pub bypass : Option (List ℕ) → Result Bool Refusal
bypass None = Ok false
bypass (Some value) = truth value

unfoldable pub new_locks : Fields → Result Locks Refusal
new_locks fields = do
  r ← retention (value_of (codes "x-amz-object-lock-mode") fields) (value_of (codes "x-amz-object-lock-retain-until-date") fields)
  h ← hold (value_of (codes "x-amz-object-lock-legal-hold") fields)
  Ok (record { retention = r; hold = h; bypass = false })

abbrev pub no_locks : Bool → Locks
no_locks b = record { retention = None; hold = None; bypass = b }

unfoldable pub bypass_locks : Fields → Result Locks Refusal
bypass_locks fields = do
  b ← bypass (value_of (codes "x-amz-bypass-governance-retention") fields)
  Ok (no_locks b)

-- a header that isn't taken isn't looked at
abbrev pub locks_of : AcceptedHeaders → Fields → Result Locks Refusal
locks_of accepted fields =
    if accepted.locks then new_locks fields else (if accepted.bypass then bypass_locks fields else Ok (no_locks false))

-- ---- whether the client waits

abbrev pub says_wait : Option (List ℕ) → Bool
says_wait None = false
says_wait (Some value) = same_name value (codes "100-continue")

-- it waits before a body that isn't empty, and HTTP/1.0 knows of no waiting
abbrev pub waits : Option ℕ → ℕ → Fields → Bool
waits None minor fields = false
waits (Some n) minor fields = not (n == 0) && (minor == 1 && says_wait (value_of (codes "expect") fields))

unfoldable pub request_headers_of : AcceptedHeaders → ℕ → Fields → Result RequestHeaders Refusal
request_headers_of accepted minor fields = do
  n ← length_of accepted.limit fields
  _ ← single accepted minor fields
  caller ← caller_of fields
  locks ← locks_of accepted fields
  Ok (record { length = n; caller = caller; locks = locks; waits = waits n minor fields })

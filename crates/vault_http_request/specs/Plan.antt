-- What a head asks for: one point after another, and the first fault is the answer.
use Rattle.std.specs.Prelude.{ℕ, ◌≡◌, List, map, take, Option, Some, None, Result, Ok, Err}
use Rattle.httparse.specs.Spans.{span_bytes, header_bytes}
use Rattle.httparse.specs.declared.spans.HeaderSpan.{HeaderSpan}
use Rattle.httparse.specs.declared.spans.RequestSpans.{RequestSpans}
use Rattle.vault_base.specs.declared.refusal.Refusal.{Refusal}
use Rattle.vault_base.specs.declared.refusal.Refusal.TheVariants.{ClockOutOfRange}
use Rattle.vault_values.specs.Fault.{◌>>=◌}
use Rattle.vault_http_target.specs.Fields.{Fields}
use Rattle.vault_http_target.specs.Target.{target_of}
use Rattle.vault_http_request.specs.Operation.{operation_of}
use Rattle.vault_http_request.specs.Supported.{supported}
use Rattle.vault_http_request.specs.RequestHeaders.{accepted_headers_of, request_headers_of}
use Rattle.vault_http_request.specs.declared.operation.Operation.{Operation}
use Rattle.vault_http_request.specs.declared.operation.Resource.{Resource}
use Rattle.vault_http_request.specs.declared.plan.HeadPlan.{HeadPlan}
use Rattle.vault_http_request.specs.declared.plan.HeadPlan.TheVariants as asked

abbrev pub clock : Option ℕ → Result ℕ Refusal
clock None = Err ClockOutOfRange
clock (Some at) = Ok at

-- the length of the body, headers twice, the caller, and the locks
unfoldable pub planned : ℕ → Operation → ℕ → Fields → Result HeadPlan Refusal
planned at operation minor fields = do
  headers ← request_headers_of (accepted_headers_of operation) minor fields
  Ok (asked.Plan (record { at = at; operation = operation; headers = headers }))

-- the method
abbrev pub allowed : ℕ → Result Operation Resource → ℕ → Fields → Result HeadPlan Refusal
allowed at (Err resource) minor fields = Ok (asked.NotAllowed resource)
allowed at (Ok operation) minor fields = planned at operation minor fields

-- the reading, what isn't done here, the path and the query, and then the method
unfoldable pub asked_of : Option ℕ → List ℕ → List ℕ → ℕ → Fields → Result HeadPlan Refusal
asked_of moment method target minor fields = do
  at ← clock moment
  _ ← supported fields
  target ← target_of method target
  allowed at (operation_of method target) minor fields

-- the same of a head whose parts lie in a buffer
abbrev pub asked_in : Option ℕ → List ℕ → List HeaderSpan → RequestSpans → Result HeadPlan Refusal
asked_in moment buf headers spans =
    asked_of moment (span_bytes buf spans.method) (span_bytes buf spans.path) spans.version (map (header_bytes buf) (take spans.headers headers))

-- a plan is for the reading
abbrev pub IsAt : Option ℕ → HeadPlan → Type 0
IsAt moment (asked.Plan plan) = moment ≡ Some plan.at
IsAt moment (asked.NotAllowed r) = Unit {0}

-- Whether a whole request came.
use Rattle.std.specs.Prelude.{ℕ, ◌≡◌, ◌⊎◌, List, Option, IsSome, Result, Ok, Err}
use Rattle.httparse.specs.Grammar.{RequestHead}
use Rattle.vault_base.specs.declared.refusal.Refusal.{Refusal}
use Rattle.vault_core_model.specs.Vault.{Vault}
use Rattle.vault_http.specs.Command.{body_of}
use Rattle.vault_http.specs.Exchange.{head_asked_for}
use Rattle.vault_http_request.specs.Head.{IsHead}
use Rattle.vault_http_request.specs.declared.plan.HeadPlan.{HeadPlan}
use Rattle.vault_http_request.specs.declared.plan.HeadPlan.TheVariants as asked

-- all of the body came that belongs to what is asked
abbrev pub IsAskedWhole : HeadPlan → List ℕ → Type 0
IsAskedWhole (asked.Plan plan) rest = IsSome (body_of plan.headers.length rest)
IsAskedWhole (asked.NotAllowed r) rest = Unit {0}

-- the same of a head that may be refused: then it is whole without a body
abbrev pub IsBodyWhole : Result HeadPlan Refusal → List ℕ → Type 0
IsBodyWhole (Ok a) rest = IsAskedWhole a rest
IsBodyWhole (Err r) rest = Unit {0}

-- the input has a head, and all of the body that belongs to it at a server of these hosts
abbrev pub IsWhole : List (List ℕ) → Option ℕ → List ℕ → Type 0
IsWhole hosts moment input = (h : RequestHead) × (rest : List ℕ) × IsHead input h rest × IsBodyWhole (head_asked_for hosts moment h) rest

-- the vault changed only where a whole request came
abbrev pub WaitsForAll : List (List ℕ) → Option ℕ → List ℕ → Vault → Vault → Type 0
WaitsForAll hosts moment input old new = (new ≡ old) ⊎ IsWhole hosts moment input

-- What the head of a request comes to: a plan, or a refusal.
use Rattle.std.specs.Prelude.{ℕ, ◌≡◌, ◌≤◌, ◌<◌, ◌⊎◌, List, [], length, Bool, true, Option, Some, None, IfSome, Ok, Err}
use Rattle.httparse.specs.Grammar.{RequestHead}
use Rattle.vault_base.specs.declared.refusal.Refusal.TheVariants as refusal
use Rattle.vault_http.specs.Exchange.{Said, allow_of, head_asked_for, is_shown}
use Rattle.vault_http_request.specs.Head.{IsHead, HasNoHead}
use Rattle.vault_http.specs.declared.carrying.Denial.{Denial}
use Rattle.vault_http.specs.declared.judging.Judgement.{Judgement}
use Rattle.vault_http.specs.declared.judging.Judgement.TheVariants.{Nothing, Denied, Planned}
use Rattle.vault_http_request.specs.declared.plan.HeadPlan.TheVariants as asked

-- there is no head
abbrev pub no_head : Denial
no_head = record { refusal = refusal.InvalidArgument; allow = None; shown = true }

-- a head of which this is said is refused in this way
abbrev pub IsDenial : Denial → Bool → Said → Type 0
IsDenial d shown (Ok (asked.Plan plan)) = ⊥
IsDenial d shown (Ok (asked.NotAllowed r)) = d ≡ record { refusal = refusal.MethodNotAllowed; allow = Some (allow_of r); shown = shown }
IsDenial d shown (Err r) = d ≡ record { refusal = r; allow = None; shown = shown }

-- what is said of a head at a moment comes to this
abbrev pub ComesTo : Option ℕ → Bool → Said → Judgement → Type 0
ComesTo moment shown said Nothing = ⊥
ComesTo moment shown said (Denied r allow is) = IsDenial (record { refusal = r; allow = allow; shown = is }) shown said
ComesTo moment shown said (Planned plan is) = (is ≡ shown) × (said ≡ Ok (asked.Plan plan)) × (moment ≡ Some plan.at)

-- a reader that had this and gave just these bytes gave no head, or one that is refused, and in this way
abbrev pub Denies : List (List ℕ) → Option ℕ → Option (List ℕ) → List ℕ → Denial → Type 0
Denies hosts moment known buf d =
    ((d ≡ no_head) × IfSome known HasNoHead × (0 < length buf) × (length buf ≤ 16384))
    ⊎ ((h : RequestHead) × IsHead buf h [] × IsDenial d (is_shown h.method) (head_asked_for hosts moment h))

-- what comes of such a reader: nothing, a refusal, or a plan
abbrev pub Judges : List (List ℕ) → Option ℕ → Option (List ℕ) → List ℕ → Judgement → Type 0
Judges hosts moment known buf Nothing = IfSome known (λ input. input ≡ []) × (buf ≡ [])
Judges hosts moment known buf (Denied r allow shown) = Denies hosts moment known buf (record { refusal = r; allow = allow; shown = shown })
Judges hosts moment known buf (Planned plan shown) =
    (h : RequestHead) × IsHead buf h [] × ComesTo moment (is_shown h.method) (head_asked_for hosts moment h) (Planned plan shown)

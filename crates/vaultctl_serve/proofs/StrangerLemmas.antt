-- A request for another host than those of a server is refused.
use Rattle.std.proofs.Common.{◌≡◌, ℕ, List, [], ◌∷◌, Bool, length, Option, None, Some, IfSome, Result, Ok, Err, IfErr, OnOk, ap, subst, inl, inr, arith}
use Rattle.std.specs.Prelude.{if◌then◌else◌}
use Rattle.std.proofs.lemmas.List.{length-append}
use Rattle.httparse.specs.Grammar.{RequestHead, print_request}
use Rattle.httparse.proofs.GrammarLemmas.{request_unique}
use Rattle.vault_base.specs.declared.refusal.Refusal.TheVariants.{InvalidArgument}
use Rattle.vault_core_model.specs.Vault.{Vault}
use Rattle.vault_http.specs.Exchange.{Answered, Carrying, Denied, HeadJudged, Said, ServedFor, head_asked, head_asked_for, is_shown}
use Rattle.vault_http_request.specs.Head.{IsHead}
use Rattle.vault_http.specs.Left.{HeadLeft, LeftFor, Unanswered}
use Rattle.vault_http.specs.declared.fault.ServeFault.{ServeFault}
use Rattle.vault_http_request.proofs.Heads.{head_last}
use Rattle.vaultctl_serve.specs.Strangers.{IsStranger, RefusesStrangers}
use Rattle.vaultctl_serve.proofs.WholeLemmas.{denied-left-same, early-same}

-- no bytes begin with no head
none-begins : (h : RequestHead) (rest : List ℕ) → IsHead [] h rest → ⊥
none-begins h rest is =
    let last = head_last h in
    omega (arith, ap length is.0.1, length-append (print_request h) rest, ap length last.1, length-append last.0 (10 ∷ []))

module _ (hosts : List (List ℕ)) (Carries : Carrying Vault) (moment : Option ℕ) (input : List ℕ) (old new : Vault) (h : RequestHead) (stranger : IsStranger hosts input h) where
  -- the head that an input begins with is one
  same-head : (k : RequestHead) (rest : List ℕ) → IsHead input k rest → k ≡ h
  same-head k rest is = (request_unique input k h rest stranger.0 is.0 stranger.1.0).0

  stranger-served : (out : List ℕ) → ServedFor hosts Carries moment input old out new → Denied moment (is_shown h.method) InvalidArgument None old out new
  stranger-served out served = elim served [
    | inl nothing ↦ let P : List ℕ → Type 0 = λ bytes. IsHead bytes h stranger.0 in absurd (none-begins h stranger.0 (subst P nothing.0 stranger.1))
    | inr some ↦ elim some [
      | inl headless ↦ absurd (headless.1 h stranger.0 stranger.1)
      | inr headed ↦
          let P : RequestHead → Type 0 = λ k. HeadJudged Carries moment (is_shown k.method) (head_asked_for hosts moment k) headed.1 old out new in
          let Q : Bool → Type 0 = λ b. (let said : Said = if b then head_asked moment h else Err InvalidArgument in HeadJudged Carries moment (is_shown h.method) said headed.1 old out new) in
          subst Q stranger.2 (subst P (same-head headed.0 headed.1 headed.2) headed.3)
    ]
  ]

  stranger-left : (e : ServeFault) (unread before after : Option (List ℕ)) → LeftFor hosts Carries e moment input unread old new before after → new ≡ old
  stranger-left e unread before after left = elim left [
    | inl early ↦ early-same hosts Carries moment input old new e before after early
    | inr headed ↦
        let P : RequestHead → Type 0 = λ k. HeadLeft Carries e moment (is_shown k.method) (head_asked_for hosts moment k) headed.1 unread old new before after in
        let Q : Bool → Type 0 = λ b. (let said : Said = if b then head_asked moment h else Err InvalidArgument in HeadLeft Carries e moment (is_shown h.method) said headed.1 unread old new before after) in
        denied-left-same Carries moment (is_shown h.method) headed.1 old new e InvalidArgument None before after (subst Q stranger.2 (subst P (same-head headed.0 headed.1 headed.2) headed.3))
  ]

-- of a request that was served, or wasn't to its end
pub refuses-strangers : (hosts : List (List ℕ)) (Carries : Carrying Vault) (moment : Option ℕ) (known : Option (List ℕ)) (old new : Vault) (before after : Option (List ℕ)) (r : Result (Unit {0}) ServeFault)
    → OnOk r (Answered hosts Carries moment known old new before after)
    → IfErr r (λ e. (unread : Option (List ℕ)) × Unanswered hosts Carries e moment known unread old new before after)
    → IfSome known (λ input. RefusesStrangers hosts moment input r old new before after)
refuses-strangers hosts Carries moment None old new before after r ok err = tt
refuses-strangers hosts Carries moment (Some input) old new before after (Ok t) ok err = λ h stranger.
    let denied = stranger-served hosts Carries moment input old new h stranger ok.0 ok.1 in
    (denied.0, (ok.0, denied.1, ok.2))
refuses-strangers hosts Carries moment (Some input) old new before after (Err e) ok err = λ h stranger.
    (stranger-left hosts Carries moment input old new h stranger e err.0 before after err.1, tt)

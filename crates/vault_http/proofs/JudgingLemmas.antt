-- On what the head of a request comes to.
use Rattle.std.proofs.Common.{ℕ, ◌≡◌, ◌<◌, ◌+◌, ◌++◌, List, [], length, Bool, Option, Some, None, IfSome, Ok, Err, inl, inr, refl, sym, ap, ◌∙◌, append-nil, subst, arith}
use Rattle.std.proofs.lemmas.List.{length-append}
use Rattle.std.proofs.KnownBytes.{Consumes-trans}
use Rattle.std.specs.Io.KnownBytes.{Appends, Consumes}
use Rattle.httparse.specs.Grammar.{RequestHead, print_request}
use Rattle.httparse.specs.Spans.{IsRequestAt, span_bytes}
use Rattle.httparse.specs.declared.spans.HeaderSpan.{HeaderSpan}
use Rattle.httparse.specs.declared.spans.RequestSpans.{RequestSpans}
use Rattle.vault_http.specs.Command.{IsWithinLength}
use Rattle.vault_http.specs.Exchange.{Carrying, HeadJudged, PlanServed, Said, ServedFor, head_asked_for, is_shown, spans_asked}
use Rattle.vault_http_request.specs.Head.{IsHead}
use Rattle.vault_http.specs.Judging.{ComesTo, Denies, IsDenial, Judges}
use Rattle.vault_http.specs.Left.{DeniedLeft, DenyLeft, HeadLeft, IsBodyTaken, IsTakenFor, LeftFor}
use Rattle.vault_http.specs.Reply.{AnswersRefusal}
use Rattle.vault_http.specs.declared.carrying.Denial.{Denial}
use Rattle.vault_http.specs.declared.fault.ServeFault.{ServeFault}
use Rattle.vault_http.specs.declared.fault.ServeFault.TheVariants as faults
use Rattle.vault_http.specs.declared.judging.Judgement.{Judgement}
use Rattle.vault_http.specs.declared.judging.Judgement.TheVariants.{Nothing, Denied, Planned}
use Rattle.vault_http_request.specs.declared.plan.HeadPlan.TheVariants as asked
use Rattle.vault_http_request.specs.declared.plan.Plan.{Plan}

-- the parts of a head ask for what the head does
same_asked : (hosts : List (List ℕ)) (moment : Option ℕ) (buf : List ℕ) (headers : List HeaderSpan) (spans : RequestSpans) (h : RequestHead) → IsRequestAt buf headers spans h → spans_asked hosts moment buf headers spans ≡ head_asked_for hosts moment h
same_asked hosts moment buf headers spans h at = rw (at.method, at.path, at.version, at.fields) refl

-- what the parts of a head come to is what the head does
pub head_comes : (hosts : List (List ℕ)) (moment : Option ℕ) (known : Option (List ℕ)) (buf : List ℕ) (headers : List HeaderSpan) (spans : RequestSpans) → ((h : RequestHead) × IsRequestAt buf headers spans h × IsHead buf h [])
    → (j : Judgement) → ComesTo moment (is_shown (span_bytes buf spans.method)) (spans_asked hosts moment buf headers spans) j → Judges hosts moment known buf j
head_comes hosts moment known buf headers spans came Nothing comes = absurd comes
head_comes hosts moment known buf headers spans (h, at, is) (Denied r allow shown) comes =
    let d : Denial = record { refusal = r; allow = allow; shown = shown } in
    inr (h, is, subst (λ (m : List ℕ). IsDenial d (is_shown m) (head_asked_for hosts moment h)) at.method (subst (λ (s : Said). IsDenial d (is_shown (span_bytes buf spans.method)) s) (same_asked hosts moment buf headers spans h at) comes))
head_comes hosts moment known buf headers spans (h, at, is) (Planned plan shown) comes =
    (h, is, subst (λ (m : List ℕ). ComesTo moment (is_shown m) (head_asked_for hosts moment h) (Planned plan shown)) at.method (subst (λ (s : Said). ComesTo moment (is_shown (span_bytes buf spans.method)) s (Planned plan shown)) (same_asked hosts moment buf headers spans h at) comes))

-- a head that came whole is at the front of the input
at_front : (input rest buf : List ℕ) (h : RequestHead) → input ≡ buf ++ rest → IsHead buf h [] → IsHead input h rest
at_front input rest buf h p is =
    let whole : buf ≡ print_request h = is.0.1 ∙ append-nil _ in
    let reads : input ≡ print_request h ++ rest = p ∙ ap (λ t. t ++ rest) whole in
    ((is.0.0, reads), is.1)

some_in : (input rest buf : List ℕ) → input ≡ buf ++ rest → 0 < length buf → 0 < length input
some_in input rest buf p some = let whole : length input ≡ length buf + length rest = ap length p ∙ length-append buf rest in omega (arith, some, whole)

-- ---- a refusal

module _ {S : Type 0} (Carries : Carrying S) (moment : Option ℕ) (shown : Bool) (rest : List ℕ) (d : Denial) (old : S) where
  denied_judged : (said : Said) (out : List ℕ) → IsDenial d shown said → AnswersRefusal moment d.refusal d.allow d.shown out → HeadJudged Carries moment shown said rest old out old
  denied_judged (Ok (asked.Plan plan)) out is s = absurd is
  denied_judged (Ok (asked.NotAllowed r)) out is s = (refl, subst (λ (x : Denial). AnswersRefusal moment x.refusal x.allow x.shown out) is s)
  denied_judged (Err r) out is s = (refl, subst (λ (x : Denial). AnswersRefusal moment x.refusal x.allow x.shown out) is s)

  denied_unjudged : (said : Said) (e : ServeFault) (unread a b : Option (List ℕ)) → IsDenial d shown said → DeniedLeft e moment d.shown d.refusal d.allow old old a b → HeadLeft Carries e moment shown said rest unread old old a b
  denied_unjudged (Ok (asked.Plan plan)) e unread a b is s = absurd is
  denied_unjudged (Ok (asked.NotAllowed r)) e unread a b is s = subst (λ (x : Denial). DeniedLeft e moment x.shown x.refusal x.allow old old a b) is s
  denied_unjudged (Err r) e unread a b is s = subst (λ (x : Denial). DeniedLeft e moment x.shown x.refusal x.allow old old a b) is s

denied_body : (d : Denial) (shown : Bool) (said : Said) → IsDenial d shown said → IsBodyTaken said []
denied_body d shown (Ok (asked.Plan plan)) is = absurd is
denied_body d shown (Ok (asked.NotAllowed r)) is = refl
denied_body d shown (Err r) is = refl

deny_denied : {S : Type 0} (e : ServeFault) (moment : Option ℕ) (d : Denial) (old : S) (a b : Option (List ℕ)) → DenyLeft e moment d.refusal d.allow d.shown a b → DeniedLeft e moment d.shown d.refusal d.allow old old a b
deny_denied faults.Read moment d old a b s = absurd s
deny_denied faults.Memory moment d old a b s = (refl, s)
deny_denied faults.Write moment d old a b s = (s.0, (refl, s.1), s.2)

module _ {S : Type 0} (hosts : List (List ℕ)) (Carries : Carrying S) (moment : Option ℕ) where
  -- a refusal was answered
  pub denied_served : (known left a b : Option (List ℕ)) (buf : List ℕ) (d : Denial) (old : S) → Consumes known left buf → Denies hosts moment known buf d → ((out : List ℕ) × AnswersRefusal moment d.refusal d.allow d.shown out × Appends a b out)
      → IfSome known (λ input. (out : List ℕ) × ServedFor hosts Carries moment input old out old × Appends a b out)
  denied_served None left a b buf d old p j s = tt
  denied_served (Some input) None a b buf d old p j s = absurd p
  denied_served (Some input) (Some rest) a b buf d old p (inl (is, none, some, few)) s =
      (s.0, inr (inl (some_in input rest buf p some, none, (refl, subst (λ (x : Denial). AnswersRefusal moment x.refusal x.allow x.shown s.0) is s.1))), s.2)
  denied_served (Some input) (Some rest) a b buf d old p (inr (h, head, is)) s =
      (s.0, inr (inr (h, rest, at_front input rest buf h p head, denied_judged Carries moment (is_shown h.method) rest d old (head_asked_for hosts moment h) s.0 is s.1)), s.2)

  denied_left_by : (e : ServeFault) (input rest : List ℕ) (unread a b : Option (List ℕ)) (buf : List ℕ) (d : Denial) (old : S) → input ≡ buf ++ rest → Denies hosts moment (Some input) buf d → DeniedLeft e moment d.shown d.refusal d.allow old old a b
      → LeftFor hosts Carries e moment input unread old old a b
  denied_left_by faults.Read input rest unread a b buf d old p j s = inl s
  denied_left_by faults.Memory input rest unread a b buf d old p j s = inl s
  denied_left_by faults.Write input rest unread a b buf d old p (inl (is, none, some, few)) s =
      inl (some_in input rest buf p some, none, subst (λ (x : Denial). DeniedLeft faults.Write moment x.shown x.refusal x.allow old old a b) is s)
  denied_left_by faults.Write input rest unread a b buf d old p (inr (h, head, is)) s =
      inr (h, rest, at_front input rest buf h p head, denied_unjudged Carries moment (is_shown h.method) rest d old (head_asked_for hosts moment h) faults.Write unread a b is s)

  -- its answer failed
  pub denied_left : (known left unread a b : Option (List ℕ)) (buf : List ℕ) (d : Denial) (old : S) → Consumes known left buf → Denies hosts moment known buf d
      → (e : ServeFault) → DenyLeft e moment d.refusal d.allow d.shown a b → IfSome known (λ input. LeftFor hosts Carries e moment input unread old old a b)
  denied_left None left unread a b buf d old p j e s = tt
  denied_left (Some input) None unread a b buf d old p j e s = absurd p
  denied_left (Some input) (Some rest) unread a b buf d old p j e s = denied_left_by e input rest unread a b buf d old p j (deny_denied e moment d old a b s)

  -- ---- a plan

  -- a plan was served
  pub planned_served : (known left a b : Option (List ℕ)) (buf : List ℕ) (plan : Plan) (shown : Bool) (old new : S) → Consumes known left buf → Judges hosts moment known buf (Planned plan shown) → IfSome left (λ rest. (out : List ℕ) × PlanServed Carries shown plan rest old out new × Appends a b out)
      → IfSome known (λ input. (out : List ℕ) × ServedFor hosts Carries moment input old out new × Appends a b out)
  planned_served None left a b buf plan shown old new p j s = tt
  planned_served (Some input) None a b buf plan shown old new p j s = absurd p
  planned_served (Some input) (Some rest) a b buf plan shown old new p (h, head, (is, said, at)) s =
      (s.0, inr (inr (h, rest, at_front input rest buf h p head, subst (λ (x : Said). HeadJudged Carries moment (is_shown h.method) x rest old s.0 new) (sym said) (subst (λ (t : Bool). PlanServed Carries t plan rest old s.0 new) is s.1))), s.2)

-- ---- what was read

module _ (hosts : List (List ℕ)) (moment : Option ℕ) where
  body_taken : (input rest buf body : List ℕ) (left : Option (List ℕ)) (h : RequestHead) → input ≡ buf ++ rest → IsHead buf h [] → Consumes (Some rest) left body → IsBodyTaken (head_asked_for hosts moment h) body
      → (taken : List ℕ) × Consumes (Some input) left taken × IsTakenFor hosts moment input taken
  body_taken input rest buf body left h p head q t =
      let whole : buf ≡ print_request h = head.0.1 ∙ append-nil _ in
      (buf ++ body, Consumes-trans (Some input) (Some rest) left buf body p q, inr (inr (h, rest, body, at_front input rest buf h p head, ap (λ t. t ++ body) whole, t)))

  -- nothing came
  pub nothing_taken : (known left : Option (List ℕ)) (buf : List ℕ) → Consumes known left buf → Judges hosts moment known buf Nothing → IfSome known (λ input. (taken : List ℕ) × Consumes known left taken × IsTakenFor hosts moment input taken)
  nothing_taken None left buf p j = tt
  nothing_taken (Some input) left buf p (none, empty) = (buf, p, inl (none, empty))

  -- a refusal reads no more
  pub denied_taken : (known left : Option (List ℕ)) (buf : List ℕ) (d : Denial) → Consumes known left buf → Denies hosts moment known buf d → IfSome known (λ input. (taken : List ℕ) × Consumes known left taken × IsTakenFor hosts moment input taken)
  denied_taken None left buf d p j = tt
  denied_taken (Some input) None buf d p j = absurd p
  denied_taken (Some input) (Some rest) buf d p (inl (is, none, some, few)) = (buf, p, inr (inl (none, few)))
  denied_taken (Some input) (Some rest) buf d p (inr (h, head, is)) =
      body_taken input rest buf [] (Some rest) h p head refl (denied_body d (is_shown h.method) (head_asked_for hosts moment h) is)

  -- a plan reads no more than its body
  pub planned_taken : (known mid left : Option (List ℕ)) (buf : List ℕ) (plan : Plan) (shown : Bool) → Consumes known mid buf → Judges hosts moment known buf (Planned plan shown) → ((body : List ℕ) × Consumes mid left body × IsWithinLength plan.headers.length body)
      → IfSome known (λ input. (taken : List ℕ) × Consumes known left taken × IsTakenFor hosts moment input taken)
  planned_taken None mid left buf plan shown p j t = tt
  planned_taken (Some input) None left buf plan shown p j t = absurd p
  planned_taken (Some input) (Some rest) left buf plan shown p (h, head, (is, said, at)) t =
      body_taken input rest buf t.0 left h p head t.1 (subst (λ (x : Said). IsBodyTaken x t.0) (sym said) t.2)

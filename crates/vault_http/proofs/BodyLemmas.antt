-- Bodies of requests: which command an operation makes of which body.
use Rattle.std.proofs.Common.{◌≡◌, ℕ, Bool, true, false, List, [], ◌∷◌, refl, sym, subst, codes}
use Rattle.std.specs.Prelude.{Option, Some, None, Result, Ok, Err, if◌then◌else◌}
use Rattle.serde_json.specs.Data.{Data, null}
use Rattle.vault_base.specs.declared.refusal.Refusal.{Refusal}
use Rattle.vault_base.specs.declared.refusal.Refusal.TheVariants.{MalformedBody}
use Rattle.vault_core_model.specs.declared.command.Command.{Command}
use Rattle.vault_values.specs.Fault.{◌>>=◌}
use Rattle.vault_lines_json.specs.Document.{json_of, or_malformed}
use Rattle.vault_lines_json.specs.Locks.{default_of, hold_of, retention_of}
use Rattle.vault_lines_json.specs.Rules.{rules_of}
use Rattle.vault_lines_json.specs.Shape.{has_members}
use Rattle.vault_lines_json.specs.declared.shape.Kind.{Kind}
use Rattle.vault_lines_json.specs.declared.shape.Kind.TheVariants.{Text, OptionalText, OptionalNumber, Rules}
use Rattle.vault_lines_json.proofs.LockLemmas.{reads-default, reads-hold, reads-retention}
use Rattle.vault_lines_json.proofs.ReadLemmas.{Reads, reads-then}
use Rattle.vault_lines_json.proofs.RuleLemmas.{reads-rules}
use Rattle.vault_lines_json.proofs.SpelledLemmas.{default-ok, hold-ok, retention-ok, rules-ok}
use Rattle.vault_lines_read.proofs.FieldLemmas.{all-fit}
use Rattle.vault_lines_read.proofs.GrammarLemmas.{Decided}
use Rattle.vault_http_target.specs.declared.target.Object.{Object}
use Rattle.vault_http_request.specs.Command.{command_of, if_formed, object_of, set_default, set_hold, set_retention, set_rules}
use Rattle.vault_http_request.specs.declared.operation.Operation.{Operation}
use Rattle.vault_http_request.specs.declared.operation.Operation.TheVariants as operation
use Rattle.vault_http_request.specs.declared.request_headers.Locks.{Locks}
use Rattle.vault_http.specs.Bodies.{HasForm, Makes}

-- ---- the form of a body

abbrev has_form : List (List ℕ × Kind) → Option Data → Bool
has_form members None = false
has_form members (Some d) = has_members members d

decided : (members : List (List ℕ × Kind)) (body : List ℕ) (P : Command → Type 0) (f : Data → Result Command Refusal)
    → ((d : Data) → json_of body ≡ Some d → has_members members d ≡ true → Reads P (f d))
    → Decided (has_form members (json_of body)) P (object_of body members >>= f)
unfolding object_of
decided members body P f reads = by_value (json_of body) refl
  where
    by_shape : (d : Data) → json_of body ≡ Some d → (b : Bool) → has_members members d ≡ b → Decided b P ((let formed : Result Data Refusal = if b then Ok d else Err MalformedBody in formed) >>= f)
    by_shape d is true e = reads d is e
    by_shape d is false e = refl

    by_value : (found : Option Data) → json_of body ≡ found → Decided (has_form members found) P ((or_malformed found >>= if_formed members) >>= f)
    by_value None is = refl
    by_value (Some d) is = by_shape d is (has_members members d) refl

-- ---- the four settings

abbrev retention_members : List (List ℕ × Kind)
retention_members = (codes "mode", Text) ∷ (codes "until", Text) ∷ []

retention-made : (o : Object) (locks : Locks) (body : List ℕ) → Decided (has_form retention_members (json_of body)) (Makes (operation.SetRetention o) locks body) (set_retention o locks.bypass body)
unfolding set_retention
retention-made o locks body =
    decided retention_members body _ _ (λ d is shaped.
    let fit = all-fit retention_members d shaped in
    reads-then _ _ (retention_of d) _ (reads-retention d fit.0 fit.1.0) (λ retention retention_is.
    (d, (is, shaped), record { bucket = o.bucket; key = o.key; id = o.id; retention = retention; bypass = locks.bypass }, retention_is, refl, refl, refl, refl, refl)))

abbrev hold_members : List (List ℕ × Kind)
hold_members = (codes "hold", Text) ∷ []

hold-made : (o : Object) (locks : Locks) (body : List ℕ) → Decided (has_form hold_members (json_of body)) (Makes (operation.SetHold o) locks body) (set_hold o body)
unfolding set_hold
hold-made o locks body =
    decided hold_members body _ _ (λ d is shaped.
    let fit = all-fit hold_members d shaped in
    reads-then _ _ (hold_of d) _ (reads-hold d fit.0) (λ hold hold_is.
    (d, (is, shaped), record { bucket = o.bucket; key = o.key; id = o.id; hold = hold }, hold_is, refl, refl, refl, refl)))

abbrev default_members : List (List ℕ × Kind)
default_members = (codes "mode", OptionalText) ∷ (codes "days", OptionalNumber) ∷ (codes "years", OptionalNumber) ∷ []

default-made : (bucket : List ℕ) (locks : Locks) (body : List ℕ) → Decided (has_form default_members (json_of body)) (Makes (operation.SetDefault bucket) locks body) (set_default bucket body)
unfolding set_default
default-made bucket locks body =
    decided default_members body _ _ (λ d is shaped.
    let fit = all-fit default_members d shaped in
    reads-then _ _ (default_of d) _ (reads-default d fit.0 fit.1.0 fit.1.1.0) (λ default default_is.
    (d, (is, shaped), record { bucket = bucket; default = default }, default_is, refl, refl)))

abbrev rules_members : List (List ℕ × Kind)
rules_members = (codes "rules", Rules) ∷ []

rules-made : (bucket : List ℕ) (locks : Locks) (body : List ℕ) → Decided (has_form rules_members (json_of body)) (Makes (operation.SetRules bucket) locks body) (set_rules bucket body)
unfolding set_rules
rules-made bucket locks body =
    decided rules_members body _ _ (λ d is shaped.
    let fit = all-fit rules_members d shaped in
    reads-then _ _ (rules_of d) _ (reads-rules d fit.0) (λ rules rules_is.
    (d, (is, shaped), record { bucket = bucket; rules = rules }, rules_is, refl, refl)))

-- ---- what is made

made : (b : Bool) (P : Command → Type 0) (r : Result Command Refusal) (c : Command) → Decided b P r → r ≡ Ok c → P c
made true P (Ok x) c h e =
    let same : x ≡ c = cc in
    subst P same h
made true P (Err x) c h e = cc
made false P (Ok x) c h e = cc
made false P (Err x) c h e = cc

pub made-is : (o : Operation) (locks : Locks) (body : List ℕ) (c : Command) → command_of o locks body ≡ Ok c → Makes o locks body c
made-is (operation.Ready ready) locks body c e = cc
made-is (operation.Put bucket key) locks body c e = cc
made-is (operation.DeleteVersion bucket key id) locks body c e = cc
made-is (operation.SetRetention o) locks body c e = made _ _ _ c (retention-made o locks body) e
made-is (operation.SetHold o) locks body c e = made _ _ _ c (hold-made o locks body) e
made-is (operation.SetDefault bucket) locks body c e = made _ _ _ c (default-made bucket locks body) e
made-is (operation.SetRules bucket) locks body c e = made _ _ _ c (rules-made bucket locks body) e

pub is-made : (o : Operation) (locks : Locks) (body : List ℕ) (c : Command) → Makes o locks body c → command_of o locks body ≡ Ok c
unfolding set_default set_hold set_retention set_rules object_of
is-made (operation.Ready ready) locks body c h = cc
is-made (operation.Put bucket key) locks body c h = cc
is-made (operation.DeleteVersion bucket key id) locks body c h = cc
is-made (operation.SetRetention o) locks body c h = rw (h.1.0, h.1.1, retention-ok h.0 h.2.retention h.3, sym h.4, sym h.5, sym h.6, sym h.7, h.8) refl
is-made (operation.SetHold o) locks body c h = rw (h.1.0, h.1.1, hold-ok h.0 h.2.hold h.3, sym h.4, sym h.5, sym h.6, h.7) refl
is-made (operation.SetDefault bucket) locks body c h = rw (h.1.0, h.1.1, default-ok h.0 h.2.default h.3, sym h.4, h.5) refl
is-made (operation.SetRules bucket) locks body c h = rw (h.1.0, h.1.1, rules-ok h.0 h.2.rules h.3, sym h.4, h.5) refl

-- ---- what is malformed

kept : (members : List (List ℕ × Kind)) (body : List ℕ) (P : Command → Type 0) (r : Result Command Refusal) → Decided (has_form members (json_of body)) P r → r ≡ Err MalformedBody → ((d : Data) × (json_of body ≡ Some d) × (has_members members d ≡ true)) → ⊥
kept members body P r h e f = by_form (has_form members (json_of body)) r (rw f.1 f.2) h e
  where
    by_form : (b : Bool) (r : Result Command Refusal) → b ≡ true → Decided b P r → r ≡ Err MalformedBody → ⊥
    by_form true (Ok x) t h e = cc
    by_form true (Err x) t h e = h cc
    by_form false r t h e = cc

lost : (members : List (List ℕ × Kind)) (body : List ℕ) (P : Command → Type 0) (r : Result Command Refusal) → Decided (has_form members (json_of body)) P r → (((d : Data) × (json_of body ≡ Some d) × (has_members members d ≡ true)) → ⊥) → r ≡ Err MalformedBody
lost members body P r h other = by_value (json_of body) refl h
  where
    by_shape : (d : Data) → json_of body ≡ Some d → (b : Bool) → has_members members d ≡ b → Decided b P r → r ≡ Err MalformedBody
    by_shape d is true e h = absurd (other (d, is, e))
    by_shape d is false e h = h

    by_value : (found : Option Data) → json_of body ≡ found → Decided (has_form members found) P r → r ≡ Err MalformedBody
    by_value None is h = h
    by_value (Some d) is h = by_shape d is (has_members members d) refl h

pub malformed-has-none : (o : Operation) (locks : Locks) (body : List ℕ) → command_of o locks body ≡ Err MalformedBody → HasForm o body → ⊥
malformed-has-none (operation.Ready ready) locks body e f = cc
malformed-has-none (operation.Put bucket key) locks body e f = cc
malformed-has-none (operation.DeleteVersion bucket key id) locks body e f = cc
malformed-has-none (operation.SetRetention o) locks body e f = kept retention_members body _ _ (retention-made o locks body) e (f.0, f.1.0, f.1.1)
malformed-has-none (operation.SetHold o) locks body e f = kept hold_members body _ _ (hold-made o locks body) e (f.0, f.1.0, f.1.1)
malformed-has-none (operation.SetDefault bucket) locks body e f = kept default_members body _ _ (default-made bucket locks body) e (f.0, f.1.0, f.1.1)
malformed-has-none (operation.SetRules bucket) locks body e f = kept rules_members body _ _ (rules-made bucket locks body) e (f.0, f.1.0, f.1.1)

pub malformed : (o : Operation) (locks : Locks) (body : List ℕ) → (HasForm o body → ⊥) → command_of o locks body ≡ Err MalformedBody
malformed (operation.Ready ready) locks body other = absurd (other (null, tt))
malformed (operation.Put bucket key) locks body other = absurd (other (null, tt))
malformed (operation.DeleteVersion bucket key id) locks body other = absurd (other (null, tt))
malformed (operation.SetRetention o) locks body other = lost retention_members body _ _ (retention-made o locks body) (λ f. other (f.0, (f.1, f.2)))
malformed (operation.SetHold o) locks body other = lost hold_members body _ _ (hold-made o locks body) (λ f. other (f.0, (f.1, f.2)))
malformed (operation.SetDefault bucket) locks body other = lost default_members body _ _ (default-made bucket locks body) (λ f. other (f.0, (f.1, f.2)))
malformed (operation.SetRules bucket) locks body other = lost rules_members body _ _ (rules-made bucket locks body) (λ f. other (f.0, (f.1, f.2)))

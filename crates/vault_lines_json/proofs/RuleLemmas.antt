-- Lifecycle rules that are read from members of their kinds.
use Rattle.std.proofs.Common.{◌≡◌, ◌≢◌, ℕ, Bool, true, false, List, [], ◌∷◌, refl, ◌∙◌, ap, subst, inl, inr, codes}
use Rattle.std.specs.Prelude.{if◌then◌else◌, IsTrue, Option, Some, None, Result, Ok, Err}
use Rattle.serde_json.specs.Data.{Data, string, array, Items, no_items, item}
use Rattle.serde_json.specs.Find.{get}
use Rattle.vault_base.specs.Name.{is_rule_id}
use Rattle.vault_base.specs.declared.refusal.Refusal.{Refusal}
use Rattle.vault_base.specs.declared.refusal.Refusal.TheVariants.{MalformedBody}
use Rattle.vault_rules.specs.Rules.{rules_fault}
use Rattle.vault_rules.specs.declared.rule.Rule.{Rule}
use Rattle.vault_rules.specs.declared.rule_set.RuleFault.{RuleFault}
use Rattle.vault_lines_json.specs.declared.shape.Kind.TheVariants.{Text, Rules}
use Rattle.vault_values.specs.Fault.{or_refused, or_invalid, if_given}
use Rattle.vault_lines_json.specs.Members.{items_of, text_of, flag_of}
use Rattle.vault_lines_json.specs.Rules.{rule_id_in, bounds_in, status_in, expiration_spelled, expiration_if, expiration_in, noncurrent_spelled, noncurrent_in, rule_of, rules_in, judged, rules_of}
use Rattle.vault_lines_json.specs.Shape.{fits, needed, optional, is_number, is_text, is_within, is_expiration, may_have_expiration, is_noncurrent, may_have_noncurrent, may_have_bounds, has_rule_names, is_rule, all_items}
use Rattle.vault_lines_json.specs.Spelling.{IsText, IsSmall, IsOptionalSmall, IsFlag, IsExpiration, IsNoncurrent, AreBounds, IsRule, AreRules, IsRules}
use Rattle.vault_lines_json.specs.Values.{number_of, optional_number_of, prefix_of}
use Rattle.vault_values.specs.Words.{status_name, status_named}
use Rattle.vault_lines_json.proofs.LockLemmas.{reads-named}
use Rattle.vault_lines_json.proofs.ReadLemmas.{Reads, reads-then, reads-as, reads-text, reads-flag, reads-items, left-of, right-of}
use Rattle.vault_lines_json.proofs.ValueLemmas.{reads-from-text, reads-number, reads-optional-number, reads-prefix}

id-checked : {E : Type 0} (fault : E) (r : Refusal) (b : Bool) (text : List ℕ) → r ≢ MalformedBody → is_rule_id text ≡ b → Reads (λ value. (text ≡ value) × IsTrue (is_rule_id value)) (or_refused r (let x : Result (List ℕ) E = if b then Ok text else Err fault in x))
id-checked fault r true text other e = (refl, e)
id-checked fault r false text other e = other

reads-rule-id : (d : Data) → IsTrue (fits Text (get (codes "ID") d)) → Reads (λ id. IsText d (codes "ID") id × IsTrue (is_rule_id id)) (rule_id_in d)
unfolding rule_id_in
reads-rule-id d fit = reads-from-text (λ value. IsTrue (is_rule_id value)) (codes "ID") d _ fit (λ text. id-checked _ _ (is_rule_id text) text (λ h. cc) refl)

reads-status : (d : Data) → IsTrue (fits Text (get (codes "Status") d)) → Reads (λ enabled. IsText d (codes "Status") (status_name enabled)) (status_in d)
unfolding status_in
reads-status d fit =
    reads-then (IsText d (codes "Status")) _ (text_of (codes "Status") d) _ (reads-text (codes "Status") d fit) (λ text text_is.
    reads-as _ _ (or_invalid (status_named text)) (reads-named status_name true false text) (λ enabled enabled_is. text_is ∙ ap (λ t. Some (string t)) enabled_is))

-- ---- actions

reads-expiration-spelled : (d : Data) → is_expiration d ≡ true → Reads (λ e. IsOptionalSmall d (codes "Days") e.days × IsFlag d (codes "ExpiredObjectDeleteMarker") e.lone_markers) (expiration_spelled d)
unfolding expiration_spelled
reads-expiration-spelled d shape =
    let both = right-of (is_within (codes "Days" ∷ codes "ExpiredObjectDeleteMarker" ∷ []) d) _ shape in
    reads-then _ _ (optional_number_of (codes "Days") d) _ (reads-optional-number (codes "Days") d (left-of (optional is_number (get (codes "Days") d)) _ both)) (λ days days_is.
    reads-then _ _ (flag_of (codes "ExpiredObjectDeleteMarker") d) _ (reads-flag (codes "ExpiredObjectDeleteMarker") d (right-of (optional is_number (get (codes "Days") d)) _ both)) (λ lone lone_is.
    (days_is, lone_is)))

expiration-found : (d : Data) (found : Option Data) → get (codes "Expiration") d ≡ found → optional is_expiration found ≡ true → Reads (λ e. IsExpiration d e.days e.lone_markers) (expiration_if found)
expiration-found d None e shape = inl (e, refl, refl)
expiration-found d (Some value) e shape =
    reads-as _ _ (expiration_spelled value) (reads-expiration-spelled value shape) (λ x x_is. inr (value, e, x_is.0, x_is.1))

reads-expiration : (d : Data) → may_have_expiration d ≡ true → Reads (λ e. IsExpiration d e.days e.lone_markers) (expiration_in d)
unfolding expiration_in
reads-expiration d shape = expiration-found d (get (codes "Expiration") d) refl shape

reads-noncurrent-spelled : (d : Data) → is_noncurrent d ≡ true → Reads (λ n. IsSmall d (codes "NoncurrentDays") n.days × IsOptionalSmall d (codes "NewerNoncurrentVersions") n.newer) (noncurrent_spelled d)
unfolding noncurrent_spelled
reads-noncurrent-spelled d shape =
    let both = right-of (is_within (codes "NoncurrentDays" ∷ codes "NewerNoncurrentVersions" ∷ []) d) _ shape in
    reads-then _ _ (number_of (codes "NoncurrentDays") d) _ (reads-number (codes "NoncurrentDays") d (left-of (needed is_number (get (codes "NoncurrentDays") d)) _ both)) (λ days days_is.
    reads-then _ _ (optional_number_of (codes "NewerNoncurrentVersions") d) _ (reads-optional-number (codes "NewerNoncurrentVersions") d (right-of (needed is_number (get (codes "NoncurrentDays") d)) _ both)) (λ newer newer_is.
    (days_is, newer_is)))

noncurrent-found : (d : Data) (found : Option Data) → get (codes "NoncurrentVersionExpiration") d ≡ found → optional is_noncurrent found ≡ true → Reads (IsNoncurrent d) (if_given noncurrent_spelled found)
noncurrent-found d None e shape = e
noncurrent-found d (Some value) e shape =
    reads-then _ _ (noncurrent_spelled value) _ (reads-noncurrent-spelled value shape) (λ n n_is. (value, e, n_is.0, n_is.1))

reads-noncurrent : (d : Data) → may_have_noncurrent d ≡ true → Reads (IsNoncurrent d) (noncurrent_in d)
unfolding noncurrent_in
reads-noncurrent d shape = noncurrent-found d (get (codes "NoncurrentVersionExpiration") d) refl shape

-- ---- rules

reads-bounds : (d : Data) → may_have_bounds d ≡ true → Reads (λ b. AreBounds d b.larger b.smaller) (bounds_in d)
unfolding bounds_in
reads-bounds d shape =
    reads-then _ _ (optional_number_of (codes "ObjectSizeGreaterThan") d) _ (reads-optional-number (codes "ObjectSizeGreaterThan") d (left-of (optional is_number (get (codes "ObjectSizeGreaterThan") d)) _ shape)) (λ larger larger_is.
    reads-then _ _ (optional_number_of (codes "ObjectSizeLessThan") d) _ (reads-optional-number (codes "ObjectSizeLessThan") d (right-of (optional is_number (get (codes "ObjectSizeGreaterThan") d)) _ shape)) (λ smaller smaller_is.
    (larger_is, smaller_is)))

reads-rule : (d : Data) → is_rule d ≡ true → Reads (IsRule d) (rule_of d)
unfolding rule_of
reads-rule d shape =
    let a = right-of (has_rule_names d) _ shape in
    let b = right-of (needed is_text (get (codes "ID") d)) _ a in
    let c = right-of (optional is_text (get (codes "Prefix") d)) _ b in
    let s = right-of (may_have_bounds d) _ c in
    let e = right-of (needed is_text (get (codes "Status") d)) _ s in
    reads-then _ _ (rule_id_in d) _ (reads-rule-id d (left-of (needed is_text (get (codes "ID") d)) _ a)) (λ id id_is.
    reads-then _ _ (prefix_of (codes "Prefix") d) _ (reads-prefix (codes "Prefix") d (left-of (optional is_text (get (codes "Prefix") d)) _ b)) (λ prefix prefix_is.
    reads-then _ _ (bounds_in d) _ (reads-bounds d (left-of (may_have_bounds d) _ c)) (λ bounds bounds_are.
    reads-then _ _ (status_in d) _ (reads-status d (left-of (needed is_text (get (codes "Status") d)) _ s)) (λ enabled enabled_is.
    reads-then _ _ (expiration_in d) _ (reads-expiration d (left-of (may_have_expiration d) _ e)) (λ expiration expiration_is.
    reads-then _ _ (noncurrent_in d) _ (reads-noncurrent d (right-of (may_have_expiration d) _ e)) (λ noncurrent noncurrent_is.
    (id_is, prefix_is, bounds_are, enabled_is, expiration_is, noncurrent_is)))))))

reads-rules-in : (ds : Items) → all_items is_rule ds ≡ true → Reads (AreRules ds) (rules_in ds)
reads-rules-in no_items shape = tt
reads-rules-in (item d ds) shape =
    reads-then (IsRule d) _ (rule_of d) _ (reads-rule d (left-of (is_rule d) _ shape)) (λ rule rule_is.
    reads-then (AreRules ds) _ (rules_in ds) _ (reads-rules-in ds (right-of (is_rule d) _ shape)) (λ rules rules_are.
    (rule_is, rules_are)))

reads-judged : (fault : Option RuleFault) (rules : List Rule) → Reads (λ judged. (rules ≡ judged) × (fault ≡ None)) (judged fault rules)
reads-judged None rules = (refl, refl)
reads-judged (Some fault) rules = λ h. cc

judged-are : (d : Data) (ds : Items) (rules judged : List Rule) → get (codes "rules") d ≡ Some (array ds) → AreRules ds rules → (rules ≡ judged) × (rules_fault rules ≡ None) → IsRules d judged
judged-are d ds rules judged e are same = subst (λ rules. IsRules d rules) same.0 (ds, e, are, same.1)

pub reads-rules : (d : Data) → IsTrue (fits Rules (get (codes "rules") d)) → Reads (IsRules d) (rules_of d)
unfolding rules_of
reads-rules d fit =
    reads-then _ _ (items_of (codes "rules") d) _ (reads-items (codes "rules") d fit) (λ ds ds_are.
    reads-then (AreRules ds) _ (rules_in ds) _ (reads-rules-in ds ds_are.1) (λ rules rules_are.
    reads-as _ _ (judged (rules_fault rules) rules) (reads-judged (rules_fault rules) rules) (λ judged same. judged-are d ds rules judged ds_are.0 rules_are same)))

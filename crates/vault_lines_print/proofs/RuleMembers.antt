-- The value that is printed of a lifecycle rule spells that rule.
use Rattle.std.proofs.Common.{◌≡◌, ◌<◌, ◌≤◌, ℕ, ◌+◌, Bool, true, false, List, [], ◌∷◌, ◌++◌, refl, ◌∙◌, ap, inl, inr, codes, arith, Ordering, Less, Equal, Greater, is_eq, nat_cmp}
use Rattle.std.specs.Prelude.{◌&&◌, not, nat_le, All, Option, Some, None, is_some, option_map, map}
use Rattle.std.proofs.lemmas.Bool.{leb-true}
use Rattle.std.proofs.lemmas.List.Elements.{All-head, All-tail}
use Rattle.std.specs.Cmp.Lexicographic.{slice_cmp}
use Rattle.std.specs.List.{AllByRecursion}
use Rattle.std.specs.Option.{option_map_or}
use Rattle.std.specs.Ordering.{match_ordering}
use Rattle.serde_json.specs.Data.{Data, boolean, string, object, Members, no_members, member, depth, items_depth, members_depth}
use Rattle.serde_json.specs.Find.{get, get_member}
use Rattle.serde_json.specs.View.{items_of}
use Rattle.vault_base.specs.Limits.{most_content}
use Rattle.vault_rules.specs.Rules.{passes_if_given, is_day_count, is_newer_count, is_noncurrent_action, is_lower_bound, is_upper_bound, are_in_order, are_bounds, has_action, has_days_and_markers, is_in_range, has_id, fault_where, fault_of, first_of_both, first_fault, rules_fault}
use Rattle.vault_rules.specs.declared.rule.Noncurrent.{Noncurrent}
use Rattle.vault_rules.specs.declared.rule.Rule.{Rule}
use Rattle.vault_rules.specs.declared.rule_set.RuleFault.{RuleFault}
use Rattle.vault_values.specs.Words.{status_name}
use Rattle.vault_lines_json.specs.Shape.{all_items, are_within, is_among, is_expiration, is_noncurrent, is_number, is_rule, needed, optional, is_text}
use Rattle.vault_lines_json.specs.Spelling.{AreRules, IsExpiration, IsNoncurrent, IsOptionalSmall, IsRule}
use Rattle.vault_lines_reply.specs.ReplyLine.{whole, if_there, expiration_of, noncurrent_value, named_members, bounded_members, rule_members, rule_value}
use Rattle.vault_lines_reply.specs.SpelledRule.{IsSpelledRule}

-- ---- members that may be left out

either : (o : Ordering) (a b : Option Data) → is_eq o ≡ false → match_ordering o a b a ≡ a
either Less a b e = refl
either Equal a b e = absurd cc
either Greater a b e = refl

-- a member of another name is passed by
skip : (k l : List ℕ) (v : Option Data) (ms : Members) → is_eq (slice_cmp nat_cmp k l) ≡ false → get_member k (if_there l v ms) ≡ get_member k ms
skip k l None ms e = refl
skip k l (Some d) ms e = either (slice_cmp nat_cmp k l) (get_member k ms) (Some d) e

-- what is there under a name is found
here : (k : List ℕ) (v : Option Data) (ms : Members) → slice_cmp nat_cmp k k ≡ Equal → get_member k ms ≡ None → get_member k (if_there k v ms) ≡ v
here k None ms same none = none
here k (Some d) ms same none = rw same refl

both : (a b : Bool) → a ≡ true → b ≡ true → a && b ≡ true
both true b e f = f
both false b e f = e

left : (a b : Bool) → a && b ≡ true → a ≡ true
left true b e = refl
left false b e = e

right : (a b : Bool) → a && b ≡ true → b ≡ true
right true b e = e
right false b e = absurd cc

within : (names : List (List ℕ)) (l : List ℕ) (v : Option Data) (ms : Members) → is_among names l ≡ true → are_within names ms ≡ true → are_within names (if_there l v ms) ≡ true
within names l None ms e f = f
within names l (Some d) ms e f = both (is_among names l) (are_within names ms) e f

-- ---- numbers

number-if : (n : Option ℕ) → optional is_number (option_map whole n) ≡ true
number-if None = refl
number-if (Some n) = refl

day-bits : (n : ℕ) → is_day_count n ≡ true → n < 4294967296
day-bits n e = omega (arith, leb-true n 2147483647 (right (nat_le 1 n) (nat_le n 2147483647) e))

newer-bits : (n : ℕ) → is_newer_count n ≡ true → n < 4294967296
newer-bits n e = omega (arith, leb-true n 100 (right (nat_le 1 n) (nat_le n 100) e))

lower-bits : (n : ℕ) → is_lower_bound n ≡ true → n < 4294967296
lower-bits n e = omega (arith, leb-true n most_content e)

upper-bits : (n : ℕ) → is_upper_bound n ≡ true → n < 4294967296
upper-bits n e = omega (arith, leb-true n (most_content + 1) (right (nat_le 1 n) (nat_le n (most_content + 1)) e))

small-if : (d : Data) (name : List ℕ) (test : ℕ → Bool) (n : Option ℕ) → ((m : ℕ) → test m ≡ true → m < 4294967296) → get name d ≡ option_map whole n → passes_if_given test n ≡ true → IsOptionalSmall d name n
small-if d name test None bits e passes = e
small-if d name test (Some n) bits e passes = (e, bits n passes)

-- ---- one rule

module _ (r : Rule) where
  abbrev after_noncurrent : Members
  after_noncurrent = bounded_members r

  abbrev after_id : Members
  after_id = if_there (codes "NoncurrentVersionExpiration") (option_map noncurrent_value r.noncurrent) (bounded_members r)

  abbrev after_larger : Members
  after_larger = if_there (codes "ObjectSizeLessThan") (option_map whole r.smaller) (named_members r)

  -- a name other than the last four optional ones is looked for among the first ones
  past : (k : List ℕ) → is_eq (slice_cmp nat_cmp k (codes "NoncurrentVersionExpiration")) ≡ false → is_eq (slice_cmp nat_cmp k (codes "ObjectSizeGreaterThan")) ≡ false → is_eq (slice_cmp nat_cmp k (codes "ObjectSizeLessThan")) ≡ false → get_member k after_id ≡ get_member k (named_members r)
  past k e f g =
      skip k (codes "NoncurrentVersionExpiration") (option_map noncurrent_value r.noncurrent) (bounded_members r) e
      ∙ skip k (codes "ObjectSizeGreaterThan") (option_map whole r.larger) after_larger f
      ∙ skip k (codes "ObjectSizeLessThan") (option_map whole r.smaller) (named_members r) g

  -- a name other than Expiration and ID
  inside : (k : List ℕ) → is_eq (slice_cmp nat_cmp k (codes "Expiration")) ≡ false → is_eq (slice_cmp nat_cmp k (codes "ID")) ≡ false → get k (rule_value r) ≡ get_member k after_id
  inside k e f =
      skip k (codes "Expiration") (expiration_of r.days r.lone_markers) (member (codes "ID") (string r.id) after_id) e
      ∙ either (slice_cmp nat_cmp k (codes "ID")) (get_member k after_id) (Some (string r.id)) f

  id-is : get (codes "ID") (rule_value r) ≡ Some (string r.id)
  id-is = skip (codes "ID") (codes "Expiration") (expiration_of r.days r.lone_markers) (member (codes "ID") (string r.id) after_id) refl

  prefix-is : get (codes "Prefix") (rule_value r) ≡ Some (string r.prefix)
  prefix-is = inside (codes "Prefix") refl refl ∙ past (codes "Prefix") refl refl refl

  status-is : get (codes "Status") (rule_value r) ≡ Some (string (status_name r.enabled))
  status-is = inside (codes "Status") refl refl ∙ past (codes "Status") refl refl refl

  larger-is : get (codes "ObjectSizeGreaterThan") (rule_value r) ≡ option_map whole r.larger
  larger-is =
      inside (codes "ObjectSizeGreaterThan") refl refl
      ∙ skip (codes "ObjectSizeGreaterThan") (codes "NoncurrentVersionExpiration") (option_map noncurrent_value r.noncurrent) (bounded_members r) refl
      ∙ here (codes "ObjectSizeGreaterThan") (option_map whole r.larger) after_larger refl
      (skip (codes "ObjectSizeGreaterThan") (codes "ObjectSizeLessThan") (option_map whole r.smaller) (named_members r) refl)

  smaller-is : get (codes "ObjectSizeLessThan") (rule_value r) ≡ option_map whole r.smaller
  smaller-is =
      inside (codes "ObjectSizeLessThan") refl refl
      ∙ skip (codes "ObjectSizeLessThan") (codes "NoncurrentVersionExpiration") (option_map noncurrent_value r.noncurrent) (bounded_members r) refl
      ∙ skip (codes "ObjectSizeLessThan") (codes "ObjectSizeGreaterThan") (option_map whole r.larger) after_larger refl
      ∙ here (codes "ObjectSizeLessThan") (option_map whole r.smaller) (named_members r) refl refl

  expiration-is : get (codes "Expiration") (rule_value r) ≡ expiration_of r.days r.lone_markers
  expiration-is =
      here (codes "Expiration") (expiration_of r.days r.lone_markers) (member (codes "ID") (string r.id) after_id) refl
      (past (codes "Expiration") refl refl refl)

  noncurrent-is : get (codes "NoncurrentVersionExpiration") (rule_value r) ≡ option_map noncurrent_value r.noncurrent
  noncurrent-is =
      inside (codes "NoncurrentVersionExpiration") refl refl
      ∙ here (codes "NoncurrentVersionExpiration") (option_map noncurrent_value r.noncurrent) (bounded_members r) refl
      (skip (codes "NoncurrentVersionExpiration") (codes "ObjectSizeGreaterThan") (option_map whole r.larger) after_larger refl
      ∙ skip (codes "NoncurrentVersionExpiration") (codes "ObjectSizeLessThan") (option_map whole r.smaller) (named_members r) refl)

  -- ---- its shape

  expiration-shaped : (days : Option ℕ) (lone : Bool) → optional is_expiration (expiration_of days lone) ≡ true
  expiration-shaped (Some n) lone = refl
  expiration-shaped None true = refl
  expiration-shaped None false = refl

  newer-shaped : (days : ℕ) (newer : Option ℕ) → is_noncurrent (noncurrent_value (record { days = days; newer = newer })) ≡ true
  newer-shaped days None = refl
  newer-shaped days (Some n) = refl

  noncurrent-shaped : (n : Option Noncurrent) → optional is_noncurrent (option_map noncurrent_value n) ≡ true
  noncurrent-shaped None = refl
  noncurrent-shaped (Some n) = newer-shaped n.days n.newer

  abbrev rule_names : List (List ℕ)
  rule_names =
      codes "ID" ∷ codes "Prefix" ∷ codes "ObjectSizeGreaterThan" ∷ codes "ObjectSizeLessThan" ∷ codes "Status" ∷ codes "Expiration"
      ∷ codes "NoncurrentVersionExpiration" ∷ []

  names-shaped : are_within rule_names (rule_members r) ≡ true
  names-shaped =
      within rule_names (codes "Expiration") (expiration_of r.days r.lone_markers) (member (codes "ID") (string r.id) after_id) refl
      (within rule_names (codes "NoncurrentVersionExpiration") (option_map noncurrent_value r.noncurrent) (bounded_members r) refl
      (within rule_names (codes "ObjectSizeGreaterThan") (option_map whole r.larger) after_larger refl
      (within rule_names (codes "ObjectSizeLessThan") (option_map whole r.smaller) (named_members r) refl refl)))

  bounds-shaped : optional is_number (get (codes "ObjectSizeGreaterThan") (rule_value r)) && optional is_number (get (codes "ObjectSizeLessThan") (rule_value r)) ≡ true
  bounds-shaped =
      both _ _
      (ap (optional is_number) larger-is ∙ number-if r.larger)
      (ap (optional is_number) smaller-is ∙ number-if r.smaller)

  pub rule-shaped : is_rule (rule_value r) ≡ true
  rule-shaped =
      both _ _ names-shaped
      (both _ _ (ap (needed is_text) id-is)
      (both _ _ (ap (optional is_text) prefix-is)
      (both _ _ bounds-shaped
      (both _ _ (ap (needed is_text) status-is)
      (both _ _ (ap (optional is_expiration) expiration-is ∙ expiration-shaped r.days r.lone_markers)
      (ap (optional is_noncurrent) noncurrent-is ∙ noncurrent-shaped r.noncurrent))))))

  -- ---- what it spells

  expiration-spelled : (d : Data) (days : Option ℕ) (lone : Bool) → get (codes "Expiration") d ≡ expiration_of days lone → passes_if_given is_day_count days ≡ true → is_some days && lone ≡ false → IsExpiration d days lone
  expiration-spelled d None true e passes one = inr (object (member (codes "ExpiredObjectDeleteMarker") (boolean true) no_members), e, refl, inl refl)
  expiration-spelled d None false e passes one = inl (e, refl, refl)
  expiration-spelled d (Some n) true e passes one = absurd cc
  expiration-spelled d (Some n) false e passes one = inr (object (member (codes "Days") (whole n) no_members), e, (refl, day-bits n passes), inr (refl, refl))

  newer-spelled : (d : Data) (days : ℕ) (newer : Option ℕ) → get (codes "NoncurrentVersionExpiration") d ≡ Some (noncurrent_value (record { days = days; newer = newer })) → is_day_count days ≡ true → passes_if_given is_newer_count newer ≡ true → IsNoncurrent d (Some (record { days = days; newer = newer }))
  newer-spelled d days None e many new = (noncurrent_value (record { days = days; newer = None }), e, (refl, day-bits days many), refl)
  newer-spelled d days (Some n) e many new = (noncurrent_value (record { days = days; newer = Some n }), e, (refl, day-bits days many), (refl, newer-bits n new))

  noncurrent-spelled : (d : Data) (n : Option Noncurrent) → get (codes "NoncurrentVersionExpiration") d ≡ option_map noncurrent_value n → passes_if_given is_noncurrent_action n ≡ true → IsNoncurrent d n
  noncurrent-spelled d None e passes = e
  noncurrent-spelled d (Some n) e passes =
      newer-spelled d n.days n.newer e (left (is_day_count n.days) (passes_if_given is_newer_count n.newer) passes) (right (is_day_count n.days) (passes_if_given is_newer_count n.newer) passes)

  -- each number is in its range, and not both kinds of Expiration are there
  abbrev pub IsSound : Type 0
  IsSound = (is_in_range r ≡ true) × (has_days_and_markers r ≡ false)

  pub rule-spelled : IsSpelledRule r → IsSound → IsRule (rule_value r) r
  rule-spelled names sound =
      let firsts = left (passes_if_given is_day_count r.days && passes_if_given is_noncurrent_action r.noncurrent) (are_bounds r.larger r.smaller) sound.0 in
      let bounds = right (passes_if_given is_day_count r.days && passes_if_given is_noncurrent_action r.noncurrent) (are_bounds r.larger r.smaller) sound.0 in
      let sizes = left (passes_if_given is_lower_bound r.larger && passes_if_given is_upper_bound r.smaller) (are_in_order r.larger r.smaller) bounds in
      let days = left (passes_if_given is_day_count r.days) (passes_if_given is_noncurrent_action r.noncurrent) firsts in
      let noncurrent = right (passes_if_given is_day_count r.days) (passes_if_given is_noncurrent_action r.noncurrent) firsts in
      let larger = left (passes_if_given is_lower_bound r.larger) (passes_if_given is_upper_bound r.smaller) sizes in
      let smaller = right (passes_if_given is_lower_bound r.larger) (passes_if_given is_upper_bound r.smaller) sizes in (
        (id-is, names.0),
        inl (prefix-is, names.1),
        (
          small-if (rule_value r) (codes "ObjectSizeGreaterThan") is_lower_bound r.larger lower-bits larger-is larger,
          small-if (rule_value r) (codes "ObjectSizeLessThan") is_upper_bound r.smaller upper-bits smaller-is smaller,
        ),
        status-is,
        expiration-spelled (rule_value r) r.days r.lone_markers expiration-is days sound.1,
        noncurrent-spelled (rule_value r) r.noncurrent noncurrent-is noncurrent,
      )

-- ---- rules that have no fault

not-where : (b : Bool) (fault : RuleFault) (later : Option RuleFault) → fault_where b fault later ≡ None → (b ≡ false) × (later ≡ None)
not-where true fault later e = absurd cc
not-where false fault later e = (refl, e)

no-first : (a b : Option RuleFault) → first_of_both a b ≡ None → (a ≡ None) × (b ≡ None)
no-first None b e = (refl, e)
no-first (Some fault) b e = absurd cc

is-not : (b : Bool) → not b ≡ false → b ≡ true
is-not true e = refl
is-not false e = absurd cc

sound-rule : (before : List Rule) (r : Rule) → fault_of before r ≡ None → IsSound r
sound-rule before r e =
    let same = not-where (has_id before r.id) _ _ e in
    let action = not-where (not (has_action r)) _ _ same.1 in
    let days = not-where (has_days_and_markers r) _ _ action.1 in
    let range = not-where (not (is_in_range r)) _ _ days.1 in
    (is-not (is_in_range r) range.0, days.0)

sound-rules : (before rules : List Rule) → first_fault before rules ≡ None → AllByRecursion IsSound rules
sound-rules before [] e = tt
sound-rules before (r ∷ rs) e =
    let firsts = no-first (fault_of before r) (first_fault (before ++ r ∷ []) rs) e in
    (sound-rule before r firsts.0, sound-rules (before ++ r ∷ []) rs firsts.1)

are-sound : (rules : List Rule) → rules_fault rules ≡ None → AllByRecursion IsSound rules
are-sound [] e = tt
are-sound (r ∷ rs) e = sound-rules [] (r ∷ rs) (not-where _ _ _ e).1

spelled-rules : (rules : List Rule) → All IsSpelledRule rules → AllByRecursion IsSound rules → AreRules (items_of (map rule_value rules)) rules
spelled-rules [] names sound = tt
spelled-rules (r ∷ rs) names sound =
    (rule-spelled r (All-head IsSpelledRule r rs names) sound.0, spelled-rules rs (All-tail IsSpelledRule r rs names) sound.1)

pub rules-spelled : (rules : List Rule) → All IsSpelledRule rules → rules_fault rules ≡ None → AreRules (items_of (map rule_value rules)) rules
rules-spelled rules names e = spelled-rules rules names (are-sound rules e)

pub rules-shaped : (rules : List Rule) → all_items is_rule (items_of (map rule_value rules)) ≡ true
rules-shaped [] = refl
rules-shaped (r ∷ rs) = both (is_rule (rule_value r)) _ (rule-shaped r) (rules-shaped rs)

-- ---- how deep they are

flat-if : (l : List ℕ) (v : Option Data) (ms : Members) → option_map_or (λ d. nat_le (depth d) 1) v true ≡ true → members_depth ms ≤ 1 → members_depth (if_there l v ms) ≤ 1
flat-if l None ms e h = h
flat-if l (Some d) ms e h = let one = leb-true (depth d) 1 e in omega arith

number-flat : (n : Option ℕ) → option_map_or (λ d. nat_le (depth d) 1) (option_map whole n) true ≡ true
number-flat None = refl
number-flat (Some n) = refl

expiration-flat : (days : Option ℕ) (lone : Bool) → option_map_or (λ d. nat_le (depth d) 1) (expiration_of days lone) true ≡ true
expiration-flat (Some n) lone = refl
expiration-flat None true = refl
expiration-flat None false = refl

newer-flat : (days : ℕ) (newer : Option ℕ) → nat_le (depth (noncurrent_value (record { days = days; newer = newer }))) 1 ≡ true
newer-flat days None = refl
newer-flat days (Some n) = refl

noncurrent-flat : (n : Option Noncurrent) → option_map_or (λ d. nat_le (depth d) 1) (option_map noncurrent_value n) true ≡ true
noncurrent-flat None = refl
noncurrent-flat (Some n) = newer-flat n.days n.newer

named-flat : (r : Rule) → members_depth (named_members r) ≤ 1
named-flat r = omega arith

id-flat : (id : List ℕ) (ms : Members) → members_depth ms ≤ 1 → members_depth (member (codes "ID") (string id) ms) ≤ 1
id-flat id ms h = omega arith

rule-flat : (r : Rule) → members_depth (rule_members r) ≤ 1
rule-flat r =
    flat-if (codes "Expiration") (expiration_of r.days r.lone_markers) _ (expiration-flat r.days r.lone_markers)
    (id-flat r.id _
    (flat-if (codes "NoncurrentVersionExpiration") (option_map noncurrent_value r.noncurrent) _ (noncurrent-flat r.noncurrent)
    (flat-if (codes "ObjectSizeGreaterThan") (option_map whole r.larger) _ (number-flat r.larger)
    (flat-if (codes "ObjectSizeLessThan") (option_map whole r.smaller) _ (number-flat r.smaller) (named-flat r)))))

pub rules-flat : (rules : List Rule) → items_depth (items_of (map rule_value rules)) ≤ 2
rules-flat [] = omega arith
rules-flat (r ∷ rs) =
    let first = rule-flat r in
    let later = rules-flat rs in
    omega arith

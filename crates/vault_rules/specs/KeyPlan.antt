-- The plan of a run at one key, from the set of its held entries.
use Rattle.std.specs.Prelude.{ℕ, ◌+◌, ◌-◌, ◌++◌, ◌&&◌, ◌==◌, Bool, true, false, not, nat_lt, max, List, [], ◌∷◌, length, map, filter, filter_map, fold, Option, None, is_none, option_map, if◌then◌else◌}
use Rattle.std.specs.List.{list_all}
use Rattle.vault_lock.specs.Lock.{is_locked}
use Rattle.vault_rules.specs.declared.plan.Held.{Held}
use Rattle.vault_rules.specs.declared.rule.Rule.{Rule}
use Rattle.vault_rules.specs.declared.plan.Step.{Step}
use Rattle.vault_rules.specs.declared.plan.Step.TheVariants.{Mark, Remove, RemoveLone}
use Rattle.vault_rules.specs.Due.{due_current, due_noncurrent, due_marker}

-- each id is below those that stand after it
abbrev pub ids_rise : List Held → Bool
ids_rise [] = true
ids_rise (x ∷ xs) = list_all (λ y. nat_lt x.id y.id) xs && ids_rise xs

-- the entries of the key that are newer than x
abbrev pub newer_among : List Held → Held → List Held
newer_among hs x = filter (λ y. nat_lt x.id y.id) hs

abbrev pub is_current_among : List Held → Held → Bool
is_current_among hs x = length (newer_among hs x) == 0

abbrev pub is_noncurrent_among : List Held → Held → Bool
is_noncurrent_among hs x = nat_lt 0 (length (newer_among hs x))

-- the admission of the first of these entries
abbrev pub first_admission : List Held → ℕ
first_admission [] = 0
first_admission (x ∷ xs) = x.admitted

-- when x became noncurrent: as its successor was admitted
abbrev pub since : List Held → Held → ℕ
since hs x = first_admission (newer_among hs x)

-- how many newer noncurrent entries stand above x
abbrev pub rank : List Held → Held → ℕ
rank hs x = length (newer_among hs x) - 1

abbrev pub only_if : {A : Type 0} → Bool → Option A → Option A
only_if b found = if b then found else None

-- the rule that marks the key for x: x is current content and due
abbrev pub mark_rule : List Rule → List ℕ → ℕ → List Held → Held → Option ℕ
mark_rule rules key t hs x = only_if (is_current_among hs x && not x.marker) (due_current rules key x.size x.admitted t)

-- the rule that removes x: x is noncurrent, due and not locked
abbrev pub removal_rule : List Rule → List ℕ → ℕ → List Held → Held → Option ℕ
removal_rule rules key t hs x =
    only_if (is_noncurrent_among hs x && not (is_locked x.lock t)) (due_noncurrent rules key x.size (since hs x) (rank hs x) t)

-- the rule that removes x alone: x is a marker, its key's only entry, and due
abbrev pub lone_rule : List Rule → List ℕ → ℕ → List Held → Held → Option ℕ
lone_rule rules key t hs x = only_if (x.marker && length hs == 1) (due_marker rules key x.size x.admitted t)

-- the steps of each phase
abbrev pub mark_steps : List Rule → List ℕ → ℕ → List Held → List Step
mark_steps rules key t hs = filter_map (λ x. option_map (λ r. Mark r) (mark_rule rules key t hs x)) hs

abbrev pub removal_steps : List Rule → List ℕ → ℕ → List Held → List Step
removal_steps rules key t hs = filter_map (λ x. option_map (λ r. Remove x.id r) (removal_rule rules key t hs x)) hs

abbrev pub lone_steps : List Rule → List ℕ → ℕ → List Held → List Step
lone_steps rules key t hs = filter_map (λ x. option_map (λ r. RemoveLone x.id r) (lone_rule rules key t hs x)) hs

-- an id above each of the entries'
abbrev pub id_above : List Held → ℕ
id_above hs = fold (λ m x. max m x.id) 0 hs + 1

-- a marker of now, on top
abbrev pub marker_on : ℕ → List Held → Held
marker_on t hs = record { id = id_above hs; marker = true; size = 0; admitted = t; lock = record { retention = None; hold = false } }

-- the entries after the first phase, and after the second
abbrev pub marked : List Rule → List ℕ → ℕ → List Held → List Held
marked rules key t hs = if length (mark_steps rules key t hs) == 0 then hs else hs ++ marker_on t hs ∷ []

abbrev pub kept : List Rule → List ℕ → ℕ → List Held → List Held
kept rules key t hs = filter (λ x. is_none (removal_rule rules key t hs x)) hs

-- the mark, then the removals by rising id, then the lone marker
abbrev pub key_plan : List Rule → List ℕ → List Held → ℕ → List Step
key_plan rules key hs t =
    mark_steps rules key t hs ++ removal_steps rules key t (marked rules key t hs)
    ++ lone_steps rules key t (kept rules key t (marked rules key t hs))

-- a step at a key
pub record Planned : Type 0 where
  pub key : List ℕ
  pub step : Step

abbrev pub at_key : List ℕ → List Step → List Planned
at_key key steps = map (λ s. record { key = key; step = s }) steps

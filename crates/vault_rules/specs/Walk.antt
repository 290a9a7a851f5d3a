-- The plan of a run at one key by a walk over its held entries, oldest first, as the calls below `plan_key` make it. `KeyPlan` says it by sets, and the two are one.
use Rattle.std.specs.Prelude.{ℕ, ◌++◌, Bool, true, false, not, List, [], ◌∷◌, length, Option, Some, None, option_and_then}
use Rattle.std.specs.List.{last_or}
use Rattle.vault_lock.specs.declared.lock.Lock.{Lock}
use Rattle.vault_lock.specs.Lock.{is_locked}
use Rattle.vault_rules.specs.declared.plan.Held.{Held}
use Rattle.vault_rules.specs.declared.rule.Rule.{Rule}
use Rattle.vault_rules.specs.declared.plan.Step.{Step}
use Rattle.vault_rules.specs.declared.plan.Step.TheVariants.{Mark, Remove, RemoveLone}
use Rattle.vault_rules.specs.Due.{due_current, due_noncurrent, due_marker}
use Rattle.vault_rules.specs.KeyPlan.{id_above}

-- what a run at a key asks of the rules and of a lock: the rule that makes due current content of a size and admission, a noncurrent entry by its size, since and rank, a lone marker; and whether an entry with this lock stays
pub record Dues : Type 0 where
  pub current : ℕ → ℕ → Option ℕ
  pub noncurrent : ℕ → ℕ → ℕ → Option ℕ
  pub lone : ℕ → ℕ → Option ℕ
  pub locked : Lock → Bool

abbrev pub dues : List Rule → List ℕ → ℕ → Dues
dues rules key t = record {
  current = λ size admitted. due_current rules key size admitted t;
  noncurrent = λ size since rank. due_noncurrent rules key size since rank t;
  lone = λ size admitted. due_marker rules key size admitted t;
  locked = λ lock. is_locked lock t;
}

abbrev pub unless : Bool → Option ℕ → Option ℕ
unless true o = None
unless false o = o

-- the rule that marks the key: that of its last entry, where this is content
abbrev pub last_mark : Dues → List Held → Option ℕ
last_mark d hs = option_and_then (λ x. unless x.marker (d.current x.size x.admitted)) (last_or None hs)

abbrev pub marker_at : ℕ → ℕ → Held
marker_at id t = record { id = id; marker = true; size = 0; admitted = t; lock = record { retention = None; hold = false } }

-- the new marker above a key's entries
abbrev pub marked_above : ℕ → ℕ → Bool → List Held
marked_above id t true = marker_at id t ∷ []
marked_above id t false = []

-- the entries after the first phase
abbrev pub marked_by : ℕ → Option ℕ → List Held → List Held
marked_by t None hs = hs
marked_by t (Some r) hs = hs ++ marker_at (id_above hs) t ∷ []

-- the rule that removes x below these newer entries: since is the admission of the oldest of them
abbrev pub removal : Dues → Held → List Held → Option ℕ
removal d x [] = None
removal d x (y ∷ ys) = unless (d.locked x.lock) (d.noncurrent x.size y.admitted (length ys))

abbrev pub mark_step : Option ℕ → List Step
mark_step None = []
mark_step (Some r) = Mark r ∷ []

abbrev pub remove_step : ℕ → Option ℕ → List Step
remove_step id None = []
remove_step id (Some r) = Remove id r ∷ []

abbrev pub lone_step : ℕ → Option ℕ → List Step
lone_step id None = []
lone_step id (Some r) = RemoveLone id r ∷ []

-- the second phase, by rising id
abbrev pub removals : Dues → List Held → List Step
removals d [] = []
removals d (x ∷ xs) = remove_step x.id (removal d x xs) ++ removals d xs

abbrev pub keep_if : Held → Option ℕ → List Held → List Held
keep_if x None ys = x ∷ ys
keep_if x (Some r) ys = ys

-- the entries after the second phase
abbrev pub left_over : Dues → List Held → List Held
left_over d [] = []
left_over d (x ∷ xs) = keep_if x (removal d x xs) (left_over d xs)

-- the third phase
abbrev pub lone_removal : Dues → List Held → List Step
lone_removal d [] = []
lone_removal d (x ∷ []) = lone_step x.id (unless (not x.marker) (d.lone x.size x.admitted))
lone_removal d (x ∷ y ∷ ys) = []

-- the second and third phase
abbrev pub later_phases : Dues → List Held → List Step
later_phases d hs = removals d hs ++ lone_removal d (left_over d hs)

-- all steps
abbrev pub walk : Dues → ℕ → List Held → List Step
walk d t hs = mark_step (last_mark d hs) ++ later_phases d (marked_by t (last_mark d hs) hs)

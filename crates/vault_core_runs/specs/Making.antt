-- How far a part of a run comes within its steps, and what it leaves.
use Rattle.std.specs.Prelude.{◌≡◌, ℕ, ◌+◌, ◌<◌, ◌≤◌, List, [], ◌∷◌, length, take, Result, Ok, Err}
use Rattle.std.specs.List.{AllByRecursion}
use Rattle.vault_base.specs.declared.refusal.Refusal.TheVariants.{VaultFull}
use Rattle.vault_base.specs.Limits.{most_ids}
use Rattle.vault_rules.specs.declared.rule.Rule.{Rule}
use Rattle.vault_rules.specs.declared.plan.Step.{Step}
use Rattle.vault_rules.specs.declared.plan.Step.TheVariants.{Mark, Remove, RemoveLone}
use Rattle.vault_rules.specs.KeyPlan.{Planned}
use Rattle.vault_core_model.specs.declared.halt.Halt.{Halt}
use Rattle.vault_core_model.specs.declared.halt.Halt.TheVariants as halt
use Rattle.vault_core_model.specs.declared.reply.Counts.{Counts}
use Rattle.vault_core_model.specs.Vault.{Vault, next_id}
use Rattle.vault_core_model.specs.Allowed.{Allows}
use Rattle.vault_core_model.specs.Plan.{change_at, after_steps, counts, plan, with_ids}
use Rattle.vault_core_run_laws.specs.KeyRuns.{HaveIds, last_key, plan_at, plans_at}

-- the place of the rule that is the cause of a step
abbrev pub place_of : Step → ℕ
place_of (Mark r) = r
place_of (Remove id r) = r
place_of (RemoveLone id r) = r

-- the cause of each step is one of these rules
abbrev pub HaveCauses : List Rule → List Step → Type 0
HaveCauses rules steps = AllByRecursion (λ s. place_of s < length rules) steps

-- a mark takes an id; one is left for it
abbrev pub HasId : Vault → Step → Type 0
HasId v (Mark r) = next_id v ≤ most_ids
HasId v (Remove id r) = Unit {0}
HasId v (RemoveLone id r) = Unit {0}

-- no id is left for the step
abbrev pub WantsId : Vault → Step → Type 0
WantsId v (Mark r) = most_ids < next_id v
WantsId v (Remove id r) = ⊥
WantsId v (RemoveLone id r) = ⊥

-- a step may be made, as far as there is an id for it
abbrev pub MayBeMade : Vault → List ℕ → ℕ → List ℕ → Step → Type 0
MayBeMade v bucket t key s = HasId v s → Allows v t (change_at v bucket t key s)

-- why a step isn't made: a fault came, or no id is left
abbrev pub Hinders : Halt → Vault → Step → Type 0
Hinders (halt.Fault f) v s = Unit {0}
Hinders (halt.Refused r) v s = (r ≡ VaultFull) × WantsId v s

-- one step
abbrev pub only : List ℕ → Step → List Planned
only key s = record { key = key; step = s } ∷ []

-- these counts and those
abbrev pub plus : Counts → Counts → Counts
plus a b = record { changes = a.changes + b.changes; marked = a.marked + b.marked; removed = a.removed + b.removed; lone = a.lone + b.lone }

-- all steps are made, each mark with an id that was left
pub record MakesAll (v : Vault) (bucket : List ℕ) (t : ℕ) (ps : List Planned) (old new : Counts) (v' : Vault) : Type 0 where
  pub ids : HaveIds v ps
  pub left : v' ≡ after_steps v bucket t ps
  pub counted : new ≡ plus old (counts ps)

-- why no more than the first n steps are made: a fault came, or the next is the first mark that finds no id
abbrev pub StopsAt : Halt → ℕ → Vault → List Planned → Type 0
StopsAt (halt.Fault f) n v ps = Unit {0}
StopsAt (halt.Refused r) n v ps = (r ≡ VaultFull) × (n ≡ length (with_ids (length v.histories) ps)) × (n < length ps)

-- the first n steps are made, and the rest isn't
pub record MakesUpTo (v : Vault) (bucket : List ℕ) (t : ℕ) (ps : List Planned) (e : Halt) (old new : Counts) (v' : Vault) : Type 0 where
  pub n : ℕ
  pub within : n ≤ length (with_ids (length v.histories) ps)
  pub left : v' ≡ after_steps v bucket t (take n ps)
  pub counted : new.changes ≡ old.changes + n
  pub why : StopsAt e n v ps

-- from v, these steps are made: all of them, or the first up to a halt; the counts went from old to new
abbrev pub MakesSteps : {X : Type 0} → Result X Halt → Vault → List ℕ → ℕ → List Planned → Counts → Counts → Vault → Type 0
MakesSteps (Ok x) v bucket t ps old new v' = MakesAll v bucket t ps old new v'
MakesSteps (Err e) v bucket t ps old new v' = MakesUpTo v bucket t ps e old new v'

-- the same of all steps of a key's plan
abbrev pub MakesPlanAt : {X : Type 0} → Result X Halt → Vault → List ℕ → ℕ → List ℕ → Counts → Counts → Vault → Type 0
MakesPlanAt r v bucket t key old new v' = MakesSteps r v bucket t (plan_at v bucket t key) old new v'

-- of the plans of these keys, one after another
abbrev pub MakesPlansAt : {X : Type 0} → Result X Halt → Vault → List ℕ → ℕ → List (List ℕ) → Counts → Counts → Vault → Type 0
MakesPlansAt r v bucket t keys old new v' = MakesSteps r v bucket t (plans_at v bucket t keys) old new v'

-- of a bucket's plan
abbrev pub MakesPlan : {X : Type 0} → Result X Halt → Vault → List ℕ → ℕ → Counts → Counts → Vault → Type 0
MakesPlan r v bucket t old new v' = MakesSteps r v bucket t (plan v bucket t) old new v'

-- the last of these keys, which has a byte
pub record IsLastKey (keys : List (List ℕ)) (k : List ℕ) : Type 0 where
  pub some : 1 ≤ length keys
  pub last : k ≡ last_key keys
  pub known : 1 ≤ length k

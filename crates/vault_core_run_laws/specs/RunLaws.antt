-- Laws of a run of the lifecycle rules over a bucket, step by step and key by key.
use Rattle.std.specs.Prelude.{◌≡◌, ℕ, ◌+◌, ◌*◌, ◌≤◌, true, false, List, [], ◌∷◌, ◌++◌, length, take, count_by, Some, IsTrue}
use Rattle.vault_base.specs.Limits.{most_ids}
use Rattle.vault_lock.specs.Lock.{is_locked}
use Rattle.vault_rules.specs.declared.plan.Step.{Step}
use Rattle.vault_rules.specs.declared.plan.Step.TheVariants.{Mark, Remove, RemoveLone}
use Rattle.vault_rules.specs.KeyPlan.{Planned, at_key, key_plan, ids_rise}
use Rattle.vault_core_run_laws.specs.KeyOrder.{IsIn, IsRising}
use Rattle.vault_core_model.specs.declared.records.History.{History}
use Rattle.vault_core_model.specs.Vault.{Vault, config_of, history_of, last_lock, next_id}
use Rattle.vault_core_model.specs.Places.{is_held_at, keys_of}
use Rattle.vault_core_model.specs.Reads.{entries_of, keys_after}
use Rattle.vault_core_model.specs.Sound.{Sound}
use Rattle.vault_core_model.specs.Allowed.{Allows}
use Rattle.vault_core_model.specs.Plan.{plan, after_steps, change_of, change_at, rules_in, is_mark}
use Rattle.vault_core_run_laws.specs.KeyRuns.{MayRun, plans_at, HaveIds, last_key}

-- the plan by three phases over the whole vault is the plans of its keys, one after another
abbrev pub VaultPlansAreKeyByKey : Type 0
VaultPlansAreKeyByKey =
    (v : Vault) (bucket : List ℕ) (t : ℕ) → MayRun v bucket t → plan v bucket t ≡ plans_at v bucket t (keys_of v bucket)

-- the keys of a bucket rise by their bytes
abbrev pub KeysRise : Type 0
KeysRise = (v : Vault) (bucket : List ℕ) → IsRising (keys_of v bucket)

-- the ids of a key's entries rise
abbrev pub EntriesRise : Type 0
EntriesRise = (v : Vault) (bucket key : List ℕ) → Sound v → IsTrue (ids_rise (entries_of v bucket key))

-- what the first steps at some keys leave: a run may go on with the rest of them; the rules and the bucket are as they were, and n ids more are taken as there were marks; the steps are few
pub record Leaves (v : Vault) (bucket : List ℕ) (t : ℕ) (keys : List (List ℕ)) (ps qs : List Planned) (v1 : Vault) : Type 0 where
  pub may : MayRun v1 bucket t
  pub rest : plans_at v1 bucket t keys ≡ qs
  pub rules : rules_in v1 bucket ≡ rules_in v bucket
  pub config : config_of v1 bucket ≡ config_of v bucket
  pub ids : length v1.histories ≡ length v.histories + count_by (λ p. is_mark p.step) ps
  pub few : length ps ≤ 2 * most_ids

abbrev pub RunsGoOn : Type 0
RunsGoOn =
    (v : Vault) (bucket : List ℕ) (t : ℕ) (keys : List (List ℕ)) (ps qs : List Planned)
    → MayRun v bucket t → IsRising keys → plans_at v bucket t keys ≡ ps ++ qs → HaveIds v ps
    → Leaves v bucket t keys ps qs (after_steps v bucket t ps)

-- the next step may be made; a mark, where an id is left
abbrev pub NextStepsAreAllowed : Type 0
NextStepsAreAllowed =
    (v : Vault) (bucket : List ℕ) (t : ℕ) (keys : List (List ℕ)) (ps qs : List Planned) (p : Planned)
    → MayRun v bucket t → IsRising keys → plans_at v bucket t keys ≡ ps ++ p ∷ qs → HaveIds v ps
    → (is_mark p.step ≡ true → next_id (after_steps v bucket t ps) ≤ most_ids)
    → Allows (after_steps v bucket t ps) t (change_of (after_steps v bucket t ps) bucket t p)

-- the entry of that id is held at that key, and isn't locked at t
pub record IsFree (v : Vault) (bucket key : List ℕ) (t id : ℕ) : Type 0 where
  pub history : History
  pub there : history_of v id ≡ Some history
  pub held : IsTrue (is_held_at bucket key history.entry)
  pub unlocked : is_locked (last_lock history.settings) t ≡ false

-- what the step at that key removes, if anything, is held there and isn't locked
abbrev pub RemovesFree : Vault → List ℕ → List ℕ → ℕ → Step → Type 0
RemovesFree v bucket key t (Mark r) = Unit {0}
RemovesFree v bucket key t (Remove id r) = IsFree v bucket key t id
RemovesFree v bucket key t (RemoveLone id r) = IsFree v bucket key t id

-- the next step removes nothing that is locked
abbrev pub NextStepsRemoveFree : Type 0
NextStepsRemoveFree =
    (v : Vault) (bucket : List ℕ) (t : ℕ) (keys : List (List ℕ)) (ps qs : List Planned) (p : Planned)
    → MayRun v bucket t → IsRising keys → plans_at v bucket t keys ≡ ps ++ p ∷ qs → HaveIds v ps
    → RemovesFree (after_steps v bucket t ps) bucket p.key t p.step

-- the same within one key
abbrev pub KeyRunsGoOn : Type 0
KeyRunsGoOn =
    (v : Vault) (bucket : List ℕ) (t : ℕ) (key : List ℕ) (ss rest : List Step)
    → MayRun v bucket t → key_plan (rules_in v bucket) key (entries_of v bucket key) t ≡ ss ++ rest → HaveIds v (at_key key ss)
    → Leaves v bucket t (key ∷ []) (at_key key ss) (at_key key rest) (after_steps v bucket t (at_key key ss))

abbrev pub KeyStepsAreAllowed : Type 0
KeyStepsAreAllowed =
    (v : Vault) (bucket : List ℕ) (t : ℕ) (key : List ℕ) (ss rest : List Step) (s : Step)
    → MayRun v bucket t → key_plan (rules_in v bucket) key (entries_of v bucket key) t ≡ ss ++ s ∷ rest → HaveIds v (at_key key ss)
    → (is_mark s ≡ true → next_id (after_steps v bucket t (at_key key ss)) ≤ most_ids)
    → Allows (after_steps v bucket t (at_key key ss)) t (change_at (after_steps v bucket t (at_key key ss)) bucket t key s)

-- the steps at some keys alter no entry of another key
abbrev pub OtherKeysStay : Type 0
OtherKeysStay =
    (v : Vault) (bucket : List ℕ) (t : ℕ) (keys : List (List ℕ)) (ps qs : List Planned) (key : List ℕ)
    → MayRun v bucket t → IsRising keys → plans_at v bucket t keys ≡ ps ++ qs → HaveIds v ps → (IsIn key keys → ⊥)
    → entries_of (after_steps v bucket t ps) bucket key ≡ entries_of v bucket key

-- in a rising list no key is in the rest and among the keys before it
abbrev pub LaterKeysAreOthers : Type 0
LaterKeysAreOthers = (done rest : List (List ℕ)) (key : List ℕ) → IsRising (done ++ rest) → IsIn key rest → IsIn key done → ⊥

-- after all steps of the first keys, the keys after the last of them are the rest
abbrev pub PagesGoOn : Type 0
PagesGoOn =
    (v : Vault) (bucket : List ℕ) (t most : ℕ) (done rest : List (List ℕ))
    → MayRun v bucket t → keys_of v bucket ≡ done ++ rest → HaveIds v (plans_at v bucket t done)
    → (1 ≤ length done → 1 ≤ length (last_key done))
    → keys_after (after_steps v bucket t (plans_at v bucket t done)) bucket (last_key done) most ≡ take most rest

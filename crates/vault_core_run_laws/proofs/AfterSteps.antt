-- The vault after steps of a run.
use Rattle.std.proofs.Common.{◌≡◌, ℕ, ◌+◌, ◌++◌, true, false, List, [], ◌∷◌, length, option_and_then, unwrap_or, append-nil, refl, ap, ◌∙◌, arith}
use Rattle.std.specs.Str.{bytes_eq}
use Rattle.vault_rules.specs.declared.plan.Step.{Step}
use Rattle.vault_rules.specs.declared.plan.Step.TheVariants.{Mark, Remove, RemoveLone}
use Rattle.vault_rules.specs.KeyPlan.{Planned}
use Rattle.vault_core_model.specs.Vault.{Vault, bucket_in}
use Rattle.vault_core_model.specs.Reads.{entries_of}
use Rattle.vault_core_model.specs.Change.{changed}
use Rattle.vault_core_model.specs.Plan.{change_at, change_of, after_steps, rules_in}
use Rattle.vault_core_run_laws.proofs.KeyOrder.{bytes_same}
use Rattle.vault_core_run_laws.proofs.KeySteps.{made_with, IsStepOf, without_absent}
use Rattle.vault_core_run_laws.proofs.Entries.{AreOrderly, orderly_marked, orderly_removed, entries-marked, entries-removed, id_of_one}

pub after_steps-append : (v : Vault) (b : List ℕ) (t : ℕ) (ps qs : List Planned) → after_steps v b t (ps ++ qs) ≡ after_steps (after_steps v b t ps) b t qs
after_steps-append v b t [] qs = refl
after_steps-append v b t (p ∷ ps) qs = after_steps-append (changed v t (change_of v b t p)) b t ps qs

-- ---- the buckets stay

buckets_at : (v : Vault) (b : List ℕ) (t : ℕ) (k : List ℕ) (s : Step) → (changed v t (change_at v b t k s)).buckets ≡ v.buckets
buckets_at v b t k (Mark r) = refl
buckets_at v b t k (Remove id r) = refl
buckets_at v b t k (RemoveLone id r) = refl

pub buckets_stay : (v : Vault) (b : List ℕ) (t : ℕ) (ps : List Planned) → (after_steps v b t ps).buckets ≡ v.buckets
buckets_stay v b t [] = refl
buckets_stay v b t (p ∷ ps) = buckets_stay (changed v t (change_of v b t p)) b t ps ∙ buckets_at v b t p.key p.step

last_at : (v : Vault) (b : List ℕ) (t : ℕ) (k : List ℕ) (s : Step) → (changed v t (change_at v b t k s)).last ≡ t
last_at v b t k (Mark r) = refl
last_at v b t k (Remove id r) = refl
last_at v b t k (RemoveLone id r) = refl

pub last_is : (v : Vault) (b : List ℕ) (t : ℕ) (p : Planned) → (changed v t (change_of v b t p)).last ≡ t
last_is v b t p = last_at v b t p.key p.step

pub rules_stay : (v : Vault) (b : List ℕ) (t : ℕ) (ps : List Planned) → rules_in (after_steps v b t ps) b ≡ rules_in v b
rules_stay v b t ps = ap (λ bs. unwrap_or (option_and_then (λ x. x.rules) (bucket_in bs b)) []) (buckets_stay v b t ps)

-- ---- the order of admission stays

pub orderly_after_step : (v : Vault) (b : List ℕ) (t : ℕ) (p : Planned) → AreOrderly 1 0 t v.histories → AreOrderly 1 0 t (changed v t (change_of v b t p)).histories
orderly_after_step v b t p c = cases p.step
  where
    cases : (s : Step) → AreOrderly 1 0 t (changed v t (change_at v b t p.key s)).histories
    cases (Mark r) = orderly_marked b p.key _ 1 0 t (length v.histories + 1) v.histories (omega arith) c
    cases (Remove i r) = orderly_removed i _ 1 0 t v.histories c
    cases (RemoveLone i r) = orderly_removed i _ 1 0 t v.histories c

pub orderly_after_steps : (v : Vault) (b : List ℕ) (t : ℕ) (ps : List Planned) → AreOrderly 1 0 t v.histories → AreOrderly 1 0 t (after_steps v b t ps).histories
orderly_after_steps v b t [] c = c
orderly_after_steps v b t (p ∷ ps) c = orderly_after_steps (changed v t (change_of v b t p)) b t ps (orderly_after_step v b t p c)

-- ---- a step alters the entries of its own key alone

pub entries-own : (v : Vault) (b k : List ℕ) (t : ℕ) (s : Step) → entries_of (changed v t (change_at v b t k s)) b k ≡ made_with (length v.histories + 1) t (entries_of v b k) s
entries-own v b k t (Mark r) = entries-marked b k k (length v.histories + 1) t _ true v.histories (bytes_same k)
entries-own v b k t (Remove i r) = entries-removed b k i _ v.histories
entries-own v b k t (RemoveLone i r) = entries-removed b k i _ v.histories

-- a marker at j adds no entry to another key
pub marked_away : (v : Vault) (b j k : List ℕ) (t r : ℕ) → bytes_eq j k ≡ false → entries_of (changed v t (change_at v b t j (Mark r))) b k ≡ entries_of v b k
marked_away v b j k t r a = entries-marked b k j (length v.histories + 1) t _ false v.histories a ∙ append-nil (entries_of v b k)

pub entries-away : (v : Vault) (b k j : List ℕ) (t : ℕ) (s : Step) → AreOrderly 1 0 t v.histories → bytes_eq k j ≡ false → IsStepOf (entries_of v b k) s → entries_of (changed v t (change_at v b t k s)) b j ≡ entries_of v b j
entries-away v b k j t (Mark r) c a h = marked_away v b k j t r a
entries-away v b k j t (Remove i r) c a h = entries-removed b j i _ v.histories ∙ without_absent i (entries_of v b j) (id_of_one b k j i 1 0 t v.histories c a h)
entries-away v b k j t (RemoveLone i r) c a h = entries-removed b j i _ v.histories ∙ without_absent i (entries_of v b j) (id_of_one b k j i 1 0 t v.histories c a h)

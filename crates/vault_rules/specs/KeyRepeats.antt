-- A run that stopped within a key may be given again.
use Rattle.std.specs.Prelude.{◌≡◌, ℕ, ◌&&◌, ◌==◌, Bool, not, nat_lt, nat_le, List, [], ◌∷◌, ◌++◌, take, drop, filter}
use Rattle.vault_rules.specs.declared.plan.Held.{Held}
use Rattle.vault_rules.specs.declared.rule.Rule.{Rule}
use Rattle.vault_rules.specs.declared.plan.Step.{Step}
use Rattle.vault_rules.specs.declared.plan.Step.TheVariants.{Mark, Remove, RemoveLone}
use Rattle.vault_rules.specs.KeyPlan.{key_plan, marker_on}

-- the entries but the one of that id
abbrev pub without : ℕ → List Held → List Held
without id hs = filter (λ x. not (x.id == id)) hs

-- the held entries after a step at t
abbrev pub held_after : ℕ → List Held → Step → List Held
held_after t hs (Mark r) = hs ++ marker_on t hs ∷ []
held_after t hs (Remove id r) = without id hs
held_after t hs (RemoveLone id r) = without id hs

-- and after these steps
abbrev pub held_after_all : ℕ → List Held → List Step → List Held
held_after_all t hs [] = hs
held_after_all t hs (s ∷ ss) = held_after_all t (held_after t hs s) ss

-- ids rise from above one on, admissions don't go back before a moment, and none is after t
abbrev pub is_in_order : ℕ → ℕ → ℕ → List Held → Bool
is_in_order id from t [] = nat_le from t
is_in_order id from t (x ∷ xs) = nat_lt id x.id && nat_le from x.admitted && is_in_order x.id x.admitted t xs

-- after the first n of these steps, made at t, the key's plan at t is the rest of them
abbrev pub Repeats : List Rule → List ℕ → List Held → ℕ → List Step → Type 0
Repeats rules key hs t steps = (n : ℕ) → key_plan rules key (held_after_all t hs (take n steps)) t ≡ drop n steps

-- One step made, or hindered.
use Rattle.std.proofs.Common.{◌≡◌, ℕ, ◌+◌, ◌≤◌, true, List, [], length, cond, nat_lt, refl, ap, arith}
use Rattle.std.proofs.lemmas.Bool.Decides.{nat_tests}
use Rattle.vault_base.specs.Limits.{most_ids}
use Rattle.vault_rules.specs.declared.plan.Step.{Step}
use Rattle.vault_rules.specs.declared.plan.Step.TheVariants.{Mark, Remove, RemoveLone}
use Rattle.vault_core_model.specs.declared.reply.Counts.{Counts}
use Rattle.vault_core_model.specs.Vault.{Vault}
use Rattle.vault_core_model.specs.Change.{changed}
use Rattle.vault_core_model.specs.Plan.{change_at, counts}
use Rattle.vault_core_run_laws.specs.KeyRuns.{HaveIds}
use Rattle.vault_core_runs.specs.Making.{HasId, MakesAll, only, plus}

left_for : (n : ℕ) → n + 1 ≤ most_ids → nat_lt n most_ids ≡ true
left_for n h = grind (arith, nat_tests)

one_id : (v : Vault) (key : List ℕ) (s : Step) → HasId v s → HaveIds v (only key s)
one_id v key (Mark r) h = ap (λ b. cond b (only key (Mark r)) []) (left_for (length v.histories) h)
one_id v key (Remove id r) h = refl
one_id v key (RemoveLone id r) h = refl

pub MakesAll-one : (v v1 : Vault) (b : List ℕ) (t : ℕ) (key : List ℕ) (s : Step) (x y : Counts) → HasId v s → v1 ≡ changed v t (change_at v b t key s) → y ≡ plus x (counts (only key s)) → MakesAll v b t (only key s) x y v1
MakesAll-one v v1 b t key s x y has e c = record { ids = one_id v key s has; left = e; counted = c }

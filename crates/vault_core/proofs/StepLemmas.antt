-- What commands leave that are carried out step by step.
use Rattle.std.proofs.Common.{◌≡◌, List, [], ◌∷◌, ◌++◌, ◌∙◌, refl, sym, ap, subst}
use Rattle.vault_core_model.specs.declared.command.Timed.{Timed}
use Rattle.vault_core_model.specs.declared.kept.Kept.{Ghosts}
use Rattle.vault_core_model.specs.declared.reply.Reply.{Reply}
use Rattle.vault_core_model.specs.Halts.{is_device_reply}
use Rattle.vault_core_model.specs.Leaves.{Leaves, count_after_all}
use Rattle.vault_core_model.specs.Step.{IsRun, IsStep, Reached}
use Rattle.vault_core_model.specs.Vault.{Vault, opening_of}
use Rattle.vault_core_laws.proofs.Runs.{IsRun-append}
use Rattle.vault_core_run_laws.proofs.Reached.{reached-Sound, run-external}
use Rattle.vault_core.specs.StepByStep.{StepByStep}

module _ {K : Type 0} (g : Ghosts K) where
  -- a command more
  pub push : (old mid new : K) (cs : List Timed) (rs : List Reply) (c : Timed) (r : Reply) → StepByStep g old cs rs mid
      → (g.is_honest new → IsStep (g.vault mid) c.at c.who c.command r (g.vault new)) → Leaves g mid new (is_device_reply r) → StepByStep g old (cs ++ c ∷ []) (rs ++ r ∷ []) new
  push old mid new [] [] c r first step left =
      let P : K → Type 0 = λ k. StepByStep g k (c ∷ []) (r ∷ []) new in
      subst P first (new, step, left, refl)
  push old mid new [] (s ∷ rs) c r first step left = absurd first
  push old mid new (d ∷ cs) [] c r first step left = absurd first
  push old mid new (d ∷ cs) (s ∷ rs) c r first step left = (first.0, first.1, first.2, push first.0 mid new cs rs c r first.3 step left)

  -- a keeper that is honest after them was honest before
  pub honest : (old new : K) (cs : List Timed) (rs : List Reply) → StepByStep g old cs rs new → g.is_honest new → g.is_honest old
  honest old new [] [] t h = subst g.is_honest t h
  honest old new [] (r ∷ rs) t h = absurd t
  honest old new (c ∷ cs) [] t h = absurd t
  honest old new (c ∷ cs) (r ∷ rs) t h = t.2.honest (honest t.0 new cs rs t.3 h)

  -- they are a run
  pub is_run : (old new : K) (cs : List Timed) (rs : List Reply) → StepByStep g old cs rs new → g.is_honest new → IsRun (g.vault old) cs rs (g.vault new)
  is_run old new [] [] t h = ap g.vault t
  is_run old new [] (r ∷ rs) t h = absurd t
  is_run old new (c ∷ cs) [] t h = absurd t
  is_run old new (c ∷ cs) (r ∷ rs) t h = (g.vault t.0, t.1 (honest t.0 new cs rs t.3 h), is_run t.0 new cs rs t.3 h)

  -- the count of failures rises with their replies
  pub counted : (old new : K) (cs : List Timed) (rs : List Reply) → StepByStep g old cs rs new → g.count new ≡ count_after_all (g.count old) rs
  counted old new [] [] t = ap g.count t
  counted old new [] (r ∷ rs) t = absurd t
  counted old new (c ∷ cs) [] t = absurd t
  counted old new (c ∷ cs) (r ∷ rs) t = counted t.0 new cs rs t.3 ∙ ap (λ n. count_after_all n rs) t.2.counted

-- ---- vaults that are reached

-- the run to the vault before, and then this one
pub run-reached : (v w : Vault) (cs : List Timed) (rs : List Reply) → Reached v → IsRun v cs rs w → Reached w
run-reached v w cs rs before run =
    let same : w.external ≡ v.external = run-external v w cs rs (reached-Sound v before) run in
    let all = IsRun-append (opening_of v.external) v w before.0 cs before.1 rs before.2 run in
    (before.0 ++ cs, before.1 ++ rs, subst (λ b. IsRun (opening_of b) (before.0 ++ cs) (before.1 ++ rs) w) (sym same) all)

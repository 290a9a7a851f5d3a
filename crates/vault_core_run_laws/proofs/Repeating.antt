-- A run that stopped may be given again: the plan is the rest, and the parts add up.
use Rattle.std.proofs.Common.{◌≡◌, ℕ, ◌++◌, refl, ◌+◌, ◌≤◌, nat_lt, Bool, true, false, IsTrue, List, [], ◌∷◌, length, take, drop, sum_by, Result, Ok, Err, sym, ap, subst, ◌∙◌, arith, ⊎_elim, if◌then◌else◌, length-drop, take-append-drop, take-add}
use Rattle.std.proofs.lemmas.List.{drop-drop, drop_all, take_all}
use Rattle.std.proofs.lemmas.List.Sums.{sum_by-cons}
use Rattle.vault_base.specs.declared.refusal.Refusal.{Refusal}
use Rattle.vault_base.specs.Limits.{most_ids}
use Rattle.vault_rules.specs.Rules.{are_rules}
use Rattle.vault_rules.specs.KeyPlan.{Planned}
use Rattle.vault_core_model.specs.declared.command.Run as command_run
use Rattle.vault_core_model.specs.declared.command.Command.TheVariants as command
use Rattle.vault_core_model.specs.declared.access.Access.{Access}
use Rattle.vault_core_model.specs.declared.reply.Answer.{Answer}
use Rattle.vault_core_model.specs.declared.reply.Answer.TheVariants.{Ran}
use Rattle.vault_core_model.specs.declared.reply.Reply.{Reply}
use Rattle.vault_core_model.specs.declared.reply.Reply.TheVariants.{Done, Refused, Stopped}
use Rattle.vault_core_model.specs.declared.reply.Stop.TheVariants as stop
use Rattle.vault_core_model.specs.Vault.{Vault}
use Rattle.vault_core_model.specs.Places.{keys_of}
use Rattle.vault_core_model.specs.Checks.{◌>>=◌}
use Rattle.vault_core_model.specs.Plan.{plan, after_steps, counts, rules_in, with_ids, is_mark}
use Rattle.vault_core_model.specs.RunOutcome.{planned_run, StopsByFault, MakesFirst}
use Rattle.vault_core_model.specs.Step.{IsStep, IsRun}
use Rattle.vault_core_run_laws.specs.Repeats.{IsOrderly, VaultPlansRepeat, IsCut, AreCut, changes_reported, runs_by, IsBegun, CutRunsAddUp, IsCompleted, RunsRepeat}
use Rattle.vault_core_run_laws.proofs.Entries.{AreOrderly, orderly_of, ids_of_orderly, order_of_orderly}
use Rattle.vault_core_run_laws.proofs.AfterSteps.{after_steps-append, orderly_after_steps, rules_stay}
use Rattle.vault_core_run_laws.proofs.Keys.{keys_rise, key_held}
use Rattle.vault_core_run_laws.proofs.OnePlan.{IsPlan, repeats, unique}
use Rattle.vault_core_run_laws.proofs.ByKey.{by_key}

-- ---- the plan is the rest

histories_orderly : (v : Vault) (b : List ℕ) (t : ℕ) → IsOrderly v b t → AreOrderly 1 0 t v.histories
histories_orderly v b t c = orderly_of 1 0 t v.histories c.ids c.order

is_plan : (v : Vault) (b : List ℕ) (t : ℕ) → IsOrderly v b t → IsPlan (rules_in v b) v b t (plan v b t)
is_plan v b t c = record {
  keys = keys_of v b;
  rising = keys_rise v b;
  covers = key_held v b;
  steps = by_key v b t c.rules (histories_orderly v b t c);
}

orderly_stays : (v : Vault) (b : List ℕ) (t : ℕ) (ps : List Planned) → IsOrderly v b t → IsOrderly (after_steps v b t ps) b t
orderly_stays v b t ps c =
    let w = after_steps v b t ps in
    let after = orderly_after_steps v b t ps (histories_orderly v b t c) in record {
      ids = ids_of_orderly 1 0 t w.histories after;
      order = order_of_orderly 1 0 t w.histories after;
      rules = subst (λ rs. IsTrue (are_rules rs)) (sym (rules_stay v b t ps)) c.rules;
    }

pub vault_plans_repeat : VaultPlansRepeat
vault_plans_repeat v b t n c =
    let ps = plan v b t in
    let v1 = after_steps v b t (take n ps) in
    let rest : IsPlan (rules_in v b) v1 b t (drop n ps) = repeats (rules_in v b) b t c.rules n v ps (histories_orderly v b t c) (is_plan v b t c) in
    let now : IsPlan (rules_in v b) v1 b t (plan v1 b t) = subst (λ rs. IsPlan rs v1 b t (plan v1 b t)) (rules_stay v b t (take n ps)) (is_plan v1 b t (orderly_stays v b t (take n ps) c)) in
    unique (rules_in v b) b t v1 (plan v1 b t) (drop n ps) now rest

-- ---- runs that were cut

-- a run that is judged well has the plan
planned : (o : Result Access Refusal) (ps qs : List Planned) → (o >>= (λ _. Ok ps)) ≡ Ok qs → qs ≡ ps
planned (Ok a) ps qs e = cc e
planned (Err r) ps qs e = absurd (cc e)

ids_shorten : (n : ℕ) (ps : List Planned) → length (with_ids n ps) ≤ length ps
ids_shorten n [] = omega arith
ids_shorten n (p ∷ ps) = cases (is_mark p.step) (nat_lt n most_ids) (ids_shorten (n + 1) ps) (ids_shorten n ps)
  where
    cases : (m c : Bool) → length (with_ids (n + 1) ps) ≤ length ps → length (with_ids n ps) ≤ length ps
        → length (if m then (if c then p ∷ with_ids (n + 1) ps else []) else p ∷ with_ids n ps) ≤ length (p ∷ ps)
    cases true true h g = omega (arith, h)
    cases true false h g = omega arith
    cases false c h g = omega (arith, g)

module _ (b : List ℕ) (t : ℕ) where
  abbrev run_over : command_run.Run
  run_over = record { bucket = b }

  -- what a cut run has made
  record HasMade (v mid : Vault) (n : ℕ) : Type 0 where
    within : n ≤ length (plan v b t)
    left : mid ≡ after_steps v b t (take n (plan v b t))

  makes_first : (v mid : Vault) (who : List ℕ) (n : ℕ) (ps : List Planned) → planned_run v t who run_over ≡ Ok ps → MakesFirst n ps v b t mid → HasMade v mid n
  makes_first v mid who n ps e m =
      let same : ps ≡ plan v b t = planned _ (plan v b t) ps e in record {
        within = subst (λ qs. n ≤ length qs) same (omega (arith, m.0, ids_shorten (length v.histories) ps));
        left = m.1 ∙ ap (λ qs. after_steps v b t (take n qs)) same;
      }

  stops : (v mid : Vault) (who : List ℕ) (n : ℕ) → StopsByFault (planned_run v t who run_over) n v b t mid → HasMade v mid n
  stops v mid who n s =
      ⊎_elim
      (λ (h : (n ≡ 0) × (mid ≡ v)). subst (HasMade v mid) (sym h.0) (record { within = omega arith; left = h.1 }))
      (λ (h : (ps : List Planned) × (planned_run v t who run_over ≡ Ok ps) × MakesFirst n ps v b t mid). makes_first v mid who n h.0 h.1 h.2)
      s

  cut_made : (v mid : Vault) (who : List ℕ) (r : Reply) → IsCut r → IsStep v t who (command.Run run_over) r mid → HasMade v mid (changes_reported r)
  cut_made v mid who (Done a) cut step = absurd cut
  cut_made v mid who (Refused r) cut step = absurd cut
  cut_made v mid who (Stopped n stop.Memory) cut step = stops v mid who n step
  cut_made v mid who (Stopped n stop.Device) cut step = stops v mid who n step
  cut_made v mid who (Stopped n stop.VaultFull) cut step = absurd cut

  -- what some cut runs have made together
  record HaveMade (v cut : Vault) (n : ℕ) : Type 0 where
    within : n ≤ length (plan v b t)
    left : cut ≡ after_steps v b t (take n (plan v b t))
    rest : plan cut b t ≡ drop n (plan v b t)
    orderly : IsOrderly cut b t

  one_after_another : (v mid cut : Vault) (n m : ℕ) → IsOrderly v b t → HaveMade v mid n → HasMade mid cut m → HaveMade v cut (n + m)
  one_after_another v mid cut n m ordered first later =
      let ps = plan v b t in
      let rest : plan cut b t ≡ drop m (plan mid b t) = ap (λ w. plan w b t) later.left ∙ vault_plans_repeat mid b t m first.orderly in record {
        within = omega (arith, first.within, later.within, ap length first.rest, length-drop n ps);
        left =
            later.left
            ∙ (ap (λ qs. after_steps mid b t (take m qs)) first.rest
            ∙ (ap (λ w. after_steps w b t (take m (drop n ps))) first.left
            ∙ (sym (after_steps-append v b t (take n ps) (take m (drop n ps)))
            ∙ ap (after_steps v b t) (sym (take-add n m ps)))));
        rest = rest ∙ (ap (drop m) first.rest ∙ drop-drop m n ps);
        orderly = subst (λ w. IsOrderly w b t) (sym later.left) (orderly_stays mid b t (take m (plan mid b t)) first.orderly);
      }

  -- a run that is done has made the whole plan
  record HasRun (v v' : Vault) (a : Answer) : Type 0 where
    answer : a ≡ Ran (counts (plan v b t))
    left : v' ≡ after_steps v b t (plan v b t)

  done_run : (v v' : Vault) (who : List ℕ) (a : Answer) → IsStep v t who (command.Run run_over) (Done a) v' → HasRun v v' a
  done_run v v' who a step =
      let same : step.0 ≡ plan v b t = planned _ (plan v b t) step.0 step.1 in record {
        answer = step.2 ∙ ap (λ ps. Ran (counts ps)) same;
        left = step.4 ∙ ap (after_steps v b t) same;
      }

  -- the whole plan is made where its first part was and then the rest
  whole : (v cut v' : Vault) (n : ℕ) (last : Answer) → HaveMade v cut n → HasRun cut v' last → v' ≡ after_steps v b t (plan v b t)
  whole v cut v' n last h d =
      let ps = plan v b t in
      d.left
      ∙ (ap (after_steps cut b t) h.rest
      ∙ (ap (λ w. after_steps w b t (drop n ps)) h.left
      ∙ (sym (after_steps-append v b t (take n ps) (drop n ps))
      ∙ ap (after_steps v b t) (take-append-drop n ps))))

  -- then nothing is planned
  nothing_left : (v v' : Vault) → IsOrderly v b t → v' ≡ after_steps v b t (plan v b t) → plan v' b t ≡ []
  nothing_left v v' ordered e =
      let ps = plan v b t in
      let all : after_steps v b t (take (length ps) ps) ≡ after_steps v b t ps = ap (after_steps v b t) (take_all (length ps) ps (omega arith)) in
      ap (λ w. plan w b t) (e ∙ sym all) ∙ (vault_plans_repeat v b t (length ps) ordered ∙ drop_all (length ps) ps (omega arith))

  completed : (v cut v' : Vault) (n : ℕ) (last : Answer) → IsOrderly v b t → HaveMade v cut n → HasRun cut v' last → IsCompleted v v' b t (n + changes_reported (Done last))
  completed v cut v' n last ordered h d =
      let unbroken = whole v cut v' n last h d in
      let none = nothing_left v v' ordered unbroken in
      let changes : changes_reported (Done last) ≡ length (plan cut b t) = ap (λ a. changes_reported (Done a)) d.answer in record {
        unbroken = unbroken;
        changes = omega (arith, changes, ap length h.rest, length-drop n (plan v b t), h.within);
        idle = λ who a v'' step.
            let again = done_run v' v'' who a step in
            (again.answer ∙ ap (λ qs. Ran (counts qs)) none, again.left ∙ ap (after_steps v' b t) none);
      }

  none_made : (v : Vault) → IsOrderly v b t → HaveMade v v 0
  none_made v ordered = record { within = omega arith; left = refl; rest = refl; orderly = ordered }

  -- where the runs before made so much of the first vault's plan
  cut_runs : (first v v' : Vault) (n : ℕ) (callers : List (List ℕ)) (cut : List Reply) → IsOrderly first b t → HaveMade first v n → AreCut cut
      → IsRun v (runs_by b t callers) cut v' → HaveMade first v' (n + sum_by changes_reported cut)
  cut_runs first v v' n [] [] ordered h cuts run = subst (λ w. HaveMade first w (n + 0)) (sym run) (subst (HaveMade first v) (omega arith) h)
  cut_runs first v v' n [] (r ∷ cut) ordered h cuts run = absurd run
  cut_runs first v v' n (who ∷ callers) [] ordered h cuts run = absurd run
  cut_runs first v v' n (who ∷ callers) (r ∷ cut) ordered h cuts run =
      let more = one_after_another first v run.0 n (changes_reported r) ordered h (cut_made v run.0 who r cuts.0 run.1) in
      subst (HaveMade first v') (omega (arith, sum_by-cons changes_reported r cut))
      (cut_runs first run.0 v' (n + changes_reported r) callers cut ordered more cuts.1 run.2)

  all_runs : (first v v' : Vault) (n : ℕ) (callers : List (List ℕ)) (cut : List Reply) (last : Answer) → IsOrderly first b t → HaveMade first v n → AreCut cut
      → IsRun v (runs_by b t callers) (cut ++ Done last ∷ []) v'
      → IsCompleted first v' b t (n + sum_by changes_reported (cut ++ Done last ∷ []))
  all_runs first v v' n [] [] last ordered h cuts run = absurd run
  all_runs first v v' n [] (r ∷ cut) last ordered h cuts run = absurd run
  all_runs first v v' n (who ∷ []) [] last ordered h cuts run =
      let d : HasRun v v' last = subst (λ w. HasRun v w last) (sym run.2) (done_run v run.0 who last run.1) in
      subst (IsCompleted first v' b t) (omega (arith, sum_by-cons changes_reported (Done last) [])) (completed first v v' n last ordered h d)
  all_runs first v v' n (who ∷ other ∷ callers) [] last ordered h cuts run = absurd run.2
  all_runs first v v' n (who ∷ callers) (r ∷ cut) last ordered h cuts run =
      let more = one_after_another first v run.0 n (changes_reported r) ordered h (cut_made v run.0 who r cuts.0 run.1) in
      subst (IsCompleted first v' b t) (omega (arith, sum_by-cons changes_reported r (cut ++ Done last ∷ [])))
      (all_runs first run.0 v' (n + changes_reported r) callers cut last ordered more cuts.1 run.2)

pub cut_runs_add_up : CutRunsAddUp
cut_runs_add_up v v' b t callers cut ordered cuts run =
    let h = cut_runs b t v v v' 0 callers cut ordered (none_made b t v ordered) cuts run in
    subst (IsBegun v v' b t) (omega arith) (record { within = h.within; left = h.left; rest = h.rest })

pub runs_repeat : RunsRepeat
runs_repeat v v' b t callers cut last ordered cuts run =
    subst (IsCompleted v v' b t) (omega arith) (all_runs b t v v v' 0 callers cut last ordered (none_made b t v ordered) cuts run)

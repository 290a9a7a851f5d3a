-- The machine as a function is a run of the machine as a relation, so the relation leaves no command without an answer.
use mathlib.Core.Bool.{true≢false}
use Rattle.std.proofs.Common.{◌≡◌, refl, subst, sym, ap, ◌∙◌, inl, inr, ℕ, ◌+◌, ◌<◌, arith, List, [], ◌∷◌, length, take, Bool, true, false, nat_lt, if◌then◌else◌, Result, Ok, Err}
use Rattle.std.specs.List.{AllByRecursion}
use Rattle.std.proofs.lemmas.List.{take_all}
use Rattle.std.proofs.lemmas.Bool.{ltb-false, ltb-true, le-ltb, lt-ltb}
use Rattle.vault_base.specs.declared.refusal.Refusal.{Refusal}
use Rattle.vault_base.specs.Limits.{most_ids}
use Rattle.vault_core_model.specs.declared.command.Command.{Command}
use Rattle.vault_core_model.specs.declared.command.Command.TheVariants as command
use Rattle.vault_core_model.specs.declared.command.Timed.{Timed}
use Rattle.vault_core_model.specs.declared.reply.Answer.{Answer}
use Rattle.vault_core_model.specs.declared.reply.Reply.{Reply}
use Rattle.vault_core_model.specs.Vault.{Vault}
use Rattle.vault_rules.specs.KeyPlan.{Planned}
use Rattle.vault_core_model.specs.Plan.{with_ids, is_mark, after_steps, counts}
use Rattle.vault_core_model.specs.declared.reply.Answer.TheVariants as answer
use Rattle.vault_core_model.specs.declared.reply.Stop.TheVariants.{Memory, Device, VaultFull}
use Rattle.vault_core_model.specs.declared.reply.Reply.TheVariants.{Done, Refused, Stopped}
use Rattle.vault_core_model.specs.RunOutcome.{AnswersRun}
use Rattle.vault_core_model.specs.Step.{IsStep, IsRun, Answers, CanBeGiven, Follows, GivenAnd, Judgement, AtOnce, ByPlan, judged}
use Rattle.vault_core_outcome.specs.Outcome.{Outcome, IsOutcome, reports_fault, settled, run_made, run_settled, outcome_judged, outcome, vault_after, replies_to}

Answers-settled : (v : Vault) (judged : Result (Answer × Vault) Refusal) → Answers judged v (settled v judged).reply (settled v judged).vault
Answers-settled v (Ok done) = refl
Answers-settled v (Err r) = (refl, inr refl)

-- what stands in either case
with_ids-cases : (b c : Bool) (n : ℕ) (p : Planned) (ps : List Planned) → take (length (with_ids (n + 1) ps)) ps ≡ with_ids (n + 1) ps → take (length (with_ids n ps)) ps ≡ with_ids n ps → take (length (if b then (if c then p ∷ with_ids (n + 1) ps else []) else p ∷ with_ids n ps)) (p ∷ ps) ≡ (if b then (if c then p ∷ with_ids (n + 1) ps else []) else p ∷ with_ids n ps)
with_ids-cases true true n p ps more same = ap (λ xs. p ∷ xs) more
with_ids-cases true false n p ps more same = refl
with_ids-cases false true n p ps more same = ap (λ xs. p ∷ xs) same
with_ids-cases false false n p ps more same = ap (λ xs. p ∷ xs) same

-- the steps that find their ids are the first ones
take-with_ids : (n : ℕ) (ps : List Planned) → take (length (with_ids n ps)) ps ≡ with_ids n ps
take-with_ids n [] = refl
take-with_ids n (p ∷ ps) = with_ids-cases (is_mark p.step) (nat_lt n most_ids) n p ps (take-with_ids (n + 1) ps) (take-with_ids n ps)

-- all of them, where they are as many
whole : {A : Type 0} (xs ys : List A) → take (length ys) xs ≡ ys → nat_lt (length ys) (length xs) ≡ false → ys ≡ xs
whole xs ys first all = sym first ∙ take_all (length ys) xs (ltb-false (length ys) (length xs) all)

abbrev full_stop : Vault → List ℕ → ℕ → List Planned → Outcome
full_stop v bucket t steps = record { reply = Stopped (length steps) VaultFull; vault = after_steps v bucket t steps }

abbrev all_done : Vault → List ℕ → ℕ → List Planned → Outcome
all_done v bucket t plan = record { reply = Done (answer.Ran (counts plan)); vault = after_steps v bucket t plan }

-- a run stops for want of an id, or makes its whole plan
run_cases : (v : Vault) (bucket : List ℕ) (t : ℕ) (plan : List Planned) (b : Bool) → nat_lt (length (with_ids (length v.histories) plan)) (length plan) ≡ b → AnswersRun (Ok plan) v bucket t (if b then full_stop v bucket t (with_ids (length v.histories) plan) else all_done v bucket t plan).reply (if b then full_stop v bucket t (with_ids (length v.histories) plan) else all_done v bucket t plan).vault
run_cases v bucket t plan true e = (plan, refl, refl, ltb-true _ _ e, ap (after_steps v bucket t) (sym (take-with_ids (length v.histories) plan)))
run_cases v bucket t plan false e = (plan, refl, refl, whole plan (with_ids (length v.histories) plan) (take-with_ids (length v.histories) plan) e, refl)

AnswersRun-settled : (v : Vault) (bucket : List ℕ) (t : ℕ) (judged : Result (List Planned) Refusal) → AnswersRun judged v bucket t (run_settled v bucket t judged).reply (run_settled v bucket t judged).vault
AnswersRun-settled v bucket t (Ok plan) = run_cases v bucket t plan (nat_lt (length (with_ids (length v.histories) plan)) (length plan)) refl
AnswersRun-settled v bucket t (Err r) = (refl, refl)

Follows-outcome : (j : Judgement) (v : Vault) (t : ℕ) → Follows j v t (outcome_judged j v t).reply (outcome_judged j v t).vault
Follows-outcome (AtOnce done) v t = Answers-settled v done
Follows-outcome (ByPlan bucket plan) v t = AnswersRun-settled v bucket t plan

given-and : (c : Command) (holds : Type 0) → CanBeGiven c → holds → GivenAnd c holds
given-and (command.SetRules c) holds given h = (given, h)
given-and _ holds given h = h

-- the outcome of each command is one of its steps
pub IsStep-outcome : (v : Vault) (t : ℕ) (who : List ℕ) (c : Command) → CanBeGiven c → IsStep v t who c (outcome v t who c).reply (outcome v t who c).vault
IsStep-outcome v t who c given = given-and c _ given (Follows-outcome (judged v t who c) v t)

-- the replies and the vault of the function are a run
pub IsRun-outcome : (v : Vault) (cs : List Timed) → AllByRecursion (λ c. CanBeGiven c.command) cs → IsRun v cs (replies_to v cs) (vault_after v cs)
IsRun-outcome v [] given = refl
IsRun-outcome v (c ∷ cs) given = ((outcome v c.at c.who c.command).vault, IsStep-outcome v c.at c.who c.command given.0, IsRun-outcome (outcome v c.at c.who c.command).vault cs given.1)

-- ---- a reply that reports no fault is the function's

Answers-is_outcome : (judged : Result (Answer × Vault) Refusal) (v : Vault) (r : Reply) (v' : Vault) → reports_fault r ≡ false → Answers judged v r v' → IsOutcome (settled v judged) r v'
Answers-is_outcome judged v (Done a) v' clear h = (ap (λ j. (settled v j).reply) (sym h), ap (λ j. (settled v j).vault) (sym h))
Answers-is_outcome judged v (Refused r) v' clear h =
    elim (h.1) [ inl f ↦ absurd (true≢false (sym f ∙ clear)) | inr e ↦ (ap (λ j. (settled v j).reply) (sym e), h.0 ∙ ap (λ j. (settled v j).vault) (sym e)) ]
Answers-is_outcome judged v (Stopped n s) v' clear h = absurd h

run_settled-whole : (v : Vault) (bucket : List ℕ) (t : ℕ) (plan : List Planned) → with_ids (length v.histories) plan ≡ plan → run_settled v bucket t (Ok plan) ≡ all_done v bucket t plan
run_settled-whole v bucket t plan w =
    ap (λ s. run_made v bucket t plan s) w
    ∙ ap (λ b. if b then full_stop v bucket t plan else all_done v bucket t plan) (le-ltb (length plan) (length plan) (omega arith))

run_settled-full : (v : Vault) (bucket : List ℕ) (t : ℕ) (plan : List Planned) → length (with_ids (length v.histories) plan) < length plan → run_settled v bucket t (Ok plan) ≡ full_stop v bucket t (with_ids (length v.histories) plan)
run_settled-full v bucket t plan less =
    ap (λ b. if b then full_stop v bucket t (with_ids (length v.histories) plan) else all_done v bucket t plan) (lt-ltb (length (with_ids (length v.histories) plan)) (length plan) less)

AnswersRun-is_outcome : (judged : Result (List Planned) Refusal) (v : Vault) (bucket : List ℕ) (t : ℕ) (r : Reply) (v' : Vault) → reports_fault r ≡ false → AnswersRun judged v bucket t r v' → IsOutcome (run_settled v bucket t judged) r v'
AnswersRun-is_outcome judged v bucket t (Done a) v' clear (plan, e, ran, w, m) =
    let is = ap (λ j. run_settled v bucket t j) e ∙ run_settled-whole v bucket t plan w in
    (ap (λ a. Done a) ran ∙ sym (ap (λ o. o.reply) is), m ∙ sym (ap (λ o. o.vault) is))
AnswersRun-is_outcome judged v bucket t (Refused r) v' clear h =
    (ap (λ j. (run_settled v bucket t j).reply) (sym (h.1)), h.0 ∙ ap (λ j. (run_settled v bucket t j).vault) (sym (h.1)))
AnswersRun-is_outcome judged v bucket t (Stopped n Memory) v' clear h = absurd (true≢false clear)
AnswersRun-is_outcome judged v bucket t (Stopped n Device) v' clear h = absurd (true≢false clear)
AnswersRun-is_outcome judged v bucket t (Stopped n VaultFull) v' clear (plan, e, many, less, m) =
    let is = ap (λ j. run_settled v bucket t j) e ∙ run_settled-full v bucket t plan (subst (λ k. k < length plan) many less) in (
      ap (λ k. Stopped k VaultFull) many ∙ sym (ap (λ o. o.reply) is),
      m ∙ ap (λ k. after_steps v bucket t (take k plan)) many ∙ ap (after_steps v bucket t) (take-with_ids (length v.histories) plan) ∙ sym (ap (λ o. o.vault) is),
    )

Follows-is_outcome : (j : Judgement) (v : Vault) (t : ℕ) (r : Reply) (v' : Vault) → reports_fault r ≡ false → Follows j v t r v' → IsOutcome (outcome_judged j v t) r v'
Follows-is_outcome (AtOnce done) v t r v' clear h = Answers-is_outcome done v r v' clear h
Follows-is_outcome (ByPlan bucket plan) v t r v' clear h = AnswersRun-is_outcome plan v bucket t r v' clear h

given-holds : (c : Command) (holds : Type 0) → GivenAnd c holds → holds
given-holds (command.SetRules c) holds h = h.1
given-holds _ holds h = h

-- a step that reports no fault is the outcome
pub IsStep-is_outcome : (v : Vault) (t : ℕ) (who : List ℕ) (c : Command) (r : Reply) (v' : Vault) → reports_fault r ≡ false → IsStep v t who c r v' → IsOutcome (outcome v t who c) r v'
IsStep-is_outcome v t who c r v' clear h = Follows-is_outcome (judged v t who c) v t r v' clear (given-holds c _ h)

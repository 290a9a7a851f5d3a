use Rattle.std.proofs.Common.{◌≡◌, ◌≢◌, ◌++◌, [], ◌∷◌, length, None, sym, ap, ◌∙◌, append-nil, arith}
use Rattle.vault_rules.specs.declared.plan.Step.TheVariants.{Mark}
use Rattle.vault_rules.specs.KeyPlan.{id_above}
use Rattle.vault_rules.specs.Walk.{dues, last_mark, removals, left_over, lone_removal, marker_at}
use Rattle.vault_rules.proofs.Fit.{fit}
use Rattle.vault_rules.proofs.Lasts.{walk_marked, walk_crowded, walk_alone, none_last}
use Rattle.vault_rules.proofs.Sets.{key_plan-walk}
use Rattle.vault_rules.proofs.plan.steps_of.Goals as goal
use Rattle.vault_rules.proofs.plan.steps_of.Goals.{then-left-eq1+in-Some-last+in_ok-remove_lone, then-left-eq1+in_default-last, else-left-eq1}

pub returns-in-Some : goal.returns-in-Some
returns-in-Some c =
    let rules = c.args.rules.now in
    let key = c.args.key.now in
    let t = c.args.now in
    let hs = c.args.held.now in
    let d = dues rules key t in
    let r = c.in-Some.rule in
    let set = c.requires.set in
    c.in_ok-remove_noncurrent.ensures.steps (id_above hs)
    ∙ (ap (λ l. l ++ removals d (hs ++ marker_at (id_above hs) t ∷ [])) (c.in_ok-push.ensures.items ∙ ap (λ l. l ++ Mark r ∷ []) c.new-steps.ensures.items)
    ∙ (sym (walk_marked d t hs r (fit rules key t set) (sym c.in-Some.ensures))
    ∙ sym (key_plan-walk rules key t hs c.requires.order)))

pub returns : goal.returns
returns c =
    let rules = c.args.rules.now in
    let key = c.args.key.now in
    let t = c.args.now in
    let hs = c.args.held.now in
    let d = dues rules key t in
    let m : last_mark d hs ≡ None = sym c.in_default.ensures in
    let s = c.in_ok-left.ensures.steps 0 ∙ (ap (λ l. l ++ removals d (hs ++ [])) c.new-steps.ensures.items ∙ ap (removals d) (append-nil hs)) in
    let n : c.in_ok-left.left ≡ length (left_over d hs) = let k = c.in_ok-left.ensures.left 0 in omega (arith, k, ap (λ l. length (left_over d l)) (append-nil hs)) in
    let planned = sym (key_plan-walk rules key t hs c.requires.order) in
    elim c.if-left-eq1.branch [
      | then-left-eq1+in-Some-last+in_ok-remove_lone w ↦
          ap (λ v. v.items) w.steps-is
          ∙ (w.in_ok-remove_lone.ensures
          ∙ (ap (λ l. l ++ lone_removal d (w.in-Some-last.last.now ∷ [])) s
          ∙ (sym (walk_alone d t hs w.in-Some-last.last.now m w.in-Some-last.ensures.value (sym n ∙ w.if-left-eq1.true)) ∙ planned)))
      | then-left-eq1+in_default-last w ↦ absurd (none_last d hs w.in_default-last.ensures.value (sym n ∙ w.if-left-eq1.true))
      | else-left-eq1 w ↦
          let crowded : length (left_over d hs) ≢ 1 = let f = w.if-left-eq1.false in omega arith in
          ap (λ v. v.items) w.steps-is ∙ (s ∙ (sym (walk_crowded d t hs m crowded) ∙ planned))
    ]

use Rattle.std.proofs.Common.{rules, ◌≡◌, ◌∙◌, true, false, sym, ap}
use Rattle.std.specs.Prelude.{is_some}
use Rattle.vault_core_model.specs.Reads.{entry_of, settings_of, tenures_of}
use Rattle.vault_core_evidence.proofs.OneEntry.{finds_rule, finds_move, finds_all}
use Rattle.vault_core_evidence.proofs.ShownByIds.{shows_entry}
use Rattle.vault_core_evidence.proofs.walk.breach_of.Goals as goal

pub returns-then-is_some-clause-value : goal.returns-then-is_some-clause-value
returns-then-is_some-clause-value g c clean =
    let some : is_some c.in_ok-law.law ≡ true = search rules in
    let v = g.K.Kept.vault c.args.keeper.now in
    let looked = c.rule_breach.ensures.leaves.honest clean in
    let settings = c.tenures_of.ensures.leaves.honest looked in
    let found = c.settings_of.ensures.leaves.honest settings in
    let before = c.settings_of.ensures.leaves.same ∙ c.entry.ensures.leaves.same in
    finds_rule v (g.K.Kept.vault c.tenures_of.new.keeper) c.args.seen.now c.args.seen.now c.args.holders.now c.args.holders.now (entry_of v c.args.id) c.in-Some.entry c.as_slice-3.result.now (settings_of v c.args.id)
    c.as_slice-4.result.now (tenures_of v c.args.id) c.in_ok-law.law
    (c.tenures_of.ensures.leaves.same ∙ before) (sym (c.in_ok-entry.ensures.value found) ∙ c.in-Some.is)
    (c.as_slice-3.ensures ∙ (c.in_ok-settings.ensures.value settings ∙ ap (λ w. settings_of w c.args.id) c.entry.ensures.leaves.same))
    (c.as_slice-4.ensures ∙ (c.in_ok-tenures.ensures.value looked ∙ ap (λ w. tenures_of w c.args.id) before))
    (c.in_ok-law.ensures.value clean) some

pub returns-then-is_some-2-clause-value : goal.returns-then-is_some-2-clause-value
returns-then-is_some-2-clause-value g c clean =
    let none : is_some c.in_ok-law.law ≡ false = search rules in
    let some : is_some c.in_ok-law-2.law ≡ true = search rules in
    let v = g.K.Kept.vault c.args.keeper.now in
    let looked = c.rule_breach.ensures.leaves.honest clean in
    let settings = c.tenures_of.ensures.leaves.honest looked in
    let found = c.settings_of.ensures.leaves.honest settings in
    let before = c.settings_of.ensures.leaves.same ∙ c.entry.ensures.leaves.same in
    let had = c.in_ok-tenures.ensures.value looked ∙ ap (λ w. tenures_of w c.args.id) before in
    finds_move v (g.K.Kept.vault c.tenures_of.new.keeper) c.args.seen.now c.move_breach.new.seen c.args.holders.now c.args.holders.now (entry_of v c.args.id) c.in-Some.entry c.as_slice-3.result.now (settings_of v c.args.id)
    c.as_slice-4.result.now c.as_slice-5.result.now (tenures_of v c.args.id) c.in_ok-law.law c.in_ok-law-2.law
    (c.tenures_of.ensures.leaves.same ∙ before) (sym (c.in_ok-entry.ensures.value found) ∙ c.in-Some.is)
    (c.as_slice-3.ensures ∙ (c.in_ok-settings.ensures.value settings ∙ ap (λ w. settings_of w c.args.id) c.entry.ensures.leaves.same))
    (c.as_slice-4.ensures ∙ had) (c.as_slice-5.ensures ∙ had)
    (c.in_ok-law.ensures.value clean) none c.in_ok-law-2.ensures some

pub returns-clause-value : goal.returns-clause-value
returns-clause-value g c clean =
    let none : is_some c.in_ok-law.law ≡ false = search rules in
    let passed : is_some c.in_ok-law-2.law ≡ false = search rules in
    let v = g.K.Kept.vault c.args.keeper.now in
    let looked = c.rule_breach.ensures.leaves.honest clean in
    let settings = c.tenures_of.ensures.leaves.honest looked in
    let found = c.settings_of.ensures.leaves.honest settings in
    let before = c.settings_of.ensures.leaves.same ∙ c.entry.ensures.leaves.same in
    let had = c.in_ok-tenures.ensures.value looked ∙ ap (λ w. tenures_of w c.args.id) before in
    finds_all v (g.K.Kept.vault c.tenures_of.new.keeper) c.args.seen.now c.move_breach.new.seen c.args.holders.now c.department_breach.new.holders (entry_of v c.args.id) c.in-Some.entry c.as_slice-3.result.now (settings_of v c.args.id)
    c.as_slice-4.result.now c.as_slice-5.result.now c.in_ok-tenures.tenures (tenures_of v c.args.id) c.in_ok-law.law c.in_ok-law-2.law c.in_ok-law-3.law
    (c.tenures_of.ensures.leaves.same ∙ before) (sym (c.in_ok-entry.ensures.value found) ∙ c.in-Some.is)
    (c.as_slice-3.ensures ∙ (c.in_ok-settings.ensures.value settings ∙ ap (λ w. settings_of w c.args.id) c.entry.ensures.leaves.same))
    (c.as_slice-4.ensures ∙ had) (c.as_slice-5.ensures ∙ had) had
    (c.in_ok-law.ensures.value clean) none c.in_ok-law-2.ensures passed c.in_ok-law-3.ensures

pub returns-then-is_some-clause-shown : goal.returns-then-is_some-clause-shown
returns-then-is_some-clause-shown g c clean =
    let looked = c.rule_breach.ensures.leaves.honest clean in
    let settings = c.tenures_of.ensures.leaves.honest looked in
    let found = c.settings_of.ensures.leaves.honest settings in
    let before = c.settings_of.ensures.leaves.same ∙ c.entry.ensures.leaves.same in
    shows_entry (entry_of (g.K.Kept.vault c.args.keeper.now) c.args.id) c.in-Some.entry c.as_slice.result.now (settings_of (g.K.Kept.vault c.args.keeper.now) c.args.id)
    c.as_slice-2.result.now (tenures_of (g.K.Kept.vault c.args.keeper.now) c.args.id) c.shown_by-shown.result
    (sym (c.in_ok-entry.ensures.value found) ∙ c.in-Some.is)
    (c.as_slice.ensures ∙ (c.in_ok-settings.ensures.value settings ∙ ap (λ w. settings_of w c.args.id) c.entry.ensures.leaves.same))
    (c.as_slice-2.ensures ∙ (c.in_ok-tenures.ensures.value looked ∙ ap (λ w. tenures_of w c.args.id) before))
    c.shown_by-shown.ensures

pub returns-then-is_some-2-clause-shown : goal.returns-then-is_some-2-clause-shown
returns-then-is_some-2-clause-shown g c clean =
    let looked = c.rule_breach.ensures.leaves.honest clean in
    let settings = c.tenures_of.ensures.leaves.honest looked in
    let found = c.settings_of.ensures.leaves.honest settings in
    let before = c.settings_of.ensures.leaves.same ∙ c.entry.ensures.leaves.same in
    shows_entry (entry_of (g.K.Kept.vault c.args.keeper.now) c.args.id) c.in-Some.entry c.as_slice.result.now (settings_of (g.K.Kept.vault c.args.keeper.now) c.args.id)
    c.as_slice-2.result.now (tenures_of (g.K.Kept.vault c.args.keeper.now) c.args.id) c.shown_by-shown.result
    (sym (c.in_ok-entry.ensures.value found) ∙ c.in-Some.is)
    (c.as_slice.ensures ∙ (c.in_ok-settings.ensures.value settings ∙ ap (λ w. settings_of w c.args.id) c.entry.ensures.leaves.same))
    (c.as_slice-2.ensures ∙ (c.in_ok-tenures.ensures.value looked ∙ ap (λ w. tenures_of w c.args.id) before))
    c.shown_by-shown.ensures

pub returns-clause-shown : goal.returns-clause-shown
returns-clause-shown g c clean =
    let looked = c.rule_breach.ensures.leaves.honest clean in
    let settings = c.tenures_of.ensures.leaves.honest looked in
    let found = c.settings_of.ensures.leaves.honest settings in
    let before = c.settings_of.ensures.leaves.same ∙ c.entry.ensures.leaves.same in
    shows_entry (entry_of (g.K.Kept.vault c.args.keeper.now) c.args.id) c.in-Some.entry c.as_slice.result.now (settings_of (g.K.Kept.vault c.args.keeper.now) c.args.id)
    c.as_slice-2.result.now (tenures_of (g.K.Kept.vault c.args.keeper.now) c.args.id) c.shown_by-shown.result
    (sym (c.in_ok-entry.ensures.value found) ∙ c.in-Some.is)
    (c.as_slice.ensures ∙ (c.in_ok-settings.ensures.value settings ∙ ap (λ w. settings_of w c.args.id) c.entry.ensures.leaves.same))
    (c.as_slice-2.ensures ∙ (c.in_ok-tenures.ensures.value looked ∙ ap (λ w. tenures_of w c.args.id) before))
    c.shown_by-shown.ensures

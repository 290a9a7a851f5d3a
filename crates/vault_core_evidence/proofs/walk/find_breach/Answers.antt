use Rattle.std.proofs.Common.{rules, ◌≡◌, ◌∙◌, ◌+◌, ℕ, None, refl, sym, subst, arith}
use Rattle.vault_base.specs.Name.{is_version_id}
use Rattle.vault_core_model.specs.Vault.{Vault}
use Rattle.vault_core_evidence.specs.Parts.{range_breach}
use Rattle.vault_core_evidence.proofs.ByIds.{FindsAt, its_id, left_first, left_goes_on, left_stops, registrar_is}
use Rattle.vault_core_evidence.specs.Walk.{ShowsAt}
use Rattle.vault_core_evidence.proofs.ShownByIds.{IsShown, shown_goes_on}
use Rattle.vault_core_evidence.proofs.walk.find_breach.Goals as goal

pub returns-in-Some-law-clause-value : goal.returns-in-Some-law-clause-value
returns-in-Some-law-clause-value g c clean =
    let before = c.breach_of.ensures.leaves.honest clean in
    let first = c.loop-place.invariant.leaves.honest before in
    let v = g.K.Kept.vault c.args.keeper.now in
    let P : Vault → Type 0 = λ w. FindsAt w c.loop-place.seen c.loop-place.holders c.in-Some-new.id c.in_ok-found.found.law c.breach_of.new.seen c.breach_of.new.holders in
    let finds = subst P c.loop-place.invariant.leaves.same (c.in_ok-found.ensures.value clean) in
    let id : c.in-Some.number ≡ c.in-Some-new.id = its_id (is_version_id c.in-Some.number) c.in-Some.number c.in-Some-new.id c.new.result c.new.ensures c.in-Some-new.is in
    let number : c.args.after + (c.loop-place.place + 1) ≡ c.in-Some-new.id = omega (arith, id, c.in-Some.ensures) in
    sym (left_stops v c.args.after c.args.most c.loop-place.seen c.breach_of.new.seen c.loop-place.holders c.breach_of.new.holders c.loop-place.place c.in-Some-new.id c.in_ok-found.found.law c.in-Some-law.law (range_breach v c.args.after c.args.most) (g.K.Kept.sound _ first)
    (c.requires.range first) c.loop-place-test.true number finds c.in-Some-law.is (c.loop-place.invariant.left before))

pub returns-in-Some-law-clause-shown : goal.returns-in-Some-law-clause-shown
returns-in-Some-law-clause-shown g c clean none = absurd (cc none)

pub loop-place-init : goal.loop-place-init
loop-place-init g c = record {
  leaves = search rules;
  left = λ clean. left_first (g.K.Kept.vault c.args.keeper.now) c.args.after c.args.most c.new-seen.result c.new-holders.result
      (registrar_is (g.K.Kept.vault c.args.keeper.now) c.in_ok-registrar.registrar c.in_ok-caller.caller c.is_first_caller.result c.in_ok-registrar.ensures (c.in_ok-caller.ensures.value clean) c.is_first_caller.ensures ∙ c.if-not-is_first_caller.false) c.new-seen.ensures c.new-holders.ensures;
  shown = λ clean.
      let P : ℕ → Type 0 = λ m. IsShown (g.K.Kept.vault c.args.keeper.now) c.args.after c.args.most 0 m in
      subst P (sym c.first_moment-shown.ensures) refl;
}

pub loop-place-preserved : goal.loop-place-preserved
loop-place-preserved g c = record {
  leaves = search rules;
  left = λ clean.
      let before = c.breach_of.ensures.leaves.honest clean in
      let first = c.loop-place.invariant.leaves.honest before in
      let v = g.K.Kept.vault c.args.keeper.now in
      let P : Vault → Type 0 = λ w. FindsAt w c.loop-place.seen c.loop-place.holders c.in-Some-new.id c.in_ok-found.found.law c.breach_of.new.seen c.breach_of.new.holders in
      let finds = subst P c.loop-place.invariant.leaves.same (c.in_ok-found.ensures.value clean) in
      let id : c.in-Some.number ≡ c.in-Some-new.id = its_id (is_version_id c.in-Some.number) c.in-Some.number c.in-Some-new.id c.new.result c.new.ensures c.in-Some-new.is in
      let number : c.args.after + (c.loop-place.place + 1) ≡ c.in-Some-new.id = omega (arith, id, c.in-Some.ensures) in
      let none : c.in_ok-found.found.law ≡ None = search rules in
      left_goes_on v c.args.after c.args.most c.loop-place.seen c.breach_of.new.seen c.loop-place.holders c.breach_of.new.holders c.loop-place.place c.in-Some-new.id c.in_ok-found.found.law (range_breach v c.args.after c.args.most) (g.K.Kept.sound _ first)
      (c.requires.range first) c.loop-place-test.true number finds none (c.loop-place.invariant.left before);
  shown = λ clean.
      let before = c.breach_of.ensures.leaves.honest clean in
      let first = c.loop-place.invariant.leaves.honest before in
      let v = g.K.Kept.vault c.args.keeper.now in
      let P : Vault → Type 0 = λ w. ShowsAt w c.in-Some-new.id c.in_ok-found.found.shown in
      let shows = subst P c.loop-place.invariant.leaves.same (c.in_ok-found.ensures.shown clean) in
      let id : c.in-Some.number ≡ c.in-Some-new.id = its_id (is_version_id c.in-Some.number) c.in-Some.number c.in-Some-new.id c.new.result c.new.ensures c.in-Some-new.is in
      let number : c.args.after + (c.loop-place.place + 1) ≡ c.in-Some-new.id = omega (arith, id, c.in-Some.ensures) in
      let Q : ℕ → Type 0 = λ m. IsShown v c.args.after c.args.most (c.loop-place.place + 1) m in
      subst Q (sym c.later-shown.ensures) (shown_goes_on v c.args.after c.args.most c.loop-place.place c.in-Some-new.id c.loop-place.shown c.in_ok-found.found.shown (g.K.Kept.sound _ first)
      (c.requires.range first) c.loop-place-test.true number shows (c.loop-place.invariant.shown before));
}

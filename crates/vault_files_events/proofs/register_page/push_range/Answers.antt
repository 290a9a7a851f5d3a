use Rattle.std.proofs.Common.{rules, ◌<◌, ◌≡◌, ◌+◌, ◌-◌, ◌++◌, ◌∙◌, length, ap, subst, arith}
use Rattle.vault_base.specs.Name.{is_version_id}
use Rattle.vault_core_model.specs.Reads.{entry_of}
use Rattle.vault_core_model.specs.Vault.{Vault}
use Rattle.vault_files_events.specs.RegisterPage.{row_found}
use Rattle.vault_files_events.proofs.RegisterParts.{rows_more}
use Rattle.vault_files_events.proofs.Walking.{its_id}
use Rattle.vault_files_events.proofs.register_page.push_range.Goals as goal

pub loop-place-preserved : goal.loop-place-preserved
loop-place-preserved g c = record {
  leaves = search rules;
  added = λ clean.
      let before = c.in_ok-found.ensures.leaves.honest clean in
      let first = c.loop-place.invariant.leaves.honest before in
      let v = g.K.Kept.vault c.args.keeper.now in
      let low : c.loop-place.place < length v.histories - c.args.after = omega (arith, c.loop-place-test.true, c.requires.range first) in
      let id : c.in-Some.number ≡ c.in-Some-new.id = its_id (is_version_id c.in-Some.number) c.in-Some.number c.in-Some-new.id c.new.result c.new.ensures c.in-Some-new.is in
      let number : c.args.after + (c.loop-place.place + 1) ≡ c.in-Some-new.id = omega (arith, id, c.in-Some.ensures) in
      let P : Vault → Type 0 = λ w. c.in_ok-found.found ≡ entry_of w c.in-Some-new.id in
      let entry = subst P c.loop-place.invariant.leaves.same (c.in_ok-found.ensures.value clean) in
      rows_more v c.args.after c.loop-place.place c.in-Some-new.id c.args.text.now.items c.loop-place.text.items c.push_found.new.text.items (g.K.Kept.sound _ first) low number
      (c.loop-place.invariant.added before) (c.in_ok-push_found.ensures ∙ ap (λ o. c.loop-place.text.items ++ row_found o) entry);
}

use Rattle.std.proofs.Common.{rules, ◌<◌, ◌≡◌, ◌+◌, ◌-◌, length, subst, arith}
use Rattle.vault_base.specs.Name.{is_version_id}
use Rattle.vault_core_model.specs.Vault.{Vault, history_of}
use Rattle.vault_files_events.specs.Past.{past_of}
use Rattle.vault_files_events.proofs.Parts.{rows_more, rows_of_past}
use Rattle.vault_files_events.proofs.Walking.{its_id}
use Rattle.vault_files_events.proofs.page.push_range.Goals as goal

pub loop-place-preserved : goal.loop-place-preserved
loop-place-preserved g c = record {
  leaves = search rules;
  added = λ clean.
      let before = c.in_ok-found.ensures.leaves.honest clean in
      let first = c.loop-place.invariant.leaves.honest before in
      let v = g.K.Kept.vault c.args.keeper.now in
      let low : c.loop-place.place < length v.histories - c.args.after = omega (arith, c.loop-place-test.true, c.requires.range first) in
      let id : c.in-Some.number ≡ c.in-Some-new.id = its_id (is_version_id c.in-Some.number) c.in-Some.number c.in-Some-new.id c.new.result c.new.ensures c.in-Some-new.is in
      let number : c.args.after + (c.loop-place.place + 1) ≡ c.in-Some-new.id = omega (arith, id, c.in-Some.ensures) in
      let P : Vault → Type 0 = λ w. c.in_ok-found.found ≡ past_of (history_of w c.in-Some-new.id) in
      let past = subst P c.loop-place.invariant.leaves.same (c.in_ok-found.ensures.value clean) in
      rows_more c.args.before.now v c.args.after c.loop-place.place c.in-Some-new.id c.args.text.now.items c.loop-place.text.items c.push_found.new.text.items (g.K.Kept.sound _ first) low number
      (c.loop-place.invariant.added before) (rows_of_past c.args.before.now (history_of v c.in-Some-new.id) c.in_ok-found.found c.loop-place.text.items c.push_found.new.text.items past c.in_ok-push_found.ensures);
}

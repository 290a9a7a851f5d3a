use Rattle.std.proofs.Common.{◌≡◌, ℕ, true, false, length, reverse, take, sym, ap, ◌∙◌, rules}
use Rattle.std.proofs.lemmas.Iterator.Adapters.{YieldsList-from_rev_slice}
use Rattle.std.proofs.lemmas.Iterator.Consumers.{YieldsList-turn}
use Rattle.std.proofs.lemmas.List.{length_push}
use Rattle.vault_core_model.specs.declared.records.History.{History}
use Rattle.vault_core_model.specs.Places.{is_held_in, with_key}
use Rattle.vault_core_list.proofs.KeySets.{keys_of_those, keys-more, keys-other}
use Rattle.vault_core_list.proofs.keys.held.Goals as goal

pub loop-history-preserved-in-Continue-1 : goal.loop-history-preserved-in-Continue-1
loop-history-preserved-in-Continue-1 c =
    let hs = reverse c.args.histories.now in
    let n = length c.loop-history.yielded in
    let h = c.in-Some.history.now in
    let p = λ (g : History). is_held_in c.args.bucket.now g.entry in
    let there = YieldsList-turn (YieldsList-from_rev_slice c.args.histories.now (search rules)) c.loop-history.yielded _ c.loop-history.yielded_by _ _ c.in-Some.history c.in-Some.is c.next.ensures.steps in
    let held : p h ≡ true = sym c.is_held_in.ensures ∙ c.if-is_held_in.true in
    c.in_ok-add.ensures ∙ ap (with_key h.entry.key) c.loop-history.invariant
    ∙ sym (keys-more p hs n h there.0 there.1 held)
    ∙ ap (λ (k : ℕ). keys_of_those p (reverse (take k hs))) (sym (length_push c.loop-history.yielded c.in-Some.history))

pub loop-history-preserved : goal.loop-history-preserved
loop-history-preserved c =
    let hs = reverse c.args.histories.now in
    let n = length c.loop-history.yielded in
    let h = c.in-Some.history.now in
    let p = λ (g : History). is_held_in c.args.bucket.now g.entry in
    let there = YieldsList-turn (YieldsList-from_rev_slice c.args.histories.now (search rules)) c.loop-history.yielded _ c.loop-history.yielded_by _ _ c.in-Some.history c.in-Some.is c.next.ensures.steps in
    let other : p h ≡ false = sym c.is_held_in.ensures ∙ c.if-is_held_in.false in
    c.loop-history.invariant
    ∙ sym (keys-other p hs n h there.0 there.1 other)
    ∙ ap (λ (k : ℕ). keys_of_those p (reverse (take k hs))) (sym (length_push c.loop-history.yielded c.in-Some.history))

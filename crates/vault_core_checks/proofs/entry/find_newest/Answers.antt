use Rattle.vault_core_checks.proofs.Current.{newest_found, none_found, own_after, held_found}
use Rattle.vault_core_checks.proofs.entry.find_newest.Goals as goal

-- no entry of the key is held
pub returns-in_default-clause-value : goal.returns-in_default-clause-value
returns-in_default-clause-value g c =
    λ honest. none_found (g.K.Kept.vault c.args.keeper.now) c.args.bucket.now c.args.key.now c.in_ok-head.field-0 c.in_default.is (c.in_ok-head.ensures.value honest)

-- the entry that the head names is the current one
pub returns-clause-value : goal.returns-clause-value
returns-clause-value g c = λ honest.
    let before = c.read_entry.ensures.leaves.honest honest in
    newest_found (g.K.Kept.vault c.args.keeper.now) (g.K.Kept.vault c.head.new.self) c.args.bucket.now c.args.key.now c.in-Some.head c.in_ok-head.field-0 c.read_entry.result
    c.head.ensures.leaves.same (g.K.Kept.sound _ (c.head.ensures.leaves.honest before)) c.in-Some.is (c.in_ok-head.ensures.value before) (c.read_entry.ensures.value honest)

pub returns-clause-own : goal.returns-clause-own
returns-clause-own g c = λ honest. own_after (g.K.Kept.vault c.args.keeper.now) (g.K.Kept.vault c.head.new.self) c.read_entry.result c.head.ensures.leaves.same (c.read_entry.ensures.own honest)

pub returns-clause-held : goal.returns-clause-held
returns-clause-held g c = λ honest. held_found (g.K.Kept.vault c.args.keeper.now) c.args.bucket.now c.args.key.now c.read_entry.result (returns-clause-value g c honest)

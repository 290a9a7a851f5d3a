use Rattle.std.proofs.Common.{ap}
use Rattle.vault_files_events.specs.Adds.{history_by}
use Rattle.vault_files_events.specs.declared.counted.Counted.{Counted}
use Rattle.vault_files_events.proofs.Adding.{all_added}
use Rattle.vault_files_events.proofs.rows.all_rows.Goals as goal

pub returns-clause-text : goal.returns-clause-text
returns-clause-text c =
    (all_added (record { text = c.new.result; counted = c.none.result }) c.push_all.new.rows c.args.before.now (history_by c.args.entry.now c.args.settings.now c.args.tenures.now)
    c.new.ensures.items (ap (λ (n : Counted). n.entries) c.none.ensures) (ap (λ (n : Counted). n.events) c.none.ensures) c.in_ok-push_all.ensures).0

pub returns-clause-count : goal.returns-clause-count
returns-clause-count c =
    (all_added (record { text = c.new.result; counted = c.none.result }) c.push_all.new.rows c.args.before.now (history_by c.args.entry.now c.args.settings.now c.args.tenures.now)
    c.new.ensures.items (ap (λ (n : Counted). n.entries) c.none.ensures) (ap (λ (n : Counted). n.events) c.none.ensures) c.in_ok-push_all.ensures).1

use Rattle.std.proofs.Common.{true, subst}
use Rattle.vault_audit_tenures.specs.Totals.{item_of, IsCounted}
use Rattle.vault_audit_tenures.proofs.TotalLemmas.{counted_at}
use Rattle.vault_audit_tenures.proofs.sums.totals.Totals.count.Goals as goal

pub returns-clause-ok : goal.returns-clause-ok
returns-clause-ok c =
    let item = item_of c.args.span in
    let counted = subst (λ o. IsCounted true o item c.with_tenure-counted.result) c.total.ensures c.with_tenure-counted.ensures in
    counted_at c.args.dept c.args.self.now (record { sums = c.insert.new.self }) item c.with_tenure-counted.result c.in_ok-insert.ensures.updates.0 counted

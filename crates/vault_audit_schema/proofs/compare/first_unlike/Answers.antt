use Rattle.std.proofs.Common.{rules, arith}
use Rattle.vault_audit_schema.proofs.CompareLemmas.{unlike_step, unlike_end}
use Rattle.vault_audit_schema.proofs.compare.first_unlike.Goals as goal

pub loop-at-preserved : goal.loop-at-preserved
loop-at-preserved g c = unlike_step g.F.Form.shape c.args.parts.now c.args.forms.now c.loop-at.at c.index-forms-at.result (omega arith) c.index-forms-at.is (search rules) c.loop-at.invariant

pub returns-else-parts-forms : goal.returns-else-parts-forms
returns-else-parts-forms g c = unlike_end g.F.Form.shape c.args.parts.now c.args.forms.now c.if-parts-forms.false (search rules)

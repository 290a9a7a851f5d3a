use Rattle.std.proofs.Common.{sym, ◌∙◌}
use Rattle.vault_core_evidence.proofs.OneEntry.{marker_tenures}
use Rattle.vault_core_evidence.proofs.walk.tenures_of.Goals as goal

pub returns-then-entry-clause-value : goal.returns-then-entry-clause-value
returns-then-entry-clause-value g c clean =
    c.new.ensures ∙ sym (marker_tenures (g.K.Kept.vault c.args.keeper.now) c.args.id c.args.entry.now (g.K.Kept.sound _ clean) (c.requires.its clean) c.if-entry.true)

use Rattle.std.proofs.Common.{sym, ◌∙◌}
use Rattle.clap.specs.Words.{found_of}
use Rattle.clap.proofs.WalkLemmas.{raw_values-rows}
use Rattle.vaultctl_job.proofs.reading.texts.Goals as goal

pub returns : goal.returns
returns c = sym (c.get_strs.ensures ∙ raw_values-rows (found_of c.args.matches.now) c.args.id.now)

use Rattle.std.proofs.Common.{◌^◌, [], codes, ap, ◌∙◌}
use Rattle.std.specs.Prelude.{unwrap_or}
use Rattle.std.specs.Str.Parse.{ParsesUnsigned, ExplainsUnsignedError, HasUnsignedDigitsIfOk}
use Rattle.clap.specs.Words.{found_of, one_text}
use Rattle.clap.proofs.WalkLemmas.{one_text-rows}
use Rattle.vaultctl_job.specs.Jobs.{number_below}
use Rattle.vaultctl_job.proofs.NumberLemmas.{number_met}
use Rattle.vaultctl_job.proofs.reading.count.Goals as goal

pub returns : goal.returns
returns c =
    let found = found_of c.args.matches.now in
    c.unwrap_or.ensures
    ∙ number_met 32 (λ bs r. ParsesUnsigned 32 10 bs r × ExplainsUnsignedError 10 bs r × HasUnsignedDigitsIfOk bs r) (λ u x g. g.0) (one_text found (codes "count")) c.get_one.result c.get_one.ensures.none c.get_one.ensures.value
    ∙ ap (λ o. number_below (2 ^ 32) (unwrap_or o [])) (one_text-rows found (codes "count"))

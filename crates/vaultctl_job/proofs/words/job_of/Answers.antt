use Rattle.std.proofs.Common.{map, string_bytes, is_some, true≢false, ap, sym, ◌∙◌}
use Rattle.clap.specs.Words.{app_of, is_simple}
use Rattle.clap.specs.Faults.{is_simple_and_free}
use Rattle.vaultctl_job.proofs.WordsLemmas.{is_simple_lem, is_free_lem, job_met, none_of, refused, job_asked}
use Rattle.vaultctl_job.proofs.words.job_of.Goals as goal

pub returns-in-Err-clause-refused : goal.returns-in-Err-clause-refused
returns-in-Err-clause-refused c =
    let is = c.in-Ok.ensures in
    let kinds = c.in-Err.ensures.kinds (ap is_simple_and_free is ∙ is_free_lem) in
    λ refusal none. c.refusal_of.ensures refusal (refused (app_of c.in-Ok.command) _ is c.in-Err.error kinds none)

pub unreachable-requires : goal.unreachable-requires
unreachable-requires c =
    let is = c.in-Ok.ensures in
    let words = map string_bytes c.args.words.now in
    let none = c.in-Ok-try_get_matches_from.ensures.kinds (ap is_simple_and_free is ∙ is_free_lem) in
    let rows = (c.in-Ok-try_get_matches_from.ensures.matches (ap is_simple is ∙ is_simple_lem)).1 in
    let met = sym c.in-Ok-None.field-0-is ∙ c.in-Ok-None.ensures ∙ job_met (app_of c.in-Ok.command) words is _ rows in
    true≢false (sym (job_asked words (none_of (app_of c.in-Ok.command) words is none)) ∙ ap is_some (sym met))

pub returns-in-Ok-Some-clause-ok : goal.returns-in-Ok-Some-clause-ok
returns-in-Ok-Some-clause-ok c =
    let is = c.in-Ok.ensures in
    let words = map string_bytes c.args.words.now in
    let rows = (c.in-Ok-try_get_matches_from.ensures.matches (ap is_simple is ∙ is_simple_lem)).1 in
    sym (job_met (app_of c.in-Ok.command) words is _ rows) ∙ sym c.in-Ok-Some.ensures ∙ c.in-Ok-Some.field-0-is

pub returns-in-Ok-Some-clause-taken : goal.returns-in-Ok-Some-clause-taken
returns-in-Ok-Some-clause-taken c =
    let is = c.in-Ok.ensures in
    none_of (app_of c.in-Ok.command) (map string_bytes c.args.words.now) is (c.in-Ok-try_get_matches_from.ensures.kinds (ap is_simple_and_free is ∙ is_free_lem))

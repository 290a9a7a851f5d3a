use Rattle.std.proofs.Common.{◌∙◌, sym, ap}
use Rattle.std.specs.Prelude.{option_and_then}
use Rattle.vault_store_reads.specs.Shown.{external_of}
use Rattle.vault_store_reads.proofs.EntryLemmas.{without_bytes}
use Rattle.vault_store_reads.proofs.entries.find_outside.Goals as goal

pub returns-in-Some-clause-value : goal.returns-in-Some-clause-value
returns-in-Some-clause-value g c clean v was sound none =
    c.external_content.ensures ∙ ap (option_and_then external_of) (sym c.in-Some.is ∙ c.in_ok-entry.ensures.value clean v was) ∙ without_bytes v c.args.id sound none

pub returns-in-None-clause-value : goal.returns-in-None-clause-value
returns-in-None-clause-value g c clean v was sound none = ap (option_and_then external_of) (sym c.in-None.is ∙ c.in_ok-entry.ensures.value clean v was) ∙ without_bytes v c.args.id sound none

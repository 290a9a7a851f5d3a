use Rattle.std.proofs.Common.{◌≡◌, sym, ◌∙◌, rules}
use Rattle.sqlite.specs.Held.{state}
use Rattle.vault_audit_model.specs.Tables.{no_schema}
use Rattle.vault_store_create.specs.Create.{HasFirst}
use Rattle.vault_store_create.specs.Copied.{registering}
use Rattle.vault_store_create.proofs.FillLemmas.{all_copied}
use Rattle.vault_store_create.proofs.StopLemmas.{refused_row}
use Rattle.vault_store_create.proofs.copy.begin.begin_copy.Goals as goal

pub returns-in-Ok-clause-copied : goal.returns-in-Ok-clause-copied
returns-in-Ok-clause-copied g c clean after v is =
    let from = (state g.O.Store c.args.old.now).now in
    let start = (state g.S.Store c.args.new.now).now in
    let none : start.schema ≡ no_schema = search rules in
    let bare : HasFirst c.args.external 0 start = record { schema = none; rows = tt } in
    let moved = c.in-Ok.ensures.copied clean after in
    all_copied c.args.schema_version c.args.external c.requires.inside from (state g.S.Store c.write_copy.new.new).now (moved.goes bare) v is

pub returns-in-Err-clause-refused : goal.returns-in-Err-clause-refused
returns-in-Err-clause-refused g c v is well_old well stated =
    let start = (state g.S.Store c.args.new.now).now in
    let none : start.schema ≡ no_schema = search rules in
    let bare : HasFirst c.args.external 0 start = record { schema = none; rows = tt } in
    refused_row (registering c.args.external v) c.in-Err.error (c.in-Err.ensures.refused v is well_old well bare) (sym c.refusal_of.ensures ∙ stated)

pub returns-in-Ok-clause-inside : goal.returns-in-Ok-clause-inside
returns-in-Ok-clause-inside g c clean after = (c.in-Ok.ensures.copied clean after).inside

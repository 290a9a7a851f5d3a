use Rattle.std.proofs.Common.{◌∙◌, inl, rules, arith}
use Rattle.sqlite.specs.Held.{state}
use Rattle.sqlite.specs.State.{HasCleanDisk}
use Rattle.vault_audit_model.proofs.OutcomeLemmas.{on_ok_then}
use Rattle.vault_audit_rows.specs.Health.{IsMemory}
use Rattle.vault_store_create.specs.Copied.{IsRefusedFor, registering}
use Rattle.vault_store_create.proofs.FillLemmas.{none_copied}
use Rattle.vault_store_create.proofs.copy.begin.put_copy.Goals as goal

pub returns-clause-copied : goal.returns-clause-copied
returns-clause-copied g c clean after inside =
    let mid = state g.S.Store c.make_tables.new.tx.conn.now in
    let early : HasCleanDisk mid = omega (arith, after, c.copy_tables.ensures.survives.clean) in
    let made = c.in_ok-make_tables.ensures.made early inside in
    on_ok_then c.copy_tables.result (c.copy_tables.ensures.copied clean after made.inside made.is_open) (λ part. record {
      was_open = made.was_open;
      is_open = part.is_open;
      inside = part.inside;
      committed = part.committed ∙ made.committed;
      goes = λ bare. part.goes (none_copied c.args.schema_version c.args.external (state g.O.Store c.args.old.now).now mid.now (made.goes bare));
    })

pub returns-in_err-make_tables-clause-refused : goal.returns-in_err-make_tables-clause-refused
returns-in_err-make_tables-clause-refused g c v is well_old well inside bare =
    let one : IsMemory c.in_err-make_tables.field-0.0 = c.in_err-make_tables.ensures.memory well inside bare in
    let all : IsRefusedFor (registering c.args.external v) c.in_err-make_tables.field-0.0 = inl one in
    search rules

pub returns-clause-refused : goal.returns-clause-refused
returns-clause-refused g c v is well_old well inside bare =
    let mid = state g.S.Store c.make_tables.new.tx.conn.now in
    let early : HasCleanDisk mid = omega (arith, well.clean, c.copy_tables.ensures.survives.clean) in
    let made = c.in_ok-make_tables.ensures.made early inside in
    c.copy_tables.ensures.refused v is (none_copied c.args.schema_version c.args.external (state g.O.Store c.args.old.now).now mid.now (made.goes bare)) well_old well made.inside made.is_open

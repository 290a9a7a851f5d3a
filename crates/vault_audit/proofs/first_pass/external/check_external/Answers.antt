use Rattle.vault_audit.proofs.first_pass.external.check_external.Goals as goal

pub check_table-requires-clause-has : goal.check_table-requires-clause-has
check_table-requires-clause-has g c = rw c.in-Fourth.is tt

pub returns-in-Fourth-clause-reported : goal.returns-in-Fourth-clause-reported
returns-in-Fourth-clause-reported g c clean = rw c.in-Fourth.is (c.check_table.ensures.reported clean)

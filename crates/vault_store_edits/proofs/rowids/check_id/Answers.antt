use Rattle.vault_store_edits.proofs.rowids.check_id.Goals as goal

pub returns-clause-unique : goal.returns-clause-unique
returns-clause-unique g c external clean has tests finds = rw (c.params-to_sql.ensures, c.number.ensures.value) at (c.check_rowids.ensures.unique external clean has tests finds)

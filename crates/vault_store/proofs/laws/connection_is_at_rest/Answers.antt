use Rattle.std.proofs.Common.{not, ap, ◌∙◌}
use Rattle.vault_store.proofs.laws.connection_is_at_rest.Goals as goal

pub returns : goal.returns
returns g c outside is_open = (c.is_autocommit-settled.ensures.settled (c.is_autocommit-settled.ensures.value ∙ ap not outside) is_open, (c.tables_obey_their_schema.ensures is_open).1)

use Rattle.std.proofs.Common.{subst}
use Rattle.vault_base.specs.Refusal.{name_of, table_name}
use Rattle.vault_io.specs.Begins.{Begins}
use Rattle.vaultctl_perform.specs.Named.{line_of, table_line}
use Rattle.vaultctl_perform.proofs.PrintingLemmas.{begins_anyway}
use Rattle.vaultctl_perform.proofs.messages.print_unopened.Goals as goal

pub returns-in-Some-clause-named : goal.returns-in-Some-clause-named
returns-in-Some-clause-named g c =
    let before = g.E.Write.contents c.args.err.now in
    let after = g.E.Write.contents c.write_table_line.new.err in
    let line = table_line c.args.deed.now (name_of c.args.refusal) (table_name c.in-Some.table) in
    subst (λ t. Begins before after (line_of c.args.deed.now (name_of c.args.refusal) t)) c.in-Some.ensures
    (begins_anyway c.write_table_line.result before after line
    (rw (c.name-name.ensures, c.name.ensures) at c.write_table_line.ensures.ok)
    (rw (c.name-name.ensures, c.name.ensures) at c.write_table_line.ensures.err))

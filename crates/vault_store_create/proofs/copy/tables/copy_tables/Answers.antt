use Rattle.std.proofs.Common.{◌≡◌, refl, rules}
use Rattle.vault_store_create.proofs.CopyLemmas.{made, made_then, copied_after, fails_after}
use Rattle.vault_store_create.proofs.copy.tables.copy_tables.Goals as goal

pub returns-clause-copied : goal.returns-clause-copied
returns-clause-copied g c =
    let n = c.args.schema_version in
    let e = c.args.external in
    let did1 = c.in_ok-copy_first.ensures in
    let did2 = c.in_ok-copy_second.ensures in
    let last = c.copy_last.ensures in
    copied_after n e 0 8 (made_then (made n e 0 4 did1.look.same did1.look.crash did1.survives did1.copied) (made n e 4 8 did2.look.same did2.look.crash did2.survives did2.copied)) last.look.crash last.survives 11 c.copy_last.result last.copied

pub returns-in_err-copy_second-clause-refused : goal.returns-in_err-copy_second-clause-refused
returns-in_err-copy_second-clause-refused g c =
    let n = c.args.schema_version in
    let e = c.args.external in
    let did1 = c.in_ok-copy_first.ensures in
    let last = c.copy_second.ensures in
    let same : c.from_residual-in_err-copy_second.result ≡ c.copy_second.result = search rules in
    fails_after n e 0 4 (made n e 0 4 did1.look.same did1.look.crash did1.survives did1.copied) last.look.crash last.survives c.copy_second.result c.from_residual-in_err-copy_second.result same last.refused

pub returns-clause-refused : goal.returns-clause-refused
returns-clause-refused g c =
    let n = c.args.schema_version in
    let e = c.args.external in
    let did1 = c.in_ok-copy_first.ensures in
    let did2 = c.in_ok-copy_second.ensures in
    let last = c.copy_last.ensures in
    fails_after n e 0 8 (made_then (made n e 0 4 did1.look.same did1.look.crash did1.survives did1.copied) (made n e 4 8 did2.look.same did2.look.crash did2.survives did2.copied)) last.look.crash last.survives c.copy_last.result c.copy_last.result refl last.refused

use Rattle.std.proofs.Common.{◌≡◌, rules}
use Rattle.vault_store_create.proofs.CopyLemmas.{made, made_then, fails_after}
use Rattle.vault_store_edits.proofs.QueryLemmas.{survives_more}
use Rattle.vault_store_create.proofs.copy.tables.copy_second.Goals as goal

pub returns-clause-copied : goal.returns-clause-copied
returns-clause-copied g c =
    let n = c.args.schema_version in
    let e = c.args.external in
    let did1 = c.in_ok-copy_table.ensures in
    let did2 = c.in_ok-copy_table-2.ensures in
    let did3 = c.in_ok-copy_table-3.ensures in
    let did4 = c.in_ok-copy_table-4.ensures in
    (made_then (made_then (made_then (made n e 4 5 did1.look.same did1.look.crash did1.survives did1.copied) (made n e 5 6 did2.look.same did2.look.crash did2.survives did2.copied)) (made n e 6 7 did3.look.same did3.look.crash did3.survives did3.copied)) (made n e 7 8 did4.look.same did4.look.crash did4.survives did4.copied)).copied

pub returns-in_err-copy_table-2-clause-refused : goal.returns-in_err-copy_table-2-clause-refused
returns-in_err-copy_table-2-clause-refused g c =
    let n = c.args.schema_version in
    let e = c.args.external in
    let did1 = c.in_ok-copy_table.ensures in
    let last = c.copy_table-2.ensures in
    let same : c.from_residual-in_err-copy_table-2.result ≡ c.copy_table-2.result = search rules in
    fails_after n e 4 5 (made n e 4 5 did1.look.same did1.look.crash did1.survives did1.copied) last.look.crash last.survives c.copy_table-2.result c.from_residual-in_err-copy_table-2.result same last.refused

pub returns-in_err-copy_table-3-clause-refused : goal.returns-in_err-copy_table-3-clause-refused
returns-in_err-copy_table-3-clause-refused g c =
    let n = c.args.schema_version in
    let e = c.args.external in
    let did1 = c.in_ok-copy_table.ensures in
    let did2 = c.in_ok-copy_table-2.ensures in
    let last = c.copy_table-3.ensures in
    let same : c.from_residual-in_err-copy_table-3.result ≡ c.copy_table-3.result = search rules in
    fails_after n e 4 6 (made_then (made n e 4 5 did1.look.same did1.look.crash did1.survives did1.copied) (made n e 5 6 did2.look.same did2.look.crash did2.survives did2.copied)) last.look.crash last.survives c.copy_table-3.result c.from_residual-in_err-copy_table-3.result same last.refused

pub returns-in_err-copy_table-4-clause-refused : goal.returns-in_err-copy_table-4-clause-refused
returns-in_err-copy_table-4-clause-refused g c =
    let n = c.args.schema_version in
    let e = c.args.external in
    let did1 = c.in_ok-copy_table.ensures in
    let did2 = c.in_ok-copy_table-2.ensures in
    let did3 = c.in_ok-copy_table-3.ensures in
    let last = c.copy_table-4.ensures in
    let same : c.from_residual-in_err-copy_table-4.result ≡ c.copy_table-4.result = search rules in
    fails_after n e 4 7 (made_then (made_then (made n e 4 5 did1.look.same did1.look.crash did1.survives did1.copied) (made n e 5 6 did2.look.same did2.look.crash did2.survives did2.copied)) (made n e 6 7 did3.look.same did3.look.crash did3.survives did3.copied)) last.look.crash last.survives c.copy_table-4.result c.from_residual-in_err-copy_table-4.result same last.refused

pub returns-clause-survives : goal.returns-clause-survives
returns-clause-survives g c =
    let up_to3 = survives_more _ _ _ (survives_more _ _ _ c.in_ok-copy_table.ensures.survives c.in_ok-copy_table-2.ensures.survives) c.in_ok-copy_table-3.ensures.survives in
    survives_more _ _ _ up_to3 c.in_ok-copy_table-4.ensures.survives

pub returns-in_err-copy_table-4-clause-survives : goal.returns-in_err-copy_table-4-clause-survives
returns-in_err-copy_table-4-clause-survives g c =
    let up_to3 = survives_more _ _ _ (survives_more _ _ _ c.in_ok-copy_table.ensures.survives c.in_ok-copy_table-2.ensures.survives) c.in_ok-copy_table-3.ensures.survives in
    survives_more _ _ _ up_to3 c.copy_table-4.ensures.survives

use Rattle.std.proofs.Common.{rules, ◌≡◌, true, false, Some, None, map, IsPermutation, sym, subst, ◌∙◌, arith}
use Rattle.sqlite.specs.State.{HasCleanDisk}
use Rattle.sqlite.specs.Held.{state}
use Rattle.vault_audit_model.specs.Relations.{AreEntries}
use Rattle.vault_audit_model.specs.Rows.{head_row, head_columns}
use Rattle.vault_audit_model.specs.SchemaVersions.{is_external}
use Rattle.vault_audit_model.specs.Tables.{heads_tree}
use Rattle.vault_audit_entries.specs.Heads.{DecidesHeadsByKey}
use Rattle.vault_audit_entries.specs.Keys.{entries_of}
use Rattle.vault_audit_entries.proofs.HeadsOfKeysLemmas.{no_by_key, no_counts, decided, unsound}
use Rattle.vault_audit_entries.proofs.heads.second_look.check_heads.Goals as goal

pub returns-in_default-clause-reported : goal.returns-in_default-clause-reported
returns-in_default-clause-reported g c clean v are =
    let none : c.in_ok-total.field-0 ≡ None = search rules in
    no_by_key (is_external c.args.schema_version) (state g.S.Store c.check_heads_by_key.new.conn).now v are (rw none at (c.in_ok-total.ensures.reported clean (entries_of v) are))

pub returns-then-not-counted-clause-reported : goal.returns-then-not-counted-clause-reported
returns-then-not-counted-clause-reported g c clean v are =
    let missed : c.in_ok-counted.counted ≡ false = search rules in
    no_counts (is_external c.args.schema_version) (state g.S.Store c.check_counts.new.conn).now v are (λ hs decides. rw missed at (c.in_ok-counted.ensures.reported clean (entries_of v) hs are decides))

pub returns-then-not-counted-clause-damaged : goal.returns-then-not-counted-clause-damaged
returns-then-not-counted-clause-damaged g c clean same v = (unsound c.args.schema_version) (state g.S.Store c.check_counts.new.conn).now (returns-then-not-counted-clause-reported g c clean) v

pub returns-clause-reported : goal.returns-clause-reported
returns-clause-reported g c clean v are =
    let external = is_external c.args.schema_version in
    let es = entries_of v in
    let later : HasCleanDisk (state g.S.Store c.check_counts.new.conn) = omega (arith, c.in_ok-held.ensures.look.crash.clean) in
    let early : HasCleanDisk (state g.S.Store c.check_heads_by_key.new.conn) = omega (arith, c.in_ok-counted.ensures.look.crash.clean, c.in_ok-held.ensures.look.crash.clean) in
    let last = (c.in_ok-held.ensures.look.same clean).0.now_is in
    let middle = (c.in_ok-counted.ensures.look.same later).0.now_is in
    let some : c.in_ok-total.field-0 ≡ Some c.in-Some.total = search rules in
    let counted : c.in_ok-counted.counted ≡ true = search rules in
    let first = rw some at (c.in_ok-total.ensures.reported early es (subst (λ db. AreEntries external db es) (last ∙ middle) are)) in
    let found = subst (λ db. DecidesHeadsByKey db es (Some c.in-Some.total)) (sym (last ∙ middle)) first in
    let counts = rw counted at (c.in_ok-counted.ensures.reported later es found.0 (subst (λ db. AreEntries external db es) last are) (subst (λ db. IsPermutation (map head_row found.0) (map head_columns (db.trees heads_tree))) last found.1.0)) in
    decided external (state g.S.Store c.count_held.new.conn).now v are c.in_ok-held.held.entries c.in-Some.total (c.in_ok-held.ensures.reported clean es are).0 found.0 (found.1, counts) found.2

pub returns-clause-damaged : goal.returns-clause-damaged
returns-clause-damaged g c clean missed v = (unsound c.args.schema_version) (state g.S.Store c.count_held.new.conn).now (λ w are. rw missed at (returns-clause-reported g c clean w are)) v

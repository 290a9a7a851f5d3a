use Rattle.std.proofs.Common.{inl, inr, ◌∙◌, ap, subst, arith}
use Rattle.std.specs.List.{AllByRecursion}
use Rattle.sqlite.specs.Effect.{Database}
use Rattle.sqlite.specs.State.{HasCleanDisk}
use Rattle.sqlite.specs.Held.{state}
use Rattle.sqlite.specs.Values.{bound}
use Rattle.sqlite.proofs.Callers.{unchanged_then}
use Rattle.vault_audit_model.specs.Tables.{vault_schema}
use Rattle.vault_store_edits.specs.Trees.{tree_of}
use Rattle.vault_store_model.specs.Scans.{passes}
use Rattle.vault_store_edits.specs.Queries.{Stands}
use Rattle.vault_store_edits.proofs.QueryLemmas.{failed_kept, shown_kept}
use Rattle.vault_store_edits.proofs.ScanLemmas.{found, unchanged, rowids_are_unique}
use Rattle.vault_audit_model.proofs.OutcomeLemmas.{on_ok_then}
use Rattle.vault_store_edits.proofs.StatementLemmas.{kept_then}
use Rattle.vault_store_edits.proofs.UnknownLemmas.{never_shown}
use Rattle.vault_store_edits.proofs.rowids.check_rowids.Goals as goal

pub returns-in_err-rows-clause-kept : goal.returns-in_err-rows-clause-kept
returns-in_err-rows-clause-kept g c clean inside = failed_kept _ _ _ _ _ (c.in_err-rows.ensures.err clean)

pub returns-clause-unique : goal.returns-clause-unique
returns-clause-unique g c external clean has tests known =
    let old = state g.S.Store c.args.tx.now.conn.now in
    let mid = state g.S.Store c.query_all.new.self.conn.now in
    let new = state g.S.Store c.check_rows.new.tx.conn.now in
    let early : HasCleanDisk mid = omega (arith, clean, c.check_rows.ensures.survives.clean) in
    let sql = c.args.sql.now in
    let rows = c.in_ok-rows.rows.items in
    let t = tree_of c.args.table in
    let params = bound c.args.params.now in
    let schema = vault_schema external in
    let shown = c.in_ok-rows.ensures.ok early in
    elim known [
      | inl finds ↦
          let same = unchanged schema sql t tests finds params old mid has rows shown in
          let perm = found schema sql t tests finds params old mid has rows shown in
          on_ok_then c.check_rows.result (c.check_rows.ensures.stand external clean (ap (λ (db : Database). db.schema) same.0.now_is ∙ has) same.0.is_open) (λ it.
          let all = subst (λ (db : Database). AllByRecursion (Stands (db.trees t)) c.deref.result.now) same.0.now_is it.1 in
          (unchanged_then old mid new same it.0, rowids_are_unique (passes tests params) (old.now.trees t) rows perm (rw c.deref.ensures.value at all)))
      | inr unknown ↦ absurd (never_shown schema sql unknown params old mid has rows shown)
    ]

pub returns-clause-kept : goal.returns-clause-kept
returns-clause-kept g c clean inside =
    let old = state g.S.Store c.args.tx.now.conn.now in
    let mid = state g.S.Store c.query_all.new.self.conn.now in
    let early : HasCleanDisk mid = omega (arith, clean, c.check_rows.ensures.survives.clean) in
    let it = shown_kept _ _ old mid _ inside (c.in_ok-rows.ensures.ok early) in
    kept_then old mid _ it.0 (c.check_rows.ensures.kept clean it.1)

pub returns-clause-inside : goal.returns-clause-inside
returns-clause-inside g c clean inside =
    let old = state g.S.Store c.args.tx.now.conn.now in
    let mid = state g.S.Store c.query_all.new.self.conn.now in
    let early : HasCleanDisk mid = omega (arith, clean, c.check_rows.ensures.survives.clean) in
    let it = shown_kept _ _ old mid _ inside (c.in_ok-rows.ensures.ok early) in
    c.check_rows.ensures.inside clean it.1

use Rattle.std.proofs.Common.{◌≡◌, inl, inr, [], ◌∷◌, length, FitsSigned, w64, rules, arith, to_z-of_z}
use Rattle.sqlite_value.specs.declared.value.Value.TheVariants.{Int}
use Rattle.sqlite.specs.State.{Shown}
use Rattle.sqlite.specs.Held.{state}
use Rattle.vault_audit_model.specs.Tables.{vault_schema}
use Rattle.vault_store_edits.specs.Trees.{tree_of}
use Rattle.vault_store_edits.specs.Queries.{by_rowid, rowid_text}
use Rattle.vault_store_edits.proofs.QueryLemmas.{failed_kept, shown_kept, finds_by_rowid}
use Rattle.vault_store_edits.proofs.ScanLemmas.{count_found, unchanged}
use Rattle.vault_store_edits.proofs.UnknownLemmas.{never_shown}
use Rattle.vault_store_edits.proofs.rowids.check_row.Goals as goal

pub returns-in_err-rows-clause-kept : goal.returns-in_err-rows-clause-kept
returns-in_err-rows-clause-kept g c clean inside = failed_kept _ _ _ _ _ (c.in_err-rows.ensures.err clean)

pub returns-then-len-eq1-clause-stands : goal.returns-then-len-eq1-clause-stands
returns-then-len-eq1-clause-stands g c external clean has =
    let old = state g.S.Store c.args.tx.now.conn.now in
    let new = state g.S.Store c.query_all.new.self.conn.now in
    let rows = c.in_ok-rows.rows.items in
    let t = c.args.table in
    let id = c.in_ok-id.id in
    let fits : FitsSigned w64 id = search rules in
    let shown : Shown (rowid_text t) (Int id ∷ []) old new rows = rw (c.params-to_sql.ensures, c.by_rowid.ensures, to_z-of_z fits) at (c.in_ok-rows.ensures.ok clean) in
    let one : length rows ≡ 1 = omega (arith, c.in_ok-rows.rows.ok, c.len.ensures, c.if-len-eq1.true) in
    let schema = vault_schema external in
    elim (finds_by_rowid external t) [
      | inl finds ↦ (
        unchanged schema (rowid_text t) (tree_of t) by_rowid finds (Int id ∷ []) old new has rows shown,
        (id, c.in_ok-id.ensures.ok.1, count_found schema (rowid_text t) (tree_of t) by_rowid finds (Int id ∷ []) old new has rows shown one),
      )
      | inr unknown ↦ absurd (never_shown schema (rowid_text t) unknown (Int id ∷ []) old new has rows shown)
    ]

pub returns-then-len-eq1-clause-kept : goal.returns-then-len-eq1-clause-kept
returns-then-len-eq1-clause-kept g c clean inside = (shown_kept _ _ _ _ _ inside (c.in_ok-rows.ensures.ok clean)).0

pub returns-then-len-eq1-clause-inside : goal.returns-then-len-eq1-clause-inside
returns-then-len-eq1-clause-inside g c clean inside =
    (shown_kept _ _ (state g.S.Store c.args.tx.now.conn.now) (state g.S.Store c.query_all.new.self.conn.now) _ inside (c.in_ok-rows.ensures.ok clean)).1

pub returns-clause-kept : goal.returns-clause-kept
returns-clause-kept g c clean inside = (shown_kept _ _ _ _ _ inside (c.in_ok-rows.ensures.ok clean)).0

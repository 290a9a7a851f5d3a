use Rattle.std.proofs.Common.{rules, ◌≤◌, ◌∙◌, refl, length, ap, subst, arith}
use Rattle.std.specs.List.{AllByRecursion}
use Rattle.std.proofs.lemmas.List.{take_all}
use Rattle.sqlite_rules.proofs.ListLemmas.{all_more}
use Rattle.sqlite.specs.Effect.{Database}
use Rattle.sqlite.specs.State.{HasCleanDisk}
use Rattle.sqlite.specs.Held.{state}
use Rattle.sqlite.proofs.Callers.{unchanged_then}
use Rattle.sqlite.proofs.StateLemmas.{survives_then}
use Rattle.vault_store_edits.specs.Trees.{tree_of}
use Rattle.vault_store_edits.specs.Queries.{Stands}
use Rattle.vault_store_edits.proofs.QueryLemmas.{kept_itself, unchanged_itself, survives_itself}
use Rattle.vault_store_edits.proofs.StatementLemmas.{kept_then}
use Rattle.vault_store_edits.proofs.rowids.check_rows.Goals as goal

pub loop-row-init : goal.loop-row-init
loop-row-init g c =
    let old = state g.S.Store c.args.tx.now.conn.now in
    (refl, survives_itself old, λ clean inside. (kept_itself old, inside), λ external clean has is_open. (unchanged_itself old is_open, tt))

pub loop-row-preserved : goal.loop-row-preserved
loop-row-preserved g c =
    let old = state g.S.Store c.args.tx.now.conn.now in
    let mid = state g.S.Store c.loop-row.tx.conn.now in
    let new = state g.S.Store c.check_row.new.tx.conn.now in
    let one = c.in_ok-check_row.ensures in
    let was = c.loop-row.invariant in (
      search rules,
      survives_then old mid new (λ _. ⊥) (λ _. ⊥) (λ _. ⊥) (λ _ _ h. h) (λ _ _ h. h) was.1 one.survives,
      λ clean inside.
          let early : HasCleanDisk mid = omega (arith, clean, one.survives.clean) in
          let before = was.2 early inside in
          (kept_then old mid new before.0 (one.kept clean before.1), one.inside clean before.1),
      λ external clean has is_open.
          let early : HasCleanDisk mid = omega (arith, clean, one.survives.clean) in
          let before = was.3 external early has is_open in
          let now = before.0.0.now_is in
          let it = one.stands external clean (ap (λ (db : Database). db.schema) now ∙ has) in
          let P = Stands (old.now.trees (tree_of c.args.table)) in
          (unchanged_then old mid new before.0 it.0, all_more P c.args.rows.now c.loop-row.row-index c.row-item.result c.loop-row-test.true c.row-item.is before.1 (subst (λ (db : Database). Stands (db.trees (tree_of c.args.table)) c.row-item.result) now it.1)),
    )

pub returns-clause-stand : goal.returns-clause-stand
returns-clause-stand g c external clean has is_open =
    let it = c.loop-row.invariant.3 external clean has is_open in
    let high : length c.args.rows.now ≤ c.loop-row.row-index = search rules in
    (it.0, subst (AllByRecursion (Stands ((state g.S.Store c.args.tx.now.conn.now).now.trees (tree_of c.args.table)))) (take_all c.loop-row.row-index c.args.rows.now high) it.1)

pub returns-clause-kept : goal.returns-clause-kept
returns-clause-kept g c clean inside = (c.loop-row.invariant.2 clean inside).0

pub returns-clause-inside : goal.returns-clause-inside
returns-clause-inside g c clean inside = (c.loop-row.invariant.2 clean inside).1

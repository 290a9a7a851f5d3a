use Rattle.std.proofs.Common.{arith}
use Rattle.sqlite.specs.State.{HasCleanDisk}
use Rattle.sqlite.specs.Held.{state}
use Rattle.vault_store_model.proofs.EditLemmas.{edits_then}
use Rattle.vault_store_apply.proofs.parts.bucket.NewRulesPart.make.Goals as goal

pub returns-clause-edits : goal.returns-clause-edits
returns-clause-edits g c external clean inside ready =
    let old = state g.S.Store c.args.tx.now.conn.now in
    let mid = state g.S.Store c.delete_rules.new.tx.conn.now in
    let next = state g.S.Store c.put_rules.new.tx.conn.now in
    let new = state g.S.Store c.set_last.new.tx.conn.now in
    let late : HasCleanDisk next = omega (arith, clean, c.set_last.ensures.edit.survives.clean) in
    let early : HasCleanDisk mid = omega (arith, late, c.put_rules.ensures.survives.clean) in
    let first = c.in_ok-delete_rules.ensures.edit.edits external early inside in
    let sound = c.in_ok-delete_rules.ensures.edit.sound external early inside ready.schema in
    let second = c.in_ok-put_rules.ensures.edits external late first.inside first.is_open in
    let sound_too = c.in_ok-put_rules.ensures.sound external late first.inside (first.schema ready.schema) sound in (
      edits_then external old mid new _ _ first (edits_then external mid next new _ _ second (c.in_ok-set_last.ensures.edit.edits external clean second.inside sound_too)),
      c.in_ok-set_last.ensures.edit.sound external clean second.inside sound_too (second.schema (first.schema ready.schema)),
    )

use Rattle.std.proofs.Common.{◌≡◌, IsTrue, ap, ◌∙◌, rules}
use Rattle.sqlite.specs.State.{HasCleanDisk, Survives}
use Rattle.sqlite.specs.Effect.{Database}
use Rattle.sqlite.specs.Held.{state}
use Rattle.vault_store_create.specs.Create.{IsFilled}
use Rattle.vault_store_create.proofs.OpeningLemmas.{left, survives_filled}
use Rattle.vault_store_create.proofs.create.fill.Goals as goal

pub returns-in-Ok-commit-clause-alone : goal.returns-in-Ok-commit-clause-alone
returns-in-Ok-commit-clause-alone g c clean db may =
    let end = state g.S.Store c.conn-2-1.given.0 in
    let filled : IsFilled c.args.external end.now = search rules in
    let committed : IsTrue end.is_open × (end.committed ≡ end.now) = search rules in
    left c.args.external end.now filled db (g.met.S.Store.settled c.conn-2-1.given.0.store db committed.0 may ∙ ap (λ (d : Database). d.trees) committed.1)

pub returns-in-Ok-commit-clause-crash : goal.returns-in-Ok-commit-clause-crash
returns-in-Ok-commit-clause-crash g c =
    let start = state g.S.Store c.args.conn.now in
    let filled = state g.S.Store c.put_opening.new.tx.conn.now in
    let end = state g.S.Store c.conn-2-1.given.0 in
    let are = λ (clean : HasCleanDisk end). let it : IsFilled c.args.external filled.now = search rules in it in
    let one : Survives start filled (λ _. ⊥) = search rules in
    let two : Survives filled end (λ trees. trees ≡ filled.now.trees) = search rules in
    survives_filled c.args.external start filled end are one two

pub returns-in-Err-commit-clause-crash : goal.returns-in-Err-commit-clause-crash
returns-in-Err-commit-clause-crash g c =
    let start = state g.S.Store c.args.conn.now in
    let filled = state g.S.Store c.put_opening.new.tx.conn.now in
    let end = state g.S.Store c.conn-2-1.given.0 in
    let are = λ (clean : HasCleanDisk end). let it : IsFilled c.args.external filled.now = search rules in it in
    let one : Survives start filled (λ _. ⊥) = search rules in
    let two : Survives filled end (λ trees. trees ≡ filled.now.trees) = search rules in
    survives_filled c.args.external start filled end are one two

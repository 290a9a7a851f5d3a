use Rattle.std.proofs.Common.{◌≡◌, true, rules}
use Rattle.sqlite.specs.Held.{state}
use Rattle.sqlite.proofs.StateLemmas.{survives_weaker}
use Rattle.vault_store.proofs.RollbackLemmas.{rolled_back, never_commits}
use Rattle.vault_store.proofs.look.end_transaction.Goals as goal

pub returns-clause-mode : goal.returns-clause-mode
returns-clause-mode g c clean =
    let old = state g.S.Store c.args.conn.now in
    let inside : old.in_transaction ≡ true = search rules in
    (rolled_back old (state g.S.Store c.execute-ended.new.self) inside c.execute-ended.result (c.execute-ended.ensures.runs clean)).autocommit

pub returns-clause-was_open : goal.returns-clause-was_open
returns-clause-was_open g c clean =
    let old = state g.S.Store c.args.conn.now in
    let inside : old.in_transaction ≡ true = search rules in
    (rolled_back old (state g.S.Store c.execute-ended.new.self) inside c.execute-ended.result (c.execute-ended.ensures.runs clean)).was_open

pub returns-clause-crash : goal.returns-clause-crash
returns-clause-crash g c =
    let old = state g.S.Store c.args.conn.now in
    let inside : old.in_transaction ≡ true = search rules in
    let new = state g.S.Store c.execute-ended.new.self in
    survives_weaker old new _ (λ _. ⊥) (λ _ trees may. never_commits old new inside trees may) c.execute-ended.ensures.survives

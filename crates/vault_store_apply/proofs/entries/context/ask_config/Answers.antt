use Rattle.std.proofs.Common.{◌≡◌}
use Rattle.sqlite.specs.Held.{state}
use Rattle.vault_core_model.specs.Vault.{Vault, config_of}
use Rattle.vault_store_model.specs.Keeping.{Keeps}
use Rattle.vault_store_edits.proofs.TransactionLemmas.{on_ok_here}
use Rattle.vault_store_apply.proofs.ReadLemmas.{if_there}
use Rattle.vault_store_apply.proofs.entries.context.ask_config.Goals as goal

pub returns-clause-value : goal.returns-clause-value
returns-clause-value g c clean =
    let old = state g.S.Store c.args.conn.now in
    if_there (λ found. (v : Vault) → Keeps old v → found ≡ config_of v c.args.bucket.now) c.in_ok-found.found c.ok_or.result c.ok_or.ensures.ok_part (c.in_ok-found.ensures.value clean)

pub returns-clause-open : goal.returns-clause-open
returns-clause-open g c clean = on_ok_here c.ok_or.result (c.in_ok-found.ensures.open clean)

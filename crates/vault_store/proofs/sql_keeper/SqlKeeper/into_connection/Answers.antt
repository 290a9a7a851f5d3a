use Rattle.std.proofs.Math.Logic.{∥∥₁_map}
use Rattle.vault_store.proofs.KeptLemmas.{kept_leaves_alone}
use Rattle.vault_store.proofs.sql_keeper.SqlKeeper.into_connection.Goals as goal

pub returns-clause-stands : goal.returns-clause-stands
returns-clause-stands g c = ∥∥₁_map c.args.self.kept (λ kept clean. let it = kept clean in record { sound = it.sound; keeps = it.keeps })

pub returns-clause-crash : goal.returns-clause-crash
returns-clause-crash g c = ∥∥₁_map c.args.self.kept (λ kept clean. (kept clean).left)

pub returns-clause-alone : goal.returns-clause-alone
returns-clause-alone g c =
    let conn = c.args.self.conn in
    ∥∥₁_map c.args.self.kept (λ kept clean is_open. kept_leaves_alone g.S.Store conn (g.met.S.Store.settled conn.store) _ _ (kept clean) is_open)

use Rattle.std.proofs.Common.{sym, ◌∙◌, rules}
use Rattle.sqlite.specs.Held.{state}
use Rattle.vault_store_apply.proofs.KnownLemmas.{survives_none}
use Rattle.vault_store.specs.VaultOf.{vault_of}
use Rattle.vault_store.proofs.KeptLemmas.{no_failure, quietly_kept}
use Rattle.vault_store.proofs.sql_keeper.SqlKeeper.check_open.Goals as goal

pub invariant_of-self : goal.invariant_of-self
invariant_of-self g c = record {
  settled = c.refuse_shut.ensures.mode c.args.self.now.settled;
  sure = λ _ clean. c.in-Ok.ensures.open clean;
  knows = ∣ (λ clean. c.forget.ensures (vault_of g.S.Store c.args.self.now)) ∣₁;
  kept = quietly_kept _ _ _ _ c.refuse_shut.ensures.leaves.honest c.refuse_shut.ensures.leaves.same c.refuse_shut.ensures.survives c.args.self.now.kept;
}

pub invariant_of-self-in-Err : goal.invariant_of-self-in-Err
invariant_of-self-in-Err g c = record {
  settled = c.refuse_shut.ensures.mode c.args.self.now.settled;
  sure = λ sure. absurd (let both = sym c.blame.ensures.doubted ∙ sure in cc);
  knows = ∣ (λ clean. c.forget.ensures (vault_of g.S.Store c.args.self.now)) ∣₁;
  kept = quietly_kept _ _ _ _ c.refuse_shut.ensures.leaves.honest c.refuse_shut.ensures.leaves.same c.refuse_shut.ensures.survives c.args.self.now.kept;
}

pub returns-in-Err-clause-read : goal.returns-in-Err-clause-read
returns-in-Err-clause-read g c = record {
  leaves = search rules;
  healthy = λ well. no_failure g.S.Store c.args.self.now.conn _ _ _ _ c.args.self.now.kept (c.refuse_shut.ensures.leaves.honest well.clean) (λ w keeps. c.in-Err.ensures.memory well w keeps) c.blame.ensures.reported;
  refused = search rules;
}

pub returns-then-not-is_doubted-clause-crash : goal.returns-then-not-is_doubted-clause-crash
returns-then-not-is_doubted-clause-crash g c = survives_none (state g.S.Store c.args.self.now.conn) _

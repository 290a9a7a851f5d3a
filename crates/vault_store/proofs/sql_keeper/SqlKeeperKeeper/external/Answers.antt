use Rattle.std.proofs.Common.{sym, ◌∙◌, rules}
use Rattle.vault_store.proofs.ReadLemmas.{∥∥₁_elim, Coded-set, coded_bool, no_failure, read_kept, known_then}
use Rattle.vault_store.proofs.sql_keeper.SqlKeeperKeeper.external.Goals as goal

pub invariant_of-self : goal.invariant_of-self
invariant_of-self g c = record {
  settled = c.find_external.ensures.read.mode c.check_open.new.self.settled;
  sure = λ _ clean. c.in-Ok.ensures.open clean;
  knows = known_then g.S.Store c.check_open.new.self.conn c.find_external.new.conn _ _ c.check_open.new.self.known c.find_external.new.known c.find_external.ensures.read.honest c.find_external.ensures.known c.check_open.new.self.kept c.check_open.new.self.knows;
  kept = read_kept g.S.Store _ _ _ _ c.find_external.ensures.read c.in_ok-check_open.ensures.open c.check_open.new.self.kept;
}

pub invariant_of-self-in-Err : goal.invariant_of-self-in-Err
invariant_of-self-in-Err g c = record {
  settled = c.find_external.ensures.read.mode c.check_open.new.self.settled;
  sure = λ sure. absurd (let both = sym c.blame.ensures.doubted ∙ sure in cc);
  knows = known_then g.S.Store c.check_open.new.self.conn c.find_external.new.conn _ _ c.check_open.new.self.known c.find_external.new.known c.find_external.ensures.read.honest c.find_external.ensures.known c.check_open.new.self.kept c.check_open.new.self.knows;
  kept = read_kept g.S.Store _ _ _ _ c.find_external.ensures.read c.in_ok-check_open.ensures.open c.check_open.new.self.kept;
}

pub returns-in-Ok-clause-value : goal.returns-in-Ok-clause-value
returns-in-Ok-clause-value g c clean = rw c.in_ok-check_open.ensures.read.leaves.same at (∥∥₁_elim c.check_open.new.self.kept (Coded-set coded_bool _ _) (λ kept. ∥∥₁_elim c.check_open.new.self.knows (Coded-set coded_bool _ _) (λ knows. c.in-Ok.ensures.value clean _ (kept (c.find_external.ensures.read.honest clean)).keeps (knows (c.find_external.ensures.read.honest clean)))))

pub returns-in-Err-clause-read : goal.returns-in-Err-clause-read
returns-in-Err-clause-read g c = record { leaves = search rules; healthy = λ well. no_failure g.S.Store c.check_open.new.self.conn _ _ _ _ c.check_open.new.self.kept (c.find_external.ensures.read.honest well.clean) (λ w keeps. c.in-Err.ensures.memory well w keeps) c.blame.ensures.reported; refused = c.in_ok-check_open.ensures.read.refused }

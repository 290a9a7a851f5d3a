use Rattle.std.proofs.Common.{◌≡◌, false, Bool, List, Result, Ok, Err, sym, subst, ◌∙◌, refl, rules}
use Rattle.std.specs.Prelude.{IsErrAnd}
use Rattle.std.proofs.Math.Logic.{∥∥₁_map}
use Rattle.vault_core_model.specs.declared.halt.Fault.{Fault}
use Rattle.vault_core_model.specs.declared.records.Entry.{Entry}
use Rattle.vault_core_model.specs.Handing.{Hands, Taking}
use Rattle.vault_core_model.specs.Reads.{removed_entries}
use Rattle.vault_store.specs.VaultOf.{vault_of}
use Rattle.vault_store_walks.proofs.HandLemmas.{none_taken}
use Rattle.vault_store_walks.specs.Handed.{as_fault}
use Rattle.vault_core_model.specs.Halts.{is_device_fault}
use Rattle.vault_store.proofs.KeptLemmas.{no_failure, read_kept}
use Rattle.vault_store.proofs.KnownLemmas.{known_still}
use Rattle.vault_store.proofs.sql_keeper.SqlKeeperKeeper.walk_removed.Goals as goal

pub invariant_of-self : goal.invariant_of-self
invariant_of-self g c = record {
  settled = c.walk_removed.ensures.read.mode c.check_open.new.self.settled;
  sure = λ _ clean. c.in-Ok.ensures.open clean;
  knows = known_still c.walk_removed.ensures.read.honest c.check_open.new.self.knows;
  kept = read_kept g.S.Store _ _ _ _ c.walk_removed.ensures.read c.in_ok-check_open.ensures.open c.check_open.new.self.kept;
}

pub invariant_of-self-in-Err : goal.invariant_of-self-in-Err
invariant_of-self-in-Err g c = record {
  settled = c.walk_removed.ensures.read.mode c.check_open.new.self.settled;
  sure = λ sure. absurd (let both = sym c.blame.ensures.doubted ∙ sure in cc);
  knows = known_still c.walk_removed.ensures.read.honest c.check_open.new.self.knows;
  kept = read_kept g.S.Store _ _ _ _ c.walk_removed.ensures.read c.in_ok-check_open.ensures.open c.check_open.new.self.kept;
}

-- a fault before anything was handed on
nothing_handed : {T : Type 0} (P : Fault → Type 0) (takes : Taking T) (sink : T) (es : List Entry) (r : Result Bool Fault) → IsErrAnd r P → Hands takes sink es r sink
nothing_handed P takes sink es (Ok b) fails = absurd fails
nothing_handed P takes sink es (Err f) fails = none_taken takes sink es

pub returns-in_err-check_open-clause-value : goal.returns-in_err-check_open-clause-value
returns-in_err-check_open-clause-value g c clean = nothing_handed _ g.T.Sink.takes c.args.sink.now (removed_entries (vault_of g.S.Store c.args.self.now)) c.from_residual.result c.from_residual.ensures.1

pub returns-in-Ok-clause-value : goal.returns-in-Ok-clause-value
returns-in-Ok-clause-value g c clean =
    let v = vault_of g.S.Store c.check_open.new.self in
    subst (λ w. Hands g.T.Sink.takes c.args.sink.now (removed_entries w) (Ok c.in-Ok.found) c.walk_removed.new.sink) c.in_ok-check_open.ensures.read.leaves.same
    (subst (λ r. Hands g.T.Sink.takes c.args.sink.now (removed_entries v) (as_fault r) c.walk_removed.new.sink) c.in-Ok.is
    (c.walk_removed.ensures.value clean v (∥∥₁_map c.check_open.new.self.kept (λ kept. (kept (c.walk_removed.ensures.read.honest clean)).keeps))))

pub returns-in-Err-clause-value : goal.returns-in-Err-clause-value
returns-in-Err-clause-value g c clean =
    let v = vault_of g.S.Store c.check_open.new.self in
    rw c.in_ok-check_open.ensures.read.leaves.same at (subst (λ r. Hands g.T.Sink.takes c.args.sink.now (removed_entries v) (as_fault r) c.walk_removed.new.sink) c.in-Err.is
    (c.walk_removed.ensures.value clean v (∥∥₁_map c.check_open.new.self.kept (λ kept. (kept (c.walk_removed.ensures.read.honest clean)).keeps))))

pub returns-in_err-check_open-clause-read : goal.returns-in_err-check_open-clause-read
returns-in_err-check_open-clause-read g c = record {
  leaves = search rules;
  healthy = λ well.
      let none : is_device_fault c.in_err-check_open.field-0.0 ≡ false = c.in_err-check_open.ensures.read.healthy well in
      search rules;
  refused = c.in_err-check_open.ensures.read.refused;
}

pub returns-in-Ok-clause-read : goal.returns-in-Ok-clause-read
returns-in-Ok-clause-read g c = record { leaves = search rules; healthy = λ well. refl; refused = c.in_ok-check_open.ensures.read.refused }

pub returns-in-Err-clause-read : goal.returns-in-Err-clause-read
returns-in-Err-clause-read g c = record { leaves = search rules; healthy = λ well. no_failure g.S.Store c.check_open.new.self.conn _ _ _ _ c.check_open.new.self.kept (c.walk_removed.ensures.read.honest well.clean) (λ w keeps. c.in-Err.ensures.memory well w keeps) c.blame.ensures.reported; refused = c.in_ok-check_open.ensures.read.refused }

-- What was written, by what was taken.
use Rattle.std.proofs.Common.{ℕ, List}
use Rattle.std.specs.Prelude.{Option, Result, Ok, Err, OnErr}
use Rattle.vault_io.specs.Begins.{Begins}
use Rattle.vault_files_events.specs.Takers.{WritesOn}
use Rattle.vault_files_events.specs.Taking.{TookSome}
use Rattle.vault_files_events.specs.declared.takers.ToWriter.{ToWriter}

pub written_err : {W X E : Type 0} (contents : W → Option (List ℕ)) (s t : ToWriter W) (bytes : List ℕ) (r : Result X E)
    → OnErr r (TookSome (WritesOn contents) s bytes t) → OnErr r (Begins (contents s.writer.now) (contents t.writer.now) bytes)
written_err contents s t bytes (Ok n) err = tt
written_err contents s t bytes (Err e) err = (err.0, err.1, err.2, err.3.1)

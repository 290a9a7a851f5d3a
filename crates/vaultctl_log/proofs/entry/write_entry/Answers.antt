use Rattle.std.proofs.Common.{inl, inr, refl}
use Rattle.vaultctl_log.proofs.Shown.{on-err}
use Rattle.vaultctl_log.proofs.entry.write_entry.Goals as goal

-- a beginning of the line was written
pub returns-in-Ok-clause-err : goal.returns-in-Ok-clause-err
returns-in-Ok-clause-err g c = on-err c.write_bytes.result (λ begun. (_, inl c.in-Ok.ensures, rw c.as_bytes.ensures.value at begun)) c.write_bytes.ensures.err

-- or one of what is said where there is no room for it
pub returns-in-Err-clause-err : goal.returns-in-Err-clause-err
returns-in-Err-clause-err g c = on-err c.write_bytes-in-Err.result (λ begun. (_, inr refl, begun)) c.write_bytes-in-Err.ensures.err

use Rattle.std.proofs.KnownBytes.{Appends-kept, Appends-trans}
use Rattle.vault_files_texts.specs.Register.{header}
use Rattle.vault_files_texts.proofs.Walked.{begins_later, begins_sooner, begins_whole, on_err, on_ok}
use Rattle.vault_files_texts.proofs.register.export_register.Goals as goal

pub returns-in_err-write_bytes-clause-err : goal.returns-in_err-write_bytes-clause-err
returns-in_err-write_bytes-clause-err g c = λ h. on_err c.from_residual.result (begins_sooner _ _ header _ c.in_err-write_bytes.ensures.err)

pub returns-in_err-write_rows-clause-err : goal.returns-in_err-write_rows-clause-err
returns-in_err-write_rows-clause-err g c = λ h.
    on_err c.from_residual-in_err-write_rows.result
    (begins_later _ _ _ header _ c.in_ok-write_bytes.ensures.ok (c.in_err-write_rows.ensures.err h))

pub returns-clause-ok : goal.returns-clause-ok
returns-clause-ok g c = λ h.
    on_ok c.flush.result
    (Appends-kept _ _ _ _ (Appends-trans _ _ _ header _ c.in_ok-write_bytes.ensures.ok (c.in_ok-write_rows.ensures.ok h)) c.flush.ensures.keeps)

pub returns-clause-err : goal.returns-clause-err
returns-clause-err g c = λ h.
    on_err c.flush.result
    (begins_whole _ _ _ (Appends-kept _ _ _ _ (Appends-trans _ _ _ header _ c.in_ok-write_bytes.ensures.ok (c.in_ok-write_rows.ensures.ok h)) c.flush.ensures.keeps))

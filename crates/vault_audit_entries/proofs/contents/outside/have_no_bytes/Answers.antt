use Rattle.std.proofs.Common.{sym, subst, arith}
use Rattle.sqlite.specs.Held.{state}
use Rattle.sqlite.specs.State.{HasCleanDisk}
use Rattle.vault_audit_rows.specs.Health.{Asks}
use Rattle.sqlite.specs.Given.{IsPlain}
use Rattle.sqlite.specs.Listing.{understood}
use Rattle.vault_audit_entries.proofs.OutsideLemmas.{absence_if_ok}
use Rattle.vault_audit_entries.proofs.OutsideTextLemmas.{bytes_beside, bytes_beside_is, bytes_beside_asks}
use Rattle.vault_audit_entries.proofs.contents.outside.have_no_bytes.Goals as goal

pub check_rows-requires : goal.check_rows-requires
check_rows-requires g c clean = subst (λ s. IsPlain (understood s bytes_beside)) (sym (c.requires clean)) bytes_beside_is.plain

pub returns-clause-reported : goal.returns-clause-reported
returns-clause-reported g c clean =
    let early : HasCleanDisk (state g.S.Store c.args.conn.now) = omega (arith, c.check_rows.ensures.look.crash.clean) in
    absence_if_ok (state g.S.Store c.args.conn.now) (state g.S.Store c.check_rows.new.conn) (c.requires early) c.check_rows.result (c.check_rows.ensures.look.same clean) (c.check_rows.ensures.checked clean)

pub returns-clause-err : goal.returns-clause-err
returns-clause-err g c well = c.check_rows.ensures.err well (λ clean. subst (λ s. Asks s bytes_beside) (sym (c.requires clean)) bytes_beside_asks)

use Rattle.std.proofs.Common.{◌≡◌, FitsSigned, rules, to_z, to_z-of_z, of_z, w64}
use Rattle.std.specs.Prelude.{is_ok}
use Rattle.vault_base.specs.Days.{moment_at}
use Rattle.vaultctl_serve.proofs.server.miss.Goals as goal

-- the entry of a connection that couldn't be taken, at what the clock shows
pub returns-clause-logged : goal.returns-clause-logged
returns-clause-logged g c =
    let reading = c.reading-shown.result in
    let fits : FitsSigned w64 reading = search rules in
    let same : to_z w64 (of_z w64 reading) ≡ reading = to_z-of_z fits in (
      moment_at reading,
      c.reading-shown.ensures,
      (
        c.nothing.result.facts,
        is_ok c.log.result,
        rw (c.nothing.ensures.bytes.0, c.nothing.ensures.bytes.1) at c.log.ensures.logs,
        c.nothing.ensures.door,
        rw same at c.nothing.ensures.moment,
        c.nothing.ensures.trouble,
      ),
    )

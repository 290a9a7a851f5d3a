use Rattle.sqlite.specs.Files.{file_state}
use Rattle.vaultctl_machine.proofs.RefusalLemmas.{closes_as, reports_as, unmade_over}
use Rattle.vaultctl_machine.specs.Refusals.{IsUnmade, IsUnmadeOver}
use Rattle.vaultctl_machine.proofs.vaults.made_in.Goals as goal

pub returns-clause-reported : goal.returns-clause-reported
returns-clause-reported g c = reports_as IsUnmade c.refused.result c.in-Err.refusal c.refused.ensures.refusal c.refused.ensures.failure c.in-Err.ensures.faults

pub returns-clause-lost : goal.returns-clause-lost
returns-clause-lost g c =
    let store = c.in-Err.ensures in
    closes_as _ _ c.in-Err.conn (λ conn r. IsUnmadeOver (file_state conn) r) _ c.in-Err.refusal c.refused.ensures.refusal c.let_go-had_no_room.ensures
    (unmade_over (file_state c.args.empty.conn) (file_state c.in-Err.conn) c.in-Err.refusal _ c.requires.opened store.harmless store.healthy store.free store.tables)

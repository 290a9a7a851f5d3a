-- What is logged as late wasn't read to its end.
use Rattle.std.proofs.Common.{◌≡◌, Some, Result, Ok, Err, refl}
use Rattle.vault_http.specs.declared.fault.ServeFault.{ServeFault}
use Rattle.vault_http.specs.declared.fault.ServeFault.TheVariants as faults
use Rattle.vaultctl_log.specs.declared.entry.Trouble.TheVariants as trouble
use Rattle.vaultctl_serve.specs.Account.{trouble_of}

pub late-unread : (served : Result (Unit {0}) ServeFault) → trouble_of served ≡ Some trouble.Late → served ≡ Err faults.Read
late-unread (Ok done) is = absurd cc
late-unread (Err faults.Read) is = refl
late-unread (Err faults.Write) is = absurd cc
late-unread (Err faults.Memory) is = absurd cc

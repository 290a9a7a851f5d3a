-- The names of the faults of a job.
use Rattle.std.specs.Prelude.{ℕ, List, [], codes, Bool, true, false, Result, Err}
use Rattle.vaultctl_commands.specs.declared.fault.JobFault.{JobFault}
use Rattle.vaultctl_commands.specs.declared.fault.JobFault.TheVariants.{Read, Write, Memory, Device}
use Rattle.vaultctl_commands.specs.declared.outcome.Outcome.{Outcome}

-- the name by which a fault is reported
abbrev pub fault_name : JobFault → List ℕ
fault_name Read = codes "Read"
fault_name Write = codes "Write"
fault_name Memory = codes "Memory"
fault_name Device = codes "Device"

-- what a fault means, in words; that of a device is said where it is seen
abbrev pub fault_words : JobFault → List ℕ
fault_words Read = codes "the input can't be read to its end: what was answered was carried out\n"
fault_words Write = codes "the answer can't be written, as to a full disk or a closed pipe: what was asked may have been done, so look before you give it again\n"
fault_words Memory = codes "the machine refused memory: stop other programs, and look what was done before you give it again\n"
fault_words Device = []

-- the job reports that the vault's device failed
abbrev pub reports_device : Result Outcome JobFault → Bool
reports_device (Err Device) = true
reports_device _ = false

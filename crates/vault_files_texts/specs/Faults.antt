-- What keeps a register from being written.
use Rattle.std.specs.Prelude.{Bool, true, false, Result, Ok, Err}
use Rattle.vault_core_model.specs.declared.halt.Fault.{Fault}
use Rattle.vault_core_model.specs.declared.halt.Fault.TheVariants as keeper
use Rattle.vault_files_texts.specs.declared.fault.ExportFault.{ExportFault}
use Rattle.vault_files_texts.specs.declared.fault.ExportFault.TheVariants.{Write, Memory, Device}

-- a fault of the vault's keeper
abbrev pub fault_of_keeper : Fault → ExportFault
fault_of_keeper keeper.Memory = Memory
fault_of_keeper keeper.Device = Device

abbrev pub is_device : ExportFault → Bool
is_device Write = false
is_device Memory = false
is_device Device = true

-- the register ends where the device failed
abbrev pub is_device_met : {X : Type 0} → Result X ExportFault → Bool
is_device_met (Ok x) = false
is_device_met (Err e) = is_device e

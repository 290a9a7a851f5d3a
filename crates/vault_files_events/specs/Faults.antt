-- What keeps a seal from being made.
use Rattle.vault_core_model.specs.declared.halt.Fault.{Fault}
use Rattle.vault_core_model.specs.declared.halt.Fault.TheVariants as keeper
use Rattle.vault_files_texts.specs.declared.fault.ExportFault.{ExportFault}
use Rattle.vault_files_texts.specs.declared.fault.ExportFault.TheVariants.{Write, Memory, Device}

-- a fault, as one of a keeper: a digest never refuses a byte
abbrev pub keeper_fault_of : ExportFault → Fault
keeper_fault_of Write = keeper.Memory
keeper_fault_of Memory = keeper.Memory
keeper_fault_of Device = keeper.Device

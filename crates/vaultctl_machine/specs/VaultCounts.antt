-- How many vaults were given out, by how they came about.
use Rattle.vaultctl_machine.specs.Places.{with_one_given}
use Rattle.vaultctl_machine.specs.declared.vault_counts.VaultCounts.{VaultCounts}

abbrev pub with_opened : VaultCounts → VaultCounts
with_opened g = record g { opened = with_one_given g.opened }

abbrev pub with_made : VaultCounts → VaultCounts
with_made g = record g { made = with_one_given g.made }

abbrev pub with_copied : VaultCounts → VaultCounts
with_copied g = record g { copied = with_one_given g.copied }

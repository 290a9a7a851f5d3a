-- The entries of a vault, whose keys have heads.
use Rattle.std.specs.Prelude.{Bool, List, map}
use Rattle.sqlite.specs.Effect.{Database}
use Rattle.vault_core_model.specs.declared.records.Entry.{Entry}
use Rattle.vault_core_model.specs.declared.records.History.{History}
use Rattle.vault_core_model.specs.Vault.{Vault}
use Rattle.vault_audit_model.specs.Relations.{AreEntries, DecidesHeads}

abbrev pub entries_of : Vault → List Entry
entries_of v = map (λ (h : History). h.entry) v.histories

-- whether the rows of heads are those of whichever vault has the entries of the rows
abbrev pub DecidesHeadsOf : Bool → Database → Bool → Type 0
DecidesHeadsOf external db found = (v : Vault) → AreEntries external db (entries_of v) → DecidesHeads db v found

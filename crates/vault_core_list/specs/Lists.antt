-- The lists of a vault, and a change of them.
use Rattle.std.specs.Prelude.{◌≡◌, ℕ}
use Rattle.vault_core_model.specs.Change.{changed}
use Rattle.vault_core_model.specs.Vault.{Vault}
use Rattle.vault_core_model.specs.declared.change.Change.{Change}
use Rattle.vault_core_list.specs.declared.lists.Lists.{Lists}

-- the vault that these lists are
abbrev pub vault_of : Lists → Vault
vault_of l = record {
  external = l.external;
  last = l.last;
  departments = l.departments.items;
  callers = l.callers.items;
  buckets = l.buckets.items;
  notes = l.notes.items;
  histories = l.histories.items;
  moves = l.moves;
}

-- with its moment as the last one, the change was made
abbrev pub IsChanged : Lists → Lists → ℕ → Change → Type 0
IsChanged old new t change = record (vault_of new) { last = t } ≡ changed (vault_of old) t change

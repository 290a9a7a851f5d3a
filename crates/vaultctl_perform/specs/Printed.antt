-- Lines that a job prints.
use Rattle.std.specs.Prelude.{ℕ, ◌∷◌, ◌++◌, [], List, codes}
use Rattle.vault_base.specs.Refusal.{table_name}
use Rattle.vault_base.specs.declared.refusal.Table.{Table}

-- a vault's tables are sound
abbrev pub sound_line : List ℕ
sound_line = codes "sound" ++ 10 ∷ []

-- a vault of an earlier version was copied
abbrev pub migrated_line : List ℕ
migrated_line = codes "migrated" ++ 10 ∷ []

-- a table isn't sound
abbrev pub damaged_line : Table → List ℕ
damaged_line table = codes "damaged " ++ table_name table ++ 10 ∷ []

-- a version, and its commit where it is known
abbrev pub version_line : List ℕ → List ℕ → List ℕ
version_line version [] = codes "vaultctl " ++ version ++ 10 ∷ []
version_line version (c ∷ cs) = codes "vaultctl " ++ version ++ codes ", commit " ++ (c ∷ cs) ++ 10 ∷ []

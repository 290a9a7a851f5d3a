-- Queries over the tables of a vault.
use Rattle.std.specs.Prelude.{ℕ, Bool, List, []}
use Rattle.sqlite_value.specs.Order.{Row}
use Rattle.sqlite_sql.specs.Query.{Query}
use Rattle.sqlite.specs.Effect.{Database, Answers}
use Rattle.vault_core_model.specs.Vault.{Vault}
use Rattle.vault_audit_model.specs.Queries.{Selects}
use Rattle.vault_audit_model.specs.Tables.{vault_schema}
use Rattle.vault_audit_model.specs.Spells.{AreSound}

-- a text asks for this over the tables of each vault, whether it registers contents that are kept outside or not
abbrev pub SelectsInBoth : List ℕ → Query → Type 0
SelectsInBoth sql q = (external : Bool) → Selects (vault_schema external) sql q

-- a text that is one query was answered with these rows, over tables that state the vault
abbrev pub FindsRows : Vault → List ℕ → Row → List Row → Type 0
FindsRows v sql params rows =
    (db : Database) × AreSound db v × ((q : Query) → Selects (vault_schema v.external) sql q → Answers db (record { lets = []; body = q }) params rows)

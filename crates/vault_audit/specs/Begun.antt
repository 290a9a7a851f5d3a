-- A schema that begins with a vault's tables.
use Rattle.std.proofs.Common.{◌+◌, List, ◌++◌, take, drop, sym, ap, subst, ◌∙◌, take-append-drop}
use Rattle.sqlite.specs.Schema.{Schema}
use Rattle.sqlite.specs.Table.{Table as Made}
use Rattle.vault_base.specs.declared.refusal.Table.{Table}
use Rattle.vault_audit_model.specs.declared.schema.SchemaVersion.{SchemaVersion}
use Rattle.vault_audit_model.specs.Order.{place_of}
use Rattle.vault_audit_model.specs.Tables.{schema_of}
use Rattle.vault_audit_schema.specs.Places.{BeginTo}

-- the same schema with these tables
abbrev with_tables : Schema → List Made → Schema
with_tables s tables = record { tables = tables; indexes = s.indexes; views = s.views }

-- one that begins with the tables up to this one
pub as_begun : (P : Schema → Type 0) (n : SchemaVersion) (s : Schema) (t : Table) → BeginTo n s.tables t → P (with_tables s (take (place_of t + 1) (schema_of n).tables ++ drop (place_of t + 1) s.tables)) → P s
as_begun P n s t begin =
    subst (λ (tables : List Made). P (with_tables s tables)) (sym (ap (λ (first : List Made). first ++ drop (place_of t + 1) s.tables) begin) ∙ take-append-drop (place_of t + 1) s.tables)

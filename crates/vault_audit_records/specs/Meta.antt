-- The row of meta.
use Rattle.std.specs.Prelude.{◌≡◌, [], ◌∷◌, map, Option, None, Some, IsPermutation}
use Rattle.sqlite.specs.Effect.{Database}
use Rattle.vault_audit_model.specs.declared.rows.MetaRow.{MetaRow}
use Rattle.vault_audit_model.specs.declared.schema.SchemaVersion.{SchemaVersion}
use Rattle.vault_audit_model.specs.SchemaVersions.{number_of}
use Rattle.vault_audit_model.specs.Limits.{IsMetaRow}
use Rattle.vault_audit_model.specs.Rows.{meta_row, meta_columns_as}
use Rattle.vault_audit_model.specs.Tables.{meta_tree}
use Rattle.vault_audit_records.specs.declared.meta.row.MetaPass.{MetaPass}

-- in its limits, and of that schema version
abbrev pub IsMetaRowOf : SchemaVersion → MetaRow → Type 0
IsMetaRowOf n m = IsMetaRow m × (m.schema ≡ number_of n)

-- no row was met before
abbrev pub IsFirstMeta : MetaPass → MetaRow → Type 0
IsFirstMeta p m = (p.found ≡ None) × IsMetaRowOf p.schema_version m

abbrev pub with_meta : MetaPass → MetaRow → MetaPass
with_meta p m = record p { found = Some m }

-- meta is this one row; or it is no one row in its limits
abbrev pub IsMetaOf : SchemaVersion → Database → Option MetaRow → Type 0
IsMetaOf n db (Some m) = IsPermutation (meta_row m ∷ []) (map (meta_columns_as n) (db.trees meta_tree)) × IsMetaRowOf n m
IsMetaOf n db None = (m : MetaRow) → IsPermutation (meta_row m ∷ []) (map (meta_columns_as n) (db.trees meta_tree)) → ¬ IsMetaRowOf n m

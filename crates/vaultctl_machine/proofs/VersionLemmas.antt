-- By which tables and columns a schema version is known.
use Rattle.std.proofs.Common.{◌≡◌, Bool, true, false, IsTrue, refl, ap, ◌∙◌}
use Rattle.std.specs.List.{list_any}
use Rattle.sqlite.specs.Schema.{Schema}
use Rattle.vault_audit_model.specs.declared.schema.SchemaVersion.{SchemaVersion}
use Rattle.vault_audit_model.specs.declared.schema.SchemaVersion.TheVariants.{First, Second, Third, Fourth}
use Rattle.vault_audit_model.specs.SchemaVersions.{is_external}
use Rattle.vault_audit_model.specs.Tables.{schema_of}
use Rattle.vaultctl_machine.specs.Files.{is_earlier}
use Rattle.vaultctl_machine.specs.SchemaVersions.{has_bounded_rules, has_tenures, version_by}

abbrev version_in : Bool → Schema → SchemaVersion
version_in external s = version_by (list_any has_bounded_rules s.tables) (list_any has_tenures s.tables) external

version_found : (external : Bool) (n : SchemaVersion) → IsTrue (is_earlier external n) → version_in external (schema_of n) ≡ n
version_found external First earlier = refl
version_found external Second earlier = refl
version_found true Third earlier = refl
version_found false Third earlier = cc
version_found external Fourth earlier = cc

pub version_exact : (external : Bool) (s : Schema) (n : SchemaVersion) → IsTrue (is_earlier external n) → s ≡ schema_of n → version_in external s ≡ n
version_exact external s n earlier is = ap (version_in external) is ∙ version_found external n earlier

pub version_earlier : (bounds tenures external : Bool) → IsTrue (is_earlier external (version_by bounds tenures external))
version_earlier false tenures external = refl
version_earlier true false external = refl
version_earlier true true false = refl
version_earlier true true true = refl

-- no file that is copied registers contents that are kept outside
pub earlier_inside : (external : Bool) (n : SchemaVersion) → IsTrue (is_earlier external n) → is_external n ≡ false
earlier_inside external First earlier = refl
earlier_inside external Second earlier = refl
earlier_inside external Third earlier = refl
earlier_inside external Fourth earlier = cc

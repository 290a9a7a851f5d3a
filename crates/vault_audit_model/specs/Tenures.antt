-- What tables without tenures say of them: no bucket was moved, so each version has been its bucket's department's since its admission.
use Rattle.std.specs.Prelude.{◌≡◌, ℕ, Bool, true, false, List, [], ◌∷◌, Option, Some, None}
use Rattle.std.specs.List.{AllByRecursion}
use Rattle.vault_core_model.specs.declared.records.Bucket.{Bucket}
use Rattle.vault_core_model.specs.declared.records.BucketConfig.{BucketConfig}
use Rattle.vault_core_model.specs.declared.records.Entry.{Entry}
use Rattle.vault_core_model.specs.declared.records.History.{History}
use Rattle.vault_core_model.specs.declared.records.Tenure.{Tenure}
use Rattle.vault_core_model.specs.Vault.{Vault, config_in}
use Rattle.vault_audit_model.specs.declared.schema.SchemaVersion.{SchemaVersion}
use Rattle.vault_audit_model.specs.declared.schema.SchemaVersion.TheVariants.{First, Second, Third, Fourth}

-- a marker has none; a version has one, of its bucket's department, from its admission
abbrev pub first_tenures : Bool → ℕ → Option BucketConfig → List Tenure
first_tenures true admitted config = []
first_tenures false admitted None = []
first_tenures false admitted (Some config) = record { dept = config.dept; from = admitted; number = 0 } ∷ []

-- those of an entry in one of these buckets
abbrev pub first_tenures_in : List Bucket → Entry → List Tenure
first_tenures_in bs e = first_tenures e.marker e.admitted (config_in bs e.bucket)

-- the history with these tenures
abbrev pub tenured_in : List Bucket → History → History
tenured_in bs h = record h { tenures = first_tenures_in bs h.entry }

abbrev pub HasFirstTenures : List Bucket → History → Type 0
HasFirstTenures bs h = h.tenures ≡ first_tenures_in bs h.entry

-- no bucket was moved, and no version has another tenure than its first
pub record IsUnmoved (v : Vault) : Type 0 where
  pub moves : v.moves ≡ 0
  pub tenures : AllByRecursion (HasFirstTenures v.buckets) v.histories

-- a schema version without tenures can state no other vault; one that has them can state any
abbrev pub IsUnmovedIn : SchemaVersion → Vault → Type 0
IsUnmovedIn First v = IsUnmoved v
IsUnmovedIn Second v = IsUnmoved v
IsUnmovedIn Third v = Unit {0}
IsUnmovedIn Fourth v = Unit {0}

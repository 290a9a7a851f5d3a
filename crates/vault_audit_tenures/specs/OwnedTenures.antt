-- Tenures beside their versions and the departments of their buckets.
use Rattle.std.specs.Prelude.{◌≤◌, List, [], ◌∷◌, option_map, IfSome, IsTrue}
use Rattle.sqlite_value.specs.declared.value.Value.TheVariants.{Text}
use Rattle.sqlite_value.specs.Order.{Row as Values}
use Rattle.vault_base.specs.Days.{last_moment}
use Rattle.vault_base.specs.Name.{is_version_id}
use Rattle.vault_core_model.specs.declared.records.Bucket.{Bucket}
use Rattle.vault_core_model.specs.declared.records.Entry.{Entry}
use Rattle.vault_core_model.specs.declared.records.Tenure.{Tenure}
use Rattle.vault_core_model.specs.Vault.{config_in}
use Rattle.vault_audit_model.specs.Limits.{IsPlainName, IsTenure}
use Rattle.vault_audit_model.specs.Values.{number, number_or_null, text_or_null}
use Rattle.vault_audit_tenures.specs.declared.owned_tenures.OwnedTenure.{OwnedTenure}

-- what is shown of a tenure beside its version and the version's bucket
abbrev pub owned_row : OwnedTenure → Values
owned_row t =
    number t.id ∷ number t.tenure.number ∷ Text t.tenure.dept ∷ number t.tenure.from ∷ number t.admitted ∷ number_or_null t.removed
    ∷ text_or_null t.owner ∷ []

pub record IsOwned (t : OwnedTenure) : Type 0 where
  pub id : IsTrue (is_version_id t.id)
  pub tenure : IsTenure t.tenure
  pub admitted : t.admitted ≤ last_moment
  pub removed : IfSome t.removed (λ m. m ≤ last_moment)
  pub owner : IfSome t.owner IsPlainName

-- a tenure of the entry, whose bucket is among these
abbrev pub owned_in : List Bucket → Entry → Tenure → OwnedTenure
owned_in bs e t = record {
  id = e.id;
  tenure = t;
  admitted = e.admitted;
  removed = option_map (λ r. r.at) e.removal;
  owner = option_map (λ c. c.dept) (config_in bs e.bucket);
}

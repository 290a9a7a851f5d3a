-- Entries beside the departments of their buckets.
use Rattle.std.specs.Prelude.{◌≤◌, List, [], ◌∷◌, option_map, IfSome, IsTrue}
use Rattle.sqlite_value.specs.Order.{Row as Values}
use Rattle.vault_base.specs.Days.{last_moment}
use Rattle.vault_base.specs.Name.{is_version_id}
use Rattle.vault_core_model.specs.declared.records.Bucket.{Bucket}
use Rattle.vault_core_model.specs.declared.records.Entry.{Entry}
use Rattle.vault_core_model.specs.Vault.{config_in}
use Rattle.vault_audit_model.specs.Limits.{IsPlainName}
use Rattle.vault_audit_model.specs.Values.{number, number_or_null, text_or_null, flag}
use Rattle.vault_audit_tenures.specs.declared.sums.owned_entries.OwnedEntry.{OwnedEntry}

-- what is shown of an entry beside its bucket
abbrev pub owned_row : OwnedEntry → Values
owned_row e = number e.id ∷ flag e.marker ∷ number e.size ∷ number e.admitted ∷ number_or_null e.removed ∷ text_or_null e.dept ∷ []

pub record IsOwned (e : OwnedEntry) : Type 0 where
  pub id : IsTrue (is_version_id e.id)
  pub admitted : e.admitted ≤ last_moment
  pub removed : IfSome e.removed (λ t. t ≤ last_moment)
  pub dept : IfSome e.dept IsPlainName

-- the entry, beside its bucket among these
abbrev pub owned_in : List Bucket → Entry → OwnedEntry
owned_in bs e = record {
  id = e.id;
  marker = e.marker;
  size = e.size;
  admitted = e.admitted;
  removed = option_map (λ r. r.at) e.removal;
  dept = option_map (λ c. c.dept) (config_in bs e.bucket);
}

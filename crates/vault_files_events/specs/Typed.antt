-- What the types of an entry's values say of them, and that settings follow admissions: so much makes a text be of one entry alone.
use Rattle.std.specs.Prelude.{◌≡◌, ◌<◌, ◌≤◌, ◌^◌, ◌⊎◌, length, IfSome, IsTrue}
use Rattle.std.specs.List.{AllByRecursion}
use Rattle.hex.specs.Hex.{IsBytes}
use Rattle.vault_base.specs.Name.{is_bucket_name, is_object_key, is_plain_name, is_rule_id, is_version_id}
use Rattle.vault_core_model.specs.declared.records.Author.{Author}
use Rattle.vault_core_model.specs.declared.records.Author.TheVariants as author
use Rattle.vault_core_model.specs.declared.records.Entry.{Entry}
use Rattle.vault_core_model.specs.Vault.{Vault}
use Rattle.vault_files_texts.specs.Removed.{cause_name}

-- the name of a caller, or the id of a rule
abbrev pub IsAuthor : Author → Type 0
IsAuthor (author.Caller name) = IsTrue (is_plain_name name)
IsAuthor (author.Rule rule) = IsTrue (is_rule_id rule)

-- each value of an entry is of its type
pub record IsTyped (e : Entry) : Type 0 where
  pub id : IsTrue (is_version_id e.id)
  pub bucket : IsTrue (is_bucket_name e.bucket)
  pub key : IsTrue (is_object_key e.key)
  pub size : e.size < 2 ^ 64
  pub digest : IfSome e.digest (λ d. IsBytes d × (length d ≡ 32))
  pub by : IsAuthor e.by
  pub cause : IfSome e.removal (λ r. IsTrue (is_plain_name (cause_name r.cause)) ⊎ IsTrue (is_rule_id (cause_name r.cause)))

-- those of every entry are
abbrev pub AreTyped : Vault → Type 0
AreTyped v = AllByRecursion (λ h. IsTyped h.entry) v.histories

-- no setting is before the admission of its version
abbrev pub AreDated : Vault → Type 0
AreDated v = AllByRecursion (λ h. AllByRecursion (λ s. h.entry.admitted ≤ s.at) h.settings) v.histories

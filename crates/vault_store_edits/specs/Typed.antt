-- What the types of its values say of a record that a statement puts in.
use Rattle.std.specs.Prelude.{◌≡◌, length, IsTrue, IfSome}
use Rattle.vault_base.specs.Name.{is_version_id}
use Rattle.vault_rules.specs.declared.rule.Rule.{Rule}
use Rattle.vault_core_model.specs.declared.records.Entry.{Entry}
use Rattle.vault_core_model.specs.declared.records.Note.{Note}
use Rattle.vault_core_model.specs.declared.records.Setting.{Setting}
use Rattle.vault_audit_model.specs.Limits.{IsBucketName, IsObjectKey, IsPlainName, IsRuleId, IsKeyPrefix, IsAuthor, IsRetention}

-- its id is one, its names are well spelled, and its digest has 32 bytes
pub record IsTypedEntry (e : Entry) : Type 0 where
  pub id : IsTrue (is_version_id e.id)
  pub bucket : IsBucketName e.bucket
  pub key : IsObjectKey e.key
  pub by : IsAuthor e.by
  pub digest : IfSome e.digest (λ d. length d ≡ 32)

-- its caller is well spelled, and a retention ends at a moment
pub record IsTypedSetting (s : Setting) : Type 0 where
  pub by : IsPlainName s.by
  pub retention : IfSome s.lock.retention IsRetention

-- the same of its batch and its retention; all else is that of its entry
pub record IsTypedNote (n : Note) : Type 0 where
  pub batch : IsPlainName n.batch
  pub retention : IfSome n.retention IsRetention

abbrev pub IsTypedRule : Rule → Type 0
IsTypedRule r = IsRuleId r.id × IsKeyPrefix r.prefix

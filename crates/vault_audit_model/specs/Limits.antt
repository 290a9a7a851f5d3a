-- When the values of a record are of their kinds and in their limits.
use Rattle.std.specs.Prelude.{◌≡◌, ℕ, ◌≤◌, Bool, true, false, List, length, Option, Some, None, IsTrue, IsUtf8, IfSome}
use Rattle.std.specs.List.{AllByRecursion}
use Rattle.vault_base.specs.Days.{last_moment}
use Rattle.vault_base.specs.Limits.{most_content, most_moves, most_rules, most_settings}
use Rattle.vault_base.specs.Name.{is_bucket_name, is_object_key, is_key_prefix, is_plain_name, is_rule_id, is_version_id}
use Rattle.vault_lock.specs.Retention.{is_period}
use Rattle.vault_lock.specs.declared.retention.Retention.{Retention}
use Rattle.vault_rules.specs.Rules.{is_in_range, is_rule_set}
use Rattle.vault_rules.specs.declared.rule.Rule.{Rule}
use Rattle.vault_core_model.specs.declared.records.Author.{Author}
use Rattle.vault_core_model.specs.declared.records.Author.TheVariants as author
use Rattle.vault_core_model.specs.declared.records.Cause.{Cause}
use Rattle.vault_core_model.specs.declared.records.Cause.TheVariants as cause
use Rattle.vault_core_model.specs.declared.records.Removal.{Removal}
use Rattle.vault_core_model.specs.declared.records.Caller.{Caller}
use Rattle.vault_core_model.specs.declared.records.Bucket.{Bucket}
use Rattle.vault_core_model.specs.declared.records.BucketConfig.{BucketConfig}
use Rattle.vault_core_model.specs.declared.records.Entry.{Entry}
use Rattle.vault_core_model.specs.declared.records.History.{History}
use Rattle.vault_core_model.specs.declared.records.Note.{Note}
use Rattle.vault_core_model.specs.declared.records.Setting.{Setting}
use Rattle.vault_core_model.specs.declared.records.Tenure.{Tenure}
use Rattle.vault_core_model.specs.Sound.{most_bytes}
use Rattle.vault_core_model.specs.Vault.{Vault}
use Rattle.vault_audit_model.specs.declared.rows.MetaRow.{MetaRow}
use Rattle.vault_audit_model.specs.declared.rows.DepartmentRow.{DepartmentRow}
use Rattle.vault_audit_model.specs.declared.rows.BucketRow.{BucketRow}
use Rattle.vault_audit_model.specs.declared.rows.RuleRow.{RuleRow}
use Rattle.vault_audit_model.specs.declared.rows.ContentRow.{ContentRow}
use Rattle.vault_audit_model.specs.declared.rows.SettingRow.{SettingRow}
use Rattle.vault_audit_model.specs.declared.rows.HeadRow.{HeadRow}
use Rattle.vault_audit_model.specs.declared.rows.TenureRow.{TenureRow}

-- a text of that kind
abbrev pub IsText : (List ℕ → Bool) → List ℕ → Type 0
IsText is text = IsUtf8 text × IsTrue (is text)

-- the name of a caller, a department or a batch
abbrev pub IsPlainName : List ℕ → Type 0
IsPlainName = IsText is_plain_name

abbrev pub IsBucketName : List ℕ → Type 0
IsBucketName = IsText is_bucket_name

abbrev pub IsObjectKey : List ℕ → Type 0
IsObjectKey = IsText is_object_key

abbrev pub IsKeyPrefix : List ℕ → Type 0
IsKeyPrefix = IsText is_key_prefix

abbrev pub IsRuleId : List ℕ → Type 0
IsRuleId = IsText is_rule_id

abbrev pub IsRetention : Retention → Type 0
IsRetention r = r.until ≤ last_moment

abbrev pub IsAuthor : Author → Type 0
IsAuthor (author.Caller name) = IsPlainName name
IsAuthor (author.Rule id) = IsRuleId id

abbrev pub IsCause : Cause → Type 0
IsCause (cause.Request name) = IsPlainName name
IsCause (cause.Bypass name) = IsPlainName name
IsCause (cause.Rule id) = IsRuleId id

pub record IsRemoval (r : Removal) : Type 0 where
  pub at : r.at ≤ last_moment
  pub cause : IsCause r.cause

pub record IsCaller (c : Caller) : Type 0 where
  pub name : IsPlainName c.name
  pub dept : IfSome c.dept IsPlainName

pub record IsBucketConfig (c : BucketConfig) : Type 0 where
  pub dept : IsPlainName c.dept
  pub default : IfSome c.default (λ d. IsTrue (is_period d.period))

-- one rule of a bucket, looked at by itself
pub record IsRule (r : Rule) : Type 0 where
  pub id : IsRuleId r.id
  pub prefix : IsKeyPrefix r.prefix
  pub numbers : IsTrue (is_in_range r)

-- all of a bucket's rules together, in their order
abbrev pub AreRules : List Rule → Type 0
AreRules rules = IsTrue (is_rule_set rules) × AllByRecursion IsRule rules

pub record IsBucket (b : Bucket) : Type 0 where
  pub name : IsBucketName b.name
  pub config : IsBucketConfig b.config
  pub rules : IfSome b.rules AreRules

-- a marker has no size and no digest; a version has a digest of 32 bytes, and a size in its limit, which is greater where the vault registers contents that are kept outside
abbrev pub IsSizedAs : Bool → Bool → ℕ → Option (List ℕ) → Type 0
IsSizedAs true external size digest = (size ≡ 0) × (digest ≡ None)
IsSizedAs false external size None = ⊥
IsSizedAs false external size (Some digest) = (size ≤ most_bytes external None) × (length digest ≡ 32)

pub record IsEntry (external : Bool) (e : Entry) : Type 0 where
  pub id : IsTrue (is_version_id e.id)
  pub bucket : IsBucketName e.bucket
  pub key : IsObjectKey e.key
  pub sized : IsSizedAs e.marker external e.size e.digest
  pub admitted : e.admitted ≤ last_moment
  pub by : IsAuthor e.by
  pub removal : IfSome e.removal IsRemoval

pub record IsSetting (s : Setting) : Type 0 where
  pub at : s.at ≤ last_moment
  pub by : IsPlainName s.by
  pub retention : IfSome s.lock.retention IsRetention

pub record IsTenure (t : Tenure) : Type 0 where
  pub dept : IsPlainName t.dept
  pub from : t.from ≤ last_moment
  pub number : t.number ≤ most_moves

pub record IsNote (external : Bool) (n : Note) : Type 0 where
  pub bucket : IsBucketName n.bucket
  pub batch : IsPlainName n.batch
  pub line : (1 ≤ n.line) × (n.line ≤ 4294967295)
  pub key : IsObjectKey n.key
  pub size : n.size ≤ most_bytes external None
  pub digest : length n.digest ≡ 32
  pub retention : IfSome n.retention IsRetention
  pub id : IsTrue (is_version_id n.id)

pub record IsHistory (external : Bool) (h : History) : Type 0 where
  pub entry : IsEntry external h.entry
  pub settings : AllByRecursion IsSetting h.settings

-- every value of a vault but those of its tenures and its number of moves, whose limits follow where it is sound
pub record IsInLimits (v : Vault) : Type 0 where
  pub last : v.last ≤ last_moment
  pub departments : AllByRecursion IsPlainName v.departments
  pub callers : AllByRecursion IsCaller v.callers
  pub buckets : AllByRecursion IsBucket v.buckets
  pub notes : AllByRecursion (IsNote v.external) v.notes
  pub histories : AllByRecursion (IsHistory v.external) v.histories

-- ---- the records that only rows have

pub record IsMetaRow (m : MetaRow) : Type 0 where
  pub last : m.last ≤ last_moment
  pub moves : m.moves ≤ most_moves

-- the id of a version whose bytes are kept outside
abbrev pub IsExternalRow : ℕ → Type 0
IsExternalRow id = IsTrue (is_version_id id)

abbrev pub IsDepartmentRow : DepartmentRow → Type 0
IsDepartmentRow d = IsPlainName d.name

pub record IsBucketRow (b : BucketRow) : Type 0 where
  pub name : IsBucketName b.name
  pub config : IsBucketConfig b.config

pub record IsRuleRow (r : RuleRow) : Type 0 where
  pub bucket : IsBucketName r.bucket
  pub place : (1 ≤ r.place) × (r.place ≤ most_rules)
  pub rule : IsRule r.rule

pub record IsContentRow (c : ContentRow) : Type 0 where
  pub id : IsTrue (is_version_id c.id)
  pub size : length c.content ≤ most_content

pub record IsSettingRow (s : SettingRow) : Type 0 where
  pub id : IsTrue (is_version_id s.id)
  pub place : (1 ≤ s.place) × (s.place ≤ most_settings)
  pub setting : IsSetting s.setting

pub record IsHeadRow (h : HeadRow) : Type 0 where
  pub bucket : IsBucketName h.bucket
  pub key : IsObjectKey h.key
  pub newest : IsTrue (is_version_id h.head.newest)

pub record IsTenureRow (t : TenureRow) : Type 0 where
  pub id : IsTrue (is_version_id t.id)
  pub tenure : IsTenure t.tenure

-- Which changes may be made of a vault.
use Rattle.std.specs.Prelude.{◌≡◌, ℕ, ◌+◌, ◌≤◌, Bool, true, false, List, [], ◌∷◌, Option, Some, None, ◌<◌, IsSome, IsTrue}
use Rattle.std.specs.Str.{bytes_eq}
use Rattle.vault_base.specs.Limits.{most_ids, most_moves, most_settings}
use Rattle.vault_rules.specs.Rules.{is_rule_set, passes_if_given}
use Rattle.vault_tally.specs.Row.{quota}
use Rattle.vault_core_model.specs.declared.records.BucketConfig.{BucketConfig}
use Rattle.vault_core_model.specs.declared.records.Entry.{Entry}
use Rattle.vault_core_model.specs.declared.records.Note.{Note}
use Rattle.vault_core_model.specs.declared.records.Removal.{Removal}
use Rattle.vault_core_model.specs.declared.records.Setting.{Setting}
use Rattle.vault_core_model.specs.declared.records.Tenure.{Tenure}
use Rattle.vault_core_model.specs.declared.change.Admission.{Admission}
use Rattle.vault_core_model.specs.declared.change.Change.{Change}
use Rattle.vault_core_model.specs.declared.change.Change.TheVariants.{AddDept, AddCaller, CloseCaller, AddBucket, MoveBucket, SetDefault, SetRules, Admit, AddSetting, Remove}
use Rattle.vault_core_model.specs.Vault.{Vault, has_department, caller_of, config_of, next_id, note_of}
use Rattle.vault_core_model.specs.Reads.{entry_of, setting_of, count_of_settings}
use Rattle.vault_core_model.specs.Checks.{has_period}
use Rattle.vault_core_model.specs.IntakeOutcome.{is_line}
use Rattle.vault_core_model.specs.Sound.{IsWhole, IsNoted}
use Rattle.vault_core_model.specs.Totals.{admitted_bytes, received_bytes, bucket_bytes}

-- the note, where there is one, has a line's number, is the first of its line, and is about that entry
abbrev pub IsFirstNote : Vault → Entry → Option Note → Type 0
IsFirstNote v e None = Unit {0}
IsFirstNote v e (Some n) = (note_of v n.bucket n.batch n.line ≡ None) × IsTrue (is_line n.line) × (n.id ≡ e.id) × IsNoted n (Some e)

-- the settings that an entry is admitted with: a marker none, a version exactly one, made at t and by no bypass
abbrev pub HasFirst : Bool → ℕ → List Setting → Type 0
HasFirst true t ss = ss ≡ []
HasFirst false t [] = ⊥
HasFirst false t (s ∷ []) = (s.at ≡ t) × (s.bypass ≡ false)
HasFirst false t (s ∷ r ∷ rs) = ⊥

-- the tenures that an entry is admitted with: a marker none, a version that of its bucket's department
abbrev pub HasFirstTenure : Bool → ℕ → List ℕ → List Tenure → Type 0
HasFirstTenure true t dept ts = ts ≡ []
HasFirstTenure false t dept ts = ts ≡ record { dept = dept; from = t; number = 0 } ∷ []

-- the next entry, admitted at t to a bucket that is there, within the quota of its department
pub record IsAdmission (v : Vault) (t : ℕ) (a : Admission) : Type 0 where
  pub id : a.history.entry.id ≡ next_id v
  pub enough_ids : next_id v ≤ most_ids
  pub now : a.history.entry.admitted ≡ t
  pub held : a.history.entry.removal ≡ None
  pub whole : IsWhole v.external a.history
  pub first : HasFirst a.history.entry.marker t a.history.settings
  pub bucket : BucketConfig
  pub placed : config_of v a.history.entry.bucket ≡ Some bucket
  pub tenured : HasFirstTenure a.history.entry.marker t bucket.dept a.history.tenures
  pub fits : admitted_bytes v bucket.dept + received_bytes v bucket.dept + a.history.entry.size ≤ quota
  pub noted : IsFirstNote v a.history.entry a.note

-- a bucket that is there becomes another department's, within the quota of that one, while a number is left
pub record IsMove (v : Vault) (name dept : List ℕ) : Type 0 where
  pub bucket : BucketConfig
  pub there : config_of v name ≡ Some bucket
  pub known : IsTrue (has_department v dept)
  pub other : bytes_eq bucket.dept dept ≡ false
  pub fits : admitted_bytes v dept + received_bytes v dept + bucket_bytes v name ≤ quota
  pub left : v.moves < most_moves

-- the entry of that id is held
abbrev pub IsHeldId : Vault → ℕ → Type 0
IsHeldId v id = (entry : Entry) × (entry_of v id ≡ Some entry) × (entry.removal ≡ None)

-- the removal, now, of a held entry
pub record IsRemoval (v : Vault) (t id : ℕ) (r : Removal) : Type 0 where
  pub now : r.at ≡ t
  pub held : IsHeldId v id

-- one setting more, made at t, of a held version that has fewer than it may have
pub record IsNextSetting (v : Vault) (t id : ℕ) (s : Setting) : Type 0 where
  pub now : s.at ≡ t
  pub entry : Entry
  pub there : entry_of v id ≡ Some entry
  pub held : entry.removal ≡ None
  pub version : entry.marker ≡ false
  pub fits : count_of_settings (setting_of v id) < most_settings

-- a change that may be made at t: of a record that is there, or whose name is free and whose department is there; a bucket's move; the next entry, one setting more, or the removal of a held entry
abbrev pub Allows : Vault → ℕ → Change → Type 0
Allows v t (AddDept name) = has_department v name ≡ false
Allows v t (AddCaller c) = (caller_of v c.name ≡ None) × IsTrue (passes_if_given (has_department v) c.dept)
Allows v t (CloseCaller name) = IsSome (caller_of v name)
Allows v t (AddBucket name dept) = (config_of v name ≡ None) × IsTrue (has_department v dept)
Allows v t (MoveBucket name dept) = IsMove v name dept
Allows v t (SetDefault name default) = IsSome (config_of v name) × IsTrue (has_period default)
Allows v t (SetRules name rules) = IsSome (config_of v name) × IsTrue (passes_if_given is_rule_set rules)
Allows v t (Admit a) = IsAdmission v t a
Allows v t (AddSetting id s) = IsNextSetting v t id s
Allows v t (Remove id r) = IsRemoval v t id r

-- What holds of every vault that a keeper has.
use Rattle.std.specs.Prelude.{◌≡◌, ℕ, ◌+◌, ◌≤◌, Bool, true, false, not, ◌||◌, List, [], ◌∷◌, length, Option, Some, None, IsSome, IsTrue, ◌<◌, option_map}
use Rattle.std.specs.List.{AllByRecursion, last_or}
use Rattle.vault_base.specs.declared.content.Content.{Content}
use Rattle.vault_base.specs.Content.{size, digest, is_external, most_size}
use Rattle.vault_base.specs.Limits.{most_content, most_external, most_ids, most_moves, most_settings}
use Rattle.vault_tally.specs.Row.{quota}
use Rattle.vault_rules.specs.Rules.{is_rule_set, passes_if_given}
use Rattle.vault_core_model.specs.declared.records.Bucket.{Bucket}
use Rattle.vault_core_model.specs.declared.records.Caller.{Caller}
use Rattle.vault_core_model.specs.declared.records.Entry.{Entry}
use Rattle.vault_core_model.specs.declared.records.History.{History}
use Rattle.vault_core_model.specs.declared.records.Note.{Note}
use Rattle.vault_core_model.specs.declared.records.Removal.{Removal}
use Rattle.vault_core_model.specs.declared.records.Setting.{Setting}
use Rattle.std.specs.Str.{bytes_eq}
use Rattle.vault_core_model.specs.declared.records.Tenure.{Tenure}
use Rattle.vault_core_model.specs.Order.{IsAscending, name_cmp, caller_cmp, bucket_cmp, note_cmp}
use Rattle.vault_core_model.specs.Vault.{Vault, config_of, has_department}
use Rattle.vault_core_model.specs.Reads.{entry_of}
use Rattle.vault_core_model.specs.Totals.{admitted_bytes, received_bytes}
use Rattle.vault_core_model.specs.Checks.{has_period}
use Rattle.vault_core_model.specs.IntakeOutcome.{is_line}

-- the ids are n, n + 1, n + 2 and so on
abbrev pub AreIdsFrom : ℕ → List History → Type 0
AreIdsFrom n [] = Unit {0}
AreIdsFrom n (h ∷ hs) = (h.entry.id ≡ n) × AreIdsFrom (n + 1) hs

-- no admission is before the one before it, nor after the last moment
abbrev pub AreInOrder : ℕ → ℕ → List History → Type 0
AreInOrder from last [] = from ≤ last
AreInOrder from last (h ∷ hs) = (from ≤ h.entry.admitted) × AreInOrder h.entry.admitted last hs

-- a removal lies from the admission to the last moment
abbrev pub LiesBetween : ℕ → ℕ → Option Removal → Type 0
LiesBetween admitted last None = Unit {0}
LiesBetween admitted last (Some r) = (admitted ≤ r.at) × (r.at ≤ last)

abbrev pub IsInTime : ℕ → History → Type 0
IsInTime last h = LiesBetween h.entry.admitted last h.entry.removal

-- a held version has its content, of its size and digest; a removed one has none
abbrev pub HasItsContent : Option Removal → Option Content → Entry → Type 0
HasItsContent None None e = ⊥
HasItsContent None (Some content) e = (size content ≡ e.size) × (e.digest ≡ Some (digest content))
HasItsContent (Some r) None e = IsSome e.digest
HasItsContent (Some r) (Some content) e = ⊥

-- the bytes of a version at most: where its content is gone, it may have been kept outside, if the vault registers such contents
abbrev pub most_bytes : Bool → Option Content → ℕ
most_bytes external (Some content) = most_size content
most_bytes true None = most_external
most_bytes false None = most_content

-- a content that is kept outside is only in a vault that registers such contents
abbrev pub HasPlace : Bool → Option Content → Type 0
HasPlace external None = Unit {0}
HasPlace external (Some content) = IsTrue (external || not (is_external content))

-- a size is in its limit, and the content may be in the vault
abbrev pub HasRoom : Bool → Option Content → ℕ → Type 0
HasRoom external content bytes = (bytes ≤ most_bytes external content) × HasPlace external content

-- a version has a size and a content that may be in the vault, and at least one setting; a marker has no size, digest, content or setting
abbrev pub IsWholeAs : Bool → Bool → Entry → Option Content → List Setting → Type 0
IsWholeAs false external e content settings =
    HasRoom external content e.size × HasItsContent e.removal content e × (1 ≤ length settings) × (length settings ≤ most_settings)
IsWholeAs true external e content settings = (e.size ≡ 0) × (e.digest ≡ None) × (content ≡ None) × (settings ≡ [])

abbrev pub IsWhole : Bool → History → Type 0
IsWhole external h = IsWholeAs h.entry.marker external h.entry h.content h.settings

-- the tenures after this one: each by a later move, from no earlier moment, and of another department than the one before; none begins after the end
abbrev pub FollowOn : ℕ → ℕ → Tenure → List Tenure → Type 0
FollowOn moves end t [] = t.from ≤ end
FollowOn moves end t (u ∷ us) =
    (t.number < u.number) × (u.number ≤ moves) × (t.from ≤ u.from) × (bytes_eq t.dept u.dept ≡ false) × FollowOn moves end u us

-- the last moment, or that of the removal
abbrev pub end_of : ℕ → Option Removal → ℕ
end_of last None = last
end_of last (Some r) = r.at

-- the first tenure is from the admission
abbrev pub AreTenures : Vault → Entry → List Tenure → Type 0
AreTenures v e [] = ⊥
AreTenures v e (t ∷ ts) = (t.number ≡ 0) × (t.from ≡ e.admitted) × FollowOn v.moves (end_of v.last e.removal) t ts

abbrev pub last_tenure : List Tenure → Option Tenure
last_tenure ts = last_or None ts

-- while it is held, the last tenure is that of the bucket's department
abbrev pub IsWithBucket : Vault → Option Removal → History → Type 0
IsWithBucket v None h = option_map (λ t. t.dept) (last_tenure h.tenures) ≡ option_map (λ c. c.dept) (config_of v h.entry.bucket)
IsWithBucket v (Some r) h = Unit {0}

-- the tenures of a version, each of a department that is there; a marker has none
abbrev pub HasTenuresAs : Bool → Vault → History → Type 0
HasTenuresAs true v h = h.tenures ≡ []
HasTenuresAs false v h =
    AreTenures v h.entry h.tenures × AllByRecursion (λ t. IsTrue (has_department v t.dept)) h.tenures × IsWithBucket v h.entry.removal h

abbrev pub HasTenures : Vault → History → Type 0
HasTenures v h = HasTenuresAs h.entry.marker v h

-- the bucket of the entry is there
abbrev pub IsPlaced : Vault → History → Type 0
IsPlaced v h = IsSome (config_of v h.entry.bucket)

-- the entry is the version that a note is about: of its bucket, key, size and digest
abbrev pub IsNoted : Note → Option Entry → Type 0
IsNoted n None = ⊥
IsNoted n (Some e) = (e.bucket ≡ n.bucket) × (e.key ≡ n.key) × (e.size ≡ n.size) × (e.digest ≡ Some n.digest)

abbrev pub NamesItsVersion : Vault → Note → Type 0
NamesItsVersion v n = IsNoted n (entry_of v n.id)

-- the note's line has a number that a line may have
abbrev pub HasLine : Note → Type 0
HasLine n = IsTrue (is_line n.line)

-- a caller has no department, or one that is there
abbrev pub IsEmployed : Vault → Caller → Type 0
IsEmployed v c = IsTrue (passes_if_given (has_department v) c.dept)

-- the bucket's department is there
abbrev pub IsOwned : Vault → Bucket → Type 0
IsOwned v b = IsTrue (has_department v b.config.dept)

-- a bucket has no default, or one whose period is in its range
abbrev pub HasPeriod : Bucket → Type 0
HasPeriod b = IsTrue (has_period b.config.default)

-- a bucket has no rules, or a list that it may have
abbrev pub HasRuleSet : Bucket → Type 0
HasRuleSet b = IsTrue (passes_if_given is_rule_set b.rules)

-- the named records stand in the order of their names, and no name comes twice; nor does a line of a batch
pub record IsInNameOrder (v : Vault) : Type 0 where
  pub departments : IsAscending name_cmp v.departments
  pub callers : IsAscending caller_cmp v.callers
  pub buckets : IsAscending bucket_cmp v.buckets
  pub notes : IsAscending note_cmp v.notes

-- what holds of every vault that is kept
pub record Sound (v : Vault) : Type 0 where
  pub ids : AreIdsFrom 1 v.histories
  pub enough_ids : length v.histories ≤ most_ids
  pub order : AreInOrder 0 v.last v.histories
  pub in_time : AllByRecursion (IsInTime v.last) v.histories
  pub whole : AllByRecursion (IsWhole v.external) v.histories
  pub placed : AllByRecursion (IsPlaced v) v.histories
  pub within : (dept : List ℕ) → admitted_bytes v dept + received_bytes v dept ≤ quota
  pub tenured : AllByRecursion (HasTenures v) v.histories
  pub enough_moves : v.moves ≤ most_moves
  pub ordered : IsInNameOrder v
  pub employed : AllByRecursion (IsEmployed v) v.callers
  pub owned : AllByRecursion (IsOwned v) v.buckets
  pub periods : AllByRecursion HasPeriod v.buckets
  pub rule_sets : AllByRecursion HasRuleSet v.buckets
  pub lines : AllByRecursion HasLine v.notes
  pub notes : AllByRecursion (NamesItsVersion v) v.notes

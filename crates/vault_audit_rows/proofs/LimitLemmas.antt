-- The records of a vault that tables keep are in their limits.
use Rattle.std.proofs.Common.{◌≡◌, inl, inr, ℕ, ◌+◌, ◌≤◌, List, [], ◌∷◌, ◌++◌, length, map, filter, flat_map, Bool, true, false, cond, Some, None, Option, IfSome, IsTrue, refl, sym, subst, arith}
use Rattle.std.specs.List.{AllByRecursion, list_any}
use Rattle.std.specs.Str.{bytes_eq}
use Rattle.std.proofs.lemmas.Bool.{or_cases}
use Rattle.std.proofs.lemmas.Slice.Eq.{bytes_eq-Decides}
use Rattle.vault_base.specs.declared.content.Content.{Content}
use Rattle.vault_base.specs.declared.content.Content.TheVariants.{Inside, External}
use Rattle.vault_base.specs.Days.{last_moment}
use Rattle.vault_base.specs.Limits.{most_content, most_external, most_moves, most_settings}
use Rattle.vault_base.specs.Name.{is_version_id}
use Rattle.vault_rules.specs.declared.rule.Rule.{Rule}
use Rattle.vault_core_model.specs.Sound.{most_bytes, LiesBetween, IsInTime, FollowOn, end_of, AreTenures, HasTenuresAs, HasTenures, HasItsContent, IsWholeAs, IsWhole, AreIdsFrom, AreInOrder}
use Rattle.vault_core_model.specs.Vault.{Vault, has_department}
use Rattle.vault_core_model.specs.declared.records.Bucket.{Bucket}
use Rattle.vault_core_model.specs.declared.records.Entry.{Entry}
use Rattle.vault_core_model.specs.declared.records.History.{History}
use Rattle.vault_core_model.specs.declared.records.Note.{Note}
use Rattle.vault_core_model.specs.declared.records.Removal.{Removal}
use Rattle.vault_core_model.specs.declared.records.Setting.{Setting}
use Rattle.vault_core_model.specs.declared.records.Tenure.{Tenure}
use Rattle.vault_audit_model.specs.Limits.{IsPlainName, IsBucketName, IsBucket, IsRule, AreRules, IsEntry, IsNote, IsHistory, IsSetting, IsTenure, IsRuleRow, IsContentRow, IsSettingRow, IsTenureRow, IsExternalRow}
use Rattle.vault_audit_model.specs.Relations.{AreTenuresInLimits, AreNumbered}
use Rattle.vault_audit_model.specs.declared.schema.SchemaVersion.{SchemaVersion}
use Rattle.vault_audit_model.specs.Spells.{IsKeptAs, rules_from, rules_if_given, rules_in, content_if_given, contents_in, external_if_given, external_in, settings_from, settings_in, tenures_in, tenure_at}
use Rattle.vault_audit_model.proofs.ListLemmas.{all_as, all_both}
use Rattle.vault_audit_rows.proofs.ColumnLemmas.{few, sized_wider}

-- ---- lists

module _ {A : Type 0} (P : A → Type 0) where
  pub all_after : (xs ys : List A) → AllByRecursion P xs → AllByRecursion P ys → AllByRecursion P (xs ++ ys)
  all_after [] ys p q = q
  all_after (x ∷ xs) ys p q = (p.0, all_after xs ys p.1 q)

  pub all_filtered : (test : A → Bool) (xs : List A) → AllByRecursion P xs → AllByRecursion P (filter test xs)
  all_filtered test [] all = tt
  all_filtered test (x ∷ xs) all = elim (test x) as (λ b. AllByRecursion P (cond b (x ∷ filter test xs) (filter test xs))) [
    | true ↦ (all.0, all_filtered test xs all.1)
    | false ↦ all_filtered test xs all.1
  ]

module _ {A B : Type 0} (P : B → Type 0) where
  pub all_mapped : (f : A → B) (xs : List A) → AllByRecursion (λ x. P (f x)) xs → AllByRecursion P (map f xs)
  all_mapped f [] all = tt
  all_mapped f (x ∷ xs) all = (all.0, all_mapped f xs all.1)

  pub all_flat : (f : A → List B) (xs : List A) → AllByRecursion (λ x. AllByRecursion P (f x)) xs → AllByRecursion P (flat_map f xs)
  all_flat f [] all = tt
  all_flat f (x ∷ xs) all = all_after P (f x) (flat_map f xs) all.0 (all_flat f xs all.1)

-- ---- rules

placed_rules : (bucket : List ℕ) (place : ℕ) (rules : List Rule) → IsBucketName bucket → 1 ≤ place → place + length rules ≤ 1001 → AllByRecursion IsRule rules → AllByRecursion IsRuleRow (rules_from bucket place rules)
placed_rules bucket place [] name low high all = tt
placed_rules bucket place (r ∷ rs) name low high all =
    (record { bucket = name; place = (low, omega (arith, high)); rule = all.0 }, placed_rules bucket (place + 1) rs name (omega (arith, low)) (omega (arith, high)) all.1)

given_rules : (bucket : List ℕ) (rules : Option (List Rule)) → IsBucketName bucket → IfSome rules AreRules → AllByRecursion IsRuleRow (rules_if_given bucket rules)
given_rules bucket None name are = tt
given_rules bucket (Some rules) name are = let most = few rules are.0 in placed_rules bucket 1 rules name (omega arith) (omega (arith, most)) are.1

-- ---- histories

sized : (marker external : Bool) (e : Entry) (removal : Option Removal) (bytes : List ℕ) (settings : List Setting) → e.removal ≡ removal → IsWholeAs marker external e (Some (Inside bytes)) settings → length bytes ≤ most_content
sized true external e removal bytes settings is h = absurd (let none = h.2 in cc)
sized false external e None bytes settings is h =
    let its = subst (λ r. HasItsContent r (Some (Inside bytes)) e) is h.1 in
    let small : e.size ≤ most_content = h.0.0 in omega (arith, small, its.0)
sized false external e (Some r) bytes settings is h = elim (subst (λ r. HasItsContent r (Some (Inside bytes)) e) is h.1) [ ]

given_content : (id : ℕ) (content : Option Content) → IsTrue (is_version_id id) → ((bytes : List ℕ) → content ≡ Some (Inside bytes) → length bytes ≤ most_content) → AllByRecursion IsContentRow (content_if_given id content)
given_content id None is small = tt
given_content id (Some (Inside bytes)) is small = (record { id = is; size = small bytes refl }, tt)
given_content id (Some (External r)) is small = tt

given_external : (id : ℕ) (content : Option Content) → IsTrue (is_version_id id) → AllByRecursion IsExternalRow (external_if_given id content)
given_external id None is = tt
given_external id (Some (Inside bytes)) is = tt
given_external id (Some (External r)) is = (is, tt)

content_rows : (external : Bool) (h : History) → IsHistory external h × IsWhole external h → AllByRecursion IsContentRow (contents_in h)
content_rows external h (is, whole) =
    given_content h.entry.id h.content is.entry.id (λ bytes same. sized h.entry.marker external h.entry h.entry.removal bytes h.settings refl (subst (λ c. IsWholeAs h.entry.marker external h.entry c h.settings) same whole))

most : (marker external : Bool) (e : Entry) (content : Option Content) (settings : List Setting) → IsWholeAs marker external e content settings → length settings ≤ most_settings
most true external e content settings h = subst (λ s. length s ≤ most_settings) (sym h.3) (omega arith)
most false external e content settings h = h.3

pub most_of : (external : Bool) (h : History) → IsWhole external h → length h.settings ≤ most_settings
most_of external h whole = most h.entry.marker external h.entry h.content h.settings whole

placed_settings : (id place : ℕ) (settings : List Setting) → IsTrue (is_version_id id) → 1 ≤ place → place + length settings ≤ most_settings + 1 → AllByRecursion IsSetting settings → AllByRecursion IsSettingRow (settings_from id place settings)
placed_settings id place [] is low high all = tt
placed_settings id place (s ∷ ss) is low high all =
    (record { id = is; place = (low, omega (arith, high)); setting = all.0 }, placed_settings id (place + 1) ss is (omega (arith, low)) (omega (arith, high)) all.1)

setting_rows : (external : Bool) (h : History) → IsHistory external h × IsWhole external h → AllByRecursion IsSettingRow (settings_in h)
setting_rows external h (is, whole) =
    let count = most_of external h whole in
    placed_settings h.entry.id 1 h.settings is.entry.id (omega arith) (omega (arith, count)) is.settings

-- ---- tenures

-- the name of a department that is there is plain, as all are
plain_among : (name : List ℕ) (departments : List (List ℕ)) → AllByRecursion IsPlainName departments → IsTrue (list_any (λ d. bytes_eq d name) departments) → IsPlainName name
plain_among name [] all is = absurd (cc is)
plain_among name (d ∷ ds) all is = elim (or_cases (bytes_eq d name) (list_any (λ d. bytes_eq d name) ds) is) [
  | inl same ↦ subst IsPlainName ((bytes_eq-Decides d name).0 same) all.0
  | inr later ↦ plain_among name ds all.1 later
]

by_last_moment : (admitted last : ℕ) (removal : Option Removal) → last ≤ last_moment → LiesBetween admitted last removal → end_of last removal ≤ last_moment
by_last_moment admitted last None low between = low
by_last_moment admitted last (Some r) low between = let by = between.1 in omega (arith, low, by)

-- one tenure begins by the end, and those after it are in their limits
followed : (v : Vault) (end : ℕ) (t : Tenure) (ts : List Tenure) → AllByRecursion IsPlainName v.departments → end ≤ last_moment → v.moves ≤ most_moves
    → FollowOn v.moves end t ts → AllByRecursion (λ u. IsTrue (has_department v u.dept)) ts → (t.from ≤ last_moment) × AllByRecursion IsTenure ts
followed v end t [] names low few follow there = (omega (arith, low, follow), tt)
followed v end t (u ∷ us) names low few follow there =
    let more = followed v end u us names low few follow.4 there.1 in
    let rising = follow.2 in
    let number = follow.1 in
    (let from = more.0 in omega (arith, rising, from), (record { dept = plain_among u.dept v.departments names there.0; from = more.0; number = omega (arith, number, few) }, more.1))

within : (v : Vault) (e : Entry) (ts : List Tenure) → AllByRecursion IsPlainName v.departments → end_of v.last e.removal ≤ last_moment → v.moves ≤ most_moves
    → AreTenures v e ts → AllByRecursion (λ u. IsTrue (has_department v u.dept)) ts → AllByRecursion IsTenure ts
within v e [] names low few are there = tt
within v e (t ∷ ts) names low few are there =
    let more = followed v (end_of v.last e.removal) t ts names low few are.2 there.1 in
    (record { dept = plain_among t.dept v.departments names there.0; from = more.0; number = omega (arith, are.0) }, more.1)

within_as : (marker : Bool) (v : Vault) (h : History) → AllByRecursion IsPlainName v.departments → end_of v.last h.entry.removal ≤ last_moment → v.moves ≤ most_moves → HasTenuresAs marker v h → AreTenuresInLimits h
within_as true v h names low few has = subst (AllByRecursion IsTenure) (sym has) tt
within_as false v h names low few has = within v h.entry h.tenures names low few has.0 has.1

tenure_rows : (external : Bool) (h : History) → IsHistory external h × AreTenuresInLimits h → AllByRecursion IsTenureRow (tenures_in h)
tenure_rows external h (is, are) = all_mapped IsTenureRow (tenure_at h.entry.id) h.tenures (all_as (λ t its. record { id = is.entry.id; tenure = its }) h.tenures are)

pub numbers_of : (external : Bool) (next low last : ℕ) (hs : List History) → AreIdsFrom next hs → AreInOrder low last hs → AllByRecursion (IsHistory external) hs → AreNumbered external next low (map (λ h. h.entry) hs)
numbers_of external next low last [] ids order all = tt
numbers_of external next low last (h ∷ hs) ids order all = ((all.0.entry, (ids.0, order.0)), numbers_of external (next + 1) h.entry.admitted last hs ids.1 order.1 all.1)

-- ---- the wider limits of a vault that registers contents that are kept outside

pub entry_wider : (external : Bool) (e : Entry) → IsEntry external e → IsEntry true e
entry_wider external e is =
    record { id = is.id; bucket = is.bucket; key = is.key; sized = sized_wider e.marker external e.size e.digest is.sized; admitted = is.admitted; by = is.by; removal = is.removal }

size_wider : (external : Bool) (size : ℕ) → size ≤ most_bytes external None → size ≤ most_external
size_wider true size low = low
size_wider false size low = omega (arith, low)

pub note_wider : (external : Bool) (n : Note) → IsNote external n → IsNote true n
note_wider external n is =
    record { bucket = is.bucket; batch = is.batch; line = is.line; key = is.key; size = size_wider external n.size is.size; digest = is.digest; retention = is.retention; id = is.id }

-- ---- of a vault that tables keep

module _ {n : SchemaVersion} (v : Vault) (kept : IsKeptAs n v) where
  pub wholes : AllByRecursion (λ h. IsHistory v.external h × IsWhole v.external h) v.histories
  wholes = all_both (IsHistory v.external) (IsWhole v.external) v.histories kept.limits.histories kept.sound.whole

  pub tenured : AllByRecursion AreTenuresInLimits v.histories
  tenured =
      all_as (λ (h : History) (is : IsInTime v.last h × HasTenures v h).
      within_as h.entry.marker v h kept.limits.departments (by_last_moment h.entry.admitted v.last h.entry.removal kept.limits.last is.0) kept.sound.enough_moves is.1)
      v.histories (all_both (IsInTime v.last) (HasTenures v) v.histories kept.sound.in_time kept.sound.tenured)

  pub contents_limited : AllByRecursion IsContentRow (flat_map contents_in v.histories)
  contents_limited = all_flat IsContentRow contents_in v.histories (all_as (content_rows v.external) v.histories wholes)

  pub external_limited : AllByRecursion IsExternalRow (flat_map external_in v.histories)
  external_limited = all_flat IsExternalRow external_in v.histories (all_as (λ (h : History) (is : IsHistory v.external h). given_external h.entry.id h.content is.entry.id) v.histories kept.limits.histories)

  pub settings_limited : AllByRecursion (λ h. AllByRecursion IsSettingRow (settings_in h)) v.histories
  settings_limited = all_as (setting_rows v.external) v.histories wholes

  pub tenures_limited : AllByRecursion (λ h. AllByRecursion IsTenureRow (tenures_in h)) v.histories
  tenures_limited = all_as (tenure_rows v.external) v.histories (all_both (IsHistory v.external) AreTenuresInLimits v.histories kept.limits.histories tenured)

  pub rules_limited : AllByRecursion (λ b. AllByRecursion IsRuleRow (rules_in b)) v.buckets
  rules_limited = all_as (λ (b : Bucket) (is : IsBucket b). given_rules b.name b.rules is.name is.rules) v.buckets kept.limits.buckets

-- The rows that the ordered reads find of a vault are in their limits.
use Rattle.std.proofs.Common.{ℕ, ◌≤◌, List, [], ◌∷◌, length, map, filter, take, reverse, Some, None, Option, option_to_list, IfSome, IsTrue, ◌==◌, not, Ordering, Less, Equal, Greater, nat_cmp, refl, sym, subst, ◌∙◌, arith}
use Rattle.std.specs.Prelude.{option_map}
use Rattle.std.specs.List.{AllByRecursion}
use Rattle.std.specs.Cmp.Lexicographic.{slice_cmp}
use Rattle.std.specs.Str.{bytes_eq}
use Rattle.sqlite_keyed.proofs.ListLemmas.{map-map}
use Rattle.sqlite_value.specs.Order.{Row}
use Rattle.vault_base.specs.Limits.{most_settings}
use Rattle.vault_base.specs.Name.{is_version_id}
use Rattle.vault_core_model.specs.Places.{is_held_at, is_held_in, comes_after, held_at, keys_of, key_set, with_key, with_key_by}
use Rattle.vault_core_model.specs.Reads.{buckets_after, entries_of, head_over, held_of, ids_before, is_older, keys_after, last_setting, setting_of}
use Rattle.vault_core_model.specs.Sound.{IsWhole}
use Rattle.vault_core_model.specs.Vault.{Vault, history_of, bucket_in, last_lock}
use Rattle.vault_core_model.specs.declared.records.Bucket.{Bucket}
use Rattle.vault_core_model.specs.declared.records.Head.{Head}
use Rattle.vault_core_model.specs.declared.records.History.{History}
use Rattle.vault_core_model.specs.declared.records.Setting.{Setting}
use Rattle.vault_audit_model.specs.Limits.{IsBucket, IsBucketName, IsHistory, IsObjectKey, IsRetention, IsRuleRow, IsSetting, IsSettingRow, IsTenureRow}
use Rattle.vault_audit_model.specs.Rows.{rule_row, setting_row, tenure_row}
use Rattle.vault_audit_model.specs.Spells.{IsKept, rules_in, settings_in, tenures_in}
use Rattle.vault_audit_model.proofs.ListLemmas.{all_as}
use Rattle.vault_audit_rows.specs.Records.{ReportsOne}
use Rattle.vault_store_reads.specs.Readable.{AreReadable, IsHeldRow, IsLastSetting}
use Rattle.vault_store_reads.specs.Shown.{entry_shown, held_row, id_row, ids_at, key_row, last_row, name_row, newest_but, without_lock}
use Rattle.vault_store_reads.proofs.LimitLemmas.{all_given, all_last, all_part, all_reversed, all_taken}
use Rattle.vault_store_reads.proofs.OrderedListLemmas.{last, part_of}
use Rattle.vault_store_reads.proofs.WiderLemmas.{small}
use Rattle.vault_audit_rows.proofs.LimitLemmas.{all_filtered, all_mapped, most_of, rules_limited, settings_limited, tenures_limited, wholes}

pub reported : {X : Type 0} (row_of : X → Row) (Is : X → Type 0) (xs : List X) → AllByRecursion Is xs → AreReadable row_of Is (map row_of xs)
reported row_of Is [] all = tt
reported row_of Is (x ∷ xs) all = ((x, refl, all.0), reported row_of Is xs all.1)

-- ---- the last setting

last_limited : (s : Setting) (ss : List Setting) → AllByRecursion IsSetting (s ∷ ss) → IfSome (last_lock (s ∷ ss)).retention IsRetention
last_limited s [] all = all.0.retention
last_limited s (t ∷ ts) all = last_limited t ts all.1

by_settings : (ss : List Setting) → AllByRecursion IsSetting ss → length ss ≤ most_settings → AllByRecursion IsLastSetting (option_to_list (last_setting ss))
by_settings [] all few = tt
by_settings (s ∷ ss) all few = (record { count = (omega arith, few); retention = last_limited s ss all }, tt)

-- ---- keys

with_by : (o : Ordering) (k x : List ℕ) (xs with_k : List (List ℕ)) → IsObjectKey k → AllByRecursion IsObjectKey (x ∷ xs) → AllByRecursion IsObjectKey with_k → AllByRecursion IsObjectKey (with_key_by o k x xs with_k)
with_by Less k x xs with_k is all more = (is, all)
with_by Equal k x xs with_k is all more = all
with_by Greater k x xs with_k is all more = (all.0, more)

with_all : (k : List ℕ) (ks : List (List ℕ)) → IsObjectKey k → AllByRecursion IsObjectKey ks → AllByRecursion IsObjectKey (with_key k ks)
with_all k [] is all = (is, tt)
with_all k (x ∷ xs) is all = with_by (slice_cmp nat_cmp k x) k x xs (with_key k xs) is all (with_all k xs is all.1)

keys_all : (ks : List (List ℕ)) → AllByRecursion IsObjectKey ks → AllByRecursion IsObjectKey (key_set ks)
keys_all [] all = tt
keys_all (k ∷ ks) all = with_all k (key_set ks) all.0 (keys_all ks all.1)

-- ---- heads

abbrev HasId : Head → Type 0
HasId head = IsTrue (is_version_id head.newest)

abbrev head_with : ℕ → Head → Head
head_with n x = record { newest = x.newest; count = n }

counted_too : (n : ℕ) (o : Option Head) → AllByRecursion HasId (option_to_list o) → AllByRecursion HasId (option_to_list (option_map (head_with n) o))
counted_too n None all = tt
counted_too n (Some x) all = all

head_ids : (hs : List History) → AllByRecursion (λ h. IsTrue (is_version_id h.entry.id)) hs → AllByRecursion HasId (option_to_list (head_over hs))
head_ids [] all = tt
head_ids (h ∷ []) all = (all.0, tt)
head_ids (h ∷ g ∷ gs) all = counted_too (length (h ∷ g ∷ gs)) (head_over (g ∷ gs)) (head_ids (g ∷ gs) all.1)

newest_ids : (o : Option Head) → AllByRecursion HasId (option_to_list o) → AllByRecursion (λ id. IsTrue (is_version_id id)) (option_to_list (option_map (λ (head : Head). head.newest) o))
newest_ids None all = tt
newest_ids (Some x) all = all

-- ---- the rows

module _ (v : Vault) (kept : IsKept v) where
  pub setting_readable : (id : ℕ) → AreReadable last_row IsLastSetting (map last_row (option_to_list (setting_of v id)))
  setting_readable id =
      reported last_row IsLastSetting (option_to_list (setting_of v id))
      (all_given IsLastSetting (λ (h : History). last_setting h.settings) (λ (h : History). h.entry.id == id) v.histories
      (all_as (λ (h : History) (its : IsHistory v.external h × IsWhole v.external h). by_settings h.settings its.0.settings (most_of v.external h its.1)) v.histories (wholes v kept)))

  pub settings_readable : (id : ℕ) → AreReadable setting_row IsSettingRow (map setting_row (part_of settings_in (history_of v id)))
  settings_readable id = reported setting_row IsSettingRow _ (all_part IsSettingRow settings_in (λ (h : History). h.entry.id == id) v.histories (settings_limited v kept))

  pub tenures_readable : (id : ℕ) → AreReadable tenure_row IsTenureRow (map tenure_row (part_of tenures_in (history_of v id)))
  tenures_readable id = reported tenure_row IsTenureRow _ (all_part IsTenureRow tenures_in (λ (h : History). h.entry.id == id) v.histories (tenures_limited v kept))

  pub last_tenure_readable : (id : ℕ) → AreReadable tenure_row IsTenureRow (map tenure_row (option_to_list (last (part_of tenures_in (history_of v id)))))
  last_tenure_readable id =
      reported tenure_row IsTenureRow _ (all_last IsTenureRow (part_of tenures_in (history_of v id)) (all_part IsTenureRow tenures_in (λ (h : History). h.entry.id == id) v.histories (tenures_limited v kept)))

  pub rules_readable : (bucket : List ℕ) → AreReadable rule_row IsRuleRow (map rule_row (part_of rules_in (bucket_in v.buckets bucket)))
  rules_readable bucket = reported rule_row IsRuleRow _ (all_part IsRuleRow rules_in (λ (b : Bucket). bytes_eq b.name bucket) v.buckets (rules_limited v kept))

  pub held_readable : (bucket key : List ℕ) (most : ℕ) → AreReadable held_row IsHeldRow (take most (reverse (map entry_shown (entries_of v bucket key))))
  held_readable bucket key most =
      let here = all_filtered (IsHistory v.external) (λ h. is_held_at bucket key h.entry) v.histories kept.limits.histories in
      let each = all_as (λ (h : History) (is : IsHistory v.external h). record { id = is.entry.id; size = small v.external h is; admitted = is.entry.admitted }) (held_at v bucket key) here in
      let bare = all_mapped IsHeldRow (λ (h : History). without_lock (held_of h)) (held_at v bucket key) each in
      let rows : AreReadable held_row IsHeldRow (map entry_shown (entries_of v bucket key)) =
      subst (AreReadable held_row IsHeldRow) (map-map held_row (λ (h : History). without_lock (held_of h)) (held_at v bucket key) ∙ sym (map-map entry_shown held_of (held_at v bucket key))) (reported held_row IsHeldRow _ bare) in
      all_taken (ReportsOne held_row IsHeldRow) most _ (all_reversed (ReportsOne held_row IsHeldRow) _ rows)

  pub keys_readable : (bucket after : List ℕ) (most : ℕ) → AreReadable key_row IsObjectKey (map key_row (keys_after v bucket after most))
  keys_readable bucket after most =
      let held = all_filtered (IsHistory v.external) (λ h. is_held_in bucket h.entry) v.histories kept.limits.histories in
      let keys = all_mapped IsObjectKey (λ (h : History). h.entry.key) _ (all_as (λ (h : History) (is : IsHistory v.external h). is.entry.key) _ held) in
      reported key_row IsObjectKey _ (all_taken IsObjectKey most _ (all_filtered IsObjectKey (λ k. comes_after k after) (keys_of v bucket) (keys_all _ keys)))

  pub newest_readable : (bucket key : List ℕ) (id : ℕ) → AreReadable id_row (λ n. IsTrue (is_version_id n)) (map id_row (option_to_list (newest_but v bucket key id)))
  newest_readable bucket key id =
      let here = all_filtered (IsHistory v.external) (λ h. is_held_at bucket key h.entry) v.histories kept.limits.histories in
      let others = all_filtered (IsHistory v.external) (λ h. not (h.entry.id == id)) (held_at v bucket key) here in
      reported id_row (λ n. IsTrue (is_version_id n)) _
      (newest_ids (head_over (filter (λ h. not (h.entry.id == id)) (held_at v bucket key))) (head_ids _ (all_as (λ (h : History) (is : IsHistory v.external h). is.entry.id) _ others)))

  ids_all : (bucket key : List ℕ) → AllByRecursion (λ n. IsTrue (is_version_id n)) (ids_at v bucket key)
  ids_all bucket key =
      let here = all_filtered (IsHistory v.external) (λ h. is_held_at bucket key h.entry) v.histories kept.limits.histories in
      let each = all_mapped (λ n. IsTrue (is_version_id n)) (λ (h : History). h.entry.id) (held_at v bucket key) (all_as (λ (h : History) (is : IsHistory v.external h). is.entry.id) (held_at v bucket key) here) in
      all_reversed (λ n. IsTrue (is_version_id n)) _ each

  pub ids_readable : (bucket key : List ℕ) (most : ℕ) → AreReadable id_row (λ n. IsTrue (is_version_id n)) (map id_row (take most (ids_at v bucket key)))
  ids_readable bucket key most = reported id_row (λ n. IsTrue (is_version_id n)) _ (all_taken (λ n. IsTrue (is_version_id n)) most _ (ids_all bucket key))

  pub older_readable : (bucket key : List ℕ) (than : Option ℕ) (most : ℕ) → AreReadable id_row (λ n. IsTrue (is_version_id n)) (map id_row (ids_before v bucket key than most))
  older_readable bucket key than most =
      reported id_row (λ n. IsTrue (is_version_id n)) _
      (all_taken (λ n. IsTrue (is_version_id n)) most _ (all_filtered (λ n. IsTrue (is_version_id n)) (is_older than) (ids_at v bucket key) (ids_all bucket key)))

  pub buckets_readable : (after : List ℕ) (most : ℕ) → AreReadable name_row IsBucketName (map name_row (buckets_after v after most))
  buckets_readable after most =
      let names = all_mapped IsBucketName (λ (b : Bucket). b.name) v.buckets (all_as (λ (b : Bucket) (is : IsBucket b). is.name) v.buckets kept.limits.buckets) in
      reported name_row IsBucketName _ (all_taken IsBucketName most _ (all_filtered IsBucketName (λ name. comes_after name after) (map (λ (b : Bucket). b.name) v.buckets) names))

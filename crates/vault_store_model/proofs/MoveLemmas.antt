-- The edits that move a bucket to another department.
use Rattle.std.proofs.Common.{◌≡◌, ℕ, ◌+◌, List, [], ◌∷◌, map, cond, true, false, Option, Some, refl, sym, ap, subst}
use Rattle.std.specs.Prelude.{if◌then◌else◌}
use Rattle.std.specs.Str.{bytes_eq}
use Rattle.std.proofs.lemmas.List.Sorted.{IsPermutation-refl}
use Rattle.std.proofs.lemmas.Slice.Eq.{bytes_eq-Decides}
use Rattle.sqlite_trees.proofs.ListLemmas.{IsPermutation-same}
use Rattle.sqlite_value.specs.Order.{Row}
use Rattle.vault_base.specs.declared.refusal.Table.TheVariants as table
use Rattle.vault_tally.specs.declared.row.Row.{Row as Sums}
use Rattle.vault_core_model.specs.declared.records.Bucket.{Bucket}
use Rattle.vault_core_model.specs.declared.records.BucketConfig.{BucketConfig}
use Rattle.vault_core_model.specs.declared.records.History.{History}
use Rattle.vault_core_model.specs.declared.records.Tenure.{Tenure}
use Rattle.vault_core_model.specs.declared.change.Change.TheVariants.{MoveBucket}
use Rattle.vault_core_model.specs.Allowed.{IsMove}
use Rattle.vault_core_model.specs.Change.{changed, with_department, tenured_by, tenured_if, next_tenure}
use Rattle.vault_core_model.specs.Places.{is_held_version_in}
use Rattle.vault_core_model.specs.Sound.{Sound}
use Rattle.vault_core_model.specs.Totals.{items_of}
use Rattle.vault_core_model.specs.Vault.{Vault}
use Rattle.vault_audit_model.specs.SchemaVersions.{number_of, edition_of}
use Rattle.vault_audit_model.specs.Rows.{department_row, bucket_row, rule_row, entry_row, content_row, setting_row}
use Rattle.vault_audit_model.specs.Spells.{bucket_of, rules_in, contents_in, external_in, settings_in, department_in, sums_over}
use Rattle.vault_store_model.specs.Rows.{rows_of}
use Rattle.vault_store_model.specs.Edits.{changed_if}
use Rattle.vault_store_model.specs.Tests.{is_named, with_owner, with_sums}
use Rattle.vault_store_model.specs.Changes.{edit_of, with_move}
use Rattle.vault_store_model.specs.Beside.{AreSameBesideHeads}
use Rattle.vault_store_model.proofs.CopyLemmas.{tenures_added}
use Rattle.vault_store_model.proofs.EntryLemmas.{texts_turned}
use Rattle.vault_store_model.proofs.ListLemmas.{map_rows, map_unread, flat_map_unread}
use Rattle.vault_store_model.proofs.MoveSums.{sums_left}
use Rattle.vault_store_model.proofs.SettingLemmas.{external_unread, next_kept}

-- ---- the bucket

owner_written : (name dept : List ℕ) (b : Bucket) → bucket_row (bucket_of (with_department name dept b)) ≡ changed_if (is_named name) (with_owner dept) (bucket_row (bucket_of b))
owner_written name dept b =
    elim (bytes_eq b.name name) as (λ x. bucket_row (bucket_of (if x then record b { config = record { dept = dept; default = b.config.default } } else b)) ≡ cond x (with_owner dept (bucket_row (bucket_of b))) (bucket_row (bucket_of b)))
    [ true ↦ refl | false ↦ refl ]

rules_kept : (name dept : List ℕ) (b : Bucket) → rules_in (with_department name dept b) ≡ rules_in b
rules_kept name dept b =
    elim (bytes_eq b.name name) as (λ x. rules_in (if x then record b { config = record { dept = dept; default = b.config.default } } else b) ≡ rules_in b) [ true ↦ refl | false ↦ refl ]

-- ---- what a tenure more doesn't touch

entry_kept : (name : List ℕ) (t : Tenure) (h : History) → entry_row (tenured_if name t h).entry ≡ entry_row h.entry
entry_kept name t h = elim (is_held_version_in name h.entry) as (λ b. entry_row (if b then tenured_by t h else h).entry ≡ entry_row h.entry) [ true ↦ refl | false ↦ refl ]

content_kept : (name : List ℕ) (t : Tenure) (h : History) → contents_in (tenured_if name t h) ≡ contents_in h
content_kept name t h = elim (is_held_version_in name h.entry) as (λ b. contents_in (if b then tenured_by t h else h) ≡ contents_in h) [ true ↦ refl | false ↦ refl ]

external_kept : (name : List ℕ) (t : Tenure) (h : History) → external_in (tenured_if name t h) ≡ external_in h
external_kept name t h = elim (is_held_version_in name h.entry) as (λ b. external_in (if b then tenured_by t h else h) ≡ external_in h) [ true ↦ refl | false ↦ refl ]

settings_kept : (name : List ℕ) (t : Tenure) (h : History) → settings_in (tenured_if name t h) ≡ settings_in h
settings_kept name t h = elim (is_held_version_in name h.entry) as (λ b. settings_in (if b then tenured_by t h else h) ≡ settings_in h) [ true ↦ refl | false ↦ refl ]

-- ---- the sums of the two departments

-- a department but these two has the sums that it had
abbrev HasOwnSums : Vault → Vault → List ℕ → List ℕ → List ℕ → Type 0
HasOwnSums v w owner dept d = bytes_eq d owner ≡ false → bytes_eq d dept ≡ false → sums_over (items_of w d) ≡ sums_over (items_of v d)

-- the row of a department, where the sums of the first are written, and then those of the second
abbrev written : Vault → Vault → List ℕ → List ℕ → List ℕ → Row
written v w owner dept d =
    changed_if (is_named dept) (with_sums (department_in w dept).sums) (changed_if (is_named owner) (with_sums (department_in w owner).sums) (department_row (department_in v d)))

-- those of the second are what stands, whatever stood there
second_written : (v w : Vault) (owner dept d : List ℕ) (sums : Sums) → (bytes_eq d dept ≡ false → department_row (department_in w d) ≡ department_row (record { name = d; sums = sums }))
    → department_row (department_in w d) ≡ changed_if (is_named dept) (with_sums (department_in w dept).sums) (department_row (record { name = d; sums = sums }))
second_written v w owner dept d sums others =
    let row = department_row (record { name = d; sums = sums }) in
    elim (bytes_eq d dept) as (λ b. bytes_eq d dept ≡ b → department_row (department_in w d) ≡ cond b (with_sums (department_in w dept).sums row) row) [
      | true ↦ λ here. ap (λ n. with_sums (department_in w n).sums row) ((bytes_eq-Decides d dept).0 here)
      | false ↦ λ other. others other
    ] refl

one_written : (v w : Vault) (owner dept d : List ℕ) → HasOwnSums v w owner dept d → department_row (department_in w d) ≡ written v w owner dept d
one_written v w owner dept d others =
    let row = department_row (department_in v d) in
    elim (bytes_eq d owner) as (λ b. bytes_eq d owner ≡ b → department_row (department_in w d) ≡ changed_if (is_named dept) (with_sums (department_in w dept).sums) (cond b (with_sums (department_in w owner).sums row) row)) [
      | true ↦ λ here. second_written v w owner dept d (department_in w owner).sums (λ _. ap (λ n. department_row (record { name = d; sums = (department_in w n).sums })) ((bytes_eq-Decides d owner).0 here))
      | false ↦ λ other. second_written v w owner dept d (department_in v d).sums (λ apart. ap (λ (s : Sums). department_row (record { name = d; sums = s })) (others other apart))
    ] refl

all_written : (v w : Vault) (owner dept : List ℕ) (ds : List (List ℕ)) → ((d : List ℕ) → HasOwnSums v w owner dept d)
    → map (λ d. department_row (department_in w d)) ds
    ≡ map (changed_if (is_named dept) (with_sums (department_in w dept).sums)) (map (changed_if (is_named owner) (with_sums (department_in w owner).sums)) (map (λ d. department_row (department_in v d)) ds))
all_written v w owner dept [] others = refl
all_written v w owner dept (d ∷ ds) others =
    one (department_row (department_in w d)) (written v w owner dept d) (map (λ n. department_row (department_in w n)) ds) _ (one_written v w owner dept d (others d)) (all_written v w owner dept ds others)
  where
    one : (x y : Row) (xs ys : List Row) → x ≡ y → xs ≡ ys → x ∷ xs ≡ y ∷ ys
    one x y xs ys e es = cc (e, es)

-- ---- the change

moved : (v : Vault) (t : ℕ) (name dept : List ℕ) → Sound v → (is : IsMove v name dept)
    → AreSameBesideHeads (rows_of (changed v t (MoveBucket name dept))) (with_move v (changed v t (MoveBucket name dept)) t name dept (Some is.bucket) (rows_of v))
moved v t name dept sound is table.Meta beside = IsPermutation-same _ _ (ap (λ row. row ∷ []) (next_kept (number_of (edition_of v.external)) t (v.moves + 1) (tenured_if name (next_tenure v t dept)) v.histories))
moved v t name dept sound is table.Departments beside =
    IsPermutation-same _ _ (all_written v (changed v t (MoveBucket name dept)) is.bucket.dept dept v.departments
    (λ d not_owner not_new. sums_left v t name dept sound is d (texts_turned d is.bucket.dept false not_owner) (texts_turned d dept false not_new)))
moved v t name dept sound is table.Buckets beside =
    IsPermutation-same _ _ (map_rows (λ b. bucket_row (bucket_of b)) (with_department name dept) (changed_if (is_named name) (with_owner dept)) (owner_written name dept) v.buckets)
moved v t name dept sound is table.Rules beside = IsPermutation-same _ _ (ap (map rule_row) (flat_map_unread rules_in (with_department name dept) (rules_kept name dept) v.buckets))
moved v t name dept sound is table.Entries beside =
    IsPermutation-same _ _ (map_unread (λ h. entry_row h.entry) (tenured_if name (next_tenure v t dept)) (entry_kept name (next_tenure v t dept)) v.histories)
moved v t name dept sound is table.Contents beside =
    IsPermutation-same _ _ (ap (map content_row) (flat_map_unread contents_in (tenured_if name (next_tenure v t dept)) (content_kept name (next_tenure v t dept)) v.histories))
moved v t name dept sound is table.External beside =
    IsPermutation-same _ _ (external_unread (edition_of v.external) (tenured_if name (next_tenure v t dept)) (external_kept name (next_tenure v t dept)) v.histories)
moved v t name dept sound is table.Settings beside =
    IsPermutation-same _ _ (ap (map setting_row) (flat_map_unread settings_in (tenured_if name (next_tenure v t dept)) (settings_kept name (next_tenure v t dept)) v.histories))
moved v t name dept sound is table.Tenures beside = tenures_added name (next_tenure v t dept) v.histories
moved v t name dept sound is table.Heads beside = absurd (cc beside)
moved v t name dept sound is _ beside = IsPermutation-refl _

pub bucket_moved : (v : Vault) (t : ℕ) (name dept : List ℕ) → Sound v → IsMove v name dept → AreSameBesideHeads (rows_of (changed v t (MoveBucket name dept))) (edit_of v t (MoveBucket name dept) (rows_of v))
bucket_moved v t name dept sound is =
    subst (λ (o : Option BucketConfig). AreSameBesideHeads (rows_of (changed v t (MoveBucket name dept))) (with_move v (changed v t (MoveBucket name dept)) t name dept o (rows_of v)))
    (sym is.there) (moved v t name dept sound is)

-- Where no bucket was moved, buckets and entries state the tenures.
use Rattle.std.proofs.Common.{◌≡◌, ◌≤◌, ◌+◌, ℕ, Bool, true, false, List, [], ◌∷◌, map, Option, Some, None, option_map, IfSome, IsSome, refl, sym, ap, arith}
use Rattle.std.specs.List.{AllByRecursion}
use Rattle.std.specs.Str.{bytes_eq}
use Rattle.std.proofs.lemmas.List.Sorted.{IsPermutation-refl}
use Rattle.sqlite_trees.proofs.ListLemmas.{map-map}
use Rattle.sqlite_value.specs.Order.{Row}
use Rattle.sqlite.specs.Effect.{Database}
use Rattle.sqlite.proofs.Callers.{one_permutation}
use Rattle.vault_base.specs.Days.{last_moment}
use Rattle.vault_core_model.specs.declared.records.Bucket.{Bucket}
use Rattle.vault_core_model.specs.declared.records.BucketConfig.{BucketConfig}
use Rattle.vault_core_model.specs.declared.records.History.{History}
use Rattle.vault_core_model.specs.declared.records.Removal.{Removal}
use Rattle.vault_core_model.specs.Sound.{IsPlaced, IsWithBucket, LiesBetween, end_of}
use Rattle.vault_core_model.specs.Vault.{Vault, bucket_in, config_in, config_of}
use Rattle.vault_audit_model.specs.declared.rows.MetaRow.{MetaRow}
use Rattle.vault_audit_model.specs.declared.schema.SchemaVersion.TheVariants.{First, Second}
use Rattle.vault_audit_model.specs.Limits.{IsBucket, IsPlainName, IsTenure}
use Rattle.vault_audit_model.specs.Relations.{AreNumbered, AreTenuresInLimits, IsPast, IsTenured, IsTenuredAs, DecidesTenures}
use Rattle.vault_audit_model.specs.Rows.{meta_row, meta_columns_as}
use Rattle.vault_audit_model.specs.Spells.{entries_in}
use Rattle.vault_audit_model.specs.Tables.{meta_tree}
use Rattle.vault_audit_model.specs.Tenures.{HasFirstTenures, IsUnmoved, first_tenures, tenured_in}
use Rattle.vault_audit_model.proofs.SameRows.{cell, number_same}
use Rattle.vault_audit_records.specs.Meta.{IsMetaOf}
use Rattle.vault_audit_tenures.proofs.HistoryLemmas.{tenured_alike}
use Rattle.vault_audit_tenures.proofs.OwnedEntryLemmas.{first_holds}

-- ---- the row of meta

nothing_counted : (m : MetaRow) (rows : List Row) → map (meta_columns_as First) rows ≡ meta_row m ∷ [] → m.moves ≡ 0
nothing_counted m [] e = absurd cc
nothing_counted m (r ∷ rows) e =
    let first : meta_columns_as First r ≡ meta_row m = cc in
    sym (number_same 0 m.moves (cell (meta_columns_as First r) (meta_row m) 4 first))

pub no_moves_of_first : (db : Database) (m : MetaRow) → IsMetaOf First db (Some m) → m.moves ≡ 0
no_moves_of_first db m is = nothing_counted m (db.trees meta_tree) (one_permutation (meta_row m) (map (meta_columns_as First) (db.trees meta_tree)) is.0)

pub no_moves_of_second : (db : Database) (m : MetaRow) → IsMetaOf Second db (Some m) → m.moves ≡ 0
no_moves_of_second db m is = nothing_counted m (db.trees meta_tree) (one_permutation (meta_row m) (map (meta_columns_as First) (db.trees meta_tree)) is.0)

-- ---- the first tenure of each version

abbrev IsNamed : Option BucketConfig → Type 0
IsNamed config = IfSome config (λ c. IsPlainName c.dept)

named : (bs : List Bucket) (name : List ℕ) → AllByRecursion IsBucket bs → IsNamed (config_in bs name)
named bs name all = of (bucket_in bs name) (first_holds IsBucket (λ b. bytes_eq b.name name) bs all)
  where
    of : (o : Option Bucket) → IfSome o IsBucket → IsNamed (option_map (λ (b : Bucket). b.config) o)
    of None is = tt
    of (Some b) is = is.config.dept

in_limits : (marker : Bool) (admitted : ℕ) (config : Option BucketConfig) → admitted ≤ last_moment → IsNamed config → AllByRecursion IsTenure (first_tenures marker admitted config)
in_limits true admitted config early is = tt
in_limits false admitted None early is = tt
in_limits false admitted (Some c) early is = (record { dept = is; from = early; number = omega arith }, tt)

by_end : (admitted last : ℕ) (removal : Option Removal) → admitted ≤ last → LiesBetween admitted last removal → admitted ≤ end_of last removal
by_end admitted last None past lies = past
by_end admitted last (Some r) past lies = lies.0

all_first : (bs : List Bucket) (hs : List History) → AllByRecursion (HasFirstTenures bs) (map (tenured_in bs) hs)
all_first bs [] = tt
all_first bs (h ∷ hs) = (refl, all_first bs hs)

all_in_limits : (external : Bool) (bs : List Bucket) (next low : ℕ) (hs : List History) → AllByRecursion IsBucket bs → AreNumbered external next low (entries_in hs) → AllByRecursion AreTenuresInLimits (map (tenured_in bs) hs)
all_in_limits external bs next low [] all are = tt
all_in_limits external bs next low (h ∷ hs) all are =
    (in_limits h.entry.marker h.entry.admitted (config_in bs h.entry.bucket) are.0.0.admitted (named bs h.entry.bucket all), all_in_limits external bs (next + 1) h.entry.admitted hs all are.1)

module _ (v : Vault) where
  with_bucket : (removal : Option Removal) (h : History) (c : BucketConfig) → config_of v h.entry.bucket ≡ Some c → IsWithBucket v removal (record h { tenures = first_tenures false h.entry.admitted (Some c) })
  with_bucket None h c is = sym (ap (option_map (λ (x : BucketConfig). x.dept)) is)
  with_bucket (Some r) h c is = tt

  has_first : (marker : Bool) (config : Option BucketConfig) (h : History) → config_of v h.entry.bucket ≡ config → IsSome config → IsPast v.last h.entry → IsTenuredAs marker v (record h { tenures = first_tenures marker h.entry.admitted config })
  has_first true config h is there past = refl
  has_first false None h is there past = absurd (cc there)
  has_first false (Some c) h is there past = ((refl, refl, by_end h.entry.admitted v.last h.entry.removal past.0 past.1), with_bucket h.entry.removal h c is)

  all_tenured : (hs : List History) → AllByRecursion (IsPast v.last) (entries_in hs) → AllByRecursion (IsPlaced v) hs → AllByRecursion (IsTenured v) (map (tenured_in v.buckets) hs)
  all_tenured [] past placed = tt
  all_tenured (h ∷ hs) past placed = (has_first h.entry.marker (config_of v h.entry.bucket) h refl placed.0 past.0, all_tenured hs past.1 placed.1)

  module _ (db : Database) (moves : v.moves ≡ 0) (buckets : AllByRecursion IsBucket v.buckets) (numbers : AreNumbered false 1 0 (entries_in v.histories)) (past : AllByRecursion (IsPast v.last) (entries_in v.histories)) (placed : AllByRecursion (IsPlaced v) v.histories) where
    abbrev made : List History
    made = map (tenured_in v.buckets) v.histories

    unmoved : IsUnmoved (record v { histories = made })
    unmoved = record { moves = moves; tenures = all_first v.buckets v.histories }

    pub stated_of_first : DecidesTenures First db v true
    stated_of_first = (
      made,
      (
        map-map (λ (h : History). h.entry) (tenured_in v.buckets) v.histories,
        record {
          rows = IsPermutation-refl [];
          unmoved = unmoved;
          limits = all_in_limits false v.buckets 1 0 v.histories buckets numbers;
          tenured = tenured_alike v v.histories made made (all_tenured v.histories past placed);
        },
      ),
    )

    pub stated_of_second : DecidesTenures Second db v true
    stated_of_second = (
      made,
      (
        map-map (λ (h : History). h.entry) (tenured_in v.buckets) v.histories,
        record {
          rows = IsPermutation-refl [];
          unmoved = unmoved;
          limits = all_in_limits false v.buckets 1 0 v.histories buckets numbers;
          tenured = tenured_alike v v.histories made made (all_tenured v.histories past placed);
        },
      ),
    )

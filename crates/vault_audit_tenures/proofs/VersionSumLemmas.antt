-- The walk over the entries that counts each in for its department.
use Rattle.std.proofs.Common.{◌≡◌, ℕ, ◌+◌, ◌≤◌, List, [], ◌∷◌, ◌++◌, map, cond, not, ◌&&◌, option_map, Bool, true, false, Option, Some, None, IfSome, IsTrue, IsPermutation, refl, sym, ap, ap₂, subst, ◌∙◌, arith, append_assoc, append-nil}
use Rattle.std.specs.List.{AllByRecursion}
use Rattle.std.specs.Str.{bytes_eq}
use Rattle.std.proofs.lemmas.List.Sorted.{IsPermutation-trans}
use Rattle.sqlite_value.specs.Order.{Row as Values}
use Rattle.sqlite_trees.proofs.ListLemmas.{all-permutation}
use Rattle.sqlite_keyed.proofs.SortLemmas.{sorted_unique}
use Rattle.sqlite.specs.Effect.{Database}
use Rattle.sqlite.specs.State.{State, IsUnchanged}
use Rattle.vault_base.specs.Days.{day, last_moment}
use Rattle.vault_tally.specs.Row.{Item, is_dated}
use Rattle.vault_tally.specs.declared.row.Row.{Row}
use Rattle.vault_core_model.specs.declared.records.Bucket.{Bucket}
use Rattle.vault_core_model.specs.declared.records.BucketConfig.{BucketConfig}
use Rattle.vault_core_model.specs.declared.records.Entry.{Entry}
use Rattle.vault_core_model.specs.declared.records.History.{History}
use Rattle.vault_core_model.specs.declared.records.Removal.{Removal}
use Rattle.vault_core_model.specs.declared.records.Tenure.{Tenure}
use Rattle.vault_core_model.specs.Sound.{LiesBetween, end_of}
use Rattle.vault_core_model.specs.Totals.{Share, share, removal_day, shares_from, shares_of, items_by, items_in}
use Rattle.vault_core_model.specs.Vault.{Vault, config_in}
use Rattle.vault_core_laws.proofs.Bounds.{dated}
use Rattle.vault_audit_model.specs.declared.schema.SchemaVersion.{SchemaVersion}
use Rattle.vault_audit_model.specs.Limits.{IsEntry, IsRemoval}
use Rattle.vault_audit_model.specs.Relations.{AreBuckets, AreEntries, AreNumbered, IsPast}
use Rattle.vault_audit_model.specs.Spells.{entries_in}
use Rattle.vault_audit_model.specs.Tables.{schema_of}
use Rattle.vault_audit_model.specs.Tenures.{HasFirstTenures, IsUnmoved, first_tenures}
use Rattle.vault_audit_rows.specs.Records.{ReportsOne}
use Rattle.vault_audit_rows.specs.Walk.{Goes, Walked}
use Rattle.vault_audit_rows.proofs.RecordLemmas.{between, front}
use Rattle.vault_audit_rows.proofs.ScanLemmas.{first_cmp, first_cmp_total, goes_on_to}
use Rattle.vault_audit_tenures.specs.declared.sums.owned_entries.OwnedEntry.{OwnedEntry}
use Rattle.vault_audit_tenures.specs.declared.sums.versions.SumPass.{SumPass}
use Rattle.vault_audit_tenures.specs.OwnedEntries.{owned_row, owned_in, IsOwned}
use Rattle.vault_audit_tenures.specs.Totals.{total_of, empty_sums, IsTotal, IsCounted, AreTotals}
use Rattle.vault_audit_tenures.specs.VersionSums.{item_stated, is_named, counts_for, items_where, items_stated, GoesIn, ReportsNone}
use Rattle.vault_audit_tenures.proofs.SumRowLemmas.{same_owned}
use Rattle.vault_audit_tenures.proofs.SumTextLemmas.{owned_text, owned_is}
use Rattle.vault_audit_tenures.proofs.OwnedEntryLemmas.{source, shown_are, owned_rise, answers, each_reads_so}
use Rattle.vault_audit_tenures.proofs.TotalLemmas.{no_item}
use Rattle.vault_audit_tenures.proofs.ShareLemmas.{removal_days}
use Rattle.vault_audit_model.specs.SchemaVersions.{is_external}

-- ---- versions and their days

abbrev item_as : ℕ → ℕ → Option ℕ → Item
item_as size from ended = record { size = size; first = true; from = from; ended = ended; last = true }

stated_is : (bs : List Bucket) (e : Entry) → item_stated (owned_in bs e) ≡ item_as e.size (day e.admitted) (removal_day e.removal)
stated_is bs e = ap (item_as e.size (day e.admitted)) (removal_days e.removal)

abbrev IsDated : OwnedEntry → Type 0
IsDated e = IsTrue (is_dated (item_stated e))

before_the_last : (admitted last : ℕ) (o : Option Removal) → admitted ≤ last_moment → IfSome o IsRemoval → LiesBetween admitted last o → (admitted ≤ end_of last_moment o) × (end_of last_moment o ≤ last_moment)
before_the_last admitted last None early is lies = (early, omega arith)
before_the_last admitted last (Some r) early is lies = (lies.0, is.at)

is_dated_by : (external : Bool) (last : ℕ) (bs : List Bucket) (e : Entry) → IsEntry external e → IsPast last e → IsDated (owned_in bs e)
is_dated_by external last bs e is past =
    let lies = before_the_last e.admitted last e.removal is.admitted is.removal past.1 in
    subst (λ i. IsTrue (is_dated i)) (sym (stated_is bs e)) (dated e.admitted last_moment e.removal lies.0 lies.1 (omega arith))

are_dated : (external : Bool) (next low last : ℕ) (bs : List Bucket) (es : List Entry) → AreNumbered external next low es → AllByRecursion (IsPast last) es → AllByRecursion IsDated (map (owned_in bs) es)
are_dated external next low last bs [] are past = tt
are_dated external next low last bs (e ∷ es) are past = (is_dated_by external last bs e are.0.0 past.0, are_dated external (next + 1) e.admitted last bs es are.1 past.1)

-- ---- the versions that are counted for a department are its tenures, where each version has its first one alone

-- of an entry of these buckets
one_counted : (name : List ℕ) (bs : List Bucket) (e : Entry) (marker : Bool) (o : Option BucketConfig)
    → items_where (not marker && is_named name (option_map (λ (c : BucketConfig). c.dept) o)) (owned_in bs e) ≡ items_by name (shares_from e.size e.removal true (first_tenures marker e.admitted o))
one_counted name bs e true o = refl
one_counted name bs e false None = refl
one_counted name bs e false (Some c) = of (bytes_eq c.dept name)
  where
    of : (b : Bool) → items_where b (owned_in bs e) ≡ map (λ (s : Share). s.item) (cond b (share e.size true (record { dept = c.dept; from = e.admitted; number = 0 }) (removal_day e.removal) true ∷ []) [])
    of true = ap (λ (i : Item). i ∷ []) (stated_is bs e)
    of false = refl

of_history : (name : List ℕ) (bs : List Bucket) (h : History) → HasFirstTenures bs h → items_where (counts_for name (owned_in bs h.entry)) (owned_in bs h.entry) ≡ items_by name (shares_of h)
of_history name bs h has =
    one_counted name bs h.entry h.entry.marker (config_in bs h.entry.bucket) ∙ ap (λ (ts : List Tenure). items_by name (shares_from h.entry.size h.entry.removal true ts)) (sym has)

items_are : (bs : List Bucket) (name : List ℕ) (hs : List History) → AllByRecursion (HasFirstTenures bs) hs → items_stated name (map (owned_in bs) (entries_in hs)) ≡ items_in name hs
items_are bs name [] all = refl
items_are bs name (h ∷ hs) all = ap₂ (λ (xs ys : List Item). xs ++ ys) (of_history name bs h all.0) (items_are bs name hs all.1)

-- ---- the entries that went in are counted

one_more : (b : Bool) (x : OwnedEntry) (before now : Option Row) (items : List Item) → IsCounted b before (item_stated x) now → IsDated x → IsTotal before items → IsTotal now (items ++ items_where b x)
one_more false x before now items is dates are = subst (λ o. IsTotal o (items ++ [])) (sym is) (subst (IsTotal before) (sym (append-nil items)) are)
one_more true x before now items counted dates are = counted items are dates

module _ (name : List ℕ) where
  abbrev total : SumPass → Option Row
  total p = total_of p.totals name

  went : (p q : SumPass) (rows : List Values) (es : List OwnedEntry) (items : List Item) → rows ≡ map owned_row es → AllByRecursion IsDated es → Goes GoesIn p rows q → IsTotal (total p) items → IsTotal (total q) (items ++ items_stated name es)
  went p q [] [] items e dates goes are = subst (λ (s : SumPass). IsTotal (total s) (items ++ [])) goes (subst (IsTotal (total p)) (sym (append-nil items)) are)
  went p q [] (x ∷ es) items e dates goes are = absurd cc
  went p q (r ∷ rows) [] items e dates goes are = absurd cc
  went p q (r ∷ rows) (x ∷ es) items e dates (m, one, more) are =
      let first : r ≡ owned_row x = cc in
      let rest : rows ≡ map owned_row es = cc in
      let same : one.0 ≡ x = same_owned one.0 x (sym one.1 ∙ first) in
      let counted : IsCounted (counts_for name x) (total p) (item_stated x) (total m) = subst (λ y. IsCounted (counts_for name y) (total p) (item_stated y) (total m)) same (one.2 name) in
      let now = one_more (counts_for name x) x (total p) (total m) items counted dates.0 are in
      subst (IsTotal (total q)) (append_assoc items (items_where (counts_for name x) x) (items_stated name es)) (went m q rows es (items ++ items_where (counts_for name x) x) rest dates.1 more now)

-- ---- the walk

module _ (n : SchemaVersion) (old new : State) (has : old.now.schema ≡ schema_of n) (same : IsUnchanged old new) (p r : SumPass) (v : Vault)
    (buckets : AreBuckets n new.now v.buckets) (entries : AreEntries (is_external n) new.now (entries_in v.histories)) (past : AllByRecursion (IsPast v.last) (entries_in v.histories)) (unmoved : IsUnmoved v) where
  abbrev es : List Entry
  es = entries_in v.histories

  abbrev stated : List OwnedEntry
  stated = map (owned_in v.buckets) es

  known : new.now.schema ≡ schema_of n
  known = ap (λ (d : Database). d.schema) same.0.now_is ∙ has

  pub totals_yes : ((name : List ℕ) → total_of p.totals name ≡ Some empty_sums) → Walked GoesIn ReportsNone owned_text old new p r true → AreTotals v.histories r.totals
  totals_yes none (rows, shown, goes) name =
      let whole = answers n old new has rows shown in
      let are = subst (λ (d : Database). IsPermutation (map owned_row stated) (source d)) same.0.now_is (shown_are n new.now v.buckets es buckets entries) in
      let order = sorted_unique first_cmp first_cmp_total (map owned_row stated) rows (owned_rise (is_external n) v.buckets es entries.1) (IsPermutation-trans _ _ _ are whole.0) whole.1 in
      let begun = subst (λ o. IsTotal o []) (sym (none name)) no_item in
      subst (IsTotal (total_of r.totals name)) (items_are v.buckets name v.histories unmoved.tenures) (went name p r rows stated [] order (are_dated (is_external n) 1 0 v.last v.buckets es entries.1 past) goes begun)

  pub totals_no : ¬ Walked GoesIn ReportsNone owned_text old new p r false
  totals_no (rows, row, m, begins, goes, never) =
      let on = goes_on_to owned_text new (schema_of n) known _ _ (owned_is n).0 same.0.is_open (rows ++ row ∷ []) begins in
      let whole = answers n new new known ((rows ++ row ∷ []) ++ on.0) on.1 in
      let every = all-permutation (ReportsOne owned_row IsOwned) _ _ (IsPermutation-trans _ _ _ (shown_are n new.now v.buckets es buckets entries) whole.0) (each_reads_so (is_external n) 1 0 v.buckets es buckets.3 entries.1) in
      let it = between (ReportsOne owned_row IsOwned) rows row [] (front (ReportsOne owned_row IsOwned) (rows ++ row ∷ []) on.0 every) in
      never it.0 it.2 it.1

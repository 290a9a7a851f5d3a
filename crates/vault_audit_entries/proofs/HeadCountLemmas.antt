-- The look at each head beside the held entries of its key, up to the one that it names.
use Rattle.std.specs.Ordering.{int_cmp, nat_cmp, is_gt, is_le}
use Rattle.std.specs.Str.{bytes_eq}
use Rattle.std.specs.Prelude.{if◌then◌else◌, min, is_none}
use Rattle.std.proofs.Common.{◌≡◌, ◌≤◌, ℕ, ◌+◌, ◌&&◌, pos, negsuc, codes, List, [], ◌∷◌, ◌++◌, length, map, filter, flat_map, Bool, true, false, Some, None, Ordering, Less, Equal, Greater, IsPermutation, refl, sym, ap, subst, ◌∙◌, arith}
use Rattle.std.proofs.lemmas.List.{length-map}
use Rattle.std.proofs.lemmas.List.Sorted.{IsPermutation-map, IsPermutation-sym, length_permutation}
use Rattle.std.proofs.lemmas.Map.Text.{is_eq-slice_cmp}
use Rattle.std.proofs.lemmas.List.Concat.{flat_map_single}
use Rattle.sqlite_tied.specs.Compute.{everything}
use Rattle.sqlite_trees.specs.Tree.{Trees}
use Rattle.sqlite_trees.proofs.ListLemmas.{map-map, filter-map, IsPermutation-filter, all-permutation, all-map, all_from_map}
use Rattle.sqlite_value.specs.declared.value.Value.TheVariants.{Null, Int, Text}
use Rattle.sqlite_value.specs.declared.keys.Collation.TheVariants.{Binary}
use Rattle.sqlite_value.specs.Order.{Row, column}
use Rattle.sqlite_value.proofs.OrderLemmas.{value_cmp-Int}
use Rattle.sqlite_sql.specs.declared.ops.BinaryOp.TheVariants.{Compare, Is}
use Rattle.sqlite_sql.specs.declared.ops.CompareOp.TheVariants.{Eq, Gt}
use Rattle.sqlite_sql.specs.declared.ops.UnaryOp.TheVariants.{Not}
use Rattle.sqlite_sql.specs.Ops.{unary, binary, truth, not3, is_true, from_truth}
use Rattle.sqlite_sql.specs.Term.{Term, Env, lit, col, op1, op2, eval_all}
use Rattle.sqlite_sql.specs.Query.{Query, inner, counted, end, IsAnswer, Output, output}
use Rattle.sqlite_sql.specs.Program.{overlay}
use Rattle.sqlite.specs.Command.TheVariants.{Select}
use Rattle.sqlite.specs.Effect.{Database}
use Rattle.sqlite.specs.Listing.{understood, reads_listing}
use Rattle.sqlite.specs.State.{State, Shown, IsUnchanged}
use Rattle.sqlite.proofs.Callers.{IsPlain, command_of, reads_as}
use Rattle.vault_base.specs.Limits.{most_ids}
use Rattle.vault_core_model.specs.declared.records.Entry.{Entry}
use Rattle.vault_audit_model.specs.declared.rows.HeadRow.{HeadRow}
use Rattle.vault_audit_model.specs.Relations.{AreEntries, AreNumbered}
use Rattle.vault_audit_model.specs.Rows.{entry_row, entry_columns, head_row, head_columns, removal_at}
use Rattle.vault_audit_model.specs.Tables.{schema_of, entries_tree, heads_tree}
use Rattle.vault_audit_model.specs.Values.{number}
use Rattle.vault_audit_model.proofs.SameRows.{number_same}
use Rattle.vault_audit_rows.specs.Health.{Asks}
use Rattle.vault_audit_rows.specs.Records.{Checked}
use Rattle.vault_audit_rows.proofs.ScanLemmas.{goes_on_to}
use Rattle.vault_audit_rows.proofs.RecordLemmas.{between, front}
use Rattle.vault_audit_model.proofs.ValueLemmas.{agrees, none_removed}
use Rattle.vault_audit_rows.proofs.BesideLemmas.{agree_texts, of_records, of_stored, passes}
use Rattle.vault_audit_entries.specs.HeadCounts.{is_under, IsCounted, DecidesCounts, ShowsCount}
use Rattle.vault_audit_model.specs.declared.schema.SchemaVersion.{SchemaVersion}
use Rattle.vault_audit_model.proofs.ListLemmas.{all_as}
use Rattle.vault_audit_laws.proofs.PartLemmas.{few_entries}

-- ---- the statement

abbrev pub counts_text : List ℕ
counts_text = codes "SELECT h.count, (SELECT count(*) FROM entries AS e WHERE e.bucket = h.bucket AND e.key = h.key AND e.removed IS NULL AND NOT (e.id > h.newest)) AS held FROM heads AS h"

abbrev tests : List Term
tests = op2 (Compare Eq Binary) (col 2 2) (col 1 1) ∷ op2 (Compare Eq Binary) (col 2 3) (col 1 2) ∷ op2 (Is Binary) (col 2 10) (lit Null)
    ∷ op1 Not (op2 (Compare Gt Binary) (col 2 0) (col 1 3)) ∷ []

-- no count is greater
abbrev most : ℕ
most = 9223372036854775807

abbrev pub counts_query : Query
counts_query = record {
  from = inner heads_tree (counted most (inner 9 end) tests end);
  filter = [];
  group = None;
  project = col 1 4 ∷ col 2 0 ∷ [];
  distinct = false;
  collations = [];
  order = [];
  limit = lit (Int (negsuc 0));
  offset = lit (Int (pos 0));
}

counts_is : (n : SchemaVersion) → (command_of (understood (schema_of n) counts_text) ≡ Select (record { lets = []; body = counts_query }) (codes "count" ∷ codes "held" ∷ []))
    × (reads_listing (schema_of n) counts_text ≡ false)
unfolding understood everything
counts_is n = (refl, refl)

pub counts_plain : (n : SchemaVersion) → IsPlain (understood (schema_of n) counts_text)
unfolding understood everything
counts_plain n = (refl, refl)

pub counts_asks : (n : SchemaVersion) → Asks (schema_of n) counts_text
unfolding understood everything
counts_asks n = record { is = (omega (arith), refl, (refl, refl, refl, refl)); unlisted = refl }

-- ---- what it shows

abbrev met : List Row → Row → List Env
met entries r = flat_map (λ s. if passes tests r s then ([] ∷ r ∷ s ∷ []) ∷ [] else []) entries

abbrev shown_counted : List Row → Row → Row
shown_counted entries r = column r 4 ∷ Int (pos (min most (length (met entries r)))) ∷ []

abbrev source : Trees → List Row
source db = map (shown_counted (db 9)) (db heads_tree)

abbrev env_of : Trees → Row → Env
env_of db r = [] ∷ r ∷ (Int (pos (min most (length (met (db 9) r)))) ∷ []) ∷ []

answered : (db : Trees) (rows : List Row) → IsAnswer counts_query db [] rows → IsPermutation (source db) rows
answered db rows a =
    let q = counts_query in
    let kept : map (λ (o : Output). o.1) a.kept ≡ source db =
    ap (map (λ (o : Output). o.1)) (a.distinct ∙ ap (map (output q)) (a.grouped ∙ flat_map_single (env_of db) (db heads_tree)))
    ∙ map-map (λ (o : Output). o.1) (output q) (map (env_of db) (db heads_tree)) ∙ map-map (eval_all q.project) (env_of db) (db heads_tree) in
    subst (λ xs. IsPermutation xs rows) kept (subst (IsPermutation (map (λ (o : Output). o.1) a.kept)) (sym a.shown) (IsPermutation-map (λ (o : Output). o.1) a.kept a.ordered a.same))

looked : (n : SchemaVersion) → (old new : State) → old.now.schema ≡ schema_of n → (rows : List Row) → Shown counts_text [] old new rows → IsPermutation (source old.now.trees) rows
looked n old new has rows h =
    let read = reads_as counts_text [] old new (schema_of n) has _ (counts_is n).0 (counts_plain n) (counts_is n).1 rows h in
    answered (overlay old.now.trees []) rows (read.answer Null)

-- ---- how many entries pass

as_many : {A B : Type 0} (p : A → Bool) (f : A → B) (xs : List A) → length (flat_map (λ x. if p x then f x ∷ [] else []) xs) ≡ length (filter p xs)
as_many p f [] = refl
as_many p f (x ∷ xs) =
    let more = as_many p f xs in
    elim (p x) as (λ b. length ((if b then f x ∷ [] else []) ++ flat_map (λ y. if p y then f y ∷ [] else []) xs) ≡ length (if b then x ∷ filter p xs else filter p xs)) [
      | true ↦ omega (arith, more)
      | false ↦ more
    ]

-- what a row of heads and a row of entries say, as their columns
abbrev reads_so : Row → Row → Bool
reads_so x y =
    agrees (column y 1) (column x 0) && (agrees (column y 2) (column x 1)
    && (is_true (binary (Is Binary) (column y 9) Null) && (is_true (unary Not (binary (Compare Gt Binary) (column y 0) (column x 2))) && true)))

abbrev how_many : List Row → Row → ℕ
how_many entries x = length (filter (λ s. reads_so x (entry_columns s)) entries)

abbrev Counts : List Row → Row → Type 0
Counts entries x = column x 3 ≡ number (min most (how_many entries x))

shown_number : (entries : List Row) (r : Row) → column (shown_counted entries r) 1 ≡ number (min most (how_many entries (head_columns r)))
shown_number entries r = ap (λ n. number (min most n)) (as_many (passes tests r) (λ s. [] ∷ r ∷ s ∷ []) entries)

counts_if : (entries : List Row) (r : Row) → ShowsCount (shown_counted entries r) → Counts entries (head_columns r)
counts_if entries r (n, stated, shown) = stated ∙ sym shown ∙ shown_number entries r

shows_if : (entries : List Row) (r : Row) → Counts entries (head_columns r) → ShowsCount (shown_counted entries r)
shows_if entries r it = (min most (how_many entries (head_columns r)), it, shown_number entries r)

-- ---- the entries and the heads of the rows

pub ints : (a b : ℕ) → int_cmp (pos a) (pos b) ≡ nat_cmp a b
ints a b = grind arith

no_more_than : (o : Ordering) → is_true (from_truth (not3 (truth (from_truth (Some (is_gt o)))))) ≡ is_le o
no_more_than Less = refl
no_more_than Equal = refl
no_more_than Greater = refl

no_newer : (a b : ℕ) → is_true (unary Not (binary (Compare Gt Binary) (number a) (number b))) ≡ is_le (nat_cmp a b)
unfolding unary binary
no_newer a b = ap (λ o. is_true (from_truth (not3 (truth (from_truth (Some (is_gt o))))))) (value_cmp-Int (pos a) (pos b) ∙ ints a b) ∙ no_more_than (nat_cmp a b)

regrouped : (a b c d : Bool) → (a && (b && (c && (d && true)))) ≡ ((a && (b && c)) && d)
regrouped true true true true = refl
regrouped true true true false = refl
regrouped true true false d = refl
regrouped true false c d = refl
regrouped false b c d = refl

each_as : (a b c d e f g h : Bool) → a ≡ e → b ≡ f → c ≡ g → d ≡ h → ((a && (b && c)) && d) ≡ ((e && (f && g)) && h)
each_as a b c d e f g h p q r s = rw (p, q, r, s) refl

listed_under : (h : HeadRow) (e : Entry) → reads_so (head_row h) (entry_row e) ≡ is_under h e
listed_under h e =
    regrouped (agrees (Text e.bucket) (Text h.bucket)) (agrees (Text e.key) (Text h.key)) (is_true (binary (Is Binary) (removal_at e.removal) Null)) (is_true (unary Not (binary (Compare Gt Binary) (number e.id) (number h.head.newest))))
    ∙ each_as _ _ _ _ (bytes_eq e.bucket h.bucket) (bytes_eq e.key h.key) (is_none e.removal) (is_le (nat_cmp e.id h.head.newest))
    (agree_texts e.bucket h.bucket ∙ is_eq-slice_cmp e.bucket h.bucket) (agree_texts e.key h.key ∙ is_eq-slice_cmp e.key h.key) (none_removed e.removal) (no_newer e.id h.head.newest)

filter_alike : {A : Type 0} (p q : A → Bool) → ((x : A) → p x ≡ q x) → (xs : List A) → length (filter p xs) ≡ length (filter q xs)
filter_alike p q same [] = refl
filter_alike p q same (x ∷ xs) =
    let more = filter_alike p q same xs in
    subst (λ b. length (filter p (x ∷ xs)) ≡ length (if b then x ∷ filter q xs else filter q xs)) (same x)
    (elim (p x) as (λ b. length (if b then x ∷ filter p xs else filter p xs) ≡ length (if b then x ∷ filter q xs else filter q xs)) [
      | true ↦ omega (arith, more)
      | false ↦ more
    ])

-- how many of what is mapped pass
pub mapped_many : {A B : Type 0} (p : B → Bool) (f : A → B) (xs : List A) → length (filter p (map f xs)) ≡ length (filter (λ x. p (f x)) xs)
mapped_many p f xs =
    let one : length (map f (filter (λ x. p (f x)) xs)) ≡ length (filter (λ x. p (f x)) xs) = simp length-map in
    ap length (filter-map p f xs) ∙ one

pub no_more : {A : Type 0} (p : A → Bool) (xs : List A) → length (filter p xs) ≤ length xs
no_more p [] = omega arith
no_more p (x ∷ xs) =
    let more = no_more p xs in
    elim (p x) as (λ b. length (if b then x ∷ filter p xs else filter p xs) ≤ length (x ∷ xs)) [
      | true ↦ omega (arith, more)
      | false ↦ omega (arith, more)
    ]

below_most : (n : ℕ) → n ≤ most_ids + 1 → min most n ≡ n
below_most n low = grind (arith, low)

module _ (external : Bool) (entries : List Row) (es : List Entry) (are : IsPermutation (map entry_row es) (map entry_columns entries)) (numbered : AreNumbered external 1 0 es) where
  found : (h : HeadRow) → how_many entries (head_row h) ≡ length (filter (is_under h) es)
  found h =
      let p = reads_so (head_row h) in
      sym (mapped_many p entry_columns entries) ∙ length_permutation _ _ (IsPermutation-filter p _ _ are)
      ∙ mapped_many p entry_row es ∙ filter_alike (λ e. p (entry_row e)) (is_under h) (listed_under h) es

  whole : (h : HeadRow) → min most (how_many entries (head_row h)) ≡ length (filter (is_under h) es)
  whole h =
      let n = found h in
      let few = few_entries external 1 0 es (omega arith) numbered in
      let some = no_more (is_under h) es in
      ap (min most) n ∙ below_most _ (omega (arith, few, some))

  counted_if : (h : HeadRow) → Counts entries (head_row h) → IsCounted es h
  counted_if h it = number_same _ _ it ∙ whole h

  if_counted : (h : HeadRow) → IsCounted es h → Counts entries (head_row h)
  if_counted h it = ap number (it ∙ sym (whole h))

module _ (n : SchemaVersion) (old new : State) (has : old.now.schema ≡ schema_of n) (same : IsUnchanged old new) (external : Bool) (es : List Entry) (hs : List HeadRow) (are : AreEntries external new.now es) (decides : IsPermutation (map head_row hs) (map head_columns (new.now.trees heads_tree))) where
  counts_yes : Checked ShowsCount counts_text old new true → DecidesCounts es hs true
  counts_yes (rows, shown, all) =
      let db : new.now ≡ old.now = same.0.now_is in
      let every = subst (λ (d : Database). IsPermutation (source d.trees) rows) (sym db) ((looked n) old new has rows shown) in
      let entries = new.now.trees entries_tree in
      let stored = all_from_map ShowsCount (shown_counted entries) (new.now.trees heads_tree) (all-permutation ShowsCount _ _ (IsPermutation-sym _ _ every) all) in
      all_as (counted_if external entries es are.0 are.1) hs (of_records head_row head_columns (Counts entries) hs (new.now.trees heads_tree) decides (all_as (counts_if entries) (new.now.trees heads_tree) stored))

  counts_no : Checked ShowsCount counts_text old new false → DecidesCounts es hs false
  counts_no (rows, row, begins, none) all =
      let known : new.now.schema ≡ schema_of n = ap (λ (b : Database). b.schema) same.0.now_is ∙ has in
      let on = goes_on_to counts_text new (schema_of n) known _ _ (counts_is n).0 same.0.is_open (rows ++ row ∷ []) begins in
      let every = (looked n) new new known ((rows ++ row ∷ []) ++ on.0) on.1 in
      let entries = new.now.trees entries_tree in
      let stored = of_stored head_row head_columns (Counts entries) hs (new.now.trees heads_tree) decides (all_as (if_counted external entries es are.0 are.1) hs all) in
      let passed = all-permutation ShowsCount _ _ every (all-map ShowsCount (shown_counted entries) (new.now.trees heads_tree) (all_as (shows_if entries) (new.now.trees heads_tree) stored)) in
      none (between ShowsCount rows row [] (front ShowsCount (rows ++ row ∷ []) on.0 passed))

  pub counts_stated : (b : Bool) → Checked ShowsCount counts_text old new b → DecidesCounts es hs b
  counts_stated true = counts_yes
  counts_stated false = counts_no

-- Rows of heads by key, each with the count of what is under it, are the heads of the vault where they count all held entries.
use Rattle.std.specs.Prelude.{is_none, min, nat_lt}
use Rattle.std.specs.List.{AllByRecursion}
use Rattle.std.proofs.Common.{◌≡◌, ◌≤◌, ◌<◌, inl, inr, ℕ, zero, suc, ◌+◌, ◌==◌, List, [], ◌∷◌, length, map, filter, find, cond, Bool, true, false, Some, None, IsPermutation, refl, sym, ap, ap₂, subst, ◌∙◌, arith}
use Rattle.std.proofs.lemmas.Bool.Decides.{nat_tests}
use Rattle.std.proofs.lemmas.List.Sorted.{IsPermutation-map, IsPermutation-sym, IsPermutation-trans, list_any-IsPermutation}
use Rattle.std.proofs.lemmas.Bool.{and_parts, and_from}
use Rattle.sqlite_trees.proofs.ListLemmas.{all-permutation}
use Rattle.sqlite.specs.Effect.{Database}
use Rattle.vault_base.specs.Limits.{most_ids}
use Rattle.vault_core_model.specs.declared.records.Entry.{Entry}
use Rattle.vault_core_model.specs.declared.records.History.{History}
use Rattle.vault_core_model.specs.Order.{IsAscending}
use Rattle.vault_core_model.specs.Places.{held_at, is_held_at, is_current, newer}
use Rattle.vault_core_model.specs.Sound.{AreIdsFrom}
use Rattle.vault_core_model.specs.Vault.{Vault}
use Rattle.vault_audit_model.specs.declared.rows.HeadRow.{HeadRow}
use Rattle.vault_audit_model.specs.Limits.{IsEntry, IsHeadRow}
use Rattle.vault_audit_model.specs.Relations.{AreEntries, AreNumbered, AreHeads, DecidesHeads}
use Rattle.vault_audit_model.specs.Rows.{head_row, head_columns}
use Rattle.vault_audit_model.specs.Spells.{AreSoundAs, head_in, heads_in}
use Rattle.vault_audit_model.specs.Tables.{heads_tree}
use Rattle.vault_audit_entries.proofs.ContentSoundLemmas.{sound_entries}
use Rattle.vault_audit_entries.specs.Heads.{head_cmp, IsHeldFor, NamesHeld, AreHeadsByKey, DecidesHeadsByKey, sum_of_counts, up_to_most}
use Rattle.vault_audit_entries.proofs.SortLemmas.{in_order, same_in_order, all_in_order, ascending_in_order}
use Rattle.vault_audit_entries.proofs.CurrentLemmas.{head_cmp_total, heads_apart, heads_name}
use Rattle.vault_audit_entries.proofs.HeadRowLemmas.{alike}
use Rattle.vault_audit_entries.specs.HeadCounts.{is_under, IsCounted, DecidesCounts, is_held, held_entry_count}
use Rattle.vault_audit_entries.proofs.HeadCountLemmas.{mapped_many, no_more}
use Rattle.vault_audit_entries.proofs.HeadSumLemmas.{alike_among, none_removed, held_parts, parts_held, under_parts, parts_under, under_all, tie_of, is_covered, counted_once, all_covered, whole_counts, same_sum}
use Rattle.vault_core_laws.proofs.Tests.{none_is}
use Rattle.vault_audit_entries.specs.Keys.{DecidesHeadsOf, entries_of}
use Rattle.vault_audit_entries.proofs.MemberLemmas.{In, at_in, all_of, none_in, no_length, one_in, filter_in, in_filter, any_in, in_any, map_in, in_map, one_of, same_rising}
use Rattle.vault_audit_model.specs.declared.schema.SchemaVersion.{SchemaVersion}
use Rattle.vault_audit_laws.proofs.PartLemmas.{few_entries}
use Rattle.vault_audit_model.specs.SchemaVersions.{is_external}

-- ---- tests

is_zero : (n : ℕ) → (n == 0) ≡ true → n ≡ 0
is_zero n is = grind (arith, nat_tests, is)

zero_is : (n : ℕ) → n ≡ 0 → (n == 0) ≡ true
zero_is n e = rw e refl

some_if : (n : ℕ) → (n == 0) ≡ false → n ≡ 0 → ⊥
some_if n not_zero e = let two : true ≡ false = sym (zero_is n e) ∙ not_zero in cc two

below_if : (a b : ℕ) → nat_lt a b ≡ true → a < b
below_if a b is = grind (arith, nat_tests, is)

if_below : (a b : ℕ) → a < b → nat_lt a b ≡ true
if_below a b less = grind (arith, nat_tests, less)

same_id : (a b : ℕ) → (a == b) ≡ true → a ≡ b
same_id a b is = grind (arith, nat_tests, is)

-- the entry that a head names
named_in : (h : HeadRow) (es : List Entry) → NamesHeld es h → (e : Entry) × In e es × (e.id ≡ h.head.newest) × (e.bucket ≡ h.bucket) × (e.key ≡ h.key) × (e.removal ≡ None)
named_in h [] it = absurd it
named_in h (x ∷ es) it =
    elim (x.id == h.head.newest) as (λ b. (x.id == h.head.newest) ≡ b → IsHeldFor h (cond b (Some x) (find (λ e. e.id == h.head.newest) es)) → (e : Entry) × In e (x ∷ es) × (e.id ≡ h.head.newest) × (e.bucket ≡ h.bucket) × (e.key ≡ h.key) × (e.removal ≡ None)) [
      | true ↦ λ is stated. (x, inl refl, same_id x.id h.head.newest is, stated.0, stated.1, stated.2)
      | false ↦ λ is stated. let more = named_in h es stated in (more.0, inr more.1, more.2, more.3, more.4, more.5)
    ] refl it

not_above : (a b c : ℕ) → c ≡ b → (a < b → ⊥) → c ≤ a
not_above a b c same never =
    elim (nat_lt a b) as (λ x. nat_lt a b ≡ x → c ≤ a) [
      | true ↦ λ is. absurd (never (below_if a b is))
      | false ↦ λ is. least a b c same is
    ] refl
  where
    least : (a b c : ℕ) → c ≡ b → nat_lt a b ≡ false → c ≤ a
    least a b c same is = grind (arith, nat_tests, is, same)

no_less : (a b : ℕ) → a ≤ b → (a < b → ⊥) → b ≡ a
no_less a b low never =
    elim (nat_lt a b) as (λ c. nat_lt a b ≡ c → b ≡ a) [
      | true ↦ λ is. absurd (never (below_if a b is))
      | false ↦ λ is. not_below a b low is
    ] refl
  where
    not_below : (a b : ℕ) → a ≤ b → nat_lt a b ≡ false → b ≡ a
    not_below a b low is = grind (arith, nat_tests, is, low)

-- a sum that is small isn't cut off
all_of_it : (n sum : ℕ) → n ≡ min sum 18446744073709551615 → n ≤ most_ids + 1 → sum ≡ n
all_of_it n sum is low = grind (arith, is, low)

uncut : (sum : ℕ) → sum ≤ most_ids + 1 → min sum 18446744073709551615 ≡ sum
uncut sum low = grind (arith, low)

not_one : (a b : ℕ) → (a == b) ≡ false → a ≡ b → ⊥
not_one a b other same = grind (arith, nat_tests, other, same)

same_test : (a b : Bool) → (a ≡ true → b ≡ true) → (b ≡ true → a ≡ true) → a ≡ b
same_test true b so back = sym (so refl)
same_test false true so back = back refl
same_test false false so back = refl

-- ---- numbered entries

ids_of : (external : Bool) (next low : ℕ) (hs : List History) → AreNumbered external next low (map (λ (h : History). h.entry) hs) → AreIdsFrom next hs
ids_of external next low [] are = tt
ids_of external next low (h ∷ hs) are = (are.0.1.0, ids_of external (next + 1) h.entry.admitted hs are.1)

each_limited : (external : Bool) (next low : ℕ) (hs : List History) → AreNumbered external next low (map (λ (h : History). h.entry) hs) → (g : History) → In g hs → IsEntry external g.entry
each_limited external next low [] are g i = absurd i
each_limited external next low (h ∷ hs) are g (inl e) = subst (λ (x : History). IsEntry external x.entry) (sym e) are.0.0
each_limited external next low (h ∷ hs) are g (inr i) = each_limited external (next + 1) h.entry.admitted hs are.1 g i

id_below : (next : ℕ) (hs : List History) → AreIdsFrom next hs → (g : History) → In g hs → g.entry.id < next + length hs
id_below next [] ids g i = absurd i
id_below next (h ∷ hs) ids g (inl e) = let id = ids.0 in let same = ap (λ (x : History). x.entry.id) e in omega (arith, id, same)
id_below next (h ∷ hs) ids g (inr i) = let more = id_below (next + 1) hs ids.1 g i in omega (arith, more)

-- ---- a vault whose entries these are

module _ (external : Bool) (v : Vault) (numbered : AreNumbered external 1 0 (entries_of v)) where
  abbrev es : List Entry
  es = entries_of v

  ids : AreIdsFrom 1 v.histories
  ids = ids_of external 1 0 v.histories numbered

  heads_of : (x : HeadRow) → In x (heads_in v) → (g : History) × In g v.histories × (is_current v g ≡ true) × (x ≡ head_in v g)
  heads_of x i =
      let it = in_map (head_in v) (filter (is_current v) v.histories) x i in
      let there = in_filter (is_current v) v.histories it.0 it.1 in (it.0, there.0, there.1, it.2)

  head_there : (g : History) → In g v.histories → is_current v g ≡ true → In (head_in v g) (heads_in v)
  head_there g i now = map_in (head_in v) (filter (is_current v) v.histories) g (filter_in (is_current v) v.histories g i now)

  entry_there : (g : History) → In g v.histories → In g.entry es
  entry_there g i = map_in (λ (h : History). h.entry) v.histories g i

  in_newer : (g k : History) → In k v.histories → is_held_at g.entry.bucket g.entry.key k.entry ≡ true → g.entry.id < k.entry.id → In k (newer v g)
  in_newer g k i held less =
      filter_in (λ (x : History). nat_lt g.entry.id x.entry.id) (held_at v g.entry.bucket g.entry.key) k
      (filter_in (λ (x : History). is_held_at g.entry.bucket g.entry.key x.entry) v.histories k i held) (if_below g.entry.id k.entry.id less)

  newer_in : (g k : History) → In k (newer v g) → In k v.histories × (k.entry.bucket ≡ g.entry.bucket) × (k.entry.key ≡ g.entry.key) × (k.entry.removal ≡ None) × (g.entry.id < k.entry.id)
  newer_in g k i =
      let late = in_filter (λ (x : History). nat_lt g.entry.id x.entry.id) (held_at v g.entry.bucket g.entry.key) k i in
      let there = in_filter (λ (x : History). is_held_at g.entry.bucket g.entry.key x.entry) v.histories k late.0 in
      let its = held_parts g.entry.bucket g.entry.key k.entry there.1 in (there.0, its.0, its.1, its.2, below_if g.entry.id k.entry.id late.1)

  count_of : (bucket key : List ℕ) → length (filter (is_held_at bucket key) es) ≡ length (held_at v bucket key)
  count_of bucket key = mapped_many (is_held_at bucket key) (λ (h : History). h.entry) v.histories

  -- ---- its heads

  limited : AllByRecursion IsHeadRow (heads_in v)
  limited = all_of IsHeadRow (heads_in v) (λ x i.
      let g = heads_of x i in
      let its = each_limited external 1 0 v.histories numbered g.0 g.1 in
      let row : IsHeadRow (head_in v g.0) = record { bucket = its.bucket; key = its.key; newest = its.id } in subst IsHeadRow (sym g.3) row)

  -- the entry of a held key that is current
  newest : (fuel : ℕ) (g : History) → In g v.histories → g.entry.removal ≡ None → 1 + length v.histories ≤ g.entry.id + fuel
      → (k : History) × In k v.histories × (is_current v k ≡ true) × (k.entry.bucket ≡ g.entry.bucket) × (k.entry.key ≡ g.entry.key) × (g.entry.id ≤ k.entry.id)
  newest zero g i held enough = let low = id_below 1 v.histories ids g i in absurd (omega (arith, low, enough))
  newest (suc fuel) g i held enough =
      elim (length (newer v g) == 0) as (λ b. (length (newer v g) == 0) ≡ b
      → (k : History) × In k v.histories × (is_current v k ≡ true) × (k.entry.bucket ≡ g.entry.bucket) × (k.entry.key ≡ g.entry.key) × (g.entry.id ≤ k.entry.id)) [
        | true ↦ λ is. (g, i, and_from _ _ (none_removed g.entry.removal held) is, refl, refl, omega arith)
        | false ↦ λ is.
            let one = one_in (newer v g) (some_if (length (newer v g)) is) in
            let its = newer_in g one.0 one.1 in
            let less = its.4 in
            let it = newest fuel one.0 its.0 its.3 (omega (arith, enough, less)) in
            let low = it.5 in (it.0, it.1, it.2, it.3 ∙ its.1, it.4 ∙ its.2, omega (arith, less, low))
      ] refl

  each_covered : AllByRecursion (λ e. is_held e ≡ true → is_covered (heads_in v) e ≡ true) es
  each_covered = all_of (λ e. is_held e ≡ true → is_covered (heads_in v) e ≡ true) es (λ e i held.
      let g = in_map (λ (h : History). h.entry) v.histories e i in
      let same : e ≡ g.0.entry = g.2 in
      let none = none_is e.removal held in
      let k = newest (1 + length v.histories) g.0 g.1 (ap (λ (x : Entry). x.removal) (sym same) ∙ none) (omega arith) in
      let low = k.5 in
      let id = ap (λ (x : Entry). x.id) same in
      in_any (λ h. is_under h e) (heads_in v) (head_in v k.0) (head_there k.0 k.1 k.2)
      (parts_under (head_in v k.0) e (ap (λ (x : Entry). x.bucket) same ∙ sym k.3) (ap (λ (x : Entry). x.key) same ∙ sym k.4) none (omega (arith, id, low))))

  -- all held entries of the key of a head are no newer than the one that is current
  each_counted : AllByRecursion (IsCounted es) (heads_in v)
  each_counted = all_of (IsCounted es) (heads_in v) (λ x i.
      let g = heads_of x i in
      let h = g.0 in
      let none = is_zero _ (and_parts (is_none h.entry.removal) _ g.2).1 in
      let all = alike_among (is_under (head_in v h)) (is_held_at h.entry.bucket h.entry.key) es (all_of (λ e. is_under (head_in v h) e ≡ is_held_at h.entry.bucket h.entry.key e) es (λ e j.
      under_all (head_in v h) e (λ held.
      let k = in_map (λ (y : History). y.entry) v.histories e j in
      let its : is_held_at h.entry.bucket h.entry.key k.0.entry ≡ true = ap (is_held_at h.entry.bucket h.entry.key) (sym k.2) ∙ held in
      let id = ap (λ (y : Entry). y.id) k.2 in
      not_above h.entry.id k.0.entry.id e.id id (λ less. none_in (newer v h) none k.0 (in_newer h k.0 k.1 its less))))) in
      let one : IsCounted es (head_in v h) = sym (all ∙ count_of h.entry.bucket h.entry.key) in subst (IsCounted es) (sym g.3) one)

  abbrev ordered : List HeadRow
  ordered = in_order head_cmp (heads_in v)

  ordered_up : IsAscending head_cmp ordered
  ordered_up = ascending_in_order head_cmp head_cmp_total (heads_in v) (heads_apart v ids)

  -- its heads count all held entries
  held_sum : sum_of_counts (heads_in v) ≡ held_entry_count es
  held_sum =
      let counts = all_in_order head_cmp (IsCounted es) (heads_in v) each_counted in
      let same = same_in_order head_cmp (heads_in v) in
      let covered = all_of (λ e. is_covered ordered e ≡ is_held e) es (λ e i.
      same_test (is_covered ordered e) (is_held e)
      (λ is. let it = any_in (λ h. is_under h e) ordered is in none_removed e.removal (under_parts it.0 e it.2).2)
      (λ is. list_any-IsPermutation (λ h. is_under h e) ordered (heads_in v) same ∙ at_in (λ x. is_held x ≡ true → is_covered (heads_in v) x ≡ true) es each_covered e i is)) in
      same_sum (heads_in v) ordered (IsPermutation-map head_row _ _ (IsPermutation-sym _ _ same)) ∙ counted_once es ordered ordered_up counts ∙ alike_among (is_covered ordered) is_held es covered

  -- ---- heads that were found

  module _ (hs : List HeadRow) (up : IsAscending head_cmp hs) (named : AllByRecursion (NamesHeld es) hs) (covered : AllByRecursion (λ e. is_held e ≡ true → is_covered hs e ≡ true) es) (counts : AllByRecursion (λ h. h.head.count ≡ length (filter (is_held_at h.bucket h.key) es)) hs) where
    over : (g : History) → In g v.histories → g.entry.removal ≡ None → (h : HeadRow) × In h hs × (h.bucket ≡ g.entry.bucket) × (h.key ≡ g.entry.key) × (g.entry.id ≤ h.head.newest)
    over g i held =
        let it = any_in (λ h. is_under h g.entry) hs (at_in (λ e. is_held e ≡ true → is_covered hs e ≡ true) es covered g.entry (entry_there g i) (none_removed g.entry.removal held)) in
        let its = under_parts it.0 g.entry it.2 in (it.0, it.1, sym its.0, sym its.1, its.3)

    named_of : (h : HeadRow) → In h hs → (g : History) × In g v.histories × (g.entry.id ≡ h.head.newest) × (g.entry.bucket ≡ h.bucket) × (g.entry.key ≡ h.key) × (g.entry.removal ≡ None)
    named_of h i =
        let it = named_in h es (at_in (NamesHeld es) hs named h i) in
        let g = in_map (λ (x : History). x.entry) v.histories it.0 it.1 in
        let same : g.0.entry ≡ it.0 = sym g.2 in
        (g.0, g.1, ap (λ (x : Entry). x.id) same ∙ it.2, ap (λ (x : Entry). x.bucket) same ∙ it.3, ap (λ (x : Entry). x.key) same ∙ it.4, ap (λ (x : Entry). x.removal) same ∙ it.5)

    is_head : (g : History) (h : HeadRow) → In h hs → g.entry.id ≡ h.head.newest → g.entry.bucket ≡ h.bucket → g.entry.key ≡ h.key → h ≡ head_in v g
    is_head g h i id bucket key =
        let count = at_in (λ x. x.head.count ≡ length (filter (is_held_at x.bucket x.key) es)) hs counts h i ∙ ap₂ (λ b k. length (filter (is_held_at b k) es)) (sym bucket) (sym key) ∙ count_of g.entry.bucket g.entry.key in
        alike h.bucket g.entry.bucket h.key g.entry.key h.head.newest g.entry.id h.head.count (length (held_at v g.entry.bucket g.entry.key)) (sym bucket) (sym key) (sym id) count

    current_found : (g : History) → In g v.histories → is_current v g ≡ true → In (head_in v g) hs
    current_found g i now =
        let held = none_is g.entry.removal (and_parts (is_none g.entry.removal) _ now).0 in
        let none = is_zero _ (and_parts (is_none g.entry.removal) _ now).1 in
        let h = over g i held in
        let k = named_of h.0 h.1 in
        let at = parts_held g.entry.bucket g.entry.key k.0.entry (k.3 ∙ h.2) (k.4 ∙ h.3) k.5 in
        let id = k.2 in
        let low = h.4 in
        let same : k.0.entry.id ≡ g.entry.id = no_less g.entry.id k.0.entry.id (omega (arith, id, low)) (λ less. none_in (newer v g) none k.0 (in_newer g k.0 k.1 at less)) in
        subst (λ x. In x hs) (is_head g h.0 h.1 (sym same ∙ id) (sym h.2) (sym h.3)) h.1

    found_current : (h : HeadRow) → In h hs → In h (heads_in v)
    found_current h i =
        let g = named_of h i in
        let id = g.2 in
        let none = no_length (newer v g.0) (λ k j.
        let its = newer_in g.0 k j in
        let o = over k its.0 its.3 in
        let tie = tie_of h o.0 (sym g.3 ∙ sym its.1 ∙ sym o.2) (sym g.4 ∙ sym its.2 ∙ sym o.3) in
        let same = ap (λ (x : HeadRow). x.head.newest) (one_of head_cmp head_cmp_total hs up h o.0 i o.1 tie) in
        let less = its.4 in
        let low = o.4 in absurd (omega (arith, id, same, less, low))) in
        let now : is_current v g.0 ≡ true = and_from _ _ (none_removed g.0.entry.removal g.5) (zero_is _ none) in
        subst (λ x. In x (heads_in v)) (sym (is_head g.0 h i id g.3 g.4)) (head_there g.0 g.1 now)

    are_these : in_order head_cmp (heads_in v) ≡ hs
    are_these =
        let xs = heads_in v in
        let here = all_in_order head_cmp (λ x. In x hs) xs (all_of (λ x. In x hs) xs (λ x i. let g = heads_of x i in subst (λ y. In y hs) (sym g.3) (current_found g.0 g.1 g.2))) in
        let there = all-permutation (λ x. In x ordered) ordered xs (same_in_order head_cmp xs) (all_of (λ x. In x ordered) ordered (λ x i. i)) in
        same_rising head_cmp head_cmp_total ordered hs ordered_up up
        (λ x i. at_in (λ y. In y hs) ordered here x i) (λ x i. at_in (λ y. In y ordered) xs there x (found_current x i))

-- ---- what the looks say

module _ (external : Bool) (db : Database) (v : Vault) (are : AreEntries external db (entries_of v)) where
  abbrev pub IsWhole : List HeadRow → Type 0
  IsWhole hs = AreHeadsByKey db (entries_of v) hs × DecidesCounts (entries_of v) hs true

  heads_yes : (hs : List HeadRow) → IsWhole hs → sum_of_counts hs ≡ held_entry_count (entries_of v) → AreHeads db v
  heads_yes hs (by_key, counts) sum =
      let order = IsPermutation-map head_row _ _ (IsPermutation-sym _ _ (same_in_order head_cmp (heads_in v))) in
      let covered = all_covered (entries_of v) hs by_key.1 counts sum in
      let same = are_these external v are.1 hs by_key.1 by_key.3 covered (whole_counts (entries_of v) hs by_key.1 counts covered) in
      IsPermutation-trans _ _ _ order (subst (λ xs. IsPermutation (map head_row xs) (map head_columns (db.trees heads_tree))) (sym same) by_key.0)

  heads_no : (hs : List HeadRow) → AreHeadsByKey db (entries_of v) hs → AreHeads db v → sum_of_counts hs ≡ held_entry_count (entries_of v)
  heads_no hs by_key heads = same_sum hs (heads_in v) (IsPermutation-trans _ _ _ by_key.0 (IsPermutation-sym _ _ heads)) ∙ held_sum external v are.1

  pub no_by_key : DecidesHeadsByKey db (entries_of v) None → ¬ AreHeads db v
  no_by_key stated heads =
      let xs = heads_in v in
      let numbers = ids external v are.1 in
      stated (in_order head_cmp xs) (
        IsPermutation-trans _ _ _ (IsPermutation-map head_row _ _ (same_in_order head_cmp xs)) heads,
        ascending_in_order head_cmp head_cmp_total xs (heads_apart v numbers),
        all_in_order head_cmp IsHeadRow xs (limited external v are.1),
        all_in_order head_cmp (NamesHeld (entries_of v)) xs (heads_name v numbers),
      )

  pub no_counts : ((hs : List HeadRow) → IsPermutation (map head_row hs) (map head_columns (db.trees heads_tree)) → DecidesCounts (entries_of v) hs false) → ¬ AreHeads db v
  no_counts stated heads = stated (heads_in v) heads (each_counted external v are.1)

  few : held_entry_count (entries_of v) ≤ most_ids + 1
  few =
      let all = few_entries external 1 0 (entries_of v) (omega arith) are.1 in
      let some = no_more is_held (entries_of v) in omega (arith, all, some)

  -- the sum of the counts is the number of held entries, or it isn't
  module _ (held total : ℕ) (all : held ≡ held_entry_count (entries_of v)) (hs : List HeadRow) (is : IsWhole hs) (sum : total ≡ up_to_most (sum_of_counts hs)) where
    decided_as : (b : Bool) → (held == total) ≡ b → DecidesHeads db v b
    decided_as true same =
        let n : held ≡ total = same_id held total same in
        let low = few in
        heads_yes hs is (all_of_it held (sum_of_counts hs) (n ∙ sum) (omega (arith, all, low)) ∙ all)
    decided_as false other = λ heads.
        let same = heads_no hs is.0 heads in
        let low = few in
        let whole : up_to_most (sum_of_counts hs) ≡ sum_of_counts hs = uncut (sum_of_counts hs) (omega (arith, same, low)) in
        not_one held total other (all ∙ sym same ∙ sym whole ∙ sym sum)

    pub decided : DecidesHeads db v (held == total)
    decided = decided_as (held == total) refl

-- heads that are none of any vault are those of no sound vault
pub unsound : (n : SchemaVersion) → (db : Database) → DecidesHeadsOf (is_external n) db false → (v : Vault) → ¬ AreSoundAs n db v
unsound n db stated v it = stated v (sound_entries n db v it) it.heads

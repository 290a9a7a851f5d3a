-- Keys by their bytes, and which entry of a key is the one that counts.
use Rattle.std.proofs.Common.{◌≡◌, ℕ, ◌+◌, ◌<◌, ◌==◌, ◌&&◌, ◌||◌, List, [], ◌∷◌, ◌++◌, length, map, filter, Bool, true, false, not, inl, inr, Less, Equal, Greater, Ordering, IsPermutation, refl, sym, ap, subst, ◌∙◌, arith, append_assoc}
use Rattle.std.specs.Prelude.{nat_lt}
use Rattle.std.specs.List.{AllByRecursion, list_any}
use Rattle.std.specs.Str.{bytes_eq}
use Rattle.std.specs.Ordering.{nat_cmp, is_eq, ordering_reverse}
use Rattle.std.specs.Cmp.Lexicographic.{slice_cmp}
use Rattle.std.proofs.lemmas.Bool.{cases_Bool, and_right}
use Rattle.std.proofs.lemmas.Cmp.{nat_list_cmp_total}
use Rattle.std.proofs.lemmas.List.Sorted.{IsPermutation-refl, IsPermutation-sym, IsPermutation-trans, IsPermutation-cons, IsPermutation-middle}
use Rattle.std.proofs.lemmas.Map.Text.{is_eq-slice_cmp}
use Rattle.std.proofs.lemmas.Slice.Eq.{bytes_eq-Decides}
use Rattle.sqlite_trees.specs.Tree.{IsAscending}
use Rattle.sqlite_keyed.proofs.ListLemmas.{all_weaker, none_counted}
use Rattle.vault_core_model.specs.declared.records.History.{History}
use Rattle.vault_core_model.specs.Places.{is_held, is_held_at, is_held_in, newer, is_current, with_key, with_key_by, key_set}
use Rattle.vault_core_model.specs.Sound.{AreIdsFrom}
use Rattle.vault_core_model.specs.Vault.{Vault}
use Rattle.sqlite_tied.proofs.RuleLemmas.{and_true}
use Rattle.vault_core_laws.proofs.Tests.{swapped}
use Rattle.vault_store_reads.proofs.OrderedListLemmas.{filter_twice, filter-append}

abbrev cmp : List ℕ → List ℕ → Ordering
cmp j k = slice_cmp nat_cmp j k

abbrev pub IsRising : List (List ℕ) → Type 0
IsRising = IsAscending (λ j k. slice_cmp nat_cmp j k ≡ Less)

turned : (j k : List ℕ) → cmp k j ≡ Greater → cmp j k ≡ Less
turned j k e = nat_list_cmp_total.antisymm j k ∙ ap ordering_reverse e

back : (j k : List ℕ) → cmp k j ≡ Less → cmp j k ≡ Greater
back j k e = nat_list_cmp_total.antisymm j k ∙ ap ordering_reverse e

-- ---- sets of keys rise

under_with : (j k : List ℕ) (ks : List (List ℕ)) → cmp j k ≡ Less → AllByRecursion (λ x. cmp j x ≡ Less) ks → AllByRecursion (λ x. cmp j x ≡ Less) (with_key k ks)
under_with j k [] low all = (low, tt)
under_with j k (x ∷ xs) low all =
    elim (cmp k x) as (λ o. AllByRecursion (λ y. cmp j y ≡ Less) (with_key_by o k x xs (with_key k xs))) [
      | Less ↦ (low, all)
      | Equal ↦ all
      | Greater ↦ (all.0, under_with j k xs low all.1)
    ]

rise_with : (k : List ℕ) (ks : List (List ℕ)) → IsRising ks → IsRising (with_key k ks)
rise_with k [] up = (tt, tt)
rise_with k (x ∷ xs) up = by_order (cmp k x) refl (rise_with k xs up.1)
  where
    by_order : (o : Ordering) → cmp k x ≡ o → IsRising (with_key k xs) → IsRising (with_key_by o k x xs (with_key k xs))
    by_order Less e rest = ((e, all_weaker (λ y. cmp x y ≡ Less) (λ y. cmp k y ≡ Less) (λ y low. nat_list_cmp_total.trans k x y e low) xs up.0), up)
    by_order Equal e rest = up
    by_order Greater e rest = (under_with x k xs (turned x k e) up.0, rest)

pub keys_rise : (ks : List (List ℕ)) → IsRising (key_set ks)
keys_rise [] = tt
keys_rise (k ∷ ks) = rise_with k (key_set ks) (keys_rise ks)

-- ---- which keys are in a set

abbrev pub among : List ℕ → List (List ℕ) → Bool
among k ks = list_any (λ j. bytes_eq j k) ks

same_first : (b c : Bool) → (b || c) ≡ (b || (b || c))
same_first true c = refl
same_first false c = refl

alike : (a k x : List ℕ) → cmp k x ≡ Equal → bytes_eq k a ≡ bytes_eq x a
alike a k x e = ap (λ y. bytes_eq y a) ((bytes_eq-Decides k x).0 (sym (is_eq-slice_cmp k x) ∙ ap is_eq e))

among_with : (a k : List ℕ) (ks : List (List ℕ)) → among a (with_key k ks) ≡ (bytes_eq k a || among a ks)
among_with a k [] = refl
among_with a k (x ∷ xs) = by_order (cmp k x) refl (among_with a k xs)
  where
    by_order : (o : Ordering) → cmp k x ≡ o → among a (with_key k xs) ≡ (bytes_eq k a || among a xs) → among a (with_key_by o k x xs (with_key k xs)) ≡ (bytes_eq k a || (bytes_eq x a || among a xs))
    by_order Less e rest = refl
    by_order Equal e rest = same_first (bytes_eq x a) (among a xs) ∙ ap (λ b. b || (bytes_eq x a || among a xs)) (sym (alike a k x e))
    by_order Greater e rest = ap (λ b. bytes_eq x a || b) rest ∙ swapped (bytes_eq x a) (bytes_eq k a) (among a xs)

among_set : (a : List ℕ) (ks : List (List ℕ)) → among a (key_set ks) ≡ among a ks
among_set a [] = refl
among_set a (k ∷ ks) = among_with a k (key_set ks) ∙ ap (λ b. bytes_eq k a || b) (among_set a ks)

apart : (j k : List ℕ) → cmp j k ≡ Less → bytes_eq j k ≡ false
apart j k e = sym (is_eq-slice_cmp j k) ∙ ap is_eq e

apart_back : (j k : List ℕ) → cmp j k ≡ Less → bytes_eq k j ≡ false
apart_back j k e = sym (is_eq-slice_cmp k j) ∙ ap is_eq (back k j e)

not_among : (k : List ℕ) (ks : List (List ℕ)) → AllByRecursion (λ x. cmp k x ≡ Less) ks → among k ks ≡ false
not_among k [] all = refl
not_among k (x ∷ xs) all = rw (apart_back k x all.0) (not_among k xs all.1)

-- a key that is there adds nothing
known : (k : List ℕ) (ks : List (List ℕ)) → IsRising ks → among k ks ≡ true → with_key k ks ≡ ks
known k [] up there = absurd cc
known k (x ∷ xs) up there = by_order (cmp k x) refl (known k xs up.1)
  where
    by_order : (o : Ordering) → cmp k x ≡ o → (among k xs ≡ true → with_key k xs ≡ xs) → with_key_by o k x xs (with_key k xs) ≡ x ∷ xs
    by_order Less e rest = absurd (let none = not_among k (x ∷ xs) (e, all_weaker (λ y. cmp x y ≡ Less) (λ y. cmp k y ≡ Less) (λ y low. nat_list_cmp_total.trans k x y e low) xs up.0) in cc (none, there))
    by_order Equal e rest = refl
    by_order Greater e rest = ap (λ l. x ∷ l) (rest (rw (apart x k (turned x k e)) at there))

-- one that isn't comes to the others
fresh : (k : List ℕ) (ks : List (List ℕ)) → among k ks ≡ false → IsPermutation (k ∷ ks) (with_key k ks)
fresh k [] none = IsPermutation-refl (k ∷ [])
fresh k (x ∷ xs) none = by_order (cmp k x) refl (fresh k xs)
  where
    by_order : (o : Ordering) → cmp k x ≡ o → (among k xs ≡ false → IsPermutation (k ∷ xs) (with_key k xs)) → IsPermutation (k ∷ x ∷ xs) (with_key_by o k x xs (with_key k xs))
    by_order Less e rest = IsPermutation-refl (k ∷ x ∷ xs)
    by_order Equal e rest = absurd (let same : bytes_eq x k ≡ true = sym (alike k k x e) ∙ (bytes_eq-Decides k k).1 refl in let yes_ : among k (x ∷ xs) ≡ true = rw same refl in cc (yes_, none))
    by_order Greater e rest =
        IsPermutation-trans _ _ _ (IsPermutation-sym _ _ (IsPermutation-middle (x ∷ []) k xs)) (IsPermutation-cons x _ _ (rest (rw (apart x k (turned x k e)) at none)))

-- ---- the current entries

-- a held entry is current where none of its key is held after it
abbrev pub AreNow : Vault → List History → Type 0
AreNow v [] = Unit {0}
AreNow v (h ∷ hs) = (is_current v h ≡ (is_held h.entry && not (list_any (λ g. is_held_at h.entry.bucket h.entry.key g.entry) hs))) × AreNow v hs

lt_false : (i j : ℕ) → j < i + 1 → nat_lt i j ≡ false
lt_false i j low = grind (arith, low)

lt_true : (i j : ℕ) → i < j → nat_lt i j ≡ true
lt_true i j low = grind (arith, low)

older_left : (p : History → Bool) (i : ℕ) (hs : List History) → AllByRecursion (λ g. g.entry.id < i + 1) hs → filter (λ g. p g && nat_lt i g.entry.id) hs ≡ []
older_left p i [] all = refl
older_left p i (h ∷ hs) all = rw (lt_false i h.entry.id all.0, and_right (p h) false refl) (older_left p i hs all.1)

newer_kept : (p : History → Bool) (i n : ℕ) (hs : List History) → i < n → AreIdsFrom n hs → filter (λ g. p g && nat_lt i g.entry.id) hs ≡ filter p hs
newer_kept p i n [] low ids = refl
newer_kept p i n (h ∷ hs) low ids =
    let here : (p h && nat_lt i h.entry.id) ≡ p h = ap (λ b. p h && b) (lt_true i h.entry.id (omega (arith, low, ids.0))) ∙ and_true (p h) in
    elim (cases_Bool (p h)) [
      | inl kept ↦ rw (here ∙ kept, kept) (ap (λ l. h ∷ l) (newer_kept p i (n + 1) hs (omega (arith, low)) ids.1))
      | inr left ↦ rw (here ∙ left, left) (newer_kept p i (n + 1) hs (omega (arith, low)) ids.1)
    ]

all_more : (n : ℕ) (xs : List History) (h : History) → AllByRecursion (λ g. g.entry.id < n) xs → h.entry.id ≡ n → AllByRecursion (λ g. g.entry.id < n + 1) (xs ++ h ∷ [])
all_more n [] h all is = (omega (arith, is), tt)
all_more n (x ∷ xs) h all is = (omega (arith, all.0), all_more n xs h all.1 is)

later_ones : (v : Vault) (n : ℕ) (front : List History) (h : History) (hs : List History) → v.histories ≡ front ++ h ∷ hs → AllByRecursion (λ g. g.entry.id < n) front → AreIdsFrom n (h ∷ hs)
    → newer v h ≡ filter (λ g. is_held_at h.entry.bucket h.entry.key g.entry) hs
later_ones v n front h hs is old ids =
    let p = λ (g : History). is_held_at h.entry.bucket h.entry.key g.entry in
    let q = λ (g : History). p g && nat_lt h.entry.id g.entry.id in
    let id : h.entry.id ≡ n = ids.0 in
    let before = all_weaker (λ g. g.entry.id < n) (λ g. g.entry.id < h.entry.id + 1) (λ g low. omega (arith, low, id)) front old in
    filter_twice (λ g. nat_lt h.entry.id g.entry.id) p v.histories ∙ ap (filter q) is ∙ filter-append q front (h ∷ hs) ∙ ap (λ l. l ++ filter q (h ∷ hs)) (older_left p h.entry.id front before)
    ∙ filter-append q (h ∷ []) hs ∙ ap (λ l. l ++ filter q hs) (older_left p h.entry.id (h ∷ []) (omega arith, tt)) ∙ newer_kept p h.entry.id (n + 1) hs (omega (arith, id)) ids.1

now_from : (v : Vault) (n : ℕ) (front hs : List History) → v.histories ≡ front ++ hs → AllByRecursion (λ g. g.entry.id < n) front → AreIdsFrom n hs → AreNow v hs
now_from v n front [] is old ids = tt
now_from v n front (h ∷ hs) is old ids = (
  ap (λ l. is_held h.entry && (length l == 0)) (later_ones v n front h hs is old ids) ∙ ap (λ b. is_held h.entry && b) (none_counted (λ (g : History). is_held_at h.entry.bucket h.entry.key g.entry) hs),
  now_from v (n + 1) (front ++ h ∷ []) hs (is ∙ sym (append_assoc front (h ∷ []) hs)) (all_more n front h old ids.0) ids.1,
)

pub are_now : (v : Vault) → AreIdsFrom 1 v.histories → AreNow v v.histories
are_now v ids = now_from v 1 [] v.histories refl tt ids

-- ---- their keys

abbrev pub held_keys : List ℕ → List History → List (List ℕ)
held_keys bucket hs = map (λ h. h.entry.key) (filter (λ h. is_held_in bucket h.entry) hs)

abbrev pub now_keys : Vault → List ℕ → List History → List (List ℕ)
now_keys v bucket hs = map (λ h. h.entry.key) (filter (λ h. is_current v h && bytes_eq h.entry.bucket bucket) hs)

held_among : (bucket key : List ℕ) (hs : List History) → list_any (λ g. is_held_at bucket key g.entry) hs ≡ among key (held_keys bucket hs)
held_among bucket key [] = refl
held_among bucket key (g ∷ gs) = elim (cases_Bool (bytes_eq g.entry.bucket bucket)) [
  | inl here ↦ elim (cases_Bool (is_held g.entry)) [
    | inl held ↦ rw (here, held, and_true (bytes_eq g.entry.key key)) (ap (λ b. bytes_eq g.entry.key key || b) (held_among bucket key gs))
    | inr gone ↦ rw (here, gone, and_right (bytes_eq g.entry.key key) false refl) (held_among bucket key gs)
  ]
  | inr elsewhere ↦ rw elsewhere (held_among bucket key gs)
]

-- each key that has a held entry has one that is current
pub one_each : (v : Vault) (bucket : List ℕ) (hs : List History) → AreNow v hs → IsPermutation (key_set (held_keys bucket hs)) (now_keys v bucket hs)
one_each v bucket [] now = IsPermutation-refl []
one_each v bucket (h ∷ hs) now = elim (cases_Bool (is_held h.entry)) [
  | inr gone ↦ rw (now.0, gone, and_right (bytes_eq h.entry.bucket bucket) false refl) (one_each v bucket hs now.1)
  | inl held ↦ elim (cases_Bool (bytes_eq h.entry.bucket bucket)) [
    | inr elsewhere ↦ rw (elsewhere, and_right (is_current v h) false refl) (one_each v bucket hs now.1)
    | inl here ↦
        let ks = key_set (held_keys bucket hs) in
        let same : h.entry.bucket ≡ bucket = (bytes_eq-Decides h.entry.bucket bucket).0 here in
        let any : list_any (λ g. is_held_at h.entry.bucket h.entry.key g.entry) hs ≡ among h.entry.key ks =
        ap (λ b. list_any (λ (g : History). is_held_at b h.entry.key g.entry) hs) same ∙ held_among bucket h.entry.key hs ∙ sym (among_set h.entry.key (held_keys bucket hs)) in
        elim (cases_Bool (among h.entry.key ks)) [
          | inl there ↦
              let later : is_current v h ≡ false = now.0 ∙ ap (λ b. is_held h.entry && not b) (any ∙ there) ∙ and_right (is_held h.entry) false refl in
              rw (later, held, here) (subst (λ l. IsPermutation l (now_keys v bucket hs)) (sym (known h.entry.key ks (keys_rise (held_keys bucket hs)) there)) (one_each v bucket hs now.1))
          | inr none ↦
              let current : is_current v h ≡ true = now.0 ∙ ap (λ b. is_held h.entry && not b) (any ∙ none) ∙ ap (λ b. b && true) held in
              rw (current, held, here) (IsPermutation-trans _ _ _ (IsPermutation-sym _ _ (fresh h.entry.key ks none)) (IsPermutation-cons h.entry.key _ _ (one_each v bucket hs now.1)))
        ]
  ]
]

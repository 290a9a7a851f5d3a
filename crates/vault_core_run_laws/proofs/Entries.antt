-- The held entries of a key among histories, and what a marker and a removal make of them.
use Rattle.std.proofs.Common.{◌≡◌, ℕ, ◌+◌, ◌<◌, ◌≤◌, ◌++◌, ◌&&◌, ◌==◌, Bool, true, false, nat_lt, IsTrue, List, [], ◌∷◌, Option, Some, None, is_none, length, map, filter, not, refl, sym, ap, subst, ◌∙◌, arith, cond, ⊎_elim, if◌then◌else◌}
use Rattle.std.specs.List.{list_all}
use Rattle.std.specs.Str.{bytes_eq}
use Rattle.std.proofs.lemmas.Bool.Decides.{nat_tests}
use Rattle.std.proofs.lemmas.Slice.Eq.{bytes_eq-Decides}
use Rattle.vault_rules.specs.declared.plan.Held.{Held}
use Rattle.vault_rules.specs.KeyRepeats.{without}
use Rattle.vault_rules.specs.Walk.{marker_at}
use Rattle.vault_rules.proofs.KeyRepeat.{IsBelow, IsInOrder}
use Rattle.vault_rules.proofs.Truth.{and_true, test_of_less}
use Rattle.vault_core_model.specs.declared.records.Author.{Author}
use Rattle.vault_core_model.specs.declared.records.Entry.{Entry}
use Rattle.vault_core_model.specs.declared.records.History.{History}
use Rattle.vault_core_model.specs.declared.records.Removal.{Removal}
use Rattle.vault_core_model.specs.Places.{is_held, is_held_at}
use Rattle.vault_core_model.specs.Reads.{held_of}
use Rattle.vault_core_model.specs.Change.{removed_if, removed_by}
use Rattle.vault_core_model.specs.EntryOutcomes.{new_marker}
use Rattle.vault_core_model.specs.Sound.{AreIdsFrom, AreInOrder}
use Rattle.vault_core_run_laws.proofs.KeyOrder.{bytes_same}
use Rattle.vault_core_run_laws.proofs.KeySteps.{HasId, AllNot}

-- x before these, where the test passes
abbrev pub put_if : Bool → Held → List Held → List Held
put_if b x xs = cond b (x ∷ xs) xs

-- the held entries of a key among these
abbrev pub entries_in : List ℕ → List ℕ → List History → List Held
entries_in b k hs = map held_of (filter (λ h. is_held_at b k h.entry) hs)

pub entries_in-cons : (b k : List ℕ) (h : History) (hs : List History) → entries_in b k (h ∷ hs) ≡ put_if (is_held_at b k h.entry) (held_of h) (entries_in b k hs)
entries_in-cons b k h hs = cases (is_held_at b k h.entry)
  where
    cases : (c : Bool) → map held_of (cond c (h ∷ filter (λ g. is_held_at b k g.entry) hs) (filter (λ g. is_held_at b k g.entry) hs)) ≡ put_if c (held_of h) (entries_in b k hs)
    cases true = refl
    cases false = refl

-- ---- of which key an entry is

pub all_three : (x y z : Bool) → (x && (y && z)) ≡ true → (x ≡ true) × (y ≡ true) × (z ≡ true)
all_three true true true e = (refl, refl, refl)
all_three true true false e = absurd (cc)
all_three true false z e = absurd (cc)
all_three false y z e = absurd (cc)

not_removed : (o : Option Removal) → is_none o ≡ true → o ≡ None
not_removed None e = refl
not_removed (Some r) e = absurd (cc)

-- what is held at a key isn't removed
pub held_at_is : (b k : List ℕ) (e : Entry) → is_held_at b k e ≡ true → e.removal ≡ None
held_at_is b k e held = not_removed e.removal (all_three (bytes_eq e.bucket b) (bytes_eq e.key k) (is_held e) held).2

other_name : (x z : Bool) → (x && (false && z)) ≡ false
other_name true z = refl
other_name false z = refl

-- an entry is of one key
other_key : (b k j : List ℕ) (e : Entry) → bytes_eq k j ≡ false → is_held_at b k e ≡ true → is_held_at b j e ≡ false
other_key b k j e a held =
    let same : e.key ≡ k = (bytes_eq-Decides e.key k).0 (all_three (bytes_eq e.bucket b) (bytes_eq e.key k) (is_held e) held).1 in
    ap (λ x. bytes_eq e.bucket b && (x && is_held e)) (ap (λ x. bytes_eq x j) same ∙ a) ∙ other_name (bytes_eq e.bucket b) (is_held e)

-- ---- a removal

not_held : (x y : Bool) → (x && (y && false)) ≡ false
not_held true true = refl
not_held true false = refl
not_held false y = refl

one_removed : (b k : List ℕ) (i : ℕ) (r : Removal) (h : History) (l : List Held) → put_if (is_held_at b k (removed_if i r h).entry) (held_of (removed_if i r h)) (without i l) ≡ without i (put_if (is_held_at b k h.entry) (held_of h) l)
one_removed b k i r h l = cases (h.entry.id == i) refl
  where
    kept_held : (c : Bool) → (h.entry.id == i) ≡ false → put_if c (held_of h) (without i l) ≡ without i (put_if c (held_of h) l)
    kept_held true n = sym (ap (λ x. cond (not x) (held_of h ∷ without i l) (without i l)) n)
    kept_held false n = refl

    gone_held : (c : Bool) → (h.entry.id == i) ≡ true → without i l ≡ without i (put_if c (held_of h) l)
    gone_held true n = sym (ap (λ x. cond (not x) (held_of h ∷ without i l) (without i l)) n)
    gone_held false n = refl

    cases : (e : Bool) → (h.entry.id == i) ≡ e → put_if (is_held_at b k (removed_if i r h).entry) (held_of (removed_if i r h)) (without i l) ≡ without i (put_if (is_held_at b k h.entry) (held_of h) l)
    cases true n =
        let gone : removed_if i r h ≡ removed_by r h = ap (λ x. if x then removed_by r h else h) n in
        ap (λ g. put_if (is_held_at b k g.entry) (held_of g) (without i l)) gone
        ∙ (ap (λ c. put_if c (held_of (removed_by r h)) (without i l)) (not_held (bytes_eq h.entry.bucket b) (bytes_eq h.entry.key k))
        ∙ gone_held (is_held_at b k h.entry) n)
    cases false n =
        let kept : removed_if i r h ≡ h = ap (λ x. if x then removed_by r h else h) n in
        ap (λ g. put_if (is_held_at b k g.entry) (held_of g) (without i l)) kept ∙ kept_held (is_held_at b k h.entry) n

pub entries-removed : (b k : List ℕ) (i : ℕ) (r : Removal) (hs : List History) → entries_in b k (map (removed_if i r) hs) ≡ without i (entries_in b k hs)
entries-removed b k i r [] = refl
entries-removed b k i r (h ∷ hs) =
    entries_in-cons b k (removed_if i r h) (map (removed_if i r) hs)
    ∙ (ap (put_if (is_held_at b k (removed_if i r h).entry) (held_of (removed_if i r h))) (entries-removed b k i r hs)
    ∙ (one_removed b k i r h (entries_in b k hs) ∙ ap (without i) (sym (entries_in-cons b k h hs))))

-- ---- a new marker

put_append : (c : Bool) (x : Held) (xs ys : List Held) → put_if c x (xs ++ ys) ≡ put_if c x xs ++ ys
put_append true x xs ys = refl
put_append false x xs ys = refl

and_held : (c : Bool) → (c && true) ≡ c
and_held true = refl
and_held false = refl

marker_is : (b k j : List ℕ) (n t : ℕ) (by : Author) (c : Bool) → bytes_eq j k ≡ c → is_held_at b k (new_marker n b j t by).entry ≡ c
marker_is b k j n t by c e = ap (λ x. x && (bytes_eq j k && true)) (bytes_same b) ∙ (ap (λ x. x && true) e ∙ and_held c)

pub entries-marked : (b k j : List ℕ) (n t : ℕ) (by : Author) (c : Bool) (hs : List History) → bytes_eq j k ≡ c → entries_in b k (hs ++ new_marker n b j t by ∷ []) ≡ entries_in b k hs ++ put_if c (marker_at n t) []
entries-marked b k j n t by c [] e = entries_in-cons b k (new_marker n b j t by) [] ∙ ap (λ x. put_if x (marker_at n t) []) (marker_is b k j n t by c e)
entries-marked b k j n t by c (h ∷ hs) e =
    entries_in-cons b k h (hs ++ new_marker n b j t by ∷ [])
    ∙ (ap (put_if (is_held_at b k h.entry) (held_of h)) (entries-marked b k j n t by c hs e)
    ∙ (put_append (is_held_at b k h.entry) (held_of h) (entries_in b k hs) (put_if c (marker_at n t) [])
    ∙ ap (λ l. l ++ put_if c (marker_at n t) []) (sym (entries_in-cons b k h hs))))

-- ---- the order of admission

-- ids rise by one from n, and no admission goes back or is after t
abbrev pub AreOrderly : ℕ → ℕ → ℕ → List History → Type 0
AreOrderly n from t [] = from ≤ t
AreOrderly n from t (h ∷ hs) = (h.entry.id ≡ n) × (from ≤ h.entry.admitted) × AreOrderly (n + 1) h.entry.admitted t hs

pub orderly_of : (n from t : ℕ) (hs : List History) → AreIdsFrom n hs → AreInOrder from t hs → AreOrderly n from t hs
orderly_of n from t [] ids order = order
orderly_of n from t (h ∷ hs) ids order = (ids.0, order.0, orderly_of (n + 1) h.entry.admitted t hs ids.1 order.1)

pub ids_of_orderly : (n from t : ℕ) (hs : List History) → AreOrderly n from t hs → AreIdsFrom n hs
ids_of_orderly n from t [] c = tt
ids_of_orderly n from t (h ∷ hs) c = (c.0, ids_of_orderly (n + 1) h.entry.admitted t hs c.2)

pub order_of_orderly : (n from t : ℕ) (hs : List History) → AreOrderly n from t hs → AreInOrder from t hs
order_of_orderly n from t [] c = c
order_of_orderly n from t (h ∷ hs) c = (c.1, order_of_orderly (n + 1) h.entry.admitted t hs c.2)

put_below : (c : Bool) (w x : Held) (xs : List Held) → w.id < x.id → w.admitted ≤ x.admitted → IsBelow w xs → IsBelow w (put_if c x xs)
put_below true w x xs a b h = (a, b, h)
put_below false w x xs a b h = h

below_entries : (b k : List ℕ) (w : Held) (n from t : ℕ) (hs : List History) → w.id < n → w.admitted ≤ from → AreOrderly n from t hs → IsBelow w (entries_in b k hs)
below_entries b k w n from t [] l a c = tt
below_entries b k w n from t (h ∷ hs) l a c =
    let id : w.id < h.entry.id = omega (arith, c.0) in
    let at : w.admitted ≤ h.entry.admitted = omega (arith, c.1) in
    subst (IsBelow w) (sym (entries_in-cons b k h hs)) (put_below (is_held_at b k h.entry) w (held_of h) (entries_in b k hs) id at (below_entries b k w (n + 1) h.entry.admitted t hs (omega arith) at c.2))

put_order : (c : Bool) (x : Held) (xs : List Held) → IsBelow x xs → IsInOrder xs → IsInOrder (put_if c x xs)
put_order true x xs a b = (a, b)
put_order false x xs a b = b

pub order_entries : (b k : List ℕ) (n from t : ℕ) (hs : List History) → AreOrderly n from t hs → IsInOrder (entries_in b k hs)
order_entries b k n from t [] c = tt
order_entries b k n from t (h ∷ hs) c =
    subst IsInOrder (sym (entries_in-cons b k h hs)) (put_order (is_held_at b k h.entry) (held_of h) (entries_in b k hs) (below_entries b k (held_of h) (n + 1) h.entry.admitted t hs (omega (arith, c.0)) (omega arith) c.2) (order_entries b k (n + 1) h.entry.admitted t hs c.2))

put_under : (c : Bool) (x : Held) (xs : List Held) (m : ℕ) → x.id < m → IsTrue (list_all (λ y. nat_lt y.id m) xs) → IsTrue (list_all (λ y. nat_lt y.id m) (put_if c x xs))
put_under true x xs m a h = and_true (nat_lt x.id m) (list_all (λ y. nat_lt y.id m) xs) (test_of_less x.id m a) h
put_under false x xs m a h = h

pub under_entries : (b k : List ℕ) (n from t m : ℕ) (hs : List History) → n + length hs ≤ m → AreOrderly n from t hs → IsTrue (list_all (λ y. nat_lt y.id m) (entries_in b k hs))
under_entries b k n from t m [] l c = refl
under_entries b k n from t m (h ∷ hs) l c =
    subst (λ es. IsTrue (list_all (λ y. nat_lt y.id m) es)) (sym (entries_in-cons b k h hs)) (put_under (is_held_at b k h.entry) (held_of h) (entries_in b k hs) m (omega (arith, c.0)) (under_entries b k (n + 1) h.entry.admitted t m hs (omega arith) c.2))

pub orderly_marked : (b k : List ℕ) (by : Author) (n from t m : ℕ) (hs : List History) → m ≡ n + length hs → AreOrderly n from t hs → AreOrderly n from t (hs ++ new_marker m b k t by ∷ [])
orderly_marked b k by n from t m [] e c = (omega arith, c, omega arith)
orderly_marked b k by n from t m (h ∷ hs) e c = (c.0, c.1, orderly_marked b k by (n + 1) h.entry.admitted t m hs (omega arith) c.2)

same_id : (i : ℕ) (r : Removal) (h : History) → (removed_if i r h).entry.id ≡ h.entry.id
same_id i r h = cases (h.entry.id == i)
  where
    cases : (e : Bool) → (if e then removed_by r h else h).entry.id ≡ h.entry.id
    cases true = refl
    cases false = refl

same_admitted : (i : ℕ) (r : Removal) (h : History) → (removed_if i r h).entry.admitted ≡ h.entry.admitted
same_admitted i r h = cases (h.entry.id == i)
  where
    cases : (e : Bool) → (if e then removed_by r h else h).entry.admitted ≡ h.entry.admitted
    cases true = refl
    cases false = refl

pub orderly_removed : (i : ℕ) (r : Removal) (n from t : ℕ) (hs : List History) → AreOrderly n from t hs → AreOrderly n from t (map (removed_if i r) hs)
orderly_removed i r n from t [] c = c
orderly_removed i r n from t (h ∷ hs) c = (
  same_id i r h ∙ c.0,
  subst (λ x. from ≤ x) (sym (same_admitted i r h)) c.1,
  subst (λ x. AreOrderly (n + 1) x t (map (removed_if i r) hs)) (sym (same_admitted i r h)) (orderly_removed i r (n + 1) h.entry.admitted t hs c.2),
)

-- ---- an id is of one key

has_least : (b k : List ℕ) (i n from t : ℕ) (hs : List History) → AreOrderly n from t hs → HasId i (entries_in b k hs) → n ≤ i
has_least b k i n from t [] c h = absurd h
has_least b k i n from t (x ∷ hs) c h = cases (is_held_at b k x.entry) (subst (HasId i) (entries_in-cons b k x hs) h) (λ g. has_least b k i (n + 1) x.entry.admitted t hs c.2 g)
  where
    cases : (a : Bool) → HasId i (put_if a (held_of x) (entries_in b k hs)) → (HasId i (entries_in b k hs) → n + 1 ≤ i) → n ≤ i
    cases true g ih = ⊎_elim (λ (e : x.entry.id ≡ i). omega (arith, e, c.0)) (λ (r : HasId i (entries_in b k hs)). omega (arith, ih r)) g
    cases false g ih = omega (arith, ih g)

not_same : (m n : ℕ) → m < n → (m == n) ≡ false
not_same m n h = grind (arith, nat_tests)

not_same_back : (m n : ℕ) → n < m → (m == n) ≡ false
not_same_back m n h = grind (arith, nat_tests)

put_not : (c : Bool) (x : Held) (xs : List Held) (i : ℕ) → (x.id == i) ≡ false → AllNot i xs → AllNot i (put_if c x xs)
put_not true x xs i a h = (a, h)
put_not false x xs i a h = h

above_not : (b k : List ℕ) (i n from t : ℕ) (hs : List History) → i < n → AreOrderly n from t hs → AllNot i (entries_in b k hs)
above_not b k i n from t [] l c = tt
above_not b k i n from t (h ∷ hs) l c =
    subst (AllNot i) (sym (entries_in-cons b k h hs)) (put_not (is_held_at b k h.entry) (held_of h) (entries_in b k hs) i (not_same_back h.entry.id i (omega (arith, c.0))) (above_not b k i (n + 1) h.entry.admitted t hs (omega arith) c.2))

pub id_of_one : (b k j : List ℕ) (i n from t : ℕ) (hs : List History) → AreOrderly n from t hs → bytes_eq k j ≡ false → HasId i (entries_in b k hs) → AllNot i (entries_in b j hs)
id_of_one b k j i n from t [] c a h = tt
id_of_one b k j i n from t (x ∷ hs) c a h =
    let later : HasId i (entries_in b k hs) → AllNot i (put_if (is_held_at b j x.entry) (held_of x) (entries_in b j hs)) = λ g.
    let e = has_least b k i (n + 1) x.entry.admitted t hs c.2 g in
    put_not (is_held_at b j x.entry) (held_of x) (entries_in b j hs) i (not_same x.entry.id i (omega (arith, e, c.0))) (id_of_one b k j i (n + 1) x.entry.admitted t hs c.2 a g) in
    subst (AllNot i) (sym (entries_in-cons b j x hs)) (cases (is_held_at b k x.entry) refl (subst (HasId i) (entries_in-cons b k x hs) h) later)
  where
    cases : (y : Bool) → is_held_at b k x.entry ≡ y → HasId i (put_if y (held_of x) (entries_in b k hs)) → (HasId i (entries_in b k hs) → AllNot i (put_if (is_held_at b j x.entry) (held_of x) (entries_in b j hs))) → AllNot i (put_if (is_held_at b j x.entry) (held_of x) (entries_in b j hs))
    cases true m g ih =
        ⊎_elim (λ (e : x.entry.id ≡ i). subst (λ z. AllNot i (put_if z (held_of x) (entries_in b j hs))) (sym (other_key b k j x.entry a m)) (above_not b j i (n + 1) x.entry.admitted t hs (omega (arith, e, c.0)) c.2))
        (λ (r : HasId i (entries_in b k hs)). ih r) g
    cases false m g ih = ih g

-- The history at a place of a sound vault is found by its id: so a walk over ids is one over histories.
use Rattle.std.proofs.Common.{◌≡◌, ℕ, zero, suc, ◌+◌, ◌-◌, ◌≤◌, ◌<◌, List, [], ◌∷◌, ◌++◌, Bool, true, false, Option, Some, None, refl, sym, ap, subst, ◌∙◌, arith, drop, take, length, length-drop, length-take-le}
use Rattle.std.specs.Prelude.{if◌then◌else◌, find, option_map, unwrap_or, ◌==◌, slice_get}
use Rattle.std.specs.List.{AllByRecursion}
use Rattle.std.proofs.lemmas.List.{drop_all}
use Rattle.vault_core_model.specs.declared.records.Caller.{Caller}
use Rattle.vault_core_model.specs.declared.records.History.{History}
use Rattle.vault_core_model.specs.Reads.{entry_of, settings_of, tenures_of}
use Rattle.vault_core_model.specs.Vault.{Vault, caller_of, history_of, registrar_name}
use Rattle.vault_core_model.specs.Sound.{AreIdsFrom, AreInOrder, HasTenures, Sound}
use Rattle.vault_core_laws.proofs.Lists.{All-both}
use Rattle.vault_core_evidence.specs.declared.breach.Breach.{Breach}
use Rattle.vault_core_evidence.specs.declared.breach.Law.{Law}
use Rattle.vault_core_evidence.specs.declared.breach.Law.TheVariants as law
use Rattle.vault_core_evidence.specs.declared.holders.Holders.{Holders}
use Rattle.vault_core_evidence.specs.declared.seen_moves.Move.{Move}
use Rattle.vault_core_evidence.specs.declared.seen_moves.SeenMoves.{SeenMoves}
use Rattle.vault_core_evidence.specs.Departments.{agrees_with}
use Rattle.vault_core_evidence.specs.Holders.{holder_of}
use Rattle.vault_core_evidence.specs.Lawful.{has_registrar, is_registrar}
use Rattle.vault_core_evidence.specs.Moves.{none_seen, seen_after, seen_of}
use Rattle.vault_core_evidence.specs.Parts.{range, range_breach}
use Rattle.vault_core_evidence.specs.Breaches.{Test, test, broken, breach, breach_or, department_tests, first_breach_after, move_tests, rule_tests}
use Rattle.vault_core_evidence.specs.Walk.{Finds}
use Rattle.vault_core_evidence.proofs.MoveTests.{IsSameBook, are_seen-same, after-same}
use Rattle.vault_core_evidence.proofs.HolderLemmas.{AreBy, IsTimely, Knows, knows_next, knows_none, same_test, timely}

same_id : (a n : ℕ) → a ≡ n → (a == n + 0) ≡ true
same_id a n e = grind (arith, e)

other_id : (a n i : ℕ) → a ≡ n → (a == n + suc i) ≡ false
other_id a n i e = grind (arith, e)

at_place : (n i : ℕ) (hs : List History) → AreIdsFrom n hs → find (λ h. h.entry.id == n + i) hs ≡ slice_get hs i
at_place n i [] ids = refl
at_place n zero (h ∷ hs) ids = rw (same_id h.entry.id n ids.0) refl
at_place n (suc i) (h ∷ hs) ids =
    let next : n + suc i ≡ n + 1 + i = omega arith in
    rw (other_id h.entry.id n i ids.0) (ap (λ k. find (λ (g : History). g.entry.id == k) hs) next ∙ at_place (n + 1) i hs ids.1)

pub history_at : (v : Vault) (i id : ℕ) → Sound v → i + 1 ≡ id → history_of v id ≡ slice_get v.histories i
history_at v i id sound same =
    let k : id ≡ 1 + i = omega (arith, same) in
    ap (λ n. history_of v n) k ∙ at_place 1 i v.histories sound.ids

own_id : (n i : ℕ) (hs : List History) (h : History) → AreIdsFrom n hs → slice_get hs i ≡ Some h → h.entry.id ≡ n + i
own_id n i [] h ids is = absurd (cc is)
own_id n zero (g ∷ gs) h ids is =
    let same : g ≡ h = cc is in
    ap (λ (x : History). x.entry.id) (sym same) ∙ (ids.0 ∙ omega arith)
own_id n (suc i) (g ∷ gs) h ids is =
    let next : n + 1 + i ≡ n + suc i = omega arith in
    own_id (n + 1) i gs h ids.1 is ∙ next

-- ---- the entries of a range

get-take : (n i : ℕ) (hs : List History) → i < n → slice_get (take n hs) i ≡ slice_get hs i
get-take zero i hs low = absurd (omega (arith, low))
get-take (suc n) i [] low = refl
get-take (suc n) zero (h ∷ hs) low = refl
get-take (suc n) (suc i) (h ∷ hs) low = get-take n i hs (omega (arith, low))

pub get-drop : (a i : ℕ) (hs : List History) → slice_get (drop a hs) i ≡ slice_get hs (a + i)
get-drop zero i hs = let e : i ≡ 0 + i = omega arith in ap (slice_get hs) e
get-drop (suc a) i [] = refl
get-drop (suc a) i (h ∷ hs) = let e : suc (a + i) ≡ suc a + i = omega arith in get-drop a i hs ∙ ap (slice_get (h ∷ hs)) e

pub in_range : (v : Vault) (from most i : ℕ) → i < most → slice_get (range v from most) i ≡ slice_get v.histories (from + i)
in_range v from most i low = get-take most i (drop from v.histories) low ∙ get-drop from i v.histories

pub length_of : (v : Vault) (from most : ℕ) → most ≤ length v.histories - from → length (range v from most) ≡ most
length_of v from most within = length-take-le most (drop from v.histories) (omega (arith, within, length-drop from v.histories))

-- ---- the order of admissions

abbrev IsLater : History → History → Type 0
IsLater h g = h.entry.admitted ≤ g.entry.admitted

abbrev Sorted : List History → Type 0
Sorted [] = Unit {0}
Sorted (h ∷ hs) = AllByRecursion (IsLater h) hs × Sorted hs

all_later : (from last t : ℕ) (hs : List History) → t ≤ from → AreInOrder from last hs → AllByRecursion (λ g. t ≤ g.entry.admitted) hs
all_later from last t [] le order = tt
all_later from last t (h ∷ hs) le order = (omega (arith, le, order.0), all_later h.entry.admitted last t hs (omega (arith, le, order.0)) order.1)

sorted : (from last : ℕ) (hs : List History) → AreInOrder from last hs → Sorted hs
sorted from last [] order = tt
sorted from last (h ∷ hs) order = (all_later h.entry.admitted last h.entry.admitted hs (omega arith) order.1, sorted h.entry.admitted last hs order.1)

All-take : (P : History → Type 0) (n : ℕ) (hs : List History) → AllByRecursion P hs → AllByRecursion P (take n hs)
All-take P zero hs all = tt
All-take P (suc n) [] all = tt
All-take P (suc n) (h ∷ hs) all = (all.0, All-take P n hs all.1)

Sorted-take : (n : ℕ) (hs : List History) → Sorted hs → Sorted (take n hs)
Sorted-take zero hs all = tt
Sorted-take (suc n) [] all = tt
Sorted-take (suc n) (h ∷ hs) all = (All-take (IsLater h) n hs all.0, Sorted-take n hs all.1)

Sorted-drop : (n : ℕ) (hs : List History) → Sorted hs → Sorted (drop n hs)
Sorted-drop zero hs all = all
Sorted-drop (suc n) [] all = tt
Sorted-drop (suc n) (h ∷ hs) all = Sorted-drop n hs all.1

sorted_range : (v : Vault) (from most : ℕ) → Sound v → Sorted (range v from most)
sorted_range v from most sound = Sorted-take most (drop from v.histories) (Sorted-drop from v.histories (sorted 0 v.last v.histories sound.order))

-- ---- the one at a place

pub drop_is : (hs : List History) (i : ℕ) (h : History) → slice_get hs i ≡ Some h → drop i hs ≡ h ∷ drop (suc i) hs
drop_is [] i h is = absurd (cc is)
drop_is (g ∷ gs) zero h is = let same : g ≡ h = cc is in ap (λ (x : History). x ∷ gs) same
drop_is (g ∷ gs) (suc i) h is = drop_is gs i h is

All-get : (P : History → Type 0) (hs : List History) (i : ℕ) (h : History) → AllByRecursion P hs → slice_get hs i ≡ Some h → P h
All-get P [] i h all is = absurd (cc is)
All-get P (g ∷ gs) zero h all is = let same : g ≡ h = cc is in subst P same all.0
All-get P (g ∷ gs) (suc i) h all is = All-get P gs i h all.1 is

pub no_history : (hs : List History) (i : ℕ) → i < length hs → slice_get hs i ≡ None → ⊥
no_history [] i low is = absurd (omega (arith, low))
no_history (h ∷ hs) zero low is = absurd (cc is)
no_history (h ∷ hs) (suc i) low is = no_history hs i (omega (arith, low)) is

-- ---- books with the same moves

breach-same : (v : Vault) (book other : ℕ → Option Move) (before : List History) (h : History) → IsSameBook book other → breach v book before h ≡ breach v other before h
breach-same v book other before h same =
    ap (λ b. broken (rule_tests v h.entry h.settings h.tenures ++ (test b law.Move ∷ [] ++ department_tests before h))) (are_seen-same book other h.entry.bucket h.tenures same)

first-same : (v : Vault) (book other : ℕ → Option Move) (before hs : List History) → IsSameBook book other → first_breach_after v book before hs ≡ first_breach_after v other before hs
first-same v book other before [] same = refl
first-same v book other before (h ∷ hs) same =
    ap (λ (o : Option Law). breach_or h.entry.id o (first_breach_after v (seen_after book h.entry.bucket h.tenures) (h ∷ before) hs)) (breach-same v book other before h same)
    ∙ ap (λ (o : Option Breach). breach_or h.entry.id (breach v other before h) o)
    (first-same v (seen_after book h.entry.bucket h.tenures) (seen_after other h.entry.bucket h.tenures) (h ∷ before) hs (after-same book other h.entry.bucket h.tenures same))

-- ---- a walk over ids

-- those before were admitted before each of the others
abbrev pub AreBefore : List History → List History → Type 0
AreBefore before hs = AllByRecursion (λ h. AreBy h.entry.admitted before) hs

-- the breach is the first of the histories of a range from a place on, beside those before it, of which the code knows enough
pub record IsLeft (v : Vault) (from most : ℕ) (seen : SeenMoves) (k : Holders) (i : ℕ) (found : Option Breach) : Type 0 where
  pub before : List History
  pub knows : Knows k before
  pub order : AreBefore before (drop i (range v from most))
  pub rest : found ≡ first_breach_after v (seen_of seen) before (drop i (range v from most))

-- what is found of an entry by its id
abbrev pub FindsAt : Vault → SeenMoves → Holders → ℕ → Option Law → SeenMoves → Holders → Type 0
FindsAt v seen k id found after next = Finds v seen k (entry_of v id) (settings_of v id) (tenures_of v id) found after next

abbrev FindsOf : Vault → SeenMoves → Holders → Option History → Option Law → SeenMoves → Holders → Type 0
FindsOf v seen k o found after next =
    Finds v seen k (option_map (λ h. h.entry) o) (unwrap_or (option_map (λ h. h.settings) o) []) (unwrap_or (option_map (λ h. h.tenures) o) []) found after next

finds_its : (v : Vault) (seen after : SeenMoves) (k next : Holders) (i id : ℕ) (found : Option Law) (o : Option History) → Sound v → i + 1 ≡ id → slice_get v.histories i ≡ o → FindsAt v seen k id found after next → FindsOf v seen k o found after next
finds_its v seen after k next i id found o sound same is finds =
    let P : Option History → Type 0 = λ p. FindsOf v seen k p found after next in
    subst P (history_at v i id sound same ∙ is) finds

-- the history at a place of the range, and what the code found of it
record IsAtPlace (v : Vault) (from most : ℕ) (seen : SeenMoves) (k : Holders) (i id : ℕ) (found : Option Law) (after : SeenMoves) (next : Holders) : Type 0 where
  h : History
  at : drop i (range v from most) ≡ h ∷ drop (suc i) (range v from most)
  own : h.entry.id ≡ id
  timely : IsTimely h
  finds : FindsOf v seen k (Some h) found after next

at_its_place : (v : Vault) (from most : ℕ) (seen after : SeenMoves) (k next : Holders) (i id : ℕ) (found : Option Law) → Sound v → most ≤ length v.histories - from → i < most → from + (i + 1) ≡ id
    → FindsAt v seen k id found after next → IsAtPlace v from most seen k i id found after next
at_its_place v from most seen after k next i id found sound within below same finds = by (slice_get (range v from most) i) refl
  where
    low : i < length (range v from most)
    low = omega (arith, below, length_of v from most within)

    by : (o : Option History) → slice_get (range v from most) i ≡ o → IsAtPlace v from most seen k i id found after next
    by None is = absurd (no_history (range v from most) i low is)
    by (Some h) is =
        let there = sym (in_range v from most i below) ∙ is in
        record {
          h = h;
          at = drop_is (range v from most) i h is;
          own = omega (arith, own_id 1 (from + i) v.histories h sound.ids there, same);
          timely = timely v h (All-get (HasTenures v) v.histories (from + i) h sound.tenured there);
          finds = finds_its v seen after k next (from + i) id found (Some h) sound (omega (arith, same)) there finds;
        }

-- the code finds what the history breaks
finds_breach : (v : Vault) (seen after : SeenMoves) (k next : Holders) (before : List History) (h : History) (found : Option Law) → IsTimely h → AreBy h.entry.admitted before → Knows k before → FindsOf v seen k (Some h) found after next → breach v (seen_of seen) before h ≡ found
finds_breach v seen after k next before h found timely by knows finds =
    sym (finds.0 ∙ ap (λ b. broken (rule_tests v h.entry h.settings h.tenures ++ (move_tests (seen_of seen) h.entry.bucket h.tenures ++ test b law.Department ∷ []))) (same_test k before h timely by knows))

pub left_stops : (v : Vault) (from most : ℕ) (seen after : SeenMoves) (k next : Holders) (i id : ℕ) (found : Option Law) (l : Law) (first : Option Breach) → Sound v → most ≤ length v.histories - from → i < most → from + (i + 1) ≡ id
    → FindsAt v seen k id found after next → found ≡ Some l → IsLeft v from most seen k i first → first ≡ Some (record { id = id; law = l })
left_stops v from most seen after k next i id found l first sound within below same finds some left =
    let place = at_its_place v from most seen after k next i id found sound within below same finds in
    let h = place.h in
    let rest = drop (suc i) (range v from most) in
    let order : AreBefore left.before (h ∷ rest) = subst (λ (hs : List History). AreBefore left.before hs) place.at left.order in
    let broke = finds_breach v seen after k next left.before h found place.timely order.0 left.knows place.finds in
    left.rest
    ∙ (ap (λ (hs : List History). first_breach_after v (seen_of seen) left.before hs) place.at
    ∙ (ap (λ (o : Option Law). breach_or h.entry.id o (first_breach_after v (seen_after (seen_of seen) h.entry.bucket h.tenures) (h ∷ left.before) rest)) (broke ∙ some)
    ∙ ap (λ (n : ℕ). Some (record { id = n; law = l })) place.own))

rest_none : (b : Bool) (l : Law) (rest : Option Law) → (if b then rest else Some l) ≡ None → rest ≡ None
rest_none true l rest e = e
rest_none false l rest e = absurd (cc e)

last_passes : (b : Bool) (l : Law) (one two : List Test) → broken (one ++ (two ++ test b l ∷ [])) ≡ None → b ≡ true
last_passes b l [] [] e = by b e
  where
    by : (c : Bool) → (if c then None else Some l) ≡ None → c ≡ true
    by true e = refl
    by false e = absurd (cc e)
last_passes b l [] (t ∷ ts) e = last_passes b l [] ts (rest_none t.passes t.law (broken (ts ++ test b l ∷ [])) e)
last_passes b l (t ∷ ts) two e = last_passes b l ts two (rest_none t.passes t.law (broken (ts ++ (two ++ test b l ∷ []))) e)

pub left_goes_on : (v : Vault) (from most : ℕ) (seen after : SeenMoves) (k next : Holders) (i id : ℕ) (found : Option Law) (first : Option Breach) → Sound v → most ≤ length v.histories - from → i < most → from + (i + 1) ≡ id
    → FindsAt v seen k id found after next → found ≡ None → IsLeft v from most seen k i first → IsLeft v from most after next (i + 1) first
left_goes_on v from most seen after k next i id found first sound within below same finds none left =
    let place = at_its_place v from most seen after k next i id found sound within below same finds in
    let h = place.h in
    let rest = drop (suc i) (range v from most) in
    let order : AreBefore left.before (h ∷ rest) = subst (λ (hs : List History). AreBefore left.before hs) place.at left.order in
    let broke = finds_breach v seen after k next left.before h found place.timely order.0 left.knows place.finds in
    let agree = last_passes (agrees_with left.before h) law.Department (rule_tests v h.entry h.settings h.tenures) (move_tests (seen_of seen) h.entry.bucket h.tenures) (broke ∙ none) in
    let later : Sorted (h ∷ rest) = subst (λ (hs : List History). Sorted hs) place.at (Sorted-drop i (range v from most) (sorted_range v from most sound)) in
    let step : suc i ≡ i + 1 = omega arith in
    let one : IsLeft v from most after next (suc i) first = record {
      before = h ∷ left.before;
      knows = knows_next k next left.before h place.timely order.0 left.knows agree (place.finds.2 none);
      order = All-both (IsLater h) (λ g. AreBy g.entry.admitted left.before) (λ g. AreBy g.entry.admitted (h ∷ left.before)) (λ g a b. (a, b)) rest later.0 order.1;
      rest = left.rest
          ∙ (ap (λ (hs : List History). first_breach_after v (seen_of seen) left.before hs) place.at
          ∙ (ap (λ (o : Option Law). breach_or h.entry.id o (first_breach_after v (seen_after (seen_of seen) h.entry.bucket h.tenures) (h ∷ left.before) rest)) (broke ∙ none)
          ∙ first-same v (seen_after (seen_of seen) h.entry.bucket h.tenures) (seen_of after) (h ∷ left.before) rest (λ n. sym (place.finds.1 none n))));
    } in
    subst (λ n. IsLeft v from most after next n first) step one

pub left_none : (v : Vault) (from most : ℕ) (seen : SeenMoves) (k : Holders) (i : ℕ) (first : Option Breach) → most ≤ length v.histories - from → most ≤ i → IsLeft v from most seen k i first → first ≡ None
left_none v from most seen k i first within le left =
    let high : length (range v from most) ≤ i = omega (arith, le, length_of v from most within) in
    left.rest ∙ ap (λ (hs : List History). first_breach_after v (seen_of seen) left.before hs) (drop_all i (range v from most) high)

nothing_before : (hs : List History) → AreBefore [] hs
nothing_before [] = tt
nothing_before (h ∷ hs) = (tt, nothing_before hs)

with_registrar : (b : Bool) (o : Option Breach) (other : Breach) → b ≡ true → (if b then o else Some other) ≡ o
with_registrar true o other e = refl
with_registrar false o other e = absurd (cc e)

-- whether the caller of a new vault is there, as the code looks it up
pub registrar_is : (v : Vault) (name : List ℕ) (o : Option Caller) (is : Bool) → name ≡ registrar_name → o ≡ caller_of v name → is ≡ is_registrar o → has_registrar v ≡ is
registrar_is v name o is named found looked = sym (looked ∙ (ap is_registrar found ∙ ap (λ n. is_registrar (caller_of v n)) named))

pub without_registrar : (v : Vault) (from most : ℕ) → has_registrar v ≡ false → range_breach v from most ≡ Some (record { id = 1; law = law.Registrar })
without_registrar v from most e = rw e refl

-- before the walk nothing was seen
pub left_first : (v : Vault) (from most : ℕ) (seen : SeenMoves) (k : Holders) → has_registrar v ≡ true → ((n : ℕ) → seen_of seen n ≡ None) → ((name : List ℕ) → holder_of k name ≡ None) → IsLeft v from most seen k 0 (range_breach v from most)
left_first v from most seen k registrar none nobody = record {
  before = [];
  knows = knows_none k nobody;
  order = nothing_before (range v from most);
  rest = with_registrar (has_registrar v) (first_breach_after v none_seen [] (range v from most)) (record { id = 1; law = law.Registrar }) registrar
      ∙ first-same v none_seen (seen_of seen) [] (range v from most) (λ n. sym (none n));
}

pub its_id : (b : Bool) (n id : ℕ) (o : Option ℕ) → o ≡ (if b then Some n else None) → o ≡ Some id → n ≡ id
its_id true n id o new some = cc (sym new ∙ some)
its_id false n id o new some = absurd (cc (sym new ∙ some))

-- What holds of the seven sums over bounded tenures.
use Rattle.std.proofs.Common.{◌≡◌, ℕ, ◌+◌, ◌-◌, ◌*◌, ◌≤◌, nat_le, List, [], ◌∷◌, ◌++◌, map, Bool, true, false, Option, Some, None, is_none, IsTrue, refl, sym, ap, true≢false, arith, if◌then◌else◌}
use Rattle.std.specs.List.{sum_by, list_all, sum}
use Rattle.std.proofs.lemmas.Bool.{and_parts, leb-true}
use Rattle.std.proofs.lemmas.List.Sums.{sum_by-cons, sum_by-append}
use Rattle.std.proofs.Math.Nat.{mul-le-mul_left, mul-sub}
use Rattle.vault_tally.specs.Row.{Item, last_day, quota, size_of, if_held, admitted_size, received_size, held_size, removed_size, handed_size, weight, end_day, charge, byte_days, closed_byte_days, is_dated, AreBegunBy, AreBounded, received_items, held_item, handed_item}

one_balance : (s : ℕ) (e : Option ℕ) (l : Bool) → if_held e s 0 + (if_held e 0 (if l then s else 0) + if_held e 0 (if l then 0 else s)) ≡ s
one_balance s None l = omega arith
one_balance s (Some e) true = omega arith
one_balance s (Some e) false = omega arith

-- each byte that a department got is held, removed or handed over
pub balance : (xs : List Item) → sum_by held_size xs + (sum_by removed_size xs + sum_by handed_size xs) ≡ sum_by size_of xs
balance [] = refl
balance (x ∷ xs) = omega (arith, sum_by-cons {X = Item}, one_balance x.size x.ended x.last, balance xs)

one_got : (s : ℕ) (f : Bool) → (if f then s else 0) + (if f then 0 else s) ≡ s
one_got s true = omega arith
one_got s false = omega arith

-- each was admitted or received
pub got : (xs : List Item) → sum_by admitted_size xs + sum_by received_size xs ≡ sum_by size_of xs
got [] = refl
got (x ∷ xs) = omega (arith, sum_by-cons {X = Item}, one_got x.size x.first, got xs)

one_weight : (s a : ℕ) (e : Option ℕ) → a ≤ end_day e last_day → end_day e last_day ≤ last_day → if_held e (s * a) 0 ≤ if_held e s 0 * last_day
one_weight s a None h k = mul-le-mul_left s h
one_weight s a (Some e) h k = omega arith

weight-le : (xs : List Item) → IsTrue (list_all is_dated xs) → sum_by weight xs ≤ sum_by held_size xs * last_day
weight-le [] h = omega arith
weight-le (x ∷ xs) h =
    let d = and_parts (is_dated x) (list_all is_dated xs) h in
    let e = and_parts (nat_le x.from (end_day x.ended last_day)) (nat_le (end_day x.ended last_day) last_day) d.0 in
    omega (arith, sum_by-cons {X = Item}, one_weight x.size x.from x.ended (leb-true _ _ e.0) (leb-true _ _ e.1), weight-le xs d.1)

one_closed : (s a : ℕ) (e : Option ℕ) (l : Bool) → end_day e last_day ≤ last_day → if_held e 0 (s * (end_day e 0 - a)) ≤ (if_held e 0 (if l then s else 0) + if_held e 0 (if l then 0 else s)) * last_day
one_closed s a None l k = omega arith
one_closed s a (Some e) true k = let g : e - a ≤ last_day = omega arith in let m = mul-le-mul_left s g in omega (arith, m)
one_closed s a (Some e) false k = let g : e - a ≤ last_day = omega arith in let m = mul-le-mul_left s g in omega (arith, m)

closed-le : (xs : List Item) → IsTrue (list_all is_dated xs) → sum_by closed_byte_days xs ≤ (sum_by removed_size xs + sum_by handed_size xs) * last_day
closed-le [] h = omega arith
closed-le (x ∷ xs) h =
    let d = and_parts (is_dated x) (list_all is_dated xs) h in
    let e = and_parts (nat_le x.from (end_day x.ended last_day)) (nat_le (end_day x.ended last_day) last_day) d.0 in
    omega (arith, sum_by-cons {X = Item}, one_closed x.size x.from x.ended x.last (leb-true _ _ e.1), closed-le xs d.1)

-- the sums over bounded tenures: none reaches 2^64
pub record AreWithin (xs : List Item) : Type 0 where
  pub got : sum_by admitted_size xs + sum_by received_size xs ≡ sum_by size_of xs
  pub balanced : sum_by held_size xs + (sum_by removed_size xs + sum_by handed_size xs) ≡ sum_by size_of xs
  pub sizes : sum_by size_of xs ≤ quota
  pub weighted : sum_by weight xs ≤ sum_by held_size xs * last_day
  pub closed : sum_by closed_byte_days xs ≤ (sum_by removed_size xs + sum_by handed_size xs) * last_day

pub within : (xs : List Item) → AreBounded xs → AreWithin xs
within xs b = record {
  got = got xs;
  balanced = balance xs;
  sizes = b.within;
  weighted = weight-le xs b.dated;
  closed = closed-le xs b.dated;
}

one_charge : (s a today : ℕ) (e : Option ℕ) → a ≤ today → if_held e 0 (s * (end_day e 0 - a)) + if_held e s 0 * today ≡ if_held e (s * a) 0 + s * (end_day e today - a)
one_charge s a today None h = let g : s * a ≤ s * today = mul-le-mul_left s h in omega (arith, mul-sub s today a)
one_charge s a today (Some e) h = omega arith

-- the charge from the three sums
pub charged_is : (today : ℕ) (xs : List Item) → AreBegunBy today xs → sum_by closed_byte_days xs + sum_by held_size xs * today ≡ sum_by weight xs + charge today xs
charged_is today [] h = omega arith
charged_is today (x ∷ xs) h =
    let d = and_parts (nat_le x.from today) (list_all (λ (i : Item). nat_le i.from today) xs) h in
    rw (sum_by-cons held_size x xs) (omega (arith, sum_by-cons {X = Item}, one_charge x.size x.from today x.ended (leb-true _ _ d.0), charged_is today xs d.1))

-- a sum with one tenure singled out
pub sum_by-middle : (f : Item → ℕ) (before : List Item) (x : Item) (after : List Item) → sum_by f (before ++ x ∷ after) ≡ sum_by f before + (f x + sum_by f after)
sum_by-middle f before x after = rw (sum_by-append f before (x ∷ after), sum_by-cons f x after) refl

-- ---- received with a bucket

-- what versions of these sizes add to each of the seven sums
pub record AddsReceived (bytes day : ℕ) (xs : List Item) : Type 0 where
  pub admitted : sum_by admitted_size xs ≡ 0
  pub received : sum_by received_size xs ≡ bytes
  pub held : sum_by held_size xs ≡ bytes
  pub removed : sum_by removed_size xs ≡ 0
  pub handed : sum_by handed_size xs ≡ 0
  pub weighted : sum_by weight xs ≡ bytes * day
  pub closed : sum_by closed_byte_days xs ≡ 0

pub received_adds : (day : ℕ) (sizes : List ℕ) → AddsReceived (sum sizes) day (received_items day sizes)
received_adds day [] = record { admitted = refl; received = refl; held = refl; removed = refl; handed = refl; weighted = omega arith; closed = refl }
received_adds day (s ∷ ss) =
    let r = received_adds day ss in
    let x = held_item false s day in
    let xs = received_items day ss in
    let all : sum (s ∷ ss) ≡ s + sum ss = sum_by-cons (λ (n : ℕ). n) s ss in
    let one : received_size x ≡ s = refl in
    let held : held_size x ≡ s = refl in
    let heavy : weight x ≡ s * day = refl in
    record {
      admitted = omega (arith, sum_by-cons admitted_size x xs, r.admitted);
      received = omega (arith, sum_by-cons received_size x xs, one, r.received, all);
      held = omega (arith, sum_by-cons held_size x xs, held, r.held, all);
      removed = omega (arith, sum_by-cons removed_size x xs, r.removed);
      handed = omega (arith, sum_by-cons handed_size x xs, r.handed);
      weighted = rw all (omega (arith, sum_by-cons weight x xs, heavy, r.weighted));
      closed = omega (arith, sum_by-cons closed_byte_days x xs, r.closed);
    }

-- ---- handed over with a bucket

-- how the seven sums over held tenures change where all of them end by a move
pub record HandsOver (day : ℕ) (xs : List Item) : Type 0 where
  pub admitted : sum_by admitted_size (map (handed_item day) xs) ≡ sum_by admitted_size xs
  pub received : sum_by received_size (map (handed_item day) xs) ≡ sum_by received_size xs
  pub sizes : sum_by size_of (map (handed_item day) xs) ≡ sum_by size_of xs
  pub held_before : sum_by held_size xs ≡ sum_by size_of xs
  pub held : sum_by held_size (map (handed_item day) xs) ≡ 0
  pub removed_before : sum_by removed_size xs ≡ 0
  pub removed : sum_by removed_size (map (handed_item day) xs) ≡ 0
  pub handed_before : sum_by handed_size xs ≡ 0
  pub handed : sum_by handed_size (map (handed_item day) xs) ≡ sum_by size_of xs
  pub weighted : sum_by weight (map (handed_item day) xs) ≡ 0
  pub closed_before : sum_by closed_byte_days xs ≡ 0

no_end : (e : Option ℕ) → IsTrue (is_none e) → e ≡ None
no_end None h = refl
no_end (Some d) h = absurd (true≢false (sym h))

-- a number of a tenure that has no end
while_held : (e : Option ℕ) (m n : ℕ) → e ≡ None → if_held e m n ≡ m
while_held e m n is = ap (λ o. if_held o m n) is

pub hands_over : (day : ℕ) (xs : List Item) → IsTrue (list_all (λ (i : Item). is_none i.ended) xs) → HandsOver day xs
hands_over day [] h = record { admitted = refl; received = refl; sizes = refl; held_before = refl; held = refl; removed_before = refl; removed = refl; handed_before = refl; handed = refl; weighted = refl; closed_before = refl }
hands_over day (x ∷ xs) h =
    let both = and_parts (is_none x.ended) (list_all (λ (i : Item). is_none i.ended) xs) h in
    let r = hands_over day xs both.1 in
    let held = no_end x.ended both.0 in
    let y = handed_item day x in
    let ys = map (handed_item day) xs in
    record {
      admitted = omega (arith, sum_by-cons admitted_size x xs, sum_by-cons admitted_size y ys, r.admitted);
      received = omega (arith, sum_by-cons received_size x xs, sum_by-cons received_size y ys, r.received);
      sizes = omega (arith, sum_by-cons size_of x xs, sum_by-cons size_of y ys, r.sizes);
      held_before = omega (arith, sum_by-cons held_size x xs, sum_by-cons size_of x xs, r.held_before, while_held x.ended x.size 0 held);
      held = omega (arith, sum_by-cons held_size y ys, r.held);
      removed_before = omega (arith, sum_by-cons removed_size x xs, r.removed_before, while_held x.ended 0 (if x.last then x.size else 0) held);
      removed = omega (arith, sum_by-cons removed_size y ys, r.removed);
      handed_before = omega (arith, sum_by-cons handed_size x xs, r.handed_before, while_held x.ended 0 (if x.last then 0 else x.size) held);
      handed = omega (arith, sum_by-cons handed_size y ys, sum_by-cons size_of x xs, r.handed);
      weighted = omega (arith, sum_by-cons weight y ys, r.weighted);
      closed_before = omega (arith, sum_by-cons closed_byte_days x xs, r.closed_before, while_held x.ended 0 (byte_days 0 x) held);
    }

one_handed : (s a day : ℕ) → a ≤ day → s * (day - a) + s * a ≡ s * day
one_handed s a day h = let g : s * a ≤ s * day = mul-le-mul_left s h in omega (arith, mul-sub s day a)

-- the byte-days that end so, and the weight that goes, come to the sizes times that day
pub handed_days : (day : ℕ) (xs : List Item) → IsTrue (list_all (λ (i : Item). is_none i.ended) xs) → IsTrue (list_all is_dated (map (handed_item day) xs))
    → sum_by closed_byte_days (map (handed_item day) xs) + sum_by weight xs ≡ sum_by size_of xs * day
handed_days day [] h d = omega arith
handed_days day (x ∷ xs) h d =
    let both = and_parts (is_none x.ended) (list_all (λ (i : Item). is_none i.ended) xs) h in
    let y = handed_item day x in
    let ys = map (handed_item day) xs in
    let ds = and_parts (is_dated y) (list_all is_dated ys) d in
    let e = and_parts (nat_le x.from day) (nat_le day last_day) ds.0 in
    rw (sum_by-cons size_of x xs)
    (omega (
      arith,
      sum_by-cons closed_byte_days y ys,
      sum_by-cons weight x xs,
      while_held x.ended (x.size * x.from) 0 (no_end x.ended both.0),
      one_handed x.size x.from day (leb-true _ _ e.0),
      handed_days day xs both.1 ds.1,
    ))

-- so none of these numbers is above those that a department can have
pub handed_late : (day : ℕ) (xs : List Item) → IsTrue (list_all is_dated (map (handed_item day) xs)) → sum_by size_of xs * day ≤ sum_by size_of xs * last_day
handed_late day [] d = omega arith
handed_late day (x ∷ xs) d =
    let y = handed_item day x in
    let ds = and_parts (is_dated y) (list_all is_dated (map (handed_item day) xs)) d in
    let e = and_parts (nat_le x.from day) (nat_le day last_day) ds.0 in
    mul-le-mul_left (sum_by size_of (x ∷ xs)) (leb-true _ _ e.1)

-- what holds of each of two lists put together, of the second
pub dated_last : (xs ys : List Item) → IsTrue (list_all is_dated (xs ++ ys)) → IsTrue (list_all is_dated ys)
dated_last [] ys h = h
dated_last (x ∷ xs) ys h = dated_last xs ys (and_parts (is_dated x) (list_all is_dated (xs ++ ys)) h).1

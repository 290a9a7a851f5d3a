-- What heads of keys of their own count together: each held entry that one of them is over, once.
use Rattle.std.specs.Ordering.{ordering_then, nat_cmp, is_le}
use Rattle.std.specs.Prelude.{is_none, if◌then◌else◌}
use Rattle.std.specs.Str.{bytes_eq}
use Rattle.std.specs.List.{AllByRecursion, list_any}
use Rattle.std.proofs.Common.{◌≡◌, ◌≤◌, ℕ, ◌+◌, ◌&&◌, ◌||◌, List, [], ◌∷◌, length, map, filter, sum_by, Bool, true, false, None, Option, Less, Equal, IsPermutation, refl, sym, ap, ap₂, ◌∙◌, arith}
use Rattle.std.proofs.lemmas.Bool.Decides.{nat_tests}
use Rattle.std.proofs.lemmas.Bool.{and_parts, and_from}
use Rattle.std.proofs.lemmas.List.Sorted.{sum_by-IsPermutation}
use Rattle.std.proofs.lemmas.List.Sums.{sum_by-cons}
use Rattle.std.proofs.lemmas.Slice.Eq.{bytes_eq-Decides}
use Rattle.sqlite_trees.specs.Objects.{number_in}
use Rattle.sqlite_value.specs.Order.{Row, column}
use Rattle.vault_core_model.specs.declared.records.Entry.{Entry}
use Rattle.vault_core_model.specs.declared.records.Removal.{Removal}
use Rattle.vault_core_model.specs.Order.{IsAscending, name_cmp}
use Rattle.vault_core_model.specs.Places.{is_held_at}
use Rattle.vault_core_laws.proofs.Tests.{none_is}
use Rattle.vault_audit_model.specs.declared.rows.HeadRow.{HeadRow}
use Rattle.vault_audit_model.specs.Rows.{bit, head_row}
use Rattle.vault_audit_entries.specs.Heads.{head_cmp, sum_of_counts}
use Rattle.vault_audit_entries.specs.HeadCounts.{is_under, IsCounted, is_held, held_entry_count}
use Rattle.vault_audit_entries.proofs.CurrentLemmas.{head_cmp_total}
use Rattle.vault_audit_entries.proofs.MemberLemmas.{at_in, all_of, any_in, tied, one_of}

-- ---- how many pass a test

under : (a b : Bool) → (a ≡ true → b ≡ true) → bit a 1 ≤ bit b 1
under false b so = omega arith
under true true so = omega arith
under true false so = let e : false ≡ true = so refl in absurd (cc e)

too : (a b : Bool) → bit b 1 ≤ bit a 1 → b ≡ true → a ≡ true
too true b low is = refl
too false true low is = absurd (omega (arith, low))
too false false low is = absurd (cc is)

module _ {X : Type 0} where
  one_more : (p : X → Bool) (x : X) (xs : List X) → length (filter p (x ∷ xs)) ≡ bit (p x) 1 + length (filter p xs)
  one_more p x xs =
      elim (p x) as (λ b. length (if b then x ∷ filter p xs else filter p xs) ≡ bit b 1 + length (filter p xs)) [
        | true ↦ omega arith
        | false ↦ omega arith
      ]

  pub alike_among : (p q : X → Bool) (xs : List X) → AllByRecursion (λ x. p x ≡ q x) xs → length (filter p xs) ≡ length (filter q xs)
  alike_among p q [] all = refl
  alike_among p q (x ∷ xs) all =
      let one = one_more p x xs in
      let other = one_more q x xs in
      let bits : bit (p x) 1 ≡ bit (q x) 1 = ap (λ b. bit b 1) all.0 in
      let more = alike_among p q xs all.1 in omega (arith, one, other, bits, more)

  fewer : (p q : X → Bool) (xs : List X) → AllByRecursion (λ x. p x ≡ true → q x ≡ true) xs → length (filter p xs) ≤ length (filter q xs)
  fewer p q [] all = omega arith
  fewer p q (x ∷ xs) all =
      let one = one_more p x xs in
      let other = one_more q x xs in
      let low = under (p x) (q x) all.0 in
      let more = fewer p q xs all.1 in omega (arith, one, other, low, more)

  -- where all that pass the one pass the other, and as many do, those are the same
  same_pass : (p q : X → Bool) (xs : List X) → AllByRecursion (λ x. p x ≡ true → q x ≡ true) xs → length (filter p xs) ≡ length (filter q xs) → AllByRecursion (λ x. q x ≡ true → p x ≡ true) xs
  same_pass p q [] all same = tt
  same_pass p q (x ∷ xs) all same =
      let one = one_more p x xs in
      let other = one_more q x xs in
      let low = under (p x) (q x) all.0 in
      let more = fewer p q xs all.1 in
      (too (p x) (q x) (omega (arith, one, other, low, more, same)), same_pass p q xs all.1 (omega (arith, one, other, low, more, same)))

-- ---- a head and the entries under it

pub none_removed : (r : Option Removal) → r ≡ None → is_none r ≡ true
none_removed r e = ap is_none e

same_text : (a b : List ℕ) → bytes_eq a b ≡ true → a ≡ b
same_text a b is = (bytes_eq-Decides a b).0 is

text_same : (a b : List ℕ) → a ≡ b → bytes_eq a b ≡ true
text_same a b e = (bytes_eq-Decides a b).1 e

most_if : (a b : ℕ) → is_le (nat_cmp a b) ≡ true → a ≤ b
most_if a b is = grind (arith, nat_tests, is)

if_most : (a b : ℕ) → a ≤ b → is_le (nat_cmp a b) ≡ true
if_most a b low = grind (arith, nat_tests, low)

pub held_parts : (bucket key : List ℕ) (e : Entry) → is_held_at bucket key e ≡ true → (e.bucket ≡ bucket) × (e.key ≡ key) × (e.removal ≡ None)
held_parts bucket key e is =
    let rest = (and_parts (bytes_eq e.bucket bucket) _ is).1 in
    (same_text e.bucket bucket (and_parts (bytes_eq e.bucket bucket) _ is).0, same_text e.key key (and_parts (bytes_eq e.key key) _ rest).0, none_is e.removal (and_parts (bytes_eq e.key key) _ rest).1)

pub parts_held : (bucket key : List ℕ) (e : Entry) → e.bucket ≡ bucket → e.key ≡ key → e.removal ≡ None → is_held_at bucket key e ≡ true
parts_held bucket key e p q r = and_from _ _ (text_same e.bucket bucket p) (and_from _ _ (text_same e.key key q) (none_removed e.removal r))

pub under_parts : (h : HeadRow) (e : Entry) → is_under h e ≡ true → (e.bucket ≡ h.bucket) × (e.key ≡ h.key) × (e.removal ≡ None) × (e.id ≤ h.head.newest)
under_parts h e is =
    let its = and_parts (is_held_at h.bucket h.key e) _ is in
    let held = held_parts h.bucket h.key e its.0 in (held.0, held.1, held.2, most_if e.id h.head.newest its.1)

pub parts_under : (h : HeadRow) (e : Entry) → e.bucket ≡ h.bucket → e.key ≡ h.key → e.removal ≡ None → e.id ≤ h.head.newest → is_under h e ≡ true
parts_under h e p q r low = and_from _ _ (parts_held h.bucket h.key e p q r) (if_most e.id h.head.newest low)

-- where each held entry of the head's key is no newer than its newest, those under it are all of them
pub under_all : (h : HeadRow) (e : Entry) → (is_held_at h.bucket h.key e ≡ true → e.id ≤ h.head.newest) → is_under h e ≡ is_held_at h.bucket h.key e
under_all h e so =
    elim (is_held_at h.bucket h.key e) as (λ b. is_held_at h.bucket h.key e ≡ b → (b && is_le (nat_cmp e.id h.head.newest)) ≡ b) [
      | true ↦ λ is. if_most e.id h.head.newest (so is)
      | false ↦ λ is. refl
    ] refl

pub tie_of : (g h : HeadRow) → g.bucket ≡ h.bucket → g.key ≡ h.key → head_cmp g h ≡ Equal
tie_of g h p q = ap₂ (λ b k. ordering_then (name_cmp g.bucket b) (name_cmp g.key k)) (sym p) (sym q) ∙ tied head_cmp head_cmp_total g

-- ---- an entry and the heads over it

-- some head is over the entry
abbrev pub is_covered : List HeadRow → Entry → Bool
is_covered hs e = list_any (λ h. is_under h e) hs

abbrev how_often : Entry → List HeadRow → ℕ
how_often e [] = 0
how_often e (h ∷ hs) = bit (is_under h e) 1 + how_often e hs

other_key : (e : Entry) (g h : HeadRow) → is_under g e ≡ true → head_cmp g h ≡ Less → is_under h e ≡ false
other_key e g h first less =
    elim (is_under h e) as (λ b. is_under h e ≡ b → b ≡ false) [
      | true ↦ λ is.
          let a = under_parts g e first in
          let b = under_parts h e is in
          let two : Less ≡ Equal = sym less ∙ tie_of g h (sym a.0 ∙ b.0) (sym a.1 ∙ b.1) in absurd (cc two)
      | false ↦ λ is. refl
    ] refl

never_more : (e : Entry) (g : HeadRow) (hs : List HeadRow) → is_under g e ≡ true → AllByRecursion (λ h. head_cmp g h ≡ Less) hs → how_often e hs ≡ 0
never_more e g [] is all = refl
never_more e g (h ∷ hs) is all =
    let none : bit (is_under h e) 1 ≡ 0 = ap (λ b. bit b 1) (other_key e g h is all.0) in
    let more = never_more e g hs is all.1 in omega (arith, none, more)

once : (e : Entry) (hs : List HeadRow) → IsAscending head_cmp hs → how_often e hs ≡ bit (is_covered hs e) 1
once e [] up = refl
once e (h ∷ hs) up =
    elim (is_under h e) as (λ b. is_under h e ≡ b → bit b 1 + how_often e hs ≡ bit (b || is_covered hs e) 1) [
      | true ↦ λ is. let none = never_more e h hs is up.0 in omega (arith, none)
      | false ↦ λ is. let more = once e hs up.1 in omega (arith, more)
    ] refl

-- ---- the entries under all heads, head by head

abbrev under_each : List Entry → List HeadRow → ℕ
under_each es [] = 0
under_each es (h ∷ hs) = length (filter (is_under h) es) + under_each es hs

no_entry : (hs : List HeadRow) → under_each [] hs ≡ 0
no_entry [] = refl
no_entry (h ∷ hs) = let more = no_entry hs in omega (arith, more)

one_entry : (e : Entry) (es : List Entry) (hs : List HeadRow) → under_each (e ∷ es) hs ≡ how_often e hs + under_each es hs
one_entry e es [] = refl
one_entry e es (h ∷ hs) =
    let one = one_more (is_under h) e es in
    let more = one_entry e es hs in omega (arith, one, more)

each_once : (es : List Entry) (hs : List HeadRow) → IsAscending head_cmp hs → under_each es hs ≡ length (filter (is_covered hs) es)
each_once [] hs up = no_entry hs
each_once (e ∷ es) hs up =
    let first = one_entry e es hs in
    let bits = once e hs up in
    let one = one_more (is_covered hs) e es in
    let more = each_once es hs up in omega (arith, first, bits, one, more)

summed : (es : List Entry) (hs : List HeadRow) → AllByRecursion (IsCounted es) hs → sum_of_counts hs ≡ under_each es hs
summed es [] all = refl
summed es (h ∷ hs) all =
    let more = summed es hs all.1 in omega (arith, all.0, more)

-- ---- heads of keys of their own, each with its count

module _ (es : List Entry) (hs : List HeadRow) (up : IsAscending head_cmp hs) (counts : AllByRecursion (IsCounted es) hs) where
  pub counted_once : sum_of_counts hs ≡ length (filter (is_covered hs) es)
  counted_once = summed es hs counts ∙ each_once es hs up

  held_only : AllByRecursion (λ e. is_covered hs e ≡ true → is_held e ≡ true) es
  held_only = all_of (λ e. is_covered hs e ≡ true → is_held e ≡ true) es (λ e i is.
      let it = any_in (λ h. is_under h e) hs is in none_removed e.removal (under_parts it.0 e it.2).2)

  -- where they count all held entries, each of these has one over it
  pub all_covered : sum_of_counts hs ≡ held_entry_count es → AllByRecursion (λ e. is_held e ≡ true → is_covered hs e ≡ true) es
  all_covered same = same_pass (is_covered hs) is_held es held_only (sym counted_once ∙ same)

  -- and each counts all of its key
  pub whole_counts : AllByRecursion (λ e. is_held e ≡ true → is_covered hs e ≡ true) es → AllByRecursion (λ h. h.head.count ≡ length (filter (is_held_at h.bucket h.key) es)) hs
  whole_counts covered = all_of (λ h. h.head.count ≡ length (filter (is_held_at h.bucket h.key) es)) hs (λ h i.
      at_in (IsCounted es) hs counts h i ∙ alike_among (is_under h) (is_held_at h.bucket h.key) es (all_of (λ e. is_under h e ≡ is_held_at h.bucket h.key e) es (λ e j.
      under_all h e (λ held.
      let its = held_parts h.bucket h.key e held in
      let over = any_in (λ x. is_under x e) hs (at_in (λ x. is_held x ≡ true → is_covered hs x ≡ true) es covered e j (none_removed e.removal its.2)) in
      let there = under_parts over.0 e over.2 in
      let same : h ≡ over.0 = one_of head_cmp head_cmp_total hs up h over.0 i over.1 (tie_of h over.0 (sym its.0 ∙ there.0) (sym its.1 ∙ there.1)) in
      let newest = ap (λ (x : HeadRow). x.head.newest) same in
      let low = there.3 in omega (arith, newest, low)))))

-- ---- heads of the same rows

abbrev count_in : Row → ℕ
count_in row = number_in (column row 3)

rows_sum : (hs : List HeadRow) → sum_of_counts hs ≡ sum_by count_in (map head_row hs)
rows_sum [] = refl
rows_sum (h ∷ hs) =
    let one : sum_by count_in (map head_row (h ∷ hs)) ≡ h.head.count + sum_by count_in (map head_row hs) = sum_by-cons count_in (head_row h) (map head_row hs) in
    let more = rows_sum hs in omega (arith, one, more)

pub same_sum : (xs ys : List HeadRow) → IsPermutation (map head_row xs) (map head_row ys) → sum_of_counts xs ≡ sum_of_counts ys
same_sum xs ys same = rows_sum xs ∙ sym (sum_by-IsPermutation count_in (map head_row xs) (map head_row ys) same) ∙ sym (rows_sum ys)

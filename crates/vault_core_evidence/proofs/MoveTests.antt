-- What the test of moves says.
use Rattle.std.proofs.Common.{◌≡◌, ◌⊎◌, ℕ, ◌+◌, ◌≤◌, ◌<◌, ◌==◌, ◌&&◌, drop, get_or, length, List, [], ◌∷◌, Bool, true, false, Option, Some, None, refl, sym, ap, subst, ◌∙◌, inl, inr, arith}
use Rattle.std.specs.Prelude.{◌||◌, if◌then◌else◌}
use Rattle.std.specs.List.{AllByRecursion}
use Rattle.std.specs.Str.{bytes_eq}
use Rattle.std.proofs.lemmas.Bool.{and_parts, eqb-true}
use Rattle.std.proofs.lemmas.List.{drop_all, drop_more}
use Rattle.std.proofs.lemmas.Slice.Eq.{bytes_eq-Decides}
use Rattle.vault_core_model.specs.declared.records.Tenure.{Tenure}
use Rattle.vault_core_evidence.specs.declared.seen_moves.Move.{Move}
use Rattle.vault_core_evidence.specs.declared.seen_moves.SeenMoves.{SeenMoves}
use Rattle.vault_core_evidence.specs.Moves.{move_by, IsByMove, is_same_move, fits, is_as_seen, seen_with, are_as_seen, seen_after, seen_of, IsAdded, SeesOne, Sees}

abbrev Book : Type 0
Book = ℕ → Option Move

-- ---- two moves

pub same_is : (m n : Move) → is_same_move m n ≡ true → m ≡ n
same_is m n e =
    let first = and_parts (bytes_eq m.bucket n.bucket) (bytes_eq m.dept n.dept && m.from == n.from) e in
    let second = and_parts (bytes_eq m.dept n.dept) (m.from == n.from) first.1 in
    let bucket : m.bucket ≡ n.bucket = (bytes_eq-Decides m.bucket n.bucket).0 first.0 in
    let dept : m.dept ≡ n.dept = (bytes_eq-Decides m.dept n.dept).0 second.0 in
    let from : m.from ≡ n.from = eqb-true m.from n.from second.1 in
    ap (λ (b : List ℕ). record { bucket = b; dept = m.dept; from = m.from }) bucket
    ∙ (ap (λ (d : List ℕ). record { bucket = n.bucket; dept = d; from = m.from }) dept
    ∙ ap (λ (f : ℕ). record { bucket = n.bucket; dept = n.dept; from = f }) from)

eq_itself : (n : ℕ) → (n == n) ≡ true
eq_itself n = grind arith

all_three : (a b c : Bool) → a ≡ true → b ≡ true → c ≡ true → (a && (b && c)) ≡ true
all_three a b c ea eb ec = rw (ea, eb, ec) refl

same_itself : (m : Move) → is_same_move m m ≡ true
same_itself m =
    all_three (bytes_eq m.bucket m.bucket) (bytes_eq m.dept m.dept) (m.from == m.from)
    ((bytes_eq-Decides m.bucket m.bucket).1 refl) ((bytes_eq-Decides m.dept m.dept).1 refl) (eq_itself m.from)

-- ---- what was seen stays

fits_is : (o : Option Move) (m : Move) → fits o m ≡ true → (o ≡ None) ⊎ (o ≡ Some m)
fits_is None m e = inl refl
fits_is (Some n) m e = inr (ap (λ (x : Move). Some x) (same_is n m e))

or_is : (a b : Bool) → (a || b) ≡ true → (a ≡ true) ⊎ (b ≡ true)
or_is true b e = inl refl
or_is false b e = inr e

-- each move of book is in later
abbrev pub Stays : Book → Book → Type 0
Stays book later = (n : ℕ) (m : Move) → book n ≡ Some m → later n ≡ Some m

not_some : (m : Move) → None ≡ Some m → ⊥
not_some m e = absurd (cc e)

stays_with : (book : Book) (bucket : List ℕ) (t : Tenure) → is_as_seen book bucket t ≡ true → Stays book (seen_with book bucket t)
stays_with book bucket t as_seen n m is = by_number (t.number == 0) refl
  where
    here : n ≡ t.number → (t.number == 0) ≡ false → Some (move_by bucket t) ≡ Some m
    here own other =
        let own_is : book t.number ≡ Some m = ap book (sym own) ∙ is in
        let P : Bool → Type 0 = λ b. (b || fits (book t.number) (move_by bucket t)) ≡ true in
        let Q : Option Move → Type 0 = λ o. fits o (move_by bucket t) ≡ true in
        let fit : fits (Some m) (move_by bucket t) ≡ true = subst Q own_is (subst P other as_seen) in
        sym (ap (λ (x : Move). Some x) (same_is m (move_by bucket t) fit))

    by_place : (b : Bool) → (n == t.number) ≡ b → (t.number == 0) ≡ false → (if b then Some (move_by bucket t) else book n) ≡ Some m
    by_place true e other = here (eqb-true n t.number e) other
    by_place false e other = is

    by_number : (b : Bool) → (t.number == 0) ≡ b → (if b then book n else (if n == t.number then Some (move_by bucket t) else book n)) ≡ Some m
    by_number true e = is
    by_number false e = by_place (n == t.number) refl e

pub stays_after : (book : Book) (bucket : List ℕ) (ts : List Tenure) → are_as_seen book bucket ts ≡ true → Stays book (seen_after book bucket ts)
stays_after book bucket [] e n m is = is
stays_after book bucket (t ∷ ts) e n m is =
    let parts = and_parts (is_as_seen book bucket t) (are_as_seen (seen_with book bucket t) bucket ts) e in
    stays_after (seen_with book bucket t) bucket ts parts.1 n m (stays_with book bucket t parts.0 n m is)

-- ---- what passes is by the moves that were seen

-- the tenure is from the admission, or its move is in the book
abbrev pub IsIn : Book → List ℕ → Tenure → Type 0
IsIn book bucket t = (t.number ≡ 0) ⊎ (book t.number ≡ Some (move_by bucket t))

pub in_later : (book later : Book) (bucket : List ℕ) (t : Tenure) → Stays book later → IsIn book bucket t → IsIn later bucket t
in_later book later bucket t stays (inl first) = inl first
in_later book later bucket t stays (inr by) = inr (stays t.number (move_by bucket t) by)

in_with : (book : Book) (bucket : List ℕ) (t : Tenure) → IsIn (seen_with book bucket t) bucket t
in_with book bucket t = by_number (t.number == 0) refl
  where
    by_number : (b : Bool) → (t.number == 0) ≡ b → (t.number ≡ 0) ⊎ ((if b then book t.number else (if t.number == t.number then Some (move_by bucket t) else book t.number)) ≡ Some (move_by bucket t))
    by_number true e = inl (eqb-true t.number 0 e)
    by_number false e = inr (rw (eq_itself t.number) refl)

pub all_in : (book : Book) (bucket : List ℕ) (ts : List Tenure) → are_as_seen book bucket ts ≡ true → AllByRecursion (IsIn (seen_after book bucket ts) bucket) ts
all_in book bucket [] e = tt
all_in book bucket (t ∷ ts) e =
    let parts = and_parts (is_as_seen book bucket t) (are_as_seen (seen_with book bucket t) bucket ts) e in
    let book' = seen_with book bucket t in
    (in_later book' (seen_after book' bucket ts) bucket t (stays_after book' bucket ts parts.1) (in_with book bucket t), all_in book' bucket ts parts.1)

-- ---- what is by moves passes

-- what was seen is of these moves
abbrev pub IsOf : (ℕ → Move) → Book → Type 0
IsOf moves book = (n : ℕ) (m : Move) → book n ≡ Some m → moves n ≡ m

fits_of : (o : Option Move) (m n : Move) → (o ≡ None) ⊎ (o ≡ Some n) → n ≡ m → fits o m ≡ true
fits_of o m n (inl none) same = let P : Option Move → Type 0 = λ x. fits x m ≡ true in subst P (sym none) refl
fits_of o m n (inr some) same =
    let P : Option Move → Type 0 = λ x. fits x m ≡ true in
    let Q : Move → Type 0 = λ x. is_same_move n x ≡ true in
    subst P (sym some) (subst Q same (same_itself n))

known : (o : Option Move) (n : Move) → ((m : Move) → o ≡ Some m → n ≡ m) → (o ≡ None) ⊎ (o ≡ Some n)
known None n all = inl refl
known (Some m) n all = inr (ap (λ (x : Move). Some x) (sym (all m refl)))

as_seen_by : (moves : ℕ → Move) (book : Book) (bucket : List ℕ) (t : Tenure) → IsOf moves book → IsByMove moves bucket t → is_as_seen book bucket t ≡ true
as_seen_by moves book bucket t of (inl first) =
    let P : ℕ → Type 0 = λ k. (k == 0 || fits (book k) (move_by bucket t)) ≡ true in subst P (sym first) refl
as_seen_by moves book bucket t of (inr by) =
    or_right (t.number == 0) (fits (book t.number) (move_by bucket t)) (fits_of (book t.number) (move_by bucket t) (moves t.number) (known (book t.number) (moves t.number) (of t.number)) by)
  where
    or_right : (a b : Bool) → b ≡ true → (a || b) ≡ true
    or_right true b e = refl
    or_right false b e = e

of_with : (moves : ℕ → Move) (book : Book) (bucket : List ℕ) (t : Tenure) → IsOf moves book → IsByMove moves bucket t → IsOf moves (seen_with book bucket t)
of_with moves book bucket t of by n m = by_number (t.number == 0) refl by
  where
    here : n ≡ t.number → moves t.number ≡ move_by bucket t → Some (move_by bucket t) ≡ Some m → moves n ≡ m
    here own it is = ap moves own ∙ (it ∙ cc is)

    by_place : (b : Bool) → (n == t.number) ≡ b → moves t.number ≡ move_by bucket t → (if b then Some (move_by bucket t) else book n) ≡ Some m → moves n ≡ m
    by_place true e it is = here (eqb-true n t.number e) it is
    by_place false e it is = of n m is

    not_first : (t.number == 0) ≡ false → t.number ≡ 0 → ⊥
    not_first e first = let P : ℕ → Type 0 = λ k. (k == 0) ≡ false in absurd (cc (subst P first e))

    by_number : (b : Bool) → (t.number == 0) ≡ b → IsByMove moves bucket t → (if b then book n else (if n == t.number then Some (move_by bucket t) else book n)) ≡ Some m → moves n ≡ m
    by_number true e it is = of n m is
    by_number false e (inl first) is = absurd (not_first e first)
    by_number false e (inr it) is = by_place (n == t.number) refl it is

pub are_by : (moves : ℕ → Move) (book : Book) (bucket : List ℕ) (ts : List Tenure) → IsOf moves book → AllByRecursion (IsByMove moves bucket) ts → (are_as_seen book bucket ts ≡ true) × IsOf moves (seen_after book bucket ts)
are_by moves book bucket [] of all = (refl, of)
are_by moves book bucket (t ∷ ts) of all =
    let rest = are_by moves (seen_with book bucket t) bucket ts (of_with moves book bucket t of all.0) all.1 in
    (rw (as_seen_by moves book bucket t of all.0) rest.0, rest.1)

-- ---- books with the same moves

abbrev pub IsSameBook : Book → Book → Type 0
IsSameBook book other = (n : ℕ) → book n ≡ other n

as_seen-same : (book other : Book) (bucket : List ℕ) (t : Tenure) → IsSameBook book other → is_as_seen book bucket t ≡ is_as_seen other bucket t
as_seen-same book other bucket t same = ap (λ (o : Option Move). t.number == 0 || fits o (move_by bucket t)) (same t.number)

with-same : (book other : Book) (bucket : List ℕ) (t : Tenure) → IsSameBook book other → IsSameBook (seen_with book bucket t) (seen_with other bucket t)
with-same book other bucket t same n =
    ap (λ (o : Option Move). if t.number == 0 then o else (if n == t.number then Some (move_by bucket t) else o)) (same n)

pub are_seen-same : (book other : Book) (bucket : List ℕ) (ts : List Tenure) → IsSameBook book other → are_as_seen book bucket ts ≡ are_as_seen other bucket ts
are_seen-same book other bucket [] same = refl
are_seen-same book other bucket (t ∷ ts) same =
    ap (λ b. b && are_as_seen (seen_with book bucket t) bucket ts) (as_seen-same book other bucket t same)
    ∙ ap (λ b. is_as_seen other bucket t && b) (are_seen-same (seen_with book bucket t) (seen_with other bucket t) bucket ts (with-same book other bucket t same))

pub after-same : (book other : Book) (bucket : List ℕ) (ts : List Tenure) → IsSameBook book other → IsSameBook (seen_after book bucket ts) (seen_after other bucket ts)
after-same book other bucket [] same n = same n
after-same book other bucket (t ∷ ts) same n = after-same (seen_with book bucket t) (seen_with other bucket t) bucket ts (with-same book other bucket t same) n

-- ---- one tenure after another

-- the tenures from a place on, after those before it
abbrev pub Left : SeenMoves → List ℕ → List Tenure → SeenMoves → ℕ → Type 0
Left s bucket ts now i =
    (are_as_seen (seen_of s) bucket ts ≡ are_as_seen (seen_of now) bucket (drop i ts))
    × IsSameBook (seen_after (seen_of s) bucket ts) (seen_after (seen_of now) bucket (drop i ts))

pub one_seen : (s now after : SeenMoves) (bucket : List ℕ) (ts : List Tenure) (i : ℕ) (t : Tenure) (passes : Bool) → i < length ts → t ≡ get_or ts i t → Left s bucket ts now i → SeesOne now bucket t passes after → passes ≡ true → Left s bucket ts after (i + 1)
one_seen s now after bucket ts i t passes low is left sees passed =
    let place : drop i ts ≡ t ∷ drop (i + 1) ts = drop_more ts i t low ∙ ap (λ (u : Tenure). u ∷ drop (i + 1) ts) (sym is) in
    let same : IsSameBook (seen_with (seen_of now) bucket t) (seen_of after) = λ n. sym (sees.1 passed n) in (
      left.0 ∙ (ap (λ us. are_as_seen (seen_of now) bucket us) place
          ∙ (ap (λ b. b && are_as_seen (seen_with (seen_of now) bucket t) bucket (drop (i + 1) ts)) (sym sees.0 ∙ passed)
          ∙ are_seen-same (seen_with (seen_of now) bucket t) (seen_of after) bucket (drop (i + 1) ts) same)),
      λ n. left.1 n ∙ (ap (λ us. seen_after (seen_of now) bucket us n) place
          ∙ after-same (seen_with (seen_of now) bucket t) (seen_of after) bucket (drop (i + 1) ts) same n),
    )

pub one_fails : (s now after : SeenMoves) (bucket : List ℕ) (ts : List Tenure) (i : ℕ) (t : Tenure) (passes : Bool) → i < length ts → t ≡ get_or ts i t → Left s bucket ts now i → SeesOne now bucket t passes after → passes ≡ false → Sees s bucket ts false after
one_fails s now after bucket ts i t passes low is left sees failed =
    let place : drop i ts ≡ t ∷ drop (i + 1) ts = drop_more ts i t low ∙ ap (λ (u : Tenure). u ∷ drop (i + 1) ts) (sym is) in (
      sym (left.0 ∙ (ap (λ us. are_as_seen (seen_of now) bucket us) place
          ∙ ap (λ b. b && are_as_seen (seen_with (seen_of now) bucket t) bucket (drop (i + 1) ts)) (sym sees.0 ∙ failed))),
      λ e. absurd (cc e),
    )

pub all_seen : (s now : SeenMoves) (bucket : List ℕ) (ts : List Tenure) (i : ℕ) → length ts ≤ i → Left s bucket ts now i → Sees s bucket ts true now
all_seen s now bucket ts i le left =
    let none : drop i ts ≡ [] = drop_all i ts le in (
      sym (left.0 ∙ ap (λ us. are_as_seen (seen_of now) bucket us) none),
      λ e n. sym (left.1 n ∙ ap (λ us. seen_after (seen_of now) bucket us n) none),
    )

-- ---- one tenure

-- the admission is no move
pub admission_seen : (s : SeenMoves) (bucket : List ℕ) (t : Tenure) → t.number ≡ 0 → SeesOne s bucket t true s
admission_seen s bucket t first =
    let P : ℕ → Type 0 = λ k. true ≡ (k == 0 || fits (seen_of s k) (move_by bucket t)) in
    let Q : Bool → ℕ → Type 0 = λ b n. seen_of s n ≡ (if b then seen_of s n else (if n == t.number then Some (move_by bucket t) else seen_of s n)) in
    let zero : (t.number == 0) ≡ true = ap (λ k. k == 0) first in
    (subst P (sym first) refl, λ e n. let R : Bool → Type 0 = λ b. Q b n in subst R (sym zero) refl)

not_zero : (k : ℕ) → ¬ (k ≡ 0) → (k == 0) ≡ false
not_zero k apart = grind (arith, apart)

-- a move of that number was seen
pub again_seen : (s : SeenMoves) (bucket : List ℕ) (t : Tenure) (m : Move) (passes : Bool) → ¬ (t.number ≡ 0) → seen_of s t.number ≡ Some m → passes ≡ is_same_move m (move_by bucket t) → SeesOne s bucket t passes s
again_seen s bucket t m passes apart seen is =
    let other = not_zero t.number apart in
    let fit : fits (seen_of s t.number) (move_by bucket t) ≡ is_same_move m (move_by bucket t) = ap (λ (o : Option Move). fits o (move_by bucket t)) seen in
    let as_seen : is_as_seen (seen_of s) bucket t ≡ is_same_move m (move_by bucket t) = rw other fit in
    (is ∙ sym as_seen, λ passed n. kept (sym is ∙ passed) n)
  where
    at_place : (n : ℕ) (b : Bool) → (n == t.number) ≡ b → m ≡ move_by bucket t → seen_of s n ≡ (if b then Some (move_by bucket t) else seen_of s n)
    at_place n true e same = ap (seen_of s) (eqb-true n t.number e) ∙ (seen ∙ ap (λ (x : Move). Some x) same)
    at_place n false e same = refl

    kept : is_same_move m (move_by bucket t) ≡ true → (n : ℕ) → seen_of s n ≡ seen_with (seen_of s) bucket t n
    kept same n = rw (not_zero t.number apart) (at_place n (n == t.number) refl (same_is m (move_by bucket t) same))

-- the first of its number
pub first_seen : (s after : SeenMoves) (bucket : List ℕ) (t : Tenure) → ¬ (t.number ≡ 0) → seen_of s t.number ≡ None → IsAdded s bucket t after → SeesOne s bucket t true after
first_seen s after bucket t apart none added =
    let other = not_zero t.number apart in
    let fit : fits (seen_of s t.number) (move_by bucket t) ≡ true = ap (λ (o : Option Move). fits o (move_by bucket t)) none in
    let as_seen : is_as_seen (seen_of s) bucket t ≡ true = rw other fit in
    (sym as_seen, λ passed n. rw other (added n))

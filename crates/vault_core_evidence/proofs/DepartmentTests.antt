-- What the test of departments says.
use Rattle.std.proofs.Common.{◌≡◌, ℕ, ◌≤◌, ◌<◌, ◌&&◌, List, [], ◌∷◌, Bool, true, false, Option, Some, None, refl, sym, ◌∙◌, inl, inr, arith}
use Rattle.std.specs.Prelude.{not, ◌||◌, nat_lt, nat_le}
use Rattle.std.specs.List.{AllByRecursion}
use Rattle.std.specs.Str.{bytes_eq}
use Rattle.std.proofs.lemmas.Bool.{and_parts, ltb-true}
use Rattle.std.proofs.lemmas.Slice.Eq.{bytes_eq-Decides}
use Rattle.vault_core_model.specs.declared.records.History.{History}
use Rattle.vault_core_model.specs.declared.records.Tenure.{Tenure}
use Rattle.vault_core_evidence.specs.Departments.{IsBefore, until, WasOf, removed_at, Agree, is_before, is_before_both, share, tenure_fits, tenures_fit, agree, agrees_with}

-- ---- truth values

and_of : (a b : Bool) → a ≡ true → b ≡ true → (a && b) ≡ true
and_of a b ea eb = rw (ea, eb) refl

lt_true : (m n : ℕ) → m < n → nat_lt m n ≡ true
lt_true m n lt = grind (arith, lt)

-- where the first holds, so does the second
implied : (a b : Bool) → (not a || b) ≡ true → a ≡ true → b ≡ true
implied true b e on = e
implied false b e on = absurd (cc on)

implies : (a b : Bool) → (a ≡ true → b ≡ true) → (not a || b) ≡ true
implies true b f = f refl
implies false b f = refl

-- ---- times

before_is : (s : ℕ) (end : Option ℕ) → is_before s end ≡ true → IsBefore s end
before_is s None e = tt
before_is s (Some end) e = ltb-true s end e

is_before-by : (s : ℕ) (end : Option ℕ) → IsBefore s end → is_before s end ≡ true
is_before-by s None is = refl
is_before-by s (Some end) is = lt_true s end is

pub earlier : (r s : ℕ) (end : Option ℕ) → r ≤ s → IsBefore s end → IsBefore r end
earlier r s None le is = tt
earlier r s (Some end) le is = omega (arith, le, is)

-- a second in both times
shared : (from s begin : ℕ) (to end : Option ℕ) → from ≤ s → IsBefore s to → begin ≤ s → IsBefore s end → share from to begin end ≡ true
shared from s begin to end a b c d =
    and_of (is_before_both from to end) (is_before_both begin to end)
    (and_of (is_before from to) (is_before from end) (is_before-by from to (earlier from s to a b)) (is_before-by from end (earlier from s end a d)))
    (and_of (is_before begin to) (is_before begin end) (is_before-by begin to (earlier begin s to c b)) (is_before-by begin end (earlier begin s end c d)))

-- the second in both times: the later of the two beginnings
record IsShared (from : ℕ) (to : Option ℕ) (begin : ℕ) (end : Option ℕ) : Type 0 where
  s : ℕ
  after : from ≤ s
  before : IsBefore s to
  begun : begin ≤ s
  ends : IsBefore s end

share_is : (from begin : ℕ) (to end : Option ℕ) → share from to begin end ≡ true → IsShared from to begin end
share_is from begin to end e = by_order (nat_le from begin) refl
  where
    halves : (is_before_both from to end ≡ true) × (is_before_both begin to end ≡ true)
    halves = and_parts (is_before_both from to end) (is_before_both begin to end) e

    one : (is_before from to ≡ true) × (is_before from end ≡ true)
    one = and_parts (is_before from to) (is_before from end) halves.0

    two : (is_before begin to ≡ true) × (is_before begin end ≡ true)
    two = and_parts (is_before begin to) (is_before begin end) halves.1

    by_order : (b : Bool) → nat_le from begin ≡ b → IsShared from to begin end
    by_order true le = record { s = begin; after = grind (arith, le); before = before_is begin to two.0; begun = omega arith; ends = before_is begin end two.1 }
    by_order false le = record { s = from; after = omega arith; before = before_is from to one.0; begun = grind (arith, le); ends = before_is from end one.1 }

-- ---- one tenure

-- in the time from one moment to another the version was of that department
abbrev FitsIn : ℕ → Option ℕ → List ℕ → List Tenure → Option ℕ → Type 0
FitsIn from to dept ts end = (s : ℕ) (other : List ℕ) → from ≤ s → IsBefore s to → WasOf ts end s other → dept ≡ other

tenure_parts : (from : ℕ) (to : Option ℕ) (dept : List ℕ) (t : Tenure) (ts : List Tenure) (end : Option ℕ) → tenure_fits from to dept (t ∷ ts) end ≡ true → ((not (share from to t.from (until ts end)) || bytes_eq dept t.dept) ≡ true) × (tenure_fits from to dept ts end ≡ true)
tenure_parts from to dept t ts end e = and_parts (not (share from to t.from (until ts end)) || bytes_eq dept t.dept) (tenure_fits from to dept ts end) e

fits_is : (from : ℕ) (to : Option ℕ) (dept : List ℕ) (ts : List Tenure) (end : Option ℕ) → tenure_fits from to dept ts end ≡ true → FitsIn from to dept ts end
fits_is from to dept [] end e s other a b was = absurd was
fits_is from to dept (t ∷ ts) end e s other a b (inl here) =
    let same = implied (share from to t.from (until ts end)) (bytes_eq dept t.dept) (tenure_parts from to dept t ts end e).0 (shared from s t.from to (until ts end) a b here.0 here.1) in
    (bytes_eq-Decides dept t.dept).0 same ∙ here.2
fits_is from to dept (t ∷ ts) end e s other a b (inr later) = fits_is from to dept ts end (tenure_parts from to dept t ts end e).1 s other a b later

is_fits : (from : ℕ) (to : Option ℕ) (dept : List ℕ) (ts : List Tenure) (end : Option ℕ) → FitsIn from to dept ts end → tenure_fits from to dept ts end ≡ true
is_fits from to dept [] end fits = refl
is_fits from to dept (t ∷ ts) end fits =
    and_of (not (share from to t.from (until ts end)) || bytes_eq dept t.dept) (tenure_fits from to dept ts end)
    (implies (share from to t.from (until ts end)) (bytes_eq dept t.dept) (λ on.
    let it = share_is from t.from to (until ts end) on in
    (bytes_eq-Decides dept t.dept).1 (fits it.s t.dept it.after it.before (inl (it.begun, it.ends, refl)))))
    (is_fits from to dept ts end (λ s other a b was. fits s other a b (inr was)))

-- ---- all tenures

-- two versions were of one department in each second in which both were held
abbrev pub Fit : List Tenure → Option ℕ → List Tenure → Option ℕ → Type 0
Fit ts own others end = (s : ℕ) (dept other : List ℕ) → WasOf ts own s dept → WasOf others end s other → dept ≡ other

pub fit_is : (ts : List Tenure) (own : Option ℕ) (others : List Tenure) (end : Option ℕ) → tenures_fit ts own others end ≡ true → Fit ts own others end
fit_is [] own others end e s dept other was had = absurd was
fit_is (t ∷ ts) own others end e s dept other (inl here) had =
    sym here.2 ∙ fits_is t.from (until ts own) t.dept others end (and_parts (tenure_fits t.from (until ts own) t.dept others end) (tenures_fit ts own others end) e).0 s other here.0 here.1 had
fit_is (t ∷ ts) own others end e s dept other (inr later) had =
    fit_is ts own others end (and_parts (tenure_fits t.from (until ts own) t.dept others end) (tenures_fit ts own others end) e).1 s dept other later had

pub is_fit : (ts : List Tenure) (own : Option ℕ) (others : List Tenure) (end : Option ℕ) → Fit ts own others end → tenures_fit ts own others end ≡ true
is_fit [] own others end fit = refl
is_fit (t ∷ ts) own others end fit =
    and_of (tenure_fits t.from (until ts own) t.dept others end) (tenures_fit ts own others end)
    (is_fits t.from (until ts own) t.dept others end (λ s other a b was. fit s t.dept other (inl (a, b, refl)) was))
    (is_fit ts own others end (λ s dept other was had. fit s dept other (inr was) had))

-- ---- histories

pub agree_is : (h g : History) → agree h g ≡ true → Agree h g
agree_is h g e bucket s dept other was had =
    let same = (bytes_eq-Decides h.entry.bucket g.entry.bucket).1 bucket in
    let fit = implied (bytes_eq h.entry.bucket g.entry.bucket) (tenures_fit g.tenures (removed_at g.entry) h.tenures (removed_at h.entry)) e same in
    sym (fit_is g.tenures (removed_at g.entry) h.tenures (removed_at h.entry) fit s other dept had was)

pub is_agree : (h g : History) → Agree h g → agree h g ≡ true
is_agree h g agrees =
    implies (bytes_eq h.entry.bucket g.entry.bucket) (tenures_fit g.tenures (removed_at g.entry) h.tenures (removed_at h.entry)) (λ same.
    is_fit g.tenures (removed_at g.entry) h.tenures (removed_at h.entry) (λ s dept other was had.
    sym (agrees ((bytes_eq-Decides h.entry.bucket g.entry.bucket).0 same) s other dept had was)))

pub agrees_is : (before : List History) (h : History) → agrees_with before h ≡ true → AllByRecursion (λ g. Agree g h) before
agrees_is [] h e = tt
agrees_is (g ∷ gs) h e =
    let parts = and_parts (agree g h) (agrees_with gs h) e in
    (agree_is g h parts.0, agrees_is gs h parts.1)

pub is_agrees : (before : List History) (h : History) → AllByRecursion (λ g. Agree g h) before → agrees_with before h ≡ true
is_agrees [] h all = refl
is_agrees (g ∷ gs) h all = and_of (agree g h) (agrees_with gs h) (is_agree g h all.0) (is_agrees gs h all.1)

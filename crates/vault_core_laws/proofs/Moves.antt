-- A move keeps what holds of tenures, and the quota.
use Rattle.std.proofs.Common.{◌≡◌, ℕ, ◌+◌, ◌≤◌, List, [], ◌∷◌, ◌++◌, map, Bool, true, false, true≢false, Option, Some, None, IsTrue, refl, sym, ap, subst, ◌∙◌, arith}
use Rattle.std.specs.Prelude.{filter, sum_by, not, ◌&&◌, if◌then◌else◌, option_map, is_none}
use Rattle.std.specs.List.{AllByRecursion}
use Rattle.std.specs.Str.{bytes_eq}
use Rattle.std.proofs.lemmas.Slice.Eq.{bytes_eq-Decides}
use Rattle.std.proofs.lemmas.List.Sums.{sum_by-cons, sum_by_push}
use Rattle.vault_tally.specs.Row.{size_of, quota}
use Rattle.vault_tally.proofs.Bounds.{got}
use Rattle.vault_core_model.specs.declared.records.BucketConfig.{BucketConfig}
use Rattle.vault_core_model.specs.declared.records.Entry.{Entry}
use Rattle.vault_core_model.specs.declared.records.History.{History}
use Rattle.vault_core_model.specs.declared.records.Removal.{Removal}
use Rattle.vault_core_model.specs.declared.records.Tenure.{Tenure}
use Rattle.vault_core_model.specs.declared.change.Change.TheVariants.{MoveBucket}
use Rattle.vault_core_model.specs.Allowed.{IsMove}
use Rattle.vault_core_model.specs.Change.{changed, next_tenure, tenured_if, tenured_by}
use Rattle.vault_core_model.specs.Places.{is_held_version_in}
use Rattle.vault_core_model.specs.Vault.{Vault, has_department}
use Rattle.vault_core_model.specs.Sound.{Sound, AreTenures, FollowOn, HasTenures, HasTenuresAs, IsWithBucket, end_of, last_tenure}
use Rattle.vault_core_model.specs.Totals.{admitted_bytes, received_bytes, items_in, items_of, bucket_bytes}
use Rattle.vault_core_laws.proofs.Buckets.{owner-moved}
use Rattle.vault_core_laws.proofs.Items.{brings, brought, items_sum, kept_sum}
use Rattle.vault_core_laws.proofs.Lists.{All-push}
use Rattle.vault_core_laws.proofs.Tenures.{IsLater, known-later, owner_of, tenures-later}
use Rattle.vault_core_laws.proofs.Tests.{none_is, same_some}

-- a tenure more is of the same entry
pub entry-tenured : (name : List ℕ) (x : Tenure) (h : History) → (tenured_if name x h).entry ≡ h.entry
entry-tenured name x h = elim (is_held_version_in name h.entry) as (λ b. (if b then tenured_by x h else h).entry ≡ h.entry) [ true ↦ refl | false ↦ refl ]

-- ---- the quota

-- what a move brings of a version
abbrev moved_size : List ℕ → Bool → History → ℕ
moved_size name own h = if is_held_version_in name h.entry then (if own then h.entry.size else 0) else 0

brought-moved : (name dept : List ℕ) (x : Tenure) (h : History) → brought dept (tenured_if name x h) ≡ brought dept h + moved_size name (bytes_eq x.dept dept) h
brought-moved name dept x h =
    elim (is_held_version_in name h.entry) as (λ b. brought dept (if b then tenured_by x h else h) ≡ brought dept h + (if b then (if bytes_eq x.dept dept then h.entry.size else 0) else 0)) [
      | true ↦ sum_by_push (brings h.entry.size dept) h.tenures x
      | false ↦ omega arith
    ]

all_brought : (name dept : List ℕ) (x : Tenure) (hs : List History) → sum_by (brought dept) (map (tenured_if name x) hs) ≡ sum_by (brought dept) hs + sum_by (moved_size name (bytes_eq x.dept dept)) hs
all_brought name dept x [] = refl
all_brought name dept x (h ∷ hs) = omega (
  arith,
  sum_by-cons (brought dept) (tenured_if name x h) (map (tenured_if name x) hs),
  sum_by-cons (brought dept) h hs,
  sum_by-cons (moved_size name (bytes_eq x.dept dept)) h hs,
  brought-moved name dept x h,
  all_brought name dept x hs,
)

-- to the department of the tenure comes what the bucket holds, to any other nothing
comes : (name : List ℕ) (own : Bool) (hs : List History) → sum_by (moved_size name own) hs ≡ (if own then sum_by (λ h. h.entry.size) (filter (λ h. is_held_version_in name h.entry) hs) else 0)
comes name true [] = refl
comes name false [] = refl
comes name true (h ∷ hs) = omega (
  arith,
  sum_by-cons (moved_size name true) h hs,
  kept_sum (λ g. g.entry.size) h (filter (λ g. is_held_version_in name g.entry) hs) (is_held_version_in name h.entry),
  comes name true hs,
)
comes name false (h ∷ hs) =
    let nothing : moved_size name false h ≡ 0 = elim (is_held_version_in name h.entry) as (λ b. (if b then (if false then h.entry.size else 0) else 0) ≡ 0) [ true ↦ refl | false ↦ refl ] in
    omega (arith, sum_by-cons (moved_size name false) h hs, nothing, comes name false hs)

sizes-moved : (name dept : List ℕ) (x : Tenure) (hs : List History) → sum_by size_of (items_in dept (map (tenured_if name x) hs))
    ≡ sum_by size_of (items_in dept hs) + (if bytes_eq x.dept dept then sum_by (λ h. h.entry.size) (filter (λ h. is_held_version_in name h.entry) hs) else 0)
sizes-moved name dept x hs =
    omega (arith, items_sum dept (map (tenured_if name x) hs), items_sum dept hs, all_brought name dept x hs, comes name (bytes_eq x.dept dept) hs)

pub within-moved : (v : Vault) (t : ℕ) (name dept : List ℕ) → Sound v → IsMove v name dept → (d : List ℕ) → admitted_bytes (changed v t (MoveBucket name dept)) d + received_bytes (changed v t (MoveBucket name dept)) d ≤ quota
within-moved v t name dept sound move d =
    omega (
      arith,
      got (items_of (changed v t (MoveBucket name dept)) d),
      got (items_of v d),
      sizes-moved name d (next_tenure v t dept) v.histories,
      by_owner (bytes_eq dept d) refl,
    )
  where
    by_owner : (b : Bool) → bytes_eq dept d ≡ b → admitted_bytes v d + received_bytes v d + (if b then bucket_bytes v name else 0) ≤ quota
    by_owner true same =
        let P : List ℕ → Type 0 = λ e. admitted_bytes v e + received_bytes v e + bucket_bytes v name ≤ quota in
        subst P ((bytes_eq-Decides dept d).0 same) move.fits
    by_owner false other = omega (arith, sound.within d)

-- ---- the tenures

-- one tenure more, now, of another department than the last
follow_push : (moves last : ℕ) (t : Tenure) (ts : List Tenure) (x : Tenure) → t.number ≤ moves → FollowOn moves last t ts → last ≤ x.from → x.number ≡ moves + 1
    → ((y : Tenure) → last_tenure (t ∷ ts) ≡ Some y → bytes_eq y.dept x.dept ≡ false) → FollowOn (moves + 1) x.from t (ts ++ x ∷ [])
follow_push moves last t [] x few on le next other = (omega (arith, next), omega (arith, next), omega (arith, on), other t refl, omega arith)
follow_push moves last t (u ∷ us) x few on le next other =
    (on.0, omega (arith, on.1), on.2, on.3, follow_push moves last u us x on.1 on.4 le next other)

last_pushed : (ts : List Tenure) (x : Tenure) → last_tenure (ts ++ x ∷ []) ≡ Some x
last_pushed [] x = refl
last_pushed (t ∷ []) x = refl
last_pushed (t ∷ u ∷ us) x = last_pushed (u ∷ us) x

module _ (v : Vault) (t : ℕ) (name dept : List ℕ) (le : v.last ≤ t) (move : IsMove v name dept) where
  abbrev w : Vault
  w = changed v t (MoveBucket name dept)

  abbrev x : Tenure
  x = next_tenure v t dept

  later : IsLater v w
  later = record { last = le; moves = omega arith; known = λ d there. there }

  -- the department of a bucket, by whether it is the one that moves
  owner_by : (other : List ℕ) (b : Bool) → bytes_eq other name ≡ b → owner_of w other ≡ (if b then option_map (λ (d : List ℕ). dept) (owner_of v other) else owner_of v other)
  owner_by other b is =
      owner-moved v.buckets name dept other ∙ ap (λ (y : Bool). if y then option_map (λ (d : List ℕ). dept) (owner_of v other) else owner_of v other) is

  -- a version that stays with its department: it was removed, or is in another bucket
  stays_with : (h : History) (r : Option Removal) → (r ≡ None → bytes_eq h.entry.bucket name ≡ false) → IsWithBucket v r h → IsWithBucket w r h
  stays_with h (Some r) apart with = tt
  stays_with h None apart with = with ∙ sym (owner_by h.entry.bucket false (apart refl))

  stays : (h : History) → (h.entry.removal ≡ None → bytes_eq h.entry.bucket name ≡ false) → HasTenuresAs false v h → HasTenuresAs false w h
  stays h apart has = (tenures-later v w later h.entry h.tenures has.0, known-later v w later h.tenures has.1, stays_with h h.entry.removal apart has.2)

  -- one that moves
  pushed : (e : Entry) (ts : List Tenure) → e.removal ≡ None → AreTenures v e ts → option_map (λ y. y.dept) (last_tenure ts) ≡ Some move.bucket.dept → AreTenures w e (ts ++ x ∷ [])
  pushed e [] held are own = absurd are
  pushed e (y ∷ ys) held are own =
      let on = subst (λ r. FollowOn v.moves (end_of v.last r) y ys) held are.2 in
      let more = follow_push v.moves v.last y ys x (omega (arith, are.0)) on le refl (λ z is.
      let its : z.dept ≡ move.bucket.dept = same_some z.dept move.bucket.dept (sym (ap (option_map (λ (u : Tenure). u.dept)) is) ∙ own) in
      ap (λ d. bytes_eq d dept) its ∙ move.other) in
      (are.0, are.1, subst (λ r. FollowOn (v.moves + 1) (end_of t r) y (ys ++ x ∷ [])) (sym held) more)

  moves : (h : History) → h.entry.removal ≡ None → bytes_eq h.entry.bucket name ≡ true → HasTenuresAs false v h → HasTenuresAs false w (tenured_by x h)
  moves h held here has =
      let owned : owner_of v h.entry.bucket ≡ Some move.bucket.dept = ap (owner_of v) ((bytes_eq-Decides h.entry.bucket name).0 here) ∙ ap (option_map (λ (c : BucketConfig). c.dept)) move.there in
      let own : option_map (λ y. y.dept) (last_tenure h.tenures) ≡ Some move.bucket.dept = subst (λ r. IsWithBucket v r h) held has.2 ∙ owned in
      let last : option_map (λ y. y.dept) (last_tenure (h.tenures ++ x ∷ [])) ≡ Some dept = ap (option_map (λ (y : Tenure). y.dept)) (last_pushed h.tenures x) in
      let now : owner_of w h.entry.bucket ≡ Some dept = owner_by h.entry.bucket true here ∙ ap (option_map (λ (d : List ℕ). dept)) owned in (
        pushed h.entry h.tenures held has.0 own,
        All-push (λ y. IsTrue (has_department v y.dept)) h.tenures x has.1 move.known,
        subst (λ r. IsWithBucket w r (tenured_by x h)) (sym held) (last ∙ sym now),
      )

  by_test : (h : History) (m b n : Bool) → bytes_eq h.entry.bucket name ≡ b → is_none h.entry.removal ≡ n → HasTenuresAs m v h
      → HasTenuresAs m w (if not m && (b && n) then tenured_by x h else h)
  by_test h true b n place held has = has
  by_test h false true true place held has = moves h (none_is h.entry.removal held) place has
  by_test h false false n place held has = stays h (λ none. place) has
  by_test h false true false place held has = stays h (λ none. absurd (true≢false (sym (ap is_none none) ∙ held))) has

  one_tenured : (h : History) → HasTenures v h → HasTenures w (tenured_if name x h)
  one_tenured h has =
      let whole = by_test h h.entry.marker (bytes_eq h.entry.bucket name) (is_none h.entry.removal) refl refl has in
      subst (λ (e : Entry). HasTenuresAs e.marker w (tenured_if name x h)) (sym (entry-tenured name x h)) whole

  all_tenured : (hs : List History) → AllByRecursion (HasTenures v) hs → AllByRecursion (HasTenures w) (map (tenured_if name x) hs)
  all_tenured [] has = tt
  all_tenured (h ∷ hs) has = (one_tenured h has.0, all_tenured hs has.1)

pub tenured-moved : (v : Vault) (t : ℕ) (name dept : List ℕ) → Sound v → v.last ≤ t → IsMove v name dept → AllByRecursion (HasTenures (changed v t (MoveBucket name dept))) (changed v t (MoveBucket name dept)).histories
tenured-moved v t name dept sound le move = all_tenured v t name dept le move v.histories sound.tenured

-- What a bucket holds is within its department's quota.
use Rattle.std.proofs.Common.{◌≡◌, ℕ, ◌*◌, ◌≤◌, List, [], ◌∷◌, ◌++◌, Bool, true, false, Option, Some, None, refl, sym, ap, subst, arith}
use Rattle.std.specs.Prelude.{filter, sum_by, not, is_none, option_map, ◌&&◌, if◌then◌else◌}
use Rattle.std.specs.List.{AllByRecursion}
use Rattle.std.specs.Str.{bytes_eq}
use Rattle.std.proofs.lemmas.List.Sums.{sum_by-cons, sum_by-append}
use Rattle.std.proofs.lemmas.Slice.Eq.{bytes_eq-Decides}
use Rattle.std.proofs.Math.Nat.{add-mul, mul-le-mul_left, mul-le-mul_right}
use Rattle.vault_base.specs.Days.{day, last_moment}
use Rattle.vault_tally.specs.Row.{last_day, quota}
use Rattle.vault_tally.proofs.Bounds.{got}
use Rattle.vault_core_model.specs.declared.records.History.{History}
use Rattle.vault_core_model.specs.declared.records.Tenure.{Tenure}
use Rattle.vault_core_model.specs.Places.{is_held_version_in}
use Rattle.vault_core_model.specs.Vault.{Vault}
use Rattle.vault_core_model.specs.Sound.{Sound, AreTenures, FollowOn, HasTenures, HasTenuresAs, IsInTime, IsWithBucket, end_of, last_tenure}
use Rattle.vault_core_model.specs.Totals.{bucket_bytes, bucket_weight, held_versions_in, items_of, last_day_from}
use Rattle.vault_core_laws.proofs.Bounds.{day-le}
use Rattle.vault_core_laws.proofs.Items.{brings, brought, items_sum, kept_sum}
use Rattle.vault_core_laws.proofs.Lists.{All-both, All-filter}
use Rattle.vault_core_laws.proofs.Tenures.{end-by, owner_of}
use Rattle.vault_core_laws.proofs.Tests.{none_is, same_some}

-- ---- the bytes: a held version came to its bucket's department

-- tenures bring the size to the department of the last
last_brings : (size : ℕ) (dept : List ℕ) (t : Tenure) (ts : List Tenure) → option_map (λ u. u.dept) (last_tenure (t ∷ ts)) ≡ Some dept → size ≤ sum_by (brings size dept) (t ∷ ts)
last_brings size dept t [] is =
    let own : bytes_eq t.dept dept ≡ true = (bytes_eq-Decides t.dept dept).1 (same_some t.dept dept is) in
    let here : brings size dept t ≡ size = ap (λ (b : Bool). if b then size else 0) own in
    omega (arith, sum_by-cons (brings size dept) t [], here)
last_brings size dept t (u ∷ us) is = omega (arith, sum_by-cons (brings size dept) t (u ∷ us), last_brings size dept u us is)

some_last : (t : Tenure) (ts : List Tenure) → option_map (λ u. u.dept) (last_tenure (t ∷ ts)) ≡ None → ⊥
some_last t [] none = cc none
some_last t (u ∷ us) none = some_last u us none

-- what an entry brought to a department, or nothing where there is none
abbrev brought_to : Option (List ℕ) → History → ℕ
brought_to None h = 0
brought_to (Some dept) h = brought dept h

last_brought : (o : Option (List ℕ)) (h : History) (t : Tenure) (ts : List Tenure) → h.tenures ≡ t ∷ ts → option_map (λ u. u.dept) (last_tenure (t ∷ ts)) ≡ o → h.entry.size ≤ brought_to o h
last_brought None h t ts are last = absurd (some_last t ts last)
last_brought (Some dept) h t ts are last = subst (λ us. h.entry.size ≤ sum_by (brings h.entry.size dept) us) (sym are) (last_brings h.entry.size dept t ts last)

came : (v : Vault) (h : History) (ts : List Tenure) → h.tenures ≡ ts → h.entry.removal ≡ None → HasTenuresAs false v h → h.entry.size ≤ brought_to (owner_of v h.entry.bucket) h
came v h [] are held has = absurd (subst (λ us. AreTenures v h.entry us) are has.0)
came v h (t ∷ ts) are held has =
    let with : option_map (λ u. u.dept) (last_tenure h.tenures) ≡ owner_of v h.entry.bucket = subst (λ r. IsWithBucket v r h) held has.2 in
    last_brought (owner_of v h.entry.bucket) h t ts are (subst (λ us. option_map (λ (u : Tenure). u.dept) (last_tenure us) ≡ owner_of v h.entry.bucket) are with)

-- where it is held in that bucket
came_if : (v : Vault) (name : List ℕ) (h : History) (m b n : Bool) → bytes_eq h.entry.bucket name ≡ b → is_none h.entry.removal ≡ n → HasTenuresAs m v h
    → (if not m && (b && n) then h.entry.size else 0) ≤ brought_to (owner_of v name) h
came_if v name h true b n place held has = omega arith
came_if v name h false false n place held has = omega arith
came_if v name h false true false place held has = omega arith
came_if v name h false true true place held has =
    let P : List ℕ → Type 0 = λ other. h.entry.size ≤ brought_to (owner_of v other) h in
    subst P ((bytes_eq-Decides h.entry.bucket name).0 place) (came v h h.tenures refl (none_is h.entry.removal held) has)

all_came : (v : Vault) (name : List ℕ) (hs : List History) → AllByRecursion (HasTenures v) hs → sum_by (λ h. h.entry.size) (filter (λ h. is_held_version_in name h.entry) hs) ≤ sum_by (brought_to (owner_of v name)) hs
all_came v name [] all = omega arith
all_came v name (h ∷ hs) all = omega (
  arith,
  kept_sum (λ g. g.entry.size) h (filter (λ g. is_held_version_in name g.entry) hs) (is_held_version_in name h.entry),
  sum_by-cons (brought_to (owner_of v name)) h hs,
  came_if v name h h.entry.marker (bytes_eq h.entry.bucket name) (is_none h.entry.removal) refl refl all.0,
  all_came v name hs all.1,
)

nothing_came : (hs : List History) → sum_by (brought_to None) hs ≡ 0
nothing_came [] = refl
nothing_came (h ∷ hs) = omega (arith, sum_by-cons (brought_to None) h hs, nothing_came hs)

by_owner : (v : Vault) (o : Option (List ℕ)) (bytes : ℕ) → Sound v → bytes ≤ sum_by (brought_to o) v.histories → bytes ≤ quota
by_owner v None bytes sound le = omega (arith, le, nothing_came v.histories)
by_owner v (Some dept) bytes sound le = omega (arith, le, items_sum dept v.histories, got (items_of v dept), sound.within dept)

pub bytes-held : (v : Vault) (name : List ℕ) → Sound v → bucket_bytes v name ≤ quota
bytes-held v name sound = by_owner v (owner_of v name) (bucket_bytes v name) sound (all_came v name v.histories sound.tenured)

-- ---- the weight: no tenure begins after the last day

ends_by : (moves end : ℕ) (t : Tenure) (ts : List Tenure) → FollowOn moves end t ts → last_day_from (t ∷ ts) ≤ day end
ends_by moves end t [] on = day-le t.from end on
ends_by moves end t (u ∷ us) on = ends_by moves end u us on.4

last_begins : (v : Vault) (h : History) (ts : List Tenure) (marker : Bool) → h.tenures ≡ ts → end_of v.last h.entry.removal ≤ v.last → v.last ≤ last_moment → HasTenuresAs marker v h → last_day_from h.tenures ≤ last_day
last_begins v h ts true are by le has = subst (λ us. last_day_from us ≤ last_day) (sym has) (omega arith)
last_begins v h [] false are by le has = absurd (subst (λ us. AreTenures v h.entry us) are has.0)
last_begins v h (t ∷ ts) false are by le has =
    let in_order : AreTenures v h.entry (t ∷ ts) = subst (λ us. AreTenures v h.entry us) are has.0 in
    let end = end_of v.last h.entry.removal in
    subst (λ us. last_day_from us ≤ last_day) (sym are) (omega (arith, ends_by v.moves end t ts in_order.2, day-le end last_moment (omega (arith, by, le))))

abbrev weighs : History → ℕ
weighs h = h.entry.size * last_day_from h.tenures

weighs_at_most : (most : ℕ) (hs : List History) → AllByRecursion (λ h. last_day_from h.tenures ≤ most) hs → sum_by weighs hs ≤ sum_by (λ h. h.entry.size) hs * most
weighs_at_most most [] all = omega arith
weighs_at_most most (h ∷ hs) all = omega (
  arith,
  sum_by-cons weighs h hs,
  ap (λ n. n * most) (sum_by-cons (λ (g : History). g.entry.size) h hs),
  add-mul h.entry.size (sum_by (λ (g : History). g.entry.size) hs) most,
  mul-le-mul_left h.entry.size all.0,
  weighs_at_most most hs all.1,
)

bounded_weight : (most bytes weight last : ℕ) → weight ≤ bytes * last → bytes ≤ most → weight ≤ most * last
bounded_weight most bytes weight last le few = omega (arith, le, mul-le-mul_right last few)

pub weight-held : (v : Vault) (name : List ℕ) → Sound v → v.last ≤ last_moment → bucket_weight v name ≤ quota * last_day
weight-held v name sound le =
    let all = All-both (IsInTime v.last) (HasTenures v) (λ h. last_day_from h.tenures ≤ last_day) (λ h lies has. last_begins v h h.tenures h.entry.marker refl (end-by h.entry.admitted v.last h.entry.removal lies) le has) v.histories sound.in_time sound.tenured in
    let held = All-filter (λ h. last_day_from h.tenures ≤ last_day) (λ h. is_held_version_in name h.entry) v.histories all in
    bounded_weight quota (bucket_bytes v name) (bucket_weight v name) last_day (weighs_at_most last_day (held_versions_in v name) held) (bytes-held v name sound)

-- ---- the first of these versions

front_at_most : (f : History → ℕ) (most : ℕ) (all first rest : List History) → all ≡ first ++ rest → sum_by f all ≤ most → sum_by f first ≤ most
front_at_most f most all first rest are le = omega (arith, ap (sum_by f) are, sum_by-append f first rest, le)

pub bytes-first : (v : Vault) (name : List ℕ) (first rest : List History) → Sound v → held_versions_in v name ≡ first ++ rest → sum_by (λ h. h.entry.size) first ≤ quota
bytes-first v name first rest sound are = front_at_most (λ h. h.entry.size) quota (held_versions_in v name) first rest are (bytes-held v name sound)

pub weight-first : (v : Vault) (name : List ℕ) (first rest : List History) → Sound v → v.last ≤ last_moment → held_versions_in v name ≡ first ++ rest → sum_by (λ h. h.entry.size * last_day_from h.tenures) first ≤ quota * last_day
weight-first v name first rest sound le are = front_at_most weighs (quota * last_day) (held_versions_in v name) first rest are (weight-held v name sound le)

-- The days of a version's tenures are together those that it was held.
use Rattle.std.proofs.Common.{◌≡◌, ℕ, ◌+◌, ◌-◌, ◌*◌, ◌≤◌, List, [], ◌∷◌, Bool, true, false, Option, Some, None, refl, ap, subst, ◌∙◌, arith}
use Rattle.std.specs.Prelude.{filter, sum_by, not, if◌then◌else◌}
use Rattle.std.specs.List.{AllByRecursion}
use Rattle.std.proofs.lemmas.List.Sums.{sum_by-cons}
use Rattle.std.proofs.Math.Nat.{mul-le-mul_left, mul-sub}
use Rattle.vault_base.specs.Days.{day}
use Rattle.vault_tally.specs.Row.{byte_days, end_day}
use Rattle.vault_core_model.specs.declared.records.Entry.{Entry}
use Rattle.vault_core_model.specs.declared.records.History.{History}
use Rattle.vault_core_model.specs.declared.records.Removal.{Removal}
use Rattle.vault_core_model.specs.declared.records.Tenure.{Tenure}
use Rattle.vault_core_model.specs.Vault.{Vault}
use Rattle.vault_core_model.specs.Sound.{Sound, AreTenures, FollowOn, HasTenures, HasTenuresAs, end_of}
use Rattle.vault_core_model.specs.Totals.{Share, share, byte_days_at, over_departments, removal_day, shares_from, shares_of, vault_byte_days}
use Rattle.vault_core_laws.proofs.Balance.{each, over}
use Rattle.vault_core_laws.proofs.Bounds.{day-le}
use Rattle.vault_core_laws.proofs.Tenures.{reaches}

-- size times days, from one day to another by a third
joined : (size a b c : ℕ) → a ≤ b → b ≤ c → size * (b - a) + size * (c - b) ≡ size * (c - a)
joined size a b c early late =
    let ab : size * a ≤ size * b = mul-le-mul_left size early in
    let bc : size * b ≤ size * c = mul-le-mul_left size late in
    omega (arith, mul-sub size b a, mul-sub size c b, mul-sub size c a, ab, bc)

end_day-is : (last t : ℕ) (r : Option Removal) → last ≤ t → day (end_of last r) ≤ end_day (removal_day r) (day t)
end_day-is last t None le = day-le last t le
end_day-is last t (Some r) le = omega arith

telescoped : (moves last t size : ℕ) (r : Option Removal) (first : Bool) (x : Tenure) (xs : List Tenure) → last ≤ t → FollowOn moves (end_of last r) x xs
    → each (byte_days (day t)) (shares_from size r first (x ∷ xs)) ≡ size * (end_day (removal_day r) (day t) - day x.from)
telescoped moves last t size r first x [] le on = omega arith
telescoped moves last t size r first x (u ∷ us) le on =
    let more = telescoped moves last t size r false u us le on.4 in
    let late : day u.from ≤ end_day (removal_day r) (day t) = omega (arith, day-le u.from (end_of last r) (reaches moves (end_of last r) u us on.4), end_day-is last t r le) in
    let rest = shares_from size r false (u ∷ us) in
    let own = share size first x (Some (day u.from)) false in
    omega (arith, more, sum_by-cons (λ (s : Share). byte_days (day t) s.item) own rest, joined size (day x.from) (day u.from) (end_day (removal_day r) (day t)) (day-le x.from u.from on.2) late)

-- a version's days, or none of a marker
abbrev days_of : ℕ → Bool → Entry → ℕ
days_of t marker e = if not marker then e.size * (end_day (removal_day e.removal) (day t) - day e.admitted) else 0

one_history : (v : Vault) (t : ℕ) (h : History) (ts : List Tenure) (marker : Bool) → v.last ≤ t → h.tenures ≡ ts → HasTenuresAs marker v h → each (byte_days (day t)) (shares_of h) ≡ days_of t marker h.entry
one_history v t h ts true le is has = let e = has in rw e refl
one_history v t h [] false le is has = absurd (subst (λ ts. AreTenures v h.entry ts) is has.0)
one_history v t h (x ∷ xs) false le is has =
    let are : AreTenures v h.entry (x ∷ xs) = subst (λ ts. AreTenures v h.entry ts) is has.0 in
    let all = telescoped v.moves v.last t h.entry.size h.entry.removal true x xs le are.2 in
    ap (λ ts. each (byte_days (day t)) (shares_from h.entry.size h.entry.removal true ts)) is ∙ all ∙ ap (λ from. h.entry.size * (end_day (removal_day h.entry.removal) (day t) - day from)) are.1

abbrev of_version : ℕ → History → ℕ
of_version t h = h.entry.size * (end_day (removal_day h.entry.removal) (day t) - day h.entry.admitted)

kept : (t : ℕ) (h : History) (rest : List History) (b : Bool) → sum_by (of_version t) (if not b then h ∷ rest else rest) ≡ days_of t b h.entry + sum_by (of_version t) rest
kept t h rest true = omega arith
kept t h rest false = sum_by-cons (of_version t) h rest

each_history : (v : Vault) (t : ℕ) (hs : List History) → v.last ≤ t → AllByRecursion (HasTenures v) hs → sum_by (λ h. each (byte_days (day t)) (shares_of h)) hs ≡ sum_by (of_version t) (filter (λ h. not h.entry.marker) hs)
each_history v t [] le all = refl
each_history v t (h ∷ hs) le all = omega (
  arith,
  sum_by-cons (λ (g : History). each (byte_days (day t)) (shares_of g)) h hs,
  one_history v t h h.tenures h.entry.marker le refl all.0,
  kept t h (filter (λ g. not g.entry.marker) hs) h.entry.marker,
  each_history v t hs le all.1,
)

pub days_joined : (v : Vault) (t : ℕ) → Sound v → v.last ≤ t → over_departments v (λ dept. byte_days_at v dept t) ≡ vault_byte_days v t
days_joined v t sound le = over v sound (byte_days (day t)) ∙ each_history v t v.histories le sound.tenured

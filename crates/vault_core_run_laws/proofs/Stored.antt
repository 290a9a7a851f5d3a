-- The bytes of each version stand in the held content, or it was removed.
use Rattle.std.proofs.Common.{◌≡◌, ℕ, ◌+◌, ap, ◌∙◌, List, [], ◌∷◌, Bool, true, false, Option, Some, None, refl, sym, subst, arith, inl, inr}
use Rattle.std.specs.Prelude.{◌⊎◌, IsSome, filter, sum_by, not, ◌&&◌, option_map, if◌then◌else◌}
use Rattle.std.specs.List.{AllByRecursion}
use Rattle.std.specs.Str.{bytes_eq}
use Rattle.std.proofs.lemmas.List.Sums.{sum_by-cons, sum_by-append}
use Rattle.vault_base.specs.Days.{day}
use Rattle.vault_tally.specs.Row.{held_size, if_held}
use Rattle.vault_base.specs.declared.content.Content.{Content}
use Rattle.vault_base.specs.Content.{size, digest}
use Rattle.vault_core_model.specs.declared.records.Entry.{Entry}
use Rattle.vault_core_model.specs.declared.records.History.{History}
use Rattle.vault_core_model.specs.declared.records.Removal.{Removal}
use Rattle.vault_core_model.specs.declared.records.Tenure.{Tenure}
use Rattle.vault_core_model.specs.Checks.{is_own}
use Rattle.vault_core_model.specs.Vault.{Vault}
use Rattle.vault_core_model.specs.Sound.{AreTenures, HasItsContent, HasTenures, HasTenuresAs, IsWhole, IsWholeAs, IsWithBucket, Sound, last_tenure}
use Rattle.vault_core_model.specs.Totals.{Share, share, shares_from, shares_of, removal_day, items_by, items_in, over_departments, admitted_bytes, received_bytes, held_bytes, removed_bytes, handed_bytes}
use Rattle.vault_core_laws.proofs.Balance.{conserved, each, one_place, over}
use Rattle.vault_core_laws.proofs.Items.{by-cons}
use Rattle.vault_core_laws.proofs.Lists.{All-weaker}
use Rattle.vault_core_laws.proofs.Tenures.{owner_of}
use Rattle.vault_core_run_laws.specs.Stored.{StandsOnce, EachStandsOnce, content_size, size_if_given, all_stored_bytes, is_version_of, stored_bytes}

held_or_gone : (e : Entry) (o : Option Removal) (content : Option Content) → HasItsContent o content e → ((o ≡ None) × ((held : Content) × (content ≡ Some held) × (size held ≡ e.size) × (e.digest ≡ Some (digest held)))) ⊎ (IsSome o × (content ≡ None))
held_or_gone e None None has = absurd has
held_or_gone e None (Some held) has = inl (refl, (held, refl, has.0, has.1))
held_or_gone e (Some r) None has = inr (refl, refl)
held_or_gone e (Some r) (Some held) has = absurd has

stands_once : (external : Bool) (h : History) (marker : Bool) → IsWholeAs marker external h.entry h.content h.settings → StandsOnce marker h
stands_once external h true whole = whole.2
stands_once external h false whole = held_or_gone h.entry h.entry.removal h.content whole.1

pub Sound-stands_once : (v : Vault) → Sound v → EachStandsOnce v
Sound-stands_once v sound = All-weaker (IsWhole v.external) (λ h. StandsOnce h.entry.marker h) (λ h whole. stands_once v.external h h.entry.marker whole) v.histories sound.whole

-- ---- the sums

-- what is held of a size, where the version was removed or wasn't, is what stands of it
sized : (e : Entry) (o : Option Removal) (content : Option Content) → HasItsContent o content e → if_held (removal_day o) e.size 0 ≡ size_if_given content
sized e None None has = absurd has
sized e None (Some held) has = sym has.0
sized e (Some r) None has = refl
sized e (Some r) (Some held) has = absurd has

-- of a version's tenures the last one alone is held, where it wasn't removed
held_in_all : (size : ℕ) (r : Option Removal) (first : Bool) (t : Tenure) (ts : List Tenure) → each held_size (shares_from size r first (t ∷ ts)) ≡ if_held (removal_day r) size 0
held_in_all size r first t [] = omega arith
held_in_all size r first t (u ∷ us) =
    omega (arith, sum_by-cons (λ (s : Share). held_size s.item) (share size first t (Some (day u.from)) false) (shares_from size r false (u ∷ us)), held_in_all size r false u us)

if_none : (b : Bool) → ◌≡◌ {A = ℕ} (if b then 0 else 0) 0
if_none true = refl
if_none false = refl

held_by : (dept : List ℕ) (size : ℕ) (r : Option Removal) (first : Bool) (t : Tenure) (ts : List Tenure)
    → sum_by held_size (items_by dept (shares_from size r first (t ∷ ts))) ≡ (if is_own (option_map (λ x. x.dept) (last_tenure (t ∷ ts))) dept then if_held (removal_day r) size 0 else 0)
held_by dept size r first t [] = omega (arith, by-cons held_size dept (share size first t (removal_day r) true) [])
held_by dept size r first t (u ∷ us) = omega (
  arith,
  by-cons held_size dept (share size first t (Some (day u.from)) false) (shares_from size r false (u ∷ us)),
  if_none (bytes_eq t.dept dept),
  held_by dept size r false u us,
)

-- what stands of a version, where the test passes
abbrev stands_if : Bool → History → ℕ
stands_if b h = if b then content_size h else 0

-- while it is held its last tenure is its bucket's department's; once it is removed nothing stands
of_removal : (v : Vault) (dept : List ℕ) (h : History) (r : Option Removal) (content : Option Content) → HasItsContent r content h.entry → IsWithBucket v r h
    → (if is_own (option_map (λ x. x.dept) (last_tenure h.tenures)) dept then if_held (removal_day r) h.entry.size 0 else 0) ≡ (if is_own (owner_of v h.entry.bucket) dept then size_if_given content else 0)
of_removal v dept h None content has with =
    rw (with, sized h.entry None content has) refl
of_removal v dept h (Some r) content has with =
    rw (sym (sized h.entry (Some r) content has)) (if_none (is_own (option_map (λ x. x.dept) (last_tenure h.tenures)) dept) ∙ sym (if_none (is_own (owner_of v h.entry.bucket) dept)))

held_of : (v : Vault) (dept : List ℕ) (h : History) (ts : List Tenure) (marker : Bool) → h.tenures ≡ ts → IsWholeAs marker v.external h.entry h.content h.settings → HasTenuresAs marker v h
    → sum_by held_size (items_by dept (shares_of h)) ≡ stands_if (not marker && is_own (owner_of v h.entry.bucket) dept) h
held_of v dept h ts true is whole has = let e = has in rw e refl
held_of v dept h [] false is whole has = absurd (subst (λ xs. AreTenures v h.entry xs) is has.0)
held_of v dept h (t ∷ ts) false is whole has =
    let P : List Tenure → Type 0 = λ xs. sum_by held_size (items_by dept (shares_from h.entry.size h.entry.removal true xs)) ≡ (if is_own (option_map (λ x. x.dept) (last_tenure xs)) dept then if_held (removal_day h.entry.removal) h.entry.size 0 else 0) in
    subst P (sym is) (held_by dept h.entry.size h.entry.removal true t ts) ∙ of_removal v dept h h.entry.removal h.content whole.1 has.2

kept : (h : History) (rest : List History) (b : Bool) → sum_by content_size (if b then h ∷ rest else rest) ≡ stands_if b h + sum_by content_size rest
kept h rest true = sum_by-cons content_size h rest
kept h rest false = omega arith

held_is_stored : (v : Vault) (dept : List ℕ) (hs : List History) → AllByRecursion (IsWhole v.external) hs → AllByRecursion (HasTenures v) hs → sum_by held_size (items_in dept hs) ≡ sum_by content_size (filter (is_version_of v dept) hs)
held_is_stored v dept [] whole tenured = refl
held_is_stored v dept (h ∷ hs) whole tenured = omega (
  arith,
  sum_by-append held_size (items_by dept (shares_of h)) (items_in dept hs),
  held_of v dept h h.tenures h.entry.marker refl whole.0 tenured.0,
  kept h (filter (is_version_of v dept) hs) (is_version_of v dept h),
  held_is_stored v dept hs whole.1 tenured.1,
)

pub held-stored : (v : Vault) (dept : List ℕ) → Sound v → held_bytes v dept ≡ stored_bytes v dept
held-stored v dept sound = held_is_stored v dept v.histories sound.whole sound.tenured

pub Sound-conserved : (v : Vault) (dept : List ℕ) → Sound v → admitted_bytes v dept + received_bytes v dept ≡ stored_bytes v dept + (removed_bytes v dept + handed_bytes v dept)
Sound-conserved v dept sound = one_place v dept ∙ ap (λ n. n + (removed_bytes v dept + handed_bytes v dept)) (held-stored v dept sound)

-- ---- of the whole vault

held_whole : (v : Vault) (h : History) (ts : List Tenure) (marker : Bool) → h.tenures ≡ ts → IsWholeAs marker v.external h.entry h.content h.settings → HasTenuresAs marker v h → each held_size (shares_of h) ≡ content_size h
held_whole v h ts true is whole has = let e = has in let gone = whole.2 in rw (e, gone) refl
held_whole v h [] false is whole has = absurd (subst (λ xs. AreTenures v h.entry xs) is has.0)
held_whole v h (t ∷ ts) false is whole has =
    let P : List Tenure → Type 0 = λ xs. each held_size (shares_from h.entry.size h.entry.removal true xs) ≡ if_held (removal_day h.entry.removal) h.entry.size 0 in
    subst P (sym is) (held_in_all h.entry.size h.entry.removal true t ts) ∙ sized h.entry h.entry.removal h.content whole.1

all_held : (v : Vault) (hs : List History) → AllByRecursion (IsWhole v.external) hs → AllByRecursion (HasTenures v) hs → sum_by (λ h. each held_size (shares_of h)) hs ≡ sum_by content_size hs
all_held v [] whole tenured = refl
all_held v (h ∷ hs) whole tenured = omega (
  arith,
  sum_by-cons (λ (g : History). each held_size (shares_of g)) h hs,
  sum_by-cons content_size h hs,
  held_whole v h h.tenures h.entry.marker refl whole.0 tenured.0,
  all_held v hs whole.1 tenured.1,
)

pub all_held-stored : (v : Vault) → Sound v → over_departments v (held_bytes v) ≡ all_stored_bytes v
all_held-stored v sound = over v sound held_size ∙ all_held v v.histories sound.whole sound.tenured

pub Sound-all_conserved : (v : Vault) → Sound v → over_departments v (admitted_bytes v) ≡ all_stored_bytes v + over_departments v (removed_bytes v)
Sound-all_conserved v sound = conserved v sound ∙ ap (λ n. n + over_departments v (removed_bytes v)) (all_held-stored v sound)

-- The bytes that a department ever admitted and received, entry by entry.
use Rattle.std.proofs.Common.{◌≡◌, ℕ, ◌+◌, ◌≤◌, List, [], ◌∷◌, ◌++◌, map, Bool, true, false, Some, refl, sym, ◌∙◌, ap, subst, arith, eqb}
use Rattle.std.specs.Prelude.{filter, sum_by, if◌then◌else◌, Option}
use Rattle.std.specs.Str.{bytes_eq}
use Rattle.std.proofs.lemmas.Slice.Eq.{bytes_eq-Decides}
use Rattle.std.proofs.lemmas.List.Sums.{sum_by-cons, sum_by-append, sum_by_push}
use Rattle.vault_base.specs.Days.{day}
use Rattle.vault_tally.specs.Row.{Item, size_of}
use Rattle.vault_core_model.specs.declared.records.History.{History}
use Rattle.vault_core_model.specs.declared.records.Removal.{Removal}
use Rattle.vault_core_model.specs.declared.records.Setting.{Setting}
use Rattle.vault_core_model.specs.declared.records.Tenure.{Tenure}
use Rattle.vault_core_model.specs.Allowed.{HasFirstTenure}
use Rattle.vault_core_model.specs.Change.{removed_by, removed_if, with_setting}
use Rattle.vault_core_model.specs.Totals.{Share, share, removal_day, shares_from, shares_of, items_by, items_in}

-- what a share counts for a department
abbrev pub counted : (Item → ℕ) → Share → List ℕ → ℕ
counted f s dept = if bytes_eq s.dept dept then f s.item else 0

one_share : (f : Item → ℕ) (s : Share) (rest : List Share) (b : Bool) → sum_by f (map (λ (x : Share). x.item) (if b then s ∷ rest else rest)) ≡ (if b then f s.item else 0) + sum_by f (map (λ (x : Share). x.item) rest)
one_share f s rest true = sum_by-cons f s.item (map (λ (x : Share). x.item) rest)
one_share f s rest false = omega arith

pub by-cons : (f : Item → ℕ) (dept : List ℕ) (s : Share) (ss : List Share) → sum_by f (items_by dept (s ∷ ss)) ≡ counted f s dept + sum_by f (items_by dept ss)
by-cons f dept s ss = one_share f s (filter (λ x. bytes_eq x.dept dept) ss) (bytes_eq s.dept dept)

-- what a tenure brings to a department
abbrev pub brings : ℕ → List ℕ → Tenure → ℕ
brings size dept t = if bytes_eq t.dept dept then size else 0

pub shares_bring : (size : ℕ) (r : Option Removal) (first : Bool) (ts : List Tenure) (dept : List ℕ) → sum_by size_of (items_by dept (shares_from size r first ts)) ≡ sum_by (brings size dept) ts
shares_bring size r first [] dept = refl
shares_bring size r first (t ∷ []) dept = omega (arith, by-cons size_of dept (share size first t (removal_day r) true) [], sum_by-cons (brings size dept) t [])
shares_bring size r first (t ∷ u ∷ us) dept = omega (
  arith,
  by-cons size_of dept (share size first t (Some (day u.from)) false) (shares_from size r false (u ∷ us)),
  sum_by-cons (brings size dept) t (u ∷ us),
  shares_bring size r false (u ∷ us) dept,
)

-- what an entry adds to what a department ever admitted and received
abbrev pub brought : List ℕ → History → ℕ
brought dept h = sum_by (brings h.entry.size dept) h.tenures

pub items_sum : (dept : List ℕ) (hs : List History) → sum_by size_of (items_in dept hs) ≡ sum_by (brought dept) hs
items_sum dept [] = refl
items_sum dept (h ∷ hs) = omega (
  arith,
  sum_by-append size_of (items_by dept (shares_of h)) (items_in dept hs),
  shares_bring h.entry.size h.entry.removal true h.tenures dept,
  items_sum dept hs,
  sum_by-cons (brought dept) h hs,
)

-- a sum over what is left of a list by a test, entry by entry
pub kept_sum : (f : History → ℕ) (h : History) (rest : List History) (b : Bool) → sum_by f (if b then h ∷ rest else rest) ≡ (if b then f h else 0) + sum_by f rest
kept_sum f h rest true = sum_by-cons f h rest
kept_sum f h rest false = omega arith

-- ---- the changes of histories

-- histories that are altered, each with its size and its tenures
brought-mapped : (f : History → History) (dept : List ℕ) → ((h : History) → brought dept (f h) ≡ brought dept h) → (hs : List History) → sum_by (brought dept) (map f hs) ≡ sum_by (brought dept) hs
brought-mapped f dept same [] = refl
brought-mapped f dept same (h ∷ hs) =
    omega (arith, sum_by-cons (brought dept) h hs, sum_by-cons (brought dept) (f h) (map f hs), same h, brought-mapped f dept same hs)

sizes-mapped : (f : History → History) (dept : List ℕ) → ((h : History) → brought dept (f h) ≡ brought dept h) → (hs : List History) → sum_by size_of (items_in dept (map f hs)) ≡ sum_by size_of (items_in dept hs)
sizes-mapped f dept same hs = items_sum dept (map f hs) ∙ brought-mapped f dept same hs ∙ sym (items_sum dept hs)

pub sizes-push : (dept : List ℕ) (hs : List History) (h : History) → sum_by size_of (items_in dept (hs ++ h ∷ [])) ≡ sum_by size_of (items_in dept hs) + brought dept h
sizes-push dept hs h = omega (arith, items_sum dept (hs ++ h ∷ []), items_sum dept hs, sum_by_push (brought dept) hs h)

-- a removal changes no sum of what was admitted and received
pub sizes-removed : (dept : List ℕ) (id : ℕ) (r : Removal) (hs : List History) → sum_by size_of (items_in dept (map (removed_if id r) hs)) ≡ sum_by size_of (items_in dept hs)
sizes-removed dept id r =
    sizes-mapped (removed_if id r) dept (λ h. elim (eqb h.entry.id id) as (λ b. brought dept (if b then removed_by r h else h) ≡ brought dept h) [ true ↦ refl | false ↦ refl ])

-- nor does a setting
pub sizes-setting : (dept : List ℕ) (id : ℕ) (s : Setting) (hs : List History) → sum_by size_of (items_in dept (map (with_setting id s) hs)) ≡ sum_by size_of (items_in dept hs)
sizes-setting dept id s =
    sizes-mapped (with_setting id s) dept (λ h. elim (eqb h.entry.id id) as (λ b. brought dept (if b then record h { settings = h.settings ++ s ∷ [] } else h) ≡ brought dept h) [ true ↦ refl | false ↦ refl ])

-- ---- an admission

-- it brings its size to its own department, or nothing where it is a marker
pub first_brings : (marker : Bool) (t : ℕ) (own dept : List ℕ) (h : History) → HasFirstTenure marker t own h.tenures → brought dept h ≡ (if marker then 0 else if bytes_eq own dept then h.entry.size else 0)
first_brings true t own dept h none = ap (λ ts. sum_by (brings h.entry.size dept) ts) none
first_brings false t own dept h one =
    let first : Tenure = record { dept = own; from = t; number = 0 } in
    ap (λ ts. sum_by (brings h.entry.size dept) ts) one ∙ omega (arith, sum_by-cons (brings h.entry.size dept) first [])

-- what fits its own department fits each
pub first_fits : (marker : Bool) (t : ℕ) (own dept : List ℕ) (h : History) (most : ℕ) (sum : List ℕ → ℕ) → HasFirstTenure marker t own h.tenures → sum own + h.entry.size ≤ most → sum dept ≤ most → sum dept + brought dept h ≤ most
first_fits marker t own dept h most sum first fits few = rw (first_brings marker t own dept h first) (by_owner marker (bytes_eq own dept) refl)
  where
    by_owner : (m b : Bool) → bytes_eq own dept ≡ b → sum dept + (if m then 0 else if b then h.entry.size else 0) ≤ most
    by_owner true b same = omega (arith, few)
    by_owner false true same = let P : List ℕ → Type 0 = λ d. sum d + h.entry.size ≤ most in subst P ((bytes_eq-Decides own dept).0 same) fits
    by_owner false false differ = omega (arith, few)

-- A department that isn't there has no tenures.
use Rattle.std.proofs.Common.{◌≡◌, ℕ, List, [], ◌∷◌, ◌++◌, map, filter, cond, Bool, true, false, Option, Some, refl, ap, subst, ◌∙◌}
use Rattle.std.specs.Prelude.{IsTrue}
use Rattle.std.specs.List.{AllByRecursion}
use Rattle.std.specs.Str.{bytes_eq}
use Rattle.std.proofs.lemmas.Slice.Eq.{bytes_eq-Decides}
use Rattle.vault_base.specs.Days.{day}
use Rattle.vault_tally.specs.Row.{Item}
use Rattle.vault_core_model.specs.declared.records.History.{History}
use Rattle.vault_core_model.specs.declared.records.Removal.{Removal}
use Rattle.vault_core_model.specs.declared.records.Tenure.{Tenure}
use Rattle.vault_core_model.specs.Sound.{Sound, HasTenures, HasTenuresAs}
use Rattle.vault_core_model.specs.Totals.{Share, share, removal_day, shares_from, shares_of, items_by, items_in, items_of}
use Rattle.vault_core_model.specs.Vault.{Vault, has_department}

-- a tenure more counts for the department that has it
pub items_cons : (dept : List ℕ) (s : Share) (ss : List Share) → items_by dept (s ∷ ss) ≡ cond (bytes_eq s.dept dept) (s.item ∷ items_by dept ss) (items_by dept ss)
items_cons dept s ss =
    elim (bytes_eq s.dept dept) as (λ b. map (λ (x : Share). x.item) (cond b (s ∷ filter (λ x. bytes_eq x.dept dept) ss) (filter (λ x. bytes_eq x.dept dept) ss)) ≡ cond b (s.item ∷ items_by dept ss) (items_by dept ss)) [ true ↦ refl | false ↦ refl ]

-- and for no other
pub items_skip : (dept : List ℕ) (s : Share) (ss : List Share) → bytes_eq s.dept dept ≡ false → items_by dept (s ∷ ss) ≡ items_by dept ss
items_skip dept s ss other = items_cons dept s ss ∙ ap (λ b. cond b (s.item ∷ items_by dept ss) (items_by dept ss)) other

not_there : (v : Vault) (name : List ℕ) → has_department v name ≡ false → (t : Tenure) → IsTrue (has_department v t.dept) → bytes_eq t.dept name ≡ false
not_there v name none t there =
    elim (bytes_eq t.dept name) as (λ b. bytes_eq t.dept name ≡ b → b ≡ false) [
      | true ↦ λ e. absurd (cc (none, subst (λ d. IsTrue (has_department v d)) ((bytes_eq-Decides t.dept name).0 e) there))
      | false ↦ λ e. refl
    ] refl

none_from : (v : Vault) (name : List ℕ) → has_department v name ≡ false → (size : ℕ) (r : Option Removal) (first : Bool) (ts : List Tenure) → AllByRecursion (λ t. IsTrue (has_department v t.dept)) ts
    → items_by name (shares_from size r first ts) ≡ []
none_from v name none size r first [] there = refl
none_from v name none size r first (t ∷ []) there = items_skip name (share size first t (removal_day r) true) [] (not_there v name none t there.0)
none_from v name none size r first (t ∷ u ∷ us) there =
    items_skip name (share size first t (Some (day u.from)) false) (shares_from size r false (u ∷ us)) (not_there v name none t there.0) ∙ none_from v name none size r false (u ∷ us) there.1

none_of : (v : Vault) (name : List ℕ) → has_department v name ≡ false → (marker : Bool) (h : History) → HasTenuresAs marker v h → items_by name (shares_of h) ≡ []
none_of v name none true h has = ap (λ ts. items_by name (shares_from h.entry.size h.entry.removal true ts)) has
none_of v name none false h has = none_from v name none h.entry.size h.entry.removal true h.tenures has.1

none_in : (v : Vault) (name : List ℕ) → has_department v name ≡ false → (hs : List History) → AllByRecursion (HasTenures v) hs → items_in name hs ≡ []
none_in v name none [] all = refl
none_in v name none (h ∷ hs) all =
    ap (λ (l : List Item). l ++ items_in name hs) (none_of v name none h.entry.marker h all.0) ∙ none_in v name none hs all.1

pub no_items : (v : Vault) (name : List ℕ) → Sound v → has_department v name ≡ false → items_of v name ≡ []
no_items v name sound none = none_in v name none v.histories sound.tenured

-- A department that isn't there has no tenures.
use Rattle.std.proofs.Common.{◌≡◌, ◌+◌, ◌≤◌, ◌||◌, ℕ, List, [], ◌∷◌, ◌++◌, filter, map, cond, sum_by, Bool, true, false, Option, Some, IsTrue, refl, sym, ap, subst, ◌∙◌, arith}
use Rattle.std.specs.List.{AllByRecursion}
use Rattle.std.specs.Str.{bytes_eq}
use Rattle.std.proofs.lemmas.Slice.Eq.{bytes_eq-Decides}
use Rattle.std.proofs.lemmas.Bool.{false_from_ne_true}
use Rattle.vault_base.specs.Days.{day}
use Rattle.vault_tally.specs.Row.{Item, admitted_size, received_size, quota}
use Rattle.vault_core_model.specs.declared.records.History.{History}
use Rattle.vault_core_model.specs.declared.records.Removal.{Removal}
use Rattle.vault_core_model.specs.declared.records.Tenure.{Tenure}
use Rattle.vault_core_model.specs.Totals.{Share, share, shares_from, removal_day, items_by, items_in}
use Rattle.vault_audit_model.specs.Relations.{IsWithin}
use Rattle.vault_audit_laws.specs.Ties.{is_among}
use Rattle.vault_audit_laws.specs.Parts.{IsTenuredAmong}

module _ (names : List (List ℕ)) (dept : List ℕ) (none : is_among names dept ≡ false) where
  not_its : (name : List ℕ) → IsTrue (is_among names name) → bytes_eq name dept ≡ false
  not_its name there =
      false_from_ne_true (bytes_eq name dept) (λ yes.
      let same : name ≡ dept = (bytes_eq-Decides name dept).0 yes in
      let both : ◌≡◌ {A = Bool} true false = sym there ∙ ap (is_among names) same ∙ none in absurd cc)

  -- a share of another department is left out
  left_out : (s : Share) (rest : List Share) → IsTrue (is_among names s.dept) → items_by dept (s ∷ rest) ≡ items_by dept rest
  left_out s rest there =
      let later = filter (λ (x : Share). bytes_eq x.dept dept) rest in
      ap (λ (its : Bool). map (λ (x : Share). x.item) (cond its (s ∷ later) later)) (not_its s.dept there)

  none_of : (size : ℕ) (removal : Option Removal) (first : Bool) (ts : List Tenure) → AllByRecursion (λ (t : Tenure). IsTrue (is_among names t.dept)) ts
      → items_by dept (shares_from size removal first ts) ≡ []
  none_of size removal first [] all = refl
  none_of size removal first (t ∷ []) all = left_out (share size first t (removal_day removal) true) [] all.0
  none_of size removal first (t ∷ u ∷ us) all =
      left_out (share size first t (Some (day u.from)) false) (shares_from size removal false (u ∷ us)) all.0 ∙ none_of size removal false (u ∷ us) all.1

  pub no_items : (hs : List History) → AllByRecursion (IsTenuredAmong names) hs → items_in dept hs ≡ []
  no_items [] all = refl
  no_items (h ∷ hs) all =
      ap (λ (items : List Item). items ++ items_in dept hs) (none_of h.entry.size h.entry.removal true h.tenures all.0) ∙ no_items hs all.1

within_of : (hs : List History) (dept : List ℕ) (names : List (List ℕ)) → IsTrue (is_among names dept) → AllByRecursion (IsWithin hs) names → IsWithin hs dept
within_of hs dept [] there all = absurd cc
within_of hs dept (n ∷ ns) there all = by (bytes_eq n dept) refl (λ rest. within_of hs dept ns rest all.1)
  where
    by : (b : Bool) → bytes_eq n dept ≡ b → ((is_among ns dept ≡ true) → IsWithin hs dept) → IsWithin hs dept
    by true same later = subst (IsWithin hs) ((bytes_eq-Decides n dept).0 same) all.0
    by false other later = later (ap (λ t. t || is_among ns dept) (sym other) ∙ there)

-- each department is within what it may admit and receive, where those that are there are, and each tenure's is there
pub each_within : (hs : List History) (names : List (List ℕ)) → AllByRecursion (IsTenuredAmong names) hs → AllByRecursion (IsWithin hs) names → (dept : List ℕ) → IsWithin hs dept
each_within hs names tenured all dept = by (is_among names dept) refl
  where
    by : (b : Bool) → is_among names dept ≡ b → IsWithin hs dept
    by true there = within_of hs dept names there all
    by false none = subst (λ (items : List Item). sum_by admitted_size items + sum_by received_size items ≤ quota) (sym (no_items names dept none hs tenured)) (omega arith)

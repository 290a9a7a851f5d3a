-- The last moment of the histories of a range, by a walk over ids.
use Rattle.std.proofs.Common.{◌≡◌, ℕ, suc, ◌+◌, ◌-◌, ◌≤◌, ◌<◌, List, [], Option, Some, None, sym, ap, subst, ◌∙◌, arith, drop, length, map, refl}
use Rattle.std.specs.Prelude.{max, fold, option_map, unwrap_or, slice_get}
use Rattle.std.proofs.lemmas.List.{drop_all}
use Rattle.vault_core_model.specs.declared.records.Entry.{Entry}
use Rattle.vault_core_model.specs.declared.records.History.{History}
use Rattle.vault_core_model.specs.declared.records.Setting.{Setting}
use Rattle.vault_core_model.specs.declared.records.Tenure.{Tenure}
use Rattle.vault_core_model.specs.Vault.{Vault}
use Rattle.vault_core_model.specs.Sound.{Sound}
use Rattle.vault_core_evidence.specs.Parts.{range}
use Rattle.vault_core_evidence.specs.Shown.{shown_by, shown_in}
use Rattle.vault_core_evidence.specs.Walk.{Shows, ShowsAt}
use Rattle.vault_core_evidence.proofs.ByIds.{drop_is, history_at, in_range, length_of, no_history}

abbrev shown_of : History → ℕ
shown_of h = shown_by h.entry h.settings h.tenures

-- what an entry shows by what was read of it
pub shows_entry : (o : Option Entry) (e : Entry) (slice ss : List Setting) (row ts : List Tenure) (shown : ℕ) → o ≡ Some e → slice ≡ ss → row ≡ ts → shown ≡ shown_by e slice row → Shows o ss ts shown
shows_entry o e slice ss row ts shown its is tenures one =
    let P : Option Entry → Type 0 = λ p. Shows p ss ts shown in
    subst P (sym its) (one ∙ (ap (λ xs. shown_by e xs row) is ∙ ap (λ us. shown_by e ss us) tenures))

-- the last moment of a range is that of the histories from a place on, and of a moment
abbrev pub IsShown : Vault → ℕ → ℕ → ℕ → ℕ → Type 0
IsShown v from most i shown = shown_in (range v from most) ≡ fold max shown (map shown_of (drop i (range v from most)))

abbrev ShowsOf : Option History → ℕ → Type 0
ShowsOf o shown = Shows (option_map (λ h. h.entry) o) (unwrap_or (option_map (λ h. h.settings) o) []) (unwrap_or (option_map (λ h. h.tenures) o) []) shown

shows_its : (v : Vault) (i id shown : ℕ) (o : Option History) → Sound v → i + 1 ≡ id → slice_get v.histories i ≡ o → ShowsAt v id shown → ShowsOf o shown
shows_its v i id shown o sound same is shows =
    let P : Option History → Type 0 = λ p. ShowsOf p shown in
    subst P (history_at v i id sound same ∙ is) shows

pub shown_goes_on : (v : Vault) (from most i id shown its : ℕ) → Sound v → most ≤ length v.histories - from → i < most → from + (i + 1) ≡ id → ShowsAt v id its → IsShown v from most i shown → IsShown v from most (i + 1) (max shown its)
shown_goes_on v from most i id shown its sound within below same shows left = by (slice_get (range v from most) i) refl
  where
    low : i < length (range v from most)
    low = omega (arith, below, length_of v from most within)

    by : (o : Option History) → slice_get (range v from most) i ≡ o → IsShown v from most (i + 1) (max shown its)
    by None is = absurd (no_history (range v from most) i low is)
    by (Some h) is =
        let there = sym (in_range v from most i below) ∙ is in
        let own : its ≡ shown_of h = shows_its v (from + i) id its (Some h) sound (omega (arith, same)) there shows in
        let rest = drop (suc i) (range v from most) in
        let step : suc i ≡ i + 1 = omega arith in
        let one : IsShown v from most (suc i) (max shown its) = left
        ∙ (ap (λ (hs : List History). fold max shown (map shown_of hs)) (drop_is (range v from most) i h is)
        ∙ ap (λ (m : ℕ). fold max (max shown m) (map shown_of rest)) (sym own)) in
        subst (λ n. IsShown v from most n (max shown its)) step one

pub shown_all : (v : Vault) (from most i shown : ℕ) → most ≤ length v.histories - from → most ≤ i → IsShown v from most i shown → shown ≡ shown_in (range v from most)
shown_all v from most i shown within le left =
    let high : length (range v from most) ≤ i = omega (arith, le, length_of v from most within) in
    sym (left ∙ ap (λ (hs : List History). fold max shown (map shown_of hs)) (drop_all i (range v from most) high))

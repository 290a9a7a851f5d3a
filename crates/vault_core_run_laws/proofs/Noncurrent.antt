-- What is newer than an entry, since when it is noncurrent, and its rank: the same in the list of its key as in the vault.
use Rattle.std.proofs.Common.{◌≡◌, ℕ, ◌-◌, ◌&&◌, Bool, true, false, IsTrue, List, [], ◌∷◌, length, map, filter, refl, sym, ap, subst, ◌∙◌, arith, if◌then◌else◌}
use Rattle.std.specs.Prelude.{◌==◌, nat_le, nat_lt, find}
use Rattle.std.specs.List.{list_all}
use Rattle.std.proofs.lemmas.Bool.{and_parts, and_from, ltb-true, le-leb}
use Rattle.std.proofs.lemmas.List.{length-map}
use Rattle.vault_rules.specs.declared.plan.Held.{Held}
use Rattle.vault_rules.specs.KeyPlan as key
use Rattle.vault_core_model.specs.declared.records.History.{History}
use Rattle.vault_core_model.specs.Places.{held_at, is_held, newer}
use Rattle.vault_core_model.specs.Reads.{held_of}
use Rattle.vault_core_run_laws.specs.Noncurrent.{is_least, admission_of, beside, PlacesAgree}
use Rattle.vault_core_run_laws.proofs.RunLaws.{entries_rise}

newer_same : (n : ℕ) (hs : List History) → filter (λ y. nat_lt n y.id) (map held_of hs) ≡ map held_of (filter (λ g. nat_lt n g.entry.id) hs)
newer_same n [] = refl
newer_same n (h ∷ hs) =
    elim (nat_lt n h.entry.id) as (λ b. (if b then held_of h ∷ filter (λ y. nat_lt n y.id) (map held_of hs) else filter (λ y. nat_lt n y.id) (map held_of hs)) ≡ map held_of (if b then h ∷ filter (λ g. nat_lt n g.entry.id) hs else filter (λ g. nat_lt n g.entry.id) hs)) [
      | true ↦ ap (λ (l : List Held). held_of h ∷ l) (newer_same n hs)
      | false ↦ newer_same n hs
    ]

-- ---- the successor is the first of them

kept_above : (n : ℕ) (p : Held → Bool) (hs : List Held) → IsTrue (list_all (λ y. nat_lt n y.id) hs) → IsTrue (list_all (λ y. nat_lt n y.id) (filter p hs))
kept_above n p [] all = all
kept_above n p (x ∷ xs) all =
    let parts = and_parts (nat_lt n x.id) (list_all (λ y. nat_lt n y.id) xs) all in
    elim (p x) as (λ b. IsTrue (list_all (λ y. nat_lt n y.id) (if b then x ∷ filter p xs else filter p xs))) [
      | true ↦ and_from (nat_lt n x.id) _ parts.0 (kept_above n p xs parts.1)
      | false ↦ kept_above n p xs parts.1
    ]

kept_rise : (p : Held → Bool) (hs : List Held) → IsTrue (key.ids_rise hs) → IsTrue (key.ids_rise (filter p hs))
kept_rise p [] rise = rise
kept_rise p (x ∷ xs) rise =
    let parts = and_parts (list_all (λ y. nat_lt x.id y.id) xs) (key.ids_rise xs) rise in
    elim (p x) as (λ b. IsTrue (key.ids_rise (if b then x ∷ filter p xs else filter p xs))) [
      | true ↦ and_from (list_all (λ y. nat_lt x.id y.id) (filter p xs)) _ (kept_above x.id p xs parts.0) (kept_rise p xs parts.1)
      | false ↦ kept_rise p xs parts.1
    ]

none_below : (n : ℕ) (gs : List History) → IsTrue (list_all (λ y. nat_lt n y.id) (map held_of gs)) → IsTrue (list_all (λ g. nat_le n g.entry.id) gs)
none_below n [] all = all
none_below n (g ∷ gs) all =
    let parts = and_parts (nat_lt n g.entry.id) (list_all (λ y. nat_lt n y.id) (map held_of gs)) all in
    let less = ltb-true n g.entry.id parts.0 in
    and_from (nat_le n g.entry.id) _ (le-leb n g.entry.id (omega arith)) (none_below n gs parts.1)

first_is_least : (g : History) (gs : List History) → IsTrue (key.ids_rise (map held_of (g ∷ gs))) → IsTrue (is_least (g ∷ gs) g)
first_is_least g gs rise =
    let parts = and_parts (list_all (λ y. nat_lt g.entry.id y.id) (map held_of gs)) (key.ids_rise (map held_of gs)) rise in
    and_from (nat_le g.entry.id g.entry.id) _ (le-leb g.entry.id g.entry.id (omega arith)) (none_below g.entry.id gs parts.0)

since_same : (gs : List History) → IsTrue (key.ids_rise (map held_of gs)) → key.first_admission (map held_of gs) ≡ admission_of (find (is_least gs) gs)
since_same [] rise = refl
since_same (g ∷ gs) rise = rw (first_is_least g gs rise) refl

pub places_agree : PlacesAgree
places_agree v h sound =
    let all = beside v h in
    let above : key.newer_among all (held_of h) ≡ map held_of (newer v h) = newer_same h.entry.id (held_at v h.entry.bucket h.entry.key) in
    let count : length (key.newer_among all (held_of h)) ≡ length (newer v h) = ap length above ∙ length-map (newer v h) held_of in
    let rise : IsTrue (key.ids_rise (key.newer_among all (held_of h))) = kept_rise (λ y. nat_lt h.entry.id y.id) all (entries_rise v h.entry.bucket h.entry.key sound) in
    record {
      above = above;
      on_top = ap (λ n. is_held h.entry && (n == 0)) (sym count);
      moment = ap key.first_admission above ∙ since_same (newer v h) (subst (λ l. IsTrue (key.ids_rise l)) above rise);
      place = ap (λ n. n - 1) count;
    }

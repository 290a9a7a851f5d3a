-- How many entries a key holds, by its head.
use Rattle.std.proofs.Common.{◌≡◌, ℕ, ◌≤◌, List, [], ◌∷◌, length, map, take, reverse, Option, None, Some, refl, ap, ◌∙◌, arith}
use Rattle.std.specs.Prelude.{option_map}
use Rattle.std.proofs.lemmas.List.{take_all, length-map, length-reverse, reverse-reverse}
use Rattle.sqlite_value.specs.Order.{Row}
use Rattle.vault_core_model.specs.declared.records.Head.{Head}
use Rattle.vault_core_model.specs.declared.records.History.{History}
use Rattle.vault_core_model.specs.Reads.{head_over, held_of}
use Rattle.vault_store_reads.specs.Shown.{entry_shown}
use Rattle.vault_store_reads.proofs.OrderedListLemmas.{map-reverse}

-- entries have a head that counts them
over_some : (h : History) (hs : List History) → (head : Head) × (head_over (h ∷ hs) ≡ Some head) × (head.count ≡ length (h ∷ hs))
over_some h [] = (record { newest = h.entry.id; count = 1 }, refl, refl)
over_some h (g ∷ gs) =
    let rest = over_some g gs in
    let more : Head → Head = λ x. record { newest = x.newest; count = length (h ∷ g ∷ gs) } in
    (more rest.0, ap (option_map more) rest.1, refl)

pub counted : (hs : List History) (head : Head) → Some head ≡ head_over hs → head.count ≡ length hs
counted [] head is = absurd (cc is)
counted (h ∷ hs) head is =
    let it = over_some h hs in
    let both : Some head ≡ Some it.0 = is ∙ it.1 in
    let same : head ≡ it.0 = cc both in
    ap (λ (x : Head). x.count) same ∙ it.2

pub none_counted : (hs : List History) → ◌≡◌ {A = Option Head} None (head_over hs) → 0 ≡ length hs
none_counted [] is = refl
none_counted (h ∷ hs) is = absurd (let both = is ∙ (over_some h hs).1 in cc both)

-- ---- the rows of n

pub none_shown : (hs : List History) → length hs ≡ 0 → [] ≡ map entry_shown (map held_of hs)
none_shown [] none = refl
none_shown (h ∷ hs) none = absurd (omega (arith, none))

-- all rows, the last first, say what is reported in order once they are turned around
turned_around : {X : Type 0} (row_of : X → Row) (xs : List X) (n : ℕ) (rows : List Row) → length rows ≤ n → map row_of xs ≡ take n (reverse rows) → map row_of (reverse xs) ≡ rows
turned_around row_of xs n rows most stated =
    let all : length (reverse rows) ≤ n = omega (arith, most, length-reverse rows) in
    map-reverse row_of xs ∙ ap reverse (stated ∙ take_all n (reverse rows) all) ∙ reverse-reverse rows

pub shown_in_order : {X : Type 0} (row_of : X → Row) (xs : List X) (n : ℕ) (hs : List History) → n ≡ length hs → map row_of xs ≡ take n (reverse (map entry_shown (map held_of hs)))
    → map row_of (reverse xs) ≡ map entry_shown (map held_of hs)
shown_in_order row_of xs n hs counts stated =
    turned_around row_of xs n (map entry_shown (map held_of hs)) (omega (arith, counts, length-map (map held_of hs) entry_shown, length-map hs held_of)) stated

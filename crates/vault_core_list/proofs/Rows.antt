-- The row of some histories, one by one.
use Rattle.std.proofs.Common.{◌≡◌, ℕ, ◌+◌, ◌<◌, List, [], ◌∷◌, ◌++◌, length, take, drop, get_or, Bool, true, false, IsTrue, refl, sym, subst, arith, append_assoc, append-nil}
use Rattle.std.specs.Prelude.{filter, ◌&&◌}
use Rattle.std.specs.List.{list_all}
use Rattle.std.specs.Str.{bytes_eq}
use Rattle.std.proofs.lemmas.List.{map-append, take-append-drop, take_more}
use Rattle.std.proofs.lemmas.List.Elements.{filter-append}
use Rattle.std.proofs.lemmas.List.Folds.{list_all-append}
use Rattle.std.proofs.lemmas.List.Sums.{sum_by-append}
use Rattle.std.proofs.lemmas.Grind.{flat_map-append}
use Rattle.vault_tally.specs.Row.{Item, AreBounded, is_dated, size_of}
use Rattle.vault_core_model.specs.declared.records.History.{History}
use Rattle.vault_core_model.specs.Totals.{Share, items_by, items_in, shares_of}

front_passes : (a b : Bool) → IsTrue (a && b) → IsTrue a
front_passes true b h = refl
front_passes false b h = absurd (cc)

pub bounded-front : (xs ys : List Item) → AreBounded (xs ++ ys) → AreBounded xs
bounded-front xs ys bounded = record {
  dated = front_passes (list_all is_dated xs) (list_all is_dated ys) (rw (list_all-append is_dated xs ys) at bounded.dated);
  within = omega (arith, bounded.within, sum_by-append size_of xs ys);
}

pub items_by-append : (dept : List ℕ) (xs ys : List Share) → items_by dept (xs ++ ys) ≡ items_by dept xs ++ items_by dept ys
items_by-append dept xs ys =
    let own = λ (s : Share). bytes_eq s.dept dept in
    rw (filter-append own xs ys) (map-append (λ (s : Share). s.item) (filter own xs) (filter own ys))

pub items_in-append : (dept : List ℕ) (hs gs : List History) → items_in dept (hs ++ gs) ≡ items_in dept hs ++ items_in dept gs
items_in-append dept hs gs = flat_map-append (λ (h : History). items_by dept (shares_of h)) hs gs

-- the first n items are bounded, where all are
pub bounded-shares : (items : List Item) (dept : List ℕ) (ss : List Share) (i : ℕ) → AreBounded (items ++ items_by dept ss) → AreBounded (items ++ items_by dept (take i ss))
bounded-shares items dept ss i bounded =
    let P : List Share → Type 0 = λ xs. AreBounded (items ++ items_by dept xs) in
    let all : AreBounded (items ++ items_by dept (take i ss ++ drop i ss)) = subst P (sym (take-append-drop i ss)) bounded in
    bounded-front (items ++ items_by dept (take i ss)) (items_by dept (drop i ss))
    (rw (items_by-append dept (take i ss) (drop i ss), ← append_assoc items (items_by dept (take i ss)) (items_by dept (drop i ss))) at all)

pub bounded-take : (dept : List ℕ) (hs : List History) (i : ℕ) → AreBounded (items_in dept hs) → AreBounded (items_in dept (take i hs))
bounded-take dept hs i bounded =
    let P : List History → Type 0 = λ gs. AreBounded (items_in dept gs) in
    let all : AreBounded (items_in dept (take i hs ++ drop i hs)) = subst P (sym (take-append-drop i hs)) bounded in
    bounded-front (items_in dept (take i hs)) (items_in dept (drop i hs)) (rw (items_in-append dept (take i hs) (drop i hs)) at all)

-- a version more
pub items-more : (dept : List ℕ) (hs : List History) (i : ℕ) (h : History) → i < length hs → h ≡ get_or hs i h → items_in dept (take (i + 1) hs) ≡ items_in dept (take i hs) ++ items_by dept (shares_of h)
items-more dept hs i h lt is =
    rw (take_more hs i h lt, ← is, items_in-append dept (take i hs) (h ∷ []), append-nil (items_by dept (shares_of h))) refl

-- How a page fills.
use Rattle.std.proofs.Common.{◌≡◌, ◌⊎◌, inl, inr, ℕ, ◌-◌, ◌<◌, ◌≤◌, ◌++◌, Bool, true, false, List, [], ◌∷◌, length, take, suc, zero, refl, sym, ap, subst, ◌∙◌, arith, append_assoc, length-append}
use Rattle.std.specs.Prelude.{if◌then◌else◌, nat_lt}
use Rattle.std.proofs.lemmas.Bool.Decides.{nat_tests}
use Rattle.std.proofs.lemmas.List.{append-nil, take_all}
use Rattle.std.proofs.Math.Seq.{take-append_seam}
use Rattle.vault_core_model.specs.declared.reply.Listed.{Listed}
use Rattle.vault_core_model.specs.declared.reply.Page.{Page}
use Rattle.vault_core_listing.specs.Walk.{filled, grown}

-- a page that is cut off stays as it is
pub grown_full : (most : ℕ) (page : Page) (l : Listed) → page.more ≡ true → grown most page l ≡ page
grown_full most page l full = rw full refl

pub filled_full : (most : ℕ) (page : Page) (ls : List Listed) → page.more ≡ true → filled most page ls ≡ page
filled_full most page [] full = refl
filled_full most page (l ∷ ls) full =
    ap (λ (p : Page). filled most p ls) (grown_full most page l full) ∙ filled_full most page ls full

pub filled-append : (most : ℕ) (page : Page) (xs ys : List Listed) → filled most page (xs ++ ys) ≡ filled most (filled most page xs) ys
filled-append most page [] ys = refl
filled-append most page (x ∷ xs) ys = filled-append most (grown most page x) xs ys

lt_false : (m n : ℕ) → n ≤ m → nat_lt m n ≡ false
lt_false m n le = grind (arith, nat_tests)

lt_true : (m n : ℕ) → m < n → nat_lt m n ≡ true
lt_true m n lt = grind (arith, nat_tests)

lt_from : (m n : ℕ) → nat_lt m n ≡ true → m < n
lt_from m n e = grind (arith, nat_tests)

le_from : (m n : ℕ) → nat_lt m n ≡ false → n ≤ m
le_from m n e = grind (arith, nat_tests)

-- the first of these, and whether there are more
abbrev pub cut_off : ℕ → List Listed → Page
cut_off most ls = record { entries = take most ls; more = nat_lt most (length ls) }

-- from a page with room for more
from_part : (most : ℕ) (ys xs : List Listed) → length ys ≤ most → filled most (record { entries = ys; more = false }) xs ≡ cut_off most (ys ++ xs)
from_part most ys [] le = rw (append-nil ys, take_all most ys le, lt_false most (length ys) le) refl
from_part most ys (x ∷ xs) le = by_room (nat_lt (length ys) most) refl (from_part most (ys ++ x ∷ []) xs)
  where
    by_room : (b : Bool) → nat_lt (length ys) most ≡ b
        → (length (ys ++ x ∷ []) ≤ most → filled most (record { entries = ys ++ x ∷ []; more = false }) xs ≡ cut_off most ((ys ++ x ∷ []) ++ xs))
        → filled most (if b then record { entries = ys ++ x ∷ []; more = false } else record { entries = ys; more = true }) xs ≡ cut_off most (ys ++ x ∷ xs)
    by_room true e next =
        next (omega (arith, length-append ys (x ∷ []), lt_from (length ys) most e))
        ∙ ap (cut_off most) (append_assoc ys (x ∷ []) xs)
    by_room false e next =
        let full : length ys ≡ most = omega (arith, le_from (length ys) most e) in
        let kept : take most (ys ++ x ∷ xs) ≡ ys = subst (λ n. take n (ys ++ x ∷ xs) ≡ ys) full (take-append_seam ys (x ∷ xs)) in
        let over : nat_lt most (length (ys ++ x ∷ xs)) ≡ true = lt_true most (length (ys ++ x ∷ xs)) (omega (arith, length-append ys (x ∷ xs))) in
        filled_full most (record { entries = ys; more = true }) xs refl ∙ rw (kept, over) refl

pub from_empty : (most : ℕ) (xs : List Listed) → filled most (record { entries = []; more = false }) xs ≡ cut_off most xs
from_empty most xs = from_part most [] xs (omega arith)

-- the first of these fill it as all do, where there are more of them than it takes, or all
pub filled_take : (most n : ℕ) (page : Page) (ls : List Listed) → ((most - length page.entries < n) ⊎ (length ls ≤ n)) → filled most page (take n ls) ≡ filled most page ls
filled_take most zero page [] enough = refl
filled_take most zero page (l ∷ ls) (inl room) = absurd (omega (arith, room))
filled_take most zero page (l ∷ ls) (inr all) = absurd (omega (arith, all))
filled_take most (suc n) page [] enough = refl
filled_take most (suc n) page (l ∷ ls) enough = by_more page.more refl (filled_take most n (record { entries = page.entries ++ l ∷ []; more = false }) ls)
  where
    full : (p : Page) → p.more ≡ true → filled most p (take n ls) ≡ filled most p ls
    full p more = filled_full most p (take n ls) more ∙ sym (filled_full most p ls more)

    grows : Page
    grows = record { entries = page.entries ++ l ∷ []; more = false }

    stays : Page
    stays = record { entries = page.entries; more = true }

    fewer : nat_lt (length page.entries) most ≡ true → ((most - length page.entries < suc n) ⊎ (length (l ∷ ls) ≤ suc n)) → ((most - length (page.entries ++ l ∷ []) < n) ⊎ (length ls ≤ n))
    fewer room (inl less) = inl (omega (arith, less, lt_from (length page.entries) most room, length-append page.entries (l ∷ [])))
    fewer room (inr all) = inr (omega (arith, all))

    by_room : (b : Bool) → nat_lt (length page.entries) most ≡ b
        → (((most - length (page.entries ++ l ∷ []) < n) ⊎ (length ls ≤ n)) → filled most grows (take n ls) ≡ filled most grows ls)
        → filled most (if b then grows else stays) (take n ls) ≡ filled most (if b then grows else stays) ls
    by_room true e rest = rest (fewer e enough)
    by_room false e rest = full stays refl

    by_more : (b : Bool) → page.more ≡ b
        → (((most - length (page.entries ++ l ∷ []) < n) ⊎ (length ls ≤ n)) → filled most grows (take n ls) ≡ filled most grows ls)
        → filled most (grown most page l) (take n ls) ≡ filled most (grown most page l) ls
    by_more true e rest = rw (grown_full most page l e) (full page e)
    by_more false e rest = rw e (by_room (nat_lt (length page.entries) most) refl rest)

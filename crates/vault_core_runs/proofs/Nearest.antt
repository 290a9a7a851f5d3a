-- The least prefix of an enabled rule after a place: no key between the two is ruled.
use Rattle.std.proofs.Common.{◌≡◌, ℕ, ◌+◌, ◌<◌, ◌≤◌, ◌&&◌, ◌||◌, ◌==◌, Bool, true, false, List, [], ◌∷◌, length, Option, Some, None, refl, sym, ap, subst, ◌∙◌, arith, add-one, drop, drop-cons, get_or}
use Rattle.std.specs.Prelude.{not, if◌then◌else◌}
use Rattle.std.specs.Ordering.{is_gt}
use Rattle.std.specs.Cmp.Lexicographic.{nat_list_cmp_total}
use Rattle.std.specs.declared.cmp.Ordering.{Ordering}
use Rattle.std.specs.declared.cmp.Ordering.TheVariants.{Less, Equal, Greater}
use Rattle.std.proofs.lemmas.Bool.{and_parts, or_parts}
use Rattle.std.proofs.Math.ListN.{drop_of_length-le}
use Rattle.vault_rules.specs.declared.rule.Rule.{Rule}
use Rattle.vault_core_model.specs.Places.{comes_after}
use Rattle.vault_core_run_laws.proofs.KeyOrder.{same_key, turn, turn_back}
use Rattle.vault_core_runs.specs.Ranges.{begins, is_nearer, is_next, is_ruled, nearer, nearest}
use Rattle.vault_core_runs.proofs.Prefixes.{before, cmp, past, starts, starts_itself}

pub gt_is : (o : Ordering) → is_gt o ≡ true → o ≡ Greater
gt_is Less e = absurd (cc e)
gt_is Equal e = absurd (cc e)
gt_is Greater e = refl

pub greater_trans : (j k l : List ℕ) → cmp j k ≡ Greater → cmp k l ≡ Greater → cmp j l ≡ Greater
greater_trans j k l e f = turn_back j l (nat_list_cmp_total.trans l k j (turn l k f) (turn k j e))

not_empty : (x : ℕ) (xs : List ℕ) → (length (x ∷ xs) == 0) ≡ false
not_empty x xs = grind arith

-- ---- a prefix that begins a key, and no text before it, comes after that text

ahead_of : (k place q : List ℕ) → comes_after k place ≡ true → starts place q ≡ false → starts k q ≡ true → is_gt (cmp q place) ≡ true
ahead_of k [] [] there other here = absurd (cc other)
ahead_of k [] (x ∷ q) there other here = refl
ahead_of k (y ∷ l) q there other here = by_order (cmp q (y ∷ l)) refl
  where
    gone : cmp k (y ∷ l) ≡ Greater
    gone = gt_is (cmp k (y ∷ l)) (sym (ap (λ b. b || is_gt (cmp k (y ∷ l))) (not_empty y l)) ∙ there)

    by_order : (o : Ordering) → cmp q (y ∷ l) ≡ o → is_gt o ≡ true
    by_order Greater e = refl
    by_order Equal e = absurd (cc (sym (starts_itself q) ∙ subst (λ z. starts z q ≡ false) (sym (same_key q (y ∷ l) e)) other))
    by_order Less e = absurd (cc (sym here ∙ past q (y ∷ l) k (turn_back (y ∷ l) q e) other gone))

ahead : (k place : List ℕ) (r : Rule) → comes_after k place ≡ true → begins place r ≡ false → begins k r ≡ true → is_gt (cmp r.prefix place) ≡ true
ahead k place r there other here =
    let parts = and_parts r.enabled (starts k r.prefix) here in
    ahead_of k place r.prefix there (sym (ap (λ c. c && starts place r.prefix) parts.0) ∙ other) parts.1

-- ---- what is found isn't after a key

abbrev is_at_most : List ℕ → Option (List ℕ) → Bool
is_at_most k None = false
is_at_most k (Some p) = not (is_gt (cmp p k))

-- a prefix isn't after what it begins
not_over : (k q : List ℕ) → starts k q ≡ true → not (is_gt (cmp q k)) ≡ true
not_over k q here = by_order (cmp q k) refl
  where
    by_order : (o : Ordering) → cmp q k ≡ o → not (is_gt o) ≡ true
    by_order Less e = refl
    by_order Equal e = refl
    by_order Greater e = absurd (cc (sym here ∙ before q k (turn k q e)))

lower : (k p q : List ℕ) → is_gt (cmp p q) ≡ true → not (is_gt (cmp p k)) ≡ true → not (is_gt (cmp q k)) ≡ true
lower k p q above under = by_order (cmp q k) refl
  where
    by_order : (o : Ordering) → cmp q k ≡ o → not (is_gt o) ≡ true
    by_order Less e = refl
    by_order Equal e = refl
    by_order Greater e = absurd (cc (sym under ∙ ap (λ o. not (is_gt o)) (greater_trans p q k (gt_is (cmp p q) above) e)))

-- what isn't after a prefix isn't after what it begins
under_both : (k p q : List ℕ) → starts k q ≡ true → is_gt (cmp p q) ≡ false → not (is_gt (cmp p k)) ≡ true
under_both k p q here under = by_order (cmp p k) refl (cmp p q) refl under
  where
    by_order : (o : Ordering) → cmp p k ≡ o → (u : Ordering) → cmp p q ≡ u → is_gt u ≡ false → not (is_gt o) ≡ true
    by_order Less e u f h = refl
    by_order Equal e u f h = refl
    by_order Greater e Less f h = absurd (cc (sym here ∙ before q k (nat_list_cmp_total.trans k p q (turn k p e) f)))
    by_order Greater e Equal f h = absurd (cc (sym here ∙ before q k (subst (λ z. cmp k z ≡ Less) (same_key p q f) (turn k p e))))
    by_order Greater e Greater f h = absurd (cc h)

kept_most : (k place : List ℕ) (r : Rule) (found : Option (List ℕ)) → is_at_most k found ≡ true → is_at_most k (nearer place r found) ≡ true
kept_most k place r found most = by_test (is_next place r found) refl
  where
    taken : (o : Option (List ℕ)) → is_nearer r.prefix o ≡ true → is_at_most k o ≡ true → not (is_gt (cmp r.prefix k)) ≡ true
    taken None near m = absurd (cc m)
    taken (Some p) near m = lower k p r.prefix near m

    by_test : (b : Bool) → is_next place r found ≡ b → is_at_most k (if b then Some r.prefix else found) ≡ true
    by_test false e = most
    by_test true e = taken found (and_parts (r.enabled && is_gt (cmp r.prefix place)) (is_nearer r.prefix found) e).1 most

reach : (k place : List ℕ) (r : Rule) (found : Option (List ℕ)) → begins k r ≡ true → is_gt (cmp r.prefix place) ≡ true → is_at_most k (nearer place r found) ≡ true
reach k place r found here after =
    let parts = and_parts r.enabled (starts k r.prefix) here in
    let test : is_next place r found ≡ is_nearer r.prefix found = ap (λ c. c && is_gt (cmp r.prefix place) && is_nearer r.prefix found) parts.0 ∙ ap (λ c. c && is_nearer r.prefix found) after in
    ap (λ c. is_at_most k (if c then Some r.prefix else found)) test ∙ by_found parts.1 found
  where
    by_order : starts k r.prefix ≡ true → (p : List ℕ) (o : Ordering) → cmp p r.prefix ≡ o → is_at_most k (if is_gt o then Some r.prefix else Some p) ≡ true
    by_order h p Less e = under_both k p r.prefix h (ap is_gt e)
    by_order h p Equal e = under_both k p r.prefix h (ap is_gt e)
    by_order h p Greater e = not_over k r.prefix h

    by_found : starts k r.prefix ≡ true → (o : Option (List ℕ)) → is_at_most k (if is_nearer r.prefix o then Some r.prefix else o) ≡ true
    by_found h None = not_over k r.prefix h
    by_found h (Some p) = by_order h p (cmp p r.prefix) refl

kept_all : (k place : List ℕ) (found : Option (List ℕ)) (rs : List Rule) → is_at_most k found ≡ true → is_at_most k (nearest place found rs) ≡ true
kept_all k place found [] most = most
kept_all k place found (r ∷ rs) most = kept_all k place (nearer place r found) rs (kept_most k place r found most)

reached : (k place : List ℕ) (found : Option (List ℕ)) (rs : List Rule) → comes_after k place ≡ true → is_ruled rs place ≡ false → is_ruled rs k ≡ true → is_at_most k (nearest place found rs) ≡ true
reached k place found [] there out ruled = absurd (cc ruled)
reached k place found (r ∷ rs) there out ruled =
    let parts = or_parts (begins place r) (is_ruled rs place) out in
    by_test parts.0 (begins k r) refl ruled (reached k place (nearer place r found) rs there parts.1)
  where
    by_test : begins place r ≡ false → (b : Bool) → begins k r ≡ b → (b || is_ruled rs k) ≡ true
        → (is_ruled rs k ≡ true → is_at_most k (nearest place (nearer place r found) rs) ≡ true)
        → is_at_most k (nearest place (nearer place r found) rs) ≡ true
    by_test other true e h rest = kept_all k place (nearer place r found) rs (reach k place r found e (ahead k place r there other e))
    by_test other false e h rest = rest h

-- with nothing found, no key after the place is ruled
pub unruled_all : (rules : List Rule) (place : List ℕ) → is_ruled rules place ≡ false → nearest place None rules ≡ None
    → (k : List ℕ) → comes_after k place ≡ true → is_ruled rules k ≡ false
unruled_all rules place out none k there = by_test (is_ruled rules k) refl
  where
    by_test : (b : Bool) → is_ruled rules k ≡ b → b ≡ false
    by_test false e = refl
    by_test true e = absurd (cc (sym (reached k place None rules there out e) ∙ ap (is_at_most k) none))

-- else none before what is found
pub unruled_before : (rules : List Rule) (place p : List ℕ) → is_ruled rules place ≡ false → nearest place None rules ≡ Some p
    → (k : List ℕ) → comes_after k place ≡ true → cmp k p ≡ Less → is_ruled rules k ≡ false
unruled_before rules place p out found k there less = by_test (is_ruled rules k) refl
  where
    by_test : (b : Bool) → is_ruled rules k ≡ b → b ≡ false
    by_test false e = refl
    by_test true e =
        absurd (cc (sym (reached k place None rules there out e) ∙ ap (is_at_most k) found ∙ ap (λ o. not (is_gt o)) (turn_back p k less)))

-- ---- what is found comes after the place

abbrev is_after : List ℕ → Option (List ℕ) → Bool
is_after place None = true
is_after place (Some p) = is_gt (cmp p place)

after_more : (place : List ℕ) (r : Rule) (found : Option (List ℕ)) → is_after place found ≡ true → is_after place (nearer place r found) ≡ true
after_more place r found after = by_test (is_next place r found) refl
  where
    by_test : (b : Bool) → is_next place r found ≡ b → is_after place (if b then Some r.prefix else found) ≡ true
    by_test false e = after
    by_test true e = (and_parts r.enabled (is_gt (cmp r.prefix place)) (and_parts (r.enabled && is_gt (cmp r.prefix place)) (is_nearer r.prefix found) e).0).1

after_all : (place : List ℕ) (found : Option (List ℕ)) (rs : List Rule) → is_after place found ≡ true → is_after place (nearest place found rs) ≡ true
after_all place found [] after = after
after_all place found (r ∷ rs) after = after_all place (nearer place r found) rs (after_more place r found after)

pub found_after : (rules : List Rule) (place p : List ℕ) → nearest place None rules ≡ Some p → is_gt (cmp p place) ≡ true
found_after rules place p found = ap (is_after place) (sym found) ∙ after_all place None rules refl

-- so it has a byte
pub found_named : (rules : List Rule) (place p : List ℕ) → nearest place None rules ≡ Some p → (length p == 0) ≡ false
found_named rules place p found = by_text place p (found_after rules place p found)
  where
    by_text : (a q : List ℕ) → is_gt (cmp q a) ≡ true → (length q == 0) ≡ false
    by_text [] [] over = absurd (cc over)
    by_text (y ∷ l) [] over = absurd (cc over)
    by_text a (x ∷ q) over = not_empty x q

pub found_byte : (rules : List Rule) (place p : List ℕ) → nearest place None rules ≡ Some p → 1 ≤ length p
found_byte rules place p found = by_size (length p) (found_named rules place p found)
  where
    by_size : (n : ℕ) → (n == 0) ≡ false → 1 ≤ n
    by_size n e = grind (arith, e)

-- the key that a prefix is
pub no_key : (prefix : List ℕ) (found : Option (List ℕ)) → 1 ≤ length prefix → found ≡ (if length prefix == 0 then None else Some prefix) → found ≡ None → ⊥
no_key prefix found some is none = by_size (length prefix == 0) (has_byte (length prefix) some) (sym none ∙ is)
  where
    has_byte : (n : ℕ) → 1 ≤ n → (n == 0) ≡ false
    has_byte n h = grind (arith, h)

    by_size : (b : Bool) → b ≡ false → None ≡ (if b then None else Some prefix) → ⊥
    by_size true e f = absurd (cc e)
    by_size false e f = absurd (cc f)

pub key_of : (prefix key : List ℕ) (found : Option (List ℕ)) → found ≡ (if length prefix == 0 then None else Some prefix) → found ≡ Some key → key ≡ prefix
key_of prefix key found is some = by_size (length prefix == 0) (sym some ∙ is)
  where
    by_size : (b : Bool) → Some key ≡ (if b then None else Some prefix) → key ≡ prefix
    by_size true f = absurd (cc f)
    by_size false f = cc f

-- ---- found rule by rule

pub one_more : (place : List ℕ) (found next : Option (List ℕ)) (rules : List Rule) (i : ℕ) (r : Rule) → i < length rules → r ≡ get_or rules i r → next ≡ nearer place r found
    → nearest place found (drop i rules) ≡ nearest place None rules → nearest place next (drop (i + 1) rules) ≡ nearest place None rules
one_more place found next rules i r lt is now left =
    let parts : drop i rules ≡ r ∷ drop (i + 1) rules = rw (add-one, drop-cons rules i r lt, ← is) refl in
    ap (λ o. nearest place o (drop (i + 1) rules)) now ∙ ap (nearest place found) (sym parts) ∙ left

pub found_all : (place : List ℕ) (found : Option (List ℕ)) (rules : List Rule) (i : ℕ) → length rules ≤ i
    → nearest place found (drop i rules) ≡ nearest place None rules → found ≡ nearest place None rules
found_all place found rules i all left = ap (nearest place found) (sym (drop_of_length-le rules all)) ∙ left

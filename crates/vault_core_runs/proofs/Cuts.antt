-- Keys that rise, cut at places.
use Rattle.std.proofs.Common.{◌≡◌, ◌⊎◌, inl, inr, ⊎_elim, ℕ, ◌≤◌, ◌++◌, ◌||◌, ◌==◌, Bool, true, false, List, [], ◌∷◌, length, filter, flat_map, refl, sym, ap, subst, ◌∙◌, append-nil, arith}
use Rattle.std.specs.Prelude.{not, if◌then◌else◌}
use Rattle.std.specs.Ordering.{is_gt}
use Rattle.std.specs.Cmp.Lexicographic.{nat_list_cmp_total}
use Rattle.std.specs.declared.cmp.Ordering.{Ordering}
use Rattle.std.specs.declared.cmp.Ordering.TheVariants.{Less, Equal, Greater}
use Rattle.std.proofs.lemmas.List.Elements.{filter-append}
use Rattle.vault_core_model.specs.Places.{comes_after}
use Rattle.vault_core_run_laws.specs.KeyOrder.{IsIn, IsUnder, IsRising}
use Rattle.vault_core_run_laws.specs.KeyRuns.{last_key}
use Rattle.vault_core_run_laws.proofs.KeyOrder.{irreflexive, under_in, same_key, turn, turn_back, under_each}
use Rattle.vault_core_runs.specs.Ranges.{IsOnward}
use Rattle.vault_core_runs.proofs.Nearest.{gt_is}
use Rattle.vault_core_runs.proofs.Prefixes.{cmp}

-- those after a place, and those that are not
abbrev pub beyond : List ℕ → List (List ℕ) → List (List ℕ)
beyond a ks = filter (λ k. comes_after k a) ks

abbrev pub up_to : List ℕ → List (List ℕ) → List (List ℕ)
up_to a ks = filter (λ k. not (comes_after k a)) ks

-- ---- what is among those that pass

pub in_filter : (p : List ℕ → Bool) (x : List ℕ) (ks : List (List ℕ)) → IsIn x (filter p ks) → IsIn x ks × (p x ≡ true)
in_filter p x [] i = absurd i
in_filter p x (k ∷ ks) i = by_test (p k) refl i (in_filter p x ks)
  where
    by_test : (b : Bool) → p k ≡ b → IsIn x (if b then k ∷ filter p ks else filter p ks) → (IsIn x (filter p ks) → IsIn x ks × (p x ≡ true)) → IsIn x (k ∷ ks) × (p x ≡ true)
    by_test true e j rest = ⊎_elim (λ (s : x ≡ k). (inl s, ap p s ∙ e)) (λ (h : IsIn x (filter p ks)). let g = rest h in (inr g.0, g.1)) j
    by_test false e j rest = let g = rest j in (inr g.0, g.1)

pub filter_in : (p : List ℕ → Bool) (x : List ℕ) (ks : List (List ℕ)) → p x ≡ true → IsIn x ks → IsIn x (filter p ks)
filter_in p x [] e i = i
filter_in p x (k ∷ ks) e i = by_test (p k) refl i (filter_in p x ks e)
  where
    by_test : (b : Bool) → p k ≡ b → IsIn x (k ∷ ks) → (IsIn x ks → IsIn x (filter p ks)) → IsIn x (if b then k ∷ filter p ks else filter p ks)
    by_test true f j rest = ⊎_elim (λ (s : x ≡ k). inl s) (λ (h : IsIn x ks). inr (rest h)) j
    by_test false f j rest = ⊎_elim (λ (s : x ≡ k). absurd (cc (sym e ∙ (ap p s ∙ f)))) (λ (h : IsIn x ks). rest h) j

pub filter_rises : (p : List ℕ → Bool) (ks : List (List ℕ)) → IsRising ks → IsRising (filter p ks)
filter_rises p [] r = tt
filter_rises p (k ∷ ks) r = by_test (p k) (filter_rises p ks r.1)
  where
    by_test : (b : Bool) → IsRising (filter p ks) → IsRising (if b then k ∷ filter p ks else filter p ks)
    by_test true h = (under_each k (filter p ks) (λ x i. under_in k x ks r.0 (in_filter p x ks i).0), h)
    by_test false h = h

-- what passes the narrower test passes the wider one
through : (p q : List ℕ → Bool) (ks : List (List ℕ)) → ((k : List ℕ) → q k ≡ true → p k ≡ true) → filter q (filter p ks) ≡ filter q ks
through p q [] implies = refl
through p q (k ∷ ks) implies = by_test (p k) refl (q k) refl (through p q ks implies)
  where
    by_test : (b : Bool) → p k ≡ b → (c : Bool) → q k ≡ c → filter q (filter p ks) ≡ filter q ks → filter q (if b then k ∷ filter p ks else filter p ks) ≡ (if c then k ∷ filter q ks else filter q ks)
    by_test true e true f rest = ap (λ c. if c then k ∷ filter q (filter p ks) else filter q (filter p ks)) f ∙ ap (λ (l : List (List ℕ)). k ∷ l) rest
    by_test true e false f rest = ap (λ c. if c then k ∷ filter q (filter p ks) else filter q (filter p ks)) f ∙ rest
    by_test false e true f rest = absurd (cc (sym (implies k f) ∙ e))
    by_test false e false f rest = rest

-- those that pass a narrower test all pass the wider one
wider : (p q : List ℕ → Bool) (ks : List (List ℕ)) → ((k : List ℕ) → p k ≡ true → q k ≡ true) → filter q (filter p ks) ≡ filter p ks
wider p q [] implies = refl
wider p q (k ∷ ks) implies = by_test (p k) refl (wider p q ks implies)
  where
    by_test : (b : Bool) → p k ≡ b → filter q (filter p ks) ≡ filter p ks → filter q (if b then k ∷ filter p ks else filter p ks) ≡ (if b then k ∷ filter p ks else filter p ks)
    by_test true e rest = ap (λ c. if c then k ∷ filter q (filter p ks) else filter q (filter p ks)) (implies k e) ∙ ap (λ (l : List (List ℕ)). k ∷ l) rest
    by_test false e rest = rest

-- ---- places

later_too : (j k a : List ℕ) → cmp k j ≡ Less → comes_after k a ≡ true → comes_after j a ≡ true
later_too j k a less there = by_length (length a == 0) there
  where
    by_length : (b : Bool) → (b || is_gt (cmp k a)) ≡ true → (b || is_gt (cmp j a)) ≡ true
    by_length true e = refl
    by_length false e = ap is_gt (turn_back j a (nat_list_cmp_total.trans a k j (turn a k (gt_is (cmp k a) e)) less))

is_greater : (k a : List ℕ) → (length a == 0) ≡ false → comes_after k a ≡ is_gt (cmp k a)
is_greater k a named = ap (λ b. b || is_gt (cmp k a)) named

pub onward : (a n : List ℕ) → comes_after n a ≡ true → (length n == 0) ≡ false → IsOnward a n
onward a n there named = λ k h. later_too k n a (turn n k (gt_is (cmp k n) (sym (is_greater k n named) ∙ h))) there

-- where one key comes after a place, so do all after it
all_beyond : (a k : List ℕ) (ks : List (List ℕ)) → IsUnder k ks → comes_after k a ≡ true → (beyond a ks ≡ ks) × (up_to a ks ≡ [])
all_beyond a k [] under there = (refl, refl)
all_beyond a k (j ∷ js) under there =
    let e = later_too j k a under.0 there in
    let rest = all_beyond a k js under.1 there in (
      ap (λ b. if b then j ∷ beyond a js else beyond a js) e ∙ ap (λ (l : List (List ℕ)). j ∷ l) rest.0,
      ap (λ b. if not b then j ∷ up_to a js else up_to a js) e ∙ rest.1,
    )

pub split_place : (a : List ℕ) (ks : List (List ℕ)) → IsRising ks → up_to a ks ++ beyond a ks ≡ ks
split_place a [] r = refl
split_place a (k ∷ ks) r = by_test (comes_after k a) refl (split_place a ks r.1)
  where
    by_test : (b : Bool) → comes_after k a ≡ b → up_to a ks ++ beyond a ks ≡ ks → (if not b then k ∷ up_to a ks else up_to a ks) ++ (if b then k ∷ beyond a ks else beyond a ks) ≡ k ∷ ks
    by_test true e rest =
        let all = all_beyond a k ks r.0 e in
        ap (λ l. l ++ k ∷ beyond a ks) all.1 ∙ ap (λ (l : List (List ℕ)). k ∷ l) all.0
    by_test false e rest = ap (λ (l : List (List ℕ)). k ∷ l) rest

-- all keys are after the empty text
pub beyond_nothing : (ks : List (List ℕ)) → beyond [] ks ≡ ks
beyond_nothing [] = refl
beyond_nothing (k ∷ ks) = ap (λ (l : List (List ℕ)). k ∷ l) (beyond_nothing ks)

none_up : (p : List ℕ → Bool) (ks : List (List ℕ)) → filter (λ k. not (p k)) (filter p ks) ≡ []
none_up p [] = refl
none_up p (k ∷ ks) = by_test (p k) refl (none_up p ks)
  where
    by_test : (b : Bool) → p k ≡ b → filter (λ j. not (p j)) (filter p ks) ≡ [] → filter (λ j. not (p j)) (if b then k ∷ filter p ks else filter p ks) ≡ []
    by_test true e rest = ap (λ c. if not c then k ∷ filter (λ j. not (p j)) (filter p ks) else filter (λ j. not (p j)) (filter p ks)) e ∙ rest
    by_test false e rest = rest

-- no key lies between a place and itself
pub none_between : (a : List ℕ) (ks : List (List ℕ)) → up_to a (beyond a ks) ≡ []
none_between a ks = none_up (λ k. comes_after k a) ks

module _ (ks : List (List ℕ)) (a s : List ℕ) (rising : IsRising ks) (on : IsOnward a s) where
  -- those between two places, and those after the second
  pub rest_joined : up_to s (beyond a ks) ++ beyond s ks ≡ beyond a ks
  rest_joined =
      ap (λ l. up_to s (beyond a ks) ++ l) (sym (through (λ k. comes_after k a) (λ k. comes_after k s) ks on))
      ∙ split_place s (beyond a ks) (filter_rises (λ k. comes_after k a) ks rising)

  -- those between the first and the second, and between the second and a third
  pub joined : (n : List ℕ) → IsOnward s n → up_to s (beyond a ks) ++ up_to n (beyond s ks) ≡ up_to n (beyond a ks)
  joined n further =
      sym (ap (up_to n) (sym rest_joined)
      ∙ filter-append (λ k. not (comes_after k n)) (up_to s (beyond a ks)) (beyond s ks)
      ∙ ap (λ l. l ++ up_to n (beyond s ks)) (wider (λ k. not (comes_after k s)) (λ k. not (comes_after k n)) (beyond a ks) (λ k h. not_further k (comes_after k n) refl h)))
    where
      not_further : (k : List ℕ) (b : Bool) → comes_after k n ≡ b → not (comes_after k s) ≡ true → not b ≡ true
      not_further k true e h = absurd (cc (sym h ∙ ap not (further k e)))
      not_further k false e h = refl

-- ---- pages

passes : (p : List ℕ → Bool) (ks : List (List ℕ)) → (x : List ℕ) → IsIn x (filter p ks) → p x ≡ true
passes p ks x i = (in_filter p x ks i).1

last_in : (ks rest : List (List ℕ)) → 1 ≤ length ks → IsIn (last_key ks) (ks ++ rest)
last_in [] rest some = absurd (omega arith)
last_in (k ∷ []) rest some = inl refl
last_in (k ∷ j ∷ ks) rest some = inr (last_in (j ∷ ks) rest (omega arith))

not_own : (k : List ℕ) (o : Ordering) → cmp k k ≡ o → is_gt o ≡ false
not_own k Less e = refl
not_own k Equal e = refl
not_own k Greater e = absurd (irreflexive k (turn k k e))

-- the first keys are those up to the last of them
page_cut : (ks rest : List (List ℕ)) → IsRising (ks ++ rest) → 1 ≤ length ks → (length (last_key ks) == 0) ≡ false → up_to (last_key ks) (ks ++ rest) ≡ ks
page_cut [] rest rising some named = absurd (omega arith)
page_cut (k ∷ []) rest rising some named =
    ap (λ b. if not b then k ∷ up_to k rest else up_to k rest) own ∙ ap (λ (l : List (List ℕ)). k ∷ l) (none_later rest rising.0)
  where
    own : comes_after k k ≡ false
    own = is_greater k k named ∙ not_own k (cmp k k) refl

    none_later : (js : List (List ℕ)) → IsUnder k js → up_to k js ≡ []
    none_later [] under = refl
    none_later (j ∷ js) under =
        ap (λ b. if not b then j ∷ up_to k js else up_to k js) (is_greater j k named ∙ ap is_gt (turn_back j k under.0)) ∙ none_later js under.1
page_cut (k ∷ j ∷ ks) rest rising some named =
    let l = last_key (j ∷ ks) in
    let less : cmp k l ≡ Less = under_in k l ((j ∷ ks) ++ rest) rising.0 (last_in (j ∷ ks) rest (omega arith)) in
    ap (λ b. if not b then k ∷ up_to l ((j ∷ ks) ++ rest) else up_to l ((j ∷ ks) ++ rest)) (is_greater k l named ∙ ap is_gt less)
    ∙ ap (λ (m : List (List ℕ)). k ∷ m) (page_cut (j ∷ ks) rest rising.1 (omega arith) named)

-- a page of the keys after a place, and the place of its last key
pub record IsPage (a : List ℕ) (ks page : List (List ℕ)) (next : List ℕ) : Type 0 where
  pub on : IsOnward a next
  pub between : up_to next (beyond a ks) ≡ page

pub page_of : (a : List ℕ) (ks page rest : List (List ℕ)) → IsRising ks → beyond a ks ≡ page ++ rest → 1 ≤ length page → (length (last_key page) == 0) ≡ false → IsPage a ks page (last_key page)
page_of a ks page rest rising cut some named = record {
  on = onward a (last_key page) (passes (λ k. comes_after k a) ks (last_key page) (subst (IsIn (last_key page)) (sym cut) (last_in page rest some))) named;
  between = ap (up_to (last_key page)) cut ∙ page_cut page rest (subst IsRising cut (filter_rises (λ k. comes_after k a) ks rising)) some named;
}

-- ---- what keys give up to a place before which they give nothing

only_at : {X : Type 0} (f : List ℕ → List X) (p : List ℕ) (ks : List (List ℕ)) → (length p == 0) ≡ false → IsRising ks
    → ((k : List ℕ) → IsIn k ks → cmp k p ≡ Less → f k ≡ []) → ((IsIn p ks → ⊥) → f p ≡ [])
    → flat_map f (up_to p ks) ≡ f p
only_at f p [] named rising low absent = sym (absent (λ i. i))
only_at f p (k ∷ ks) named rising low absent =
    by_order (cmp k p) refl (only_at f p ks named rising.1 (λ j i less. low j (inr i) less))
  where
    test : (o : Ordering) → cmp k p ≡ o → flat_map f (up_to p (k ∷ ks)) ≡ flat_map f (if not (is_gt o) then k ∷ up_to p ks else up_to p ks)
    test o e = ap (λ b. flat_map f (if not b then k ∷ up_to p ks else up_to p ks)) (is_greater k p named ∙ ap is_gt e)

    none_later : (js : List (List ℕ)) → (cmp k p ≡ Greater) ⊎ (k ≡ p) → IsUnder k js → up_to p js ≡ []
    none_later [] at under = refl
    none_later (j ∷ js) at under =
        let over : cmp j p ≡ Greater = ⊎_elim
        (λ (g : cmp k p ≡ Greater). turn_back j p (nat_list_cmp_total.trans p k j (turn p k g) under.0))
        (λ (s : k ≡ p). turn_back j p (subst (λ z. cmp z j ≡ Less) s under.0)) at in
        ap (λ b. if not b then j ∷ up_to p js else up_to p js) (is_greater j p named ∙ ap is_gt over) ∙ none_later js at under.1

    by_order : (o : Ordering) → cmp k p ≡ o → (((IsIn p ks → ⊥) → f p ≡ []) → flat_map f (up_to p ks) ≡ f p) → flat_map f (up_to p (k ∷ ks)) ≡ f p
    by_order Less e rest =
        let gone : (IsIn p ks → ⊥) → f p ≡ [] =
        λ none. absent (λ i. ⊎_elim (λ (s : p ≡ k). irreflexive k (subst (λ z. cmp k z ≡ Less) s e)) (λ (h : IsIn p ks). none h) i) in
        test Less e ∙ ap (λ l. l ++ flat_map f (up_to p ks)) (low k (inl refl) e) ∙ rest gone
    by_order Equal e rest =
        let same = same_key k p e in
        test Equal e ∙ ap (λ l. f k ++ flat_map f l) (none_later ks (inr same) rising.0) ∙ append-nil (f k) ∙ ap f same
    by_order Greater e rest =
        let out : IsIn p (k ∷ ks) → ⊥ = λ i. ⊎_elim
        (λ (s : p ≡ k). irreflexive p (subst (λ z. cmp p z ≡ Less) (sym s) (turn p k e)))
        (λ (h : IsIn p ks). irreflexive k (nat_list_cmp_total.trans k p k (under_in k p ks rising.0 h) (turn p k e))) i in
        test Greater e ∙ ap (flat_map f) (none_later ks (inl e) rising.0) ∙ sym (absent out)

pub nothing_of : {X : Type 0} (f : List ℕ → List X) (ks : List (List ℕ)) → ((k : List ℕ) → IsIn k ks → f k ≡ []) → flat_map f ks ≡ []
nothing_of f [] none = refl
nothing_of f (k ∷ ks) none = ap (λ l. l ++ flat_map f ks) (none k (inl refl)) ∙ nothing_of f ks (λ j i. none j (inr i))

pub up_to_one : {X : Type 0} (f : List ℕ → List X) (a p : List ℕ) (ks : List (List ℕ)) → (length p == 0) ≡ false → comes_after p a ≡ true → IsRising ks
    → ((k : List ℕ) → comes_after k a ≡ true → cmp k p ≡ Less → f k ≡ []) → ((IsIn p ks → ⊥) → f p ≡ [])
    → flat_map f (up_to p (beyond a ks)) ≡ f p
up_to_one f a p ks named there rising low absent =
    only_at f p (beyond a ks) named (filter_rises (λ k. comes_after k a) ks rising)
    (λ k i less. low k (passes (λ j. comes_after j a) ks k i) less)
    (λ none. absent (λ i. none (filter_in (λ k. comes_after k a) p ks there i)))

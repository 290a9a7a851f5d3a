-- A key gone through, newest first.
use Rattle.std.proofs.Common.{◌≡◌, ◌⊎◌, inl, inr, ℕ, ◌+◌, ◌-◌, ◌<◌, ◌≤◌, ◌++◌, ◌&&◌, ◌||◌, Bool, true, false, List, [], ◌∷◌, length, map, drop, take, get_or, suc, zero, Option, None, Some, refl, sym, ap, subst, ◌∙◌, arith, add-one, drop-cons}
use Rattle.std.specs.Prelude.{filter, if◌then◌else◌, is_some, min, nat_le, reverse, slice_get}
use Rattle.std.specs.List.{AllByRecursion, take-map}
use Rattle.std.specs.Str.{bytes_eq}
use Rattle.std.proofs.lemmas.Bool.Decides.{nat_tests}
use Rattle.std.proofs.lemmas.List.{length-map, length-reverse, map-append, reverse-append}
use Rattle.std.proofs.Math.ListN.{drop_of_length-le}
use Rattle.vault_base.specs.Limits.{most_ids}
use Rattle.vault_core_model.specs.declared.command.ListVersions.{ListVersions}
use Rattle.vault_core_model.specs.declared.records.Entry.{Entry}
use Rattle.vault_core_model.specs.declared.records.History.{History}
use Rattle.vault_core_model.specs.declared.reply.Page.{Page}
use Rattle.vault_core_model.specs.ListingOutcome.{is_asked_for, is_below}
use Rattle.vault_core_model.specs.ListingOutcome as outcome
use Rattle.vault_core_model.specs.Places.{held_at, comes_after, is_held_at}
use Rattle.vault_core_model.specs.Reads.{entry_of, ids_before, is_older}
use Rattle.vault_core_model.specs.Sound.{Sound}
use Rattle.vault_core_model.specs.Vault.{Vault}
use Rattle.vault_core_laws.proofs.Lists.{All-filter}
use Rattle.vault_core_listing.specs.Walk.{asked_at, filled, grown, has_prefix, ids_read, is_key_asked, newest_id, older_than}
use Rattle.vault_core_listing.proofs.Newer.{IsListed, is_that, newest_first}
use Rattle.vault_core_listing.proofs.Pages.{filled_take}

abbrev id_of : History → ℕ
id_of h = h.entry.id

-- the entry of that key and that id is asked for
abbrev pub is_asked : ListVersions → List ℕ → ℕ → Bool
is_asked c key id =
    has_prefix c key && (comes_after key c.after_key || (bytes_eq key c.after_key && is_below c.after_id id))

-- ---- the entries that are read

-- of a key of which something may be asked for, the older ones are
older_asked : (p b e : Bool) (o : Option ℕ) (id : ℕ) → (p && (b || (e && is_some o))) ≡ true → (p && (b || (e && is_below o id))) ≡ is_older (if b then None else o) id
older_asked true true e o id asked = refl
older_asked true false true (Some after) id asked = refl
older_asked true false true None id asked = absurd (cc asked)
older_asked true false false o id asked = absurd (cc asked)
older_asked false b e o id asked = absurd (cc asked)

asked_are_older : (v : Vault) (c : ListVersions) (key : List ℕ) (newest : Option ℕ) (hs : List History) → is_key_asked c key ≡ true → AllByRecursion (IsListed v key newest) hs
    → filter (λ h. is_asked_for c h.entry) hs ≡ filter (λ h. is_older (older_than c key) h.entry.id) hs
asked_are_older v c key newest [] asked are = refl
asked_are_older v c key newest (h ∷ hs) asked are =
    let P : List ℕ → Type 0 = λ k. is_asked c k h.entry.id ≡ is_older (older_than c key) h.entry.id in
    let same : is_asked_for c h.entry ≡ is_older (older_than c key) h.entry.id = subst P (sym are.0.keyed) (older_asked (has_prefix c key) (comes_after key c.after_key) (bytes_eq key c.after_key) c.after_id h.entry.id asked) in
    ap (λ b. if b then h ∷ filter (λ g. is_asked_for c g.entry) hs else filter (λ g. is_asked_for c g.entry) hs) same
    ∙ ap (λ (l : List History). if is_older (older_than c key) h.entry.id then h ∷ l else l) (asked_are_older v c key newest hs asked are.1)

map-reverse : (hs : List History) → reverse (map id_of hs) ≡ map id_of (reverse hs)
map-reverse [] = refl
map-reverse (h ∷ hs) =
    reverse-append (id_of h ∷ []) (map id_of hs)
    ∙ ap (λ (l : List ℕ). l ++ id_of h ∷ []) (map-reverse hs)
    ∙ sym (map-append id_of (reverse hs) (h ∷ []))
    ∙ ap (map id_of) (sym (reverse-append (h ∷ []) hs))

filter-ids : (p : ℕ → Bool) (hs : List History) → filter p (map id_of hs) ≡ map id_of (filter (λ h. p h.entry.id) hs)
filter-ids p [] = refl
filter-ids p (h ∷ hs) =
    ap (λ (l : List ℕ). if p h.entry.id then h.entry.id ∷ l else l) (filter-ids p hs)
    ∙ elim (p h.entry.id) as (λ b. (if b then h.entry.id ∷ map id_of (filter (λ g. p g.entry.id) hs) else map id_of (filter (λ g. p g.entry.id) hs)) ≡ map id_of (if b then h ∷ filter (λ g. p g.entry.id) hs else filter (λ g. p g.entry.id) hs))
    [ true ↦ refl | false ↦ refl ]

pub filter_few : {X : Type 0} (p : X → Bool) (xs : List X) → length (filter p xs) ≤ length xs
filter_few p [] = omega arith
filter_few p (x ∷ xs) =
    elim (p x) as (λ b. length (if b then x ∷ filter p xs else filter p xs) ≤ length (x ∷ xs))
    [ true ↦ omega (arith, filter_few p xs) | false ↦ omega (arith, filter_few p xs) ]

-- the older entries of a key, newest first
abbrev older_at : Vault → List ℕ → List ℕ → Option ℕ → List History
older_at v bucket key than = filter (λ h. is_older than h.entry.id) (reverse (held_at v bucket key))

ids_are : (v : Vault) (bucket key : List ℕ) (than : Option ℕ) (n : ℕ) → ids_before v bucket key than n ≡ map id_of (take n (older_at v bucket key than))
ids_are v bucket key than n =
    ap (λ (l : List ℕ). take n (filter (is_older than) l)) (map-reverse (held_at v bucket key))
    ∙ ap (take n) (filter-ids (is_older than) (reverse (held_at v bucket key)))
    ∙ take-map id_of n (older_at v bucket key than)

-- there are no more of them than ids
few_older : (v : Vault) (bucket key : List ℕ) (than : Option ℕ) → Sound v → length (older_at v bucket key than) ≤ most_ids
few_older v bucket key than sound =
    omega (arith, filter_few (λ h. is_older than h.entry.id) (reverse (held_at v bucket key)), length-reverse (held_at v bucket key), filter_few (λ h. is_held_at bucket key h.entry) v.histories, sound.enough_ids)

-- ---- the page as it fills

-- what is left of a key: these entries, with which the page becomes the last one
pub record IsLeft (v : Vault) (c : ListVersions) (key : List ℕ) (newest : Option ℕ) (page last : Page) (left : List ℕ) : Type 0 where
  pub rest : List History
  pub ids : left ≡ map id_of rest
  pub listed : AllByRecursion (IsListed v key newest) rest
  pub fills : filled c.most page (map (outcome.listed v) rest) ≡ last

All-take : (P : History → Type 0) (n : ℕ) (hs : List History) → AllByRecursion P hs → AllByRecursion P (take n hs)
All-take P zero hs all = tt
All-take P (suc n) [] all = tt
All-take P (suc n) (h ∷ hs) all = (all.0, All-take P n hs all.1)

pub all_left : (v : Vault) (c : ListVersions) (key : List ℕ) (page : Page) (than : Option ℕ) (n : ℕ) (ids : List ℕ)
    → Sound v → is_key_asked c key ≡ true → than ≡ older_than c key → n ≡ ids_read c page → ids ≡ ids_before v c.bucket key than n
    → IsLeft v c key (newest_id v c.bucket key) page (filled c.most page (asked_at v c key)) ids
all_left v c key page than n ids sound asked older many read =
    let all : List History = older_at v c.bucket key (older_than c key) in
    let are : AllByRecursion (IsListed v key (newest_id v c.bucket key)) (reverse (held_at v c.bucket key)) = newest_first v c.bucket key sound in
    let whole : take (ids_read c page) (map (outcome.listed v) all) ≡ map (outcome.listed v) (take (ids_read c page) all) = take-map (outcome.listed v) (ids_read c page) all in
    record {
      rest = take (ids_read c page) all;
      ids = read ∙ ap (λ o. ids_before v c.bucket key o n) older ∙ ap (ids_before v c.bucket key (older_than c key)) many ∙ ids_are v c.bucket key (older_than c key) (ids_read c page);
      listed = All-take (IsListed v key (newest_id v c.bucket key)) (ids_read c page) all (All-filter (IsListed v key (newest_id v c.bucket key)) (λ h. is_older (older_than c key) h.entry.id) (reverse (held_at v c.bucket key)) are);
      fills = ap (filled c.most page) (sym whole)
          ∙ filled_take c.most (ids_read c page) page (map (outcome.listed v) all) (enough (c.most - length page.entries) (length (map (outcome.listed v) all)) (omega (arith, length-map all (outcome.listed v), few_older v c.bucket key (older_than c key) sound)))
          ∙ ap (λ (l : List History). filled c.most page (map (outcome.listed v) l)) (sym (asked_are_older v c key (newest_id v c.bucket key) (reverse (held_at v c.bucket key)) asked are));
    }
  where
    enough : (room size : ℕ) → size ≤ most_ids → (room < min room most_ids + 1) ⊎ (size ≤ min room most_ids + 1)
    enough room size few = by_test (nat_le room most_ids) refl
      where
        by_test : (b : Bool) → nat_le room most_ids ≡ b → (room < min room most_ids + 1) ⊎ (size ≤ min room most_ids + 1)
        by_test true e = let le : room ≤ most_ids = grind (arith, nat_tests) in inl (omega arith)
        by_test false e = let lt : most_ids < room = grind (arith, nat_tests) in inr (omega arith)

-- where each is asked for, the first of them is the newest
pub first_newest : (v : Vault) (c : ListVersions) (key : List ℕ) (page : Page) (than : Option ℕ) (n : ℕ) (ids : List ℕ) (first : ℕ)
    → n ≡ ids_read c page → ids ≡ ids_before v c.bucket key than n → Some first ≡ slice_get ids 0
    → than ≡ None → newest_id v c.bucket key ≡ Some first
first_newest v c key page than n ids first many read at none =
    by_all (filter (is_older None) (reverse (map id_of (held_at v c.bucket key)))) (min (c.most - length page.entries) most_ids) (at ∙ ap (λ (l : List ℕ). slice_get l 0) (read ∙ ap (λ o. ids_before v c.bucket key o n) none ∙ ap (ids_before v c.bucket key None) many))
  where
    by_all : (all : List ℕ) (m : ℕ) → Some first ≡ slice_get (take (m + 1) all) 0 → slice_get (take 1 all) 0 ≡ Some first
    by_all [] m is = sym (rw add-one at is)
    by_all (x ∷ xs) m is = sym (rw add-one at is)

-- the ids that were read, before the first is listed
pub begun : (v mid : Vault) (c : ListVersions) (key : List ℕ) (page : Page) (than : Option ℕ) (n : ℕ) (ids items : List ℕ) (first : ℕ) (newest : Option ℕ)
    → Sound v → is_key_asked c key ≡ true → than ≡ older_than c key → n ≡ ids_read c page → ids ≡ ids_before v c.bucket key than n
    → mid ≡ v → items ≡ ids → Some first ≡ slice_get ids 0
    → ((older_than c key ≡ None → newest_id mid c.bucket key ≡ Some first) → newest ≡ newest_id mid c.bucket key)
    → IsLeft v c key newest page (filled c.most page (asked_at v c key)) items
begun v mid c key page than n ids items first newest sound asked older many read same are at finds =
    let last : Page = filled c.most page (asked_at v c key) in
    let id_same : newest_id mid c.bucket key ≡ newest_id v c.bucket key = ap (λ w. newest_id w c.bucket key) same in
    let found : newest ≡ newest_id v c.bucket key = finds (λ none. id_same ∙ first_newest v c key page than n ids first many read at (older ∙ none)) ∙ id_same in
    subst (λ o. IsLeft v c key o page last items) (sym found)
    (subst (IsLeft v c key (newest_id v c.bucket key) page last) (sym are) (all_left v c key page than n ids sound asked older many read))

-- the next entry listed
one_listed : (v mid : Vault) (c : ListVersions) (key : List ℕ) (newest : Option ℕ) (page page' last : Page) (id : ℕ) (more : List ℕ)
    → mid ≡ v
    → ((entry : Entry) → entry_of mid id ≡ Some entry → page' ≡ grown c.most page (record { entry = entry; current = is_that newest id }))
    → IsLeft v c key newest page last (id ∷ more)
    → IsLeft v c key newest page' last more
one_listed v mid c key newest page page' last id more same grows left = by_rest left.rest left.ids left.listed left.fills
  where
    by_rest : (rest : List History) → id ∷ more ≡ map id_of rest → AllByRecursion (IsListed v key newest) rest → filled c.most page (map (outcome.listed v) rest) ≡ last → IsLeft v c key newest page' last more
    by_rest [] ids are fills = absurd (cc ids)
    by_rest (h ∷ hs) ids are fills =
        let id_is : id ≡ h.entry.id = cc ids in
        let found : entry_of mid id ≡ Some h.entry = rw (same, id_is) are.0.found in
        let I : ℕ → Type 0 = λ i. page' ≡ grown c.most page (record { entry = h.entry; current = is_that newest i }) in
        let C : Bool → Type 0 = λ b. page' ≡ grown c.most page (record { entry = h.entry; current = b }) in
        let next : page' ≡ grown c.most page (outcome.listed v h) = subst C (sym are.0.is) (subst I id_is (grows h.entry found)) in
        record {
          rest = hs;
          ids = cc ids;
          listed = are.1;
          fills = ap (λ (p : Page). filled c.most p (map (outcome.listed v) hs)) next ∙ fills;
        }

-- the same, of a list gone through by its places
pub id_listed : (v mid : Vault) (c : ListVersions) (key : List ℕ) (newest : Option ℕ) (page page' last : Page) (ids : List ℕ) (i : ℕ) (id : ℕ)
    → mid ≡ v → i < length ids → id ≡ get_or ids i id
    → ((entry : Entry) → entry_of mid id ≡ Some entry → page' ≡ grown c.most page (record { entry = entry; current = is_that newest id }))
    → IsLeft v c key newest page last (drop i ids)
    → IsLeft v c key newest page' last (drop (i + 1) ids)
id_listed v mid c key newest page page' last ids i id same lt is grows left =
    let parts : drop i ids ≡ id ∷ drop (i + 1) ids = rw (add-one, drop-cons ids i id lt, ← is) refl in
    one_listed v mid c key newest page page' last id (drop (i + 1) ids) same grows (subst (IsLeft v c key newest page last) parts left)

pub none_left : (v : Vault) (c : ListVersions) (key : List ℕ) (newest : Option ℕ) (page last : Page) (ids : List ℕ) (i : ℕ)
    → length ids ≤ i → IsLeft v c key newest page last (drop i ids) → page ≡ last
none_left v c key newest page last ids i all left = by_rest left.rest (sym (drop_of_length-le ids all) ∙ left.ids) left.fills
  where
    by_rest : (rest : List History) → [] ≡ map id_of rest → filled c.most page (map (outcome.listed v) rest) ≡ last → page ≡ last
    by_rest [] ids fills = fills
    by_rest (h ∷ hs) ids fills = absurd (cc ids)

-- no id was read
pub none_read : (v : Vault) (c : ListVersions) (key : List ℕ) (page : Page) (than : Option ℕ) (n : ℕ) (ids : List ℕ)
    → Sound v → is_key_asked c key ≡ true → than ≡ older_than c key → n ≡ ids_read c page → ids ≡ ids_before v c.bucket key than n
    → None ≡ slice_get ids 0
    → page ≡ filled c.most page (asked_at v c key)
none_read v c key page than n ids sound asked older many read none =
    none_left v c key (newest_id v c.bucket key) page (filled c.most page (asked_at v c key)) ids 0 (empty ids none) (all_left v c key page than n ids sound asked older many read)
  where
    empty : (ids : List ℕ) → None ≡ slice_get ids 0 → length ids ≤ 0
    empty [] none = omega arith
    empty (x ∷ xs) none = absurd (cc none)

-- ---- keys of which nothing is asked for

none_asked : (v : Vault) (c : ListVersions) (key : List ℕ) (newest : Option ℕ) (hs : List History) → ((id : ℕ) → is_asked c key id ≡ false) → AllByRecursion (IsListed v key newest) hs → map (outcome.listed v) (filter (λ h. is_asked_for c h.entry) hs) ≡ []
none_asked v c key newest [] never are = refl
none_asked v c key newest (h ∷ hs) never are =
    let P : List ℕ → Type 0 = λ k. is_asked c k h.entry.id ≡ false in
    let lacks : is_asked_for c h.entry ≡ false = subst P (sym are.0.keyed) (never h.entry.id) in
    ap (λ b. map (outcome.listed v) (if b then h ∷ filter (λ g. is_asked_for c g.entry) hs else filter (λ g. is_asked_for c g.entry) hs)) lacks
    ∙ none_asked v c key newest hs never are.1

pub nothing_asked : (v : Vault) (c : ListVersions) (key : List ℕ) → Sound v → ((id : ℕ) → is_asked c key id ≡ false) → asked_at v c key ≡ []
nothing_asked v c key sound never = none_asked v c key (newest_id v c.bucket key) (reverse (held_at v c.bucket key)) never (newest_first v c.bucket key sound)

pub without_prefix : (v : Vault) (c : ListVersions) (key : List ℕ) → Sound v → has_prefix c key ≡ false → asked_at v c key ≡ []
without_prefix v c key sound other = nothing_asked v c key sound (λ id. rw other refl)

never_asked : (p b e : Bool) (o : Option ℕ) (id : ℕ) → (p && (b || (e && is_some o))) ≡ false → (p && (b || (e && is_below o id))) ≡ false
never_asked true true e o id other = absurd (cc other)
never_asked true false true (Some after) id other = absurd (cc other)
never_asked true false true None id other = refl
never_asked true false false o id other = refl
never_asked false b e o id other = refl

pub key_not_asked : (v : Vault) (c : ListVersions) (key : List ℕ) → Sound v → is_key_asked c key ≡ false → asked_at v c key ≡ []
key_not_asked v c key sound other =
    nothing_asked v c key sound (λ id. never_asked (has_prefix c key) (comes_after key c.after_key) (bytes_eq key c.after_key) c.after_id id other)

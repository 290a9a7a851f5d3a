-- The whole listing: what is left of the key at which it begins, and the keys after it, a page at a time.
use Rattle.std.proofs.Common.{◌≡◌, ℕ, ◌+◌, ◌-◌, ◌<◌, ◌≤◌, ◌++◌, ◌&&◌, ◌||◌, Bool, true, false, Option, Some, None, List, [], ◌∷◌, length, map, take, drop, get_or, refl, sym, ap, subst, ◌∙◌, arith, append_assoc}
use Rattle.std.specs.Prelude.{not, filter, flat_map, if◌then◌else◌, reverse, ◌==◌, nat_eq, nat_le, slice_get, is_some}
use Rattle.std.specs.Str.{bytes_eq}
use Rattle.std.specs.Ordering.{is_gt}
use Rattle.std.specs.List.{starts_with, take-map}
use Rattle.std.specs.declared.cmp.Ordering.TheVariants.{Less, Equal, Greater}
use Rattle.std.proofs.lemmas.Bool.Decides.{nat_tests}
use Rattle.std.proofs.lemmas.Cmp.{nat_list_cmp_total, tied_itself}
use Rattle.std.proofs.lemmas.Grind.{flat_map-append}
use Rattle.std.proofs.lemmas.List.{append-nil, map-append, length-map, length-drop, length-take, take_all, take_more, take-append-drop}
use Rattle.std.proofs.lemmas.Option.{get_or_from_slice_get}
use Rattle.std.proofs.lemmas.List.Elements.{filter-append}
use Rattle.std.proofs.lemmas.Map.Text.{is_eq-slice_cmp}
use Rattle.std.proofs.lemmas.Bool.{and_right, or_parts}
use Rattle.vault_base.specs.Limits.{most_ids, most_keys}
use Rattle.vault_base.specs.Name.{is_key_prefix, is_object_key}
use Rattle.vault_core_model.specs.declared.command.ListVersions.{ListVersions}
use Rattle.vault_core_model.specs.declared.records.History.{History}
use Rattle.vault_core_model.specs.declared.reply.Listed.{Listed}
use Rattle.vault_core_model.specs.declared.reply.Page.{Page}
use Rattle.vault_core_model.specs.ListingOutcome.{is_below, is_asked_for, asked_for}
use Rattle.vault_core_model.specs.ListingOutcome as outcome
use Rattle.vault_core_model.specs.Places.{is_held, is_held_at, is_held_in, comes_after, held_at, key_set, keys_of, with_key, with_key_by}
use Rattle.vault_core_model.specs.Reads.{keys_after, later_keys}
use Rattle.vault_core_model.specs.Sound.{Sound}
use Rattle.vault_core_model.specs.Vault.{Vault}
use Rattle.vault_core_listing.specs.Walk.{has_prefix, is_past, EndsOrAdvances, asked_at, asked_first, beginning, completed, filled, has_first, is_prefix_later, page_of}
use Rattle.vault_core_listing.proofs.Keys.{IsOver, greater, over_after, IsRising, among-set, after_page, cmp, is_among, rising_set, split_at}
use Rattle.vault_core_listing.proofs.KeyWalk.{filter_few, nothing_asked, without_prefix}
use Rattle.vault_core_listing.proofs.Prefixes.{before, past}
use Rattle.vault_core_listing.proofs.Pages.{cut_off, filled-append, from_empty}

-- ---- keys without a held entry

abbrev held_keys : List ℕ → List History → List (List ℕ)
held_keys bucket hs = key_set (map (λ h. h.entry.key) (filter (λ h. is_held_in bucket h.entry) hs))

-- an entry that isn't of the key
not_at : (b k h : Bool) → k ≡ false → (b && (k && h)) ≡ false
not_at true true h e = absurd (cc e)
not_at true false h e = refl
not_at false k h e = refl

-- one that isn't held in the bucket
not_in : (b k h : Bool) → (b && h) ≡ false → (b && (k && h)) ≡ false
not_in true true h e = e
not_in true false h e = refl
not_in false k h e = refl

none_at : (bucket key : List ℕ) (hs : List History) → is_among key (held_keys bucket hs) ≡ false → filter (λ h. is_held_at bucket key h.entry) hs ≡ []
none_at bucket key [] absent = refl
none_at bucket key (h ∷ hs) absent = by_test (is_held_in bucket h.entry) refl absent (none_at bucket key hs)
  where
    gone : is_held_at bucket key h.entry ≡ false → filter (λ g. is_held_at bucket key g.entry) hs ≡ [] → filter (λ g. is_held_at bucket key g.entry) (h ∷ hs) ≡ []
    gone lacks rest = ap (λ b. if b then h ∷ filter (λ g. is_held_at bucket key g.entry) hs else filter (λ g. is_held_at bucket key g.entry) hs) lacks ∙ rest

    by_test : (b : Bool) → is_held_in bucket h.entry ≡ b
        → is_among key (key_set (map (λ g. g.entry.key) (if b then h ∷ filter (λ g. is_held_in bucket g.entry) hs else filter (λ g. is_held_in bucket g.entry) hs))) ≡ false
        → (is_among key (held_keys bucket hs) ≡ false → filter (λ g. is_held_at bucket key g.entry) hs ≡ [])
        → filter (λ g. is_held_at bucket key g.entry) (h ∷ hs) ≡ []
    by_test true e absent rest =
        let parts = or_parts (bytes_eq h.entry.key key) (is_among key (held_keys bucket hs)) (sym (among-set key h.entry.key (map (λ g. g.entry.key) (filter (λ g. is_held_in bucket g.entry) hs))) ∙ absent) in
        gone (not_at (bytes_eq h.entry.bucket bucket) (bytes_eq h.entry.key key) (is_held h.entry) parts.0) (rest parts.1)
    by_test false e absent rest =
        gone (not_in (bytes_eq h.entry.bucket bucket) (bytes_eq h.entry.key key) (is_held h.entry) e) (rest absent)

nothing_at : (v : Vault) (c : ListVersions) (key : List ℕ) → is_among key (keys_of v c.bucket) ≡ false → asked_at v c key ≡ []
nothing_at v c key absent =
    ap (λ (hs : List History). map (outcome.listed v) (filter (λ h. is_asked_for c h.entry) (reverse hs))) (none_at c.bucket key v.histories absent)

-- ---- keys before the one at which the listing begins

eq_less : (j k : List ℕ) → cmp j k ≡ Less → bytes_eq j k ≡ false
eq_less j k e = rw (← is_eq-slice_cmp j k, e) refl

before_after : (v : Vault) (c : ListVersions) → Sound v → (length c.after_key == 0) ≡ false → (key : List ℕ) → cmp key c.after_key ≡ Less → asked_at v c key ≡ []
before_after v c sound named key less =
    nothing_asked v c key sound (λ id. rw (named, less, eq_less key c.after_key less) (and_right (starts_with nat_eq key c.prefix) false refl))

nothing_before : (v : Vault) (c : ListVersions) → Sound v → (length (beginning c) == 0) ≡ false → (key : List ℕ) → cmp key (beginning c) ≡ Less → asked_at v c key ≡ []
nothing_before v c sound named key less = by_order (is_prefix_later c) named less
  where
    by_order : (b : Bool) → (length (if b then c.prefix else c.after_key) == 0) ≡ false → cmp key (if b then c.prefix else c.after_key) ≡ Less → asked_at v c key ≡ []
    by_order true n l = without_prefix v c key sound (before c.prefix key l)
    by_order false n l = before_after v c sound n key l

-- ---- the listing, key by key

rising_keys : (v : Vault) (bucket : List ℕ) → IsRising (keys_of v bucket)
rising_keys v bucket = rising_set (map (λ (h : History). h.entry.key) (filter (λ h. is_held_in bucket h.entry) v.histories))

by_keys : (v : Vault) (c : ListVersions) (ks : List (List ℕ)) → map (outcome.listed v) (filter (λ h. is_asked_for c h.entry) (flat_map (λ key. reverse (held_at v c.bucket key)) ks)) ≡ flat_map (asked_at v c) ks
by_keys v c [] = refl
by_keys v c (k ∷ ks) =
    let p : History → Bool = λ h. is_asked_for c h.entry in
    let rest : List History = flat_map (λ key. reverse (held_at v c.bucket key)) ks in
    ap (map (outcome.listed v)) (filter-append p (reverse (held_at v c.bucket k)) rest)
    ∙ map-append (outcome.listed v) (filter p (reverse (held_at v c.bucket k))) (filter p rest)
    ∙ ap (λ (ls : List Listed). asked_at v c k ++ ls) (by_keys v c ks)

-- what is asked for: of the key at which the listing begins, and of those after it
parts : (v : Vault) (c : ListVersions) → Sound v → flat_map (asked_at v c) (keys_of v c.bucket) ≡ asked_first v c ++ flat_map (asked_at v c) (later_keys v c.bucket (beginning c))
parts v c sound = by_length (length (beginning c) == 0) refl
  where
    all : (ks : List (List ℕ)) → filter (λ k. true) ks ≡ ks
    all [] = refl
    all (k ∷ ks) = ap (λ (l : List (List ℕ)). k ∷ l) (all ks)

    by_length : (b : Bool) → (length (beginning c) == 0) ≡ b → flat_map (asked_at v c) (keys_of v c.bucket) ≡ (if b then [] else asked_at v c (beginning c)) ++ flat_map (asked_at v c) (filter (λ k. b || is_gt (cmp k (beginning c))) (keys_of v c.bucket))
    by_length true e = ap (flat_map (asked_at v c)) (sym (all (keys_of v c.bucket)))
    by_length false e = split_at (asked_at v c) (beginning c) (keys_of v c.bucket) (rising_keys v c.bucket) (nothing_before v c sound e) (nothing_at v c (beginning c))

pub page_is : (v mid : Vault) (c : ListVersions) (page first : Page) → Sound v → mid ≡ v → first ≡ filled c.most (record { entries = []; more = false }) (asked_first v c) → page ≡ completed mid c first (beginning c) → page ≡ page_of v c
page_is v mid c page first sound same begun done =
    let all : List Listed = flat_map (asked_at v c) (keys_of v c.bucket) in
    let cut : List Listed → Page = cut_off c.most in
    done
    ∙ ap (λ w. completed w c first (beginning c)) same
    ∙ ap (λ (p : Page). completed v c p (beginning c)) begun
    ∙ sym (filled-append c.most (record { entries = []; more = false }) (asked_first v c) (flat_map (asked_at v c) (later_keys v c.bucket (beginning c))))
    ∙ ap (filled c.most (record { entries = []; more = false })) (sym (parts v c sound))
    ∙ from_empty c.most all
    ∙ ap cut (sym (by_keys v c (keys_of v c.bucket)))
    ∙ rw (take-map (outcome.listed v) c.most (asked_for v c), length-map (asked_for v c) (outcome.listed v)) refl

-- ---- pages of keys

pub key_filled : (v mid : Vault) (c : ListVersions) (page0 page page' : Page) (keys : List (List ℕ)) (i : ℕ) (key : List ℕ)
    → mid ≡ v → i < length keys → key ≡ get_or keys i key
    → page ≡ filled c.most page0 (flat_map (asked_at v c) (take i keys))
    → page' ≡ filled c.most page (asked_at mid c key)
    → page' ≡ filled c.most page0 (flat_map (asked_at v c) (take (i + 1) keys))
key_filled v mid c page0 page page' keys i key same lt is so_far now =
    let front : take (i + 1) keys ≡ take i keys ++ key ∷ [] = take_more keys i key lt ∙ ap (λ k. take i keys ++ k ∷ []) (sym is) in
    now
    ∙ ap (λ w. filled c.most page (asked_at w c key)) same
    ∙ ap (λ (p : Page). filled c.most p (asked_at v c key)) so_far
    ∙ sym (filled-append c.most page0 (flat_map (asked_at v c) (take i keys)) (asked_at v c key))
    ∙ ap (λ (ls : List Listed). filled c.most page0 (flat_map (asked_at v c) (take i keys) ++ ls)) (sym (append-nil (asked_at v c key)))
    ∙ ap (filled c.most page0) (sym (flat_map-append (asked_at v c) (take i keys) (key ∷ [])))
    ∙ ap (λ ks. filled c.most page0 (flat_map (asked_at v c) ks)) (sym front)

pub keys_filled : (v : Vault) (c : ListVersions) (page0 page : Page) (keys : List (List ℕ)) (i : ℕ) → length keys ≤ i
    → page ≡ filled c.most page0 (flat_map (asked_at v c) (take i keys))
    → page ≡ filled c.most page0 (flat_map (asked_at v c) keys)
keys_filled v c page0 page keys i le so_far = so_far ∙ ap (λ ks. filled c.most page0 (flat_map (asked_at v c) ks)) (take_all i keys le)

-- ---- the walk over the pages

with_few : (k : List ℕ) (ks : List (List ℕ)) → length (with_key k ks) ≤ length ks + 1
with_few k [] = omega arith
with_few k (x ∷ xs) =
    elim (cmp k x) as (λ o. length (with_key_by o k x xs (with_key k xs)) ≤ length (x ∷ xs) + 1) [
      | Less ↦ omega arith
      | Equal ↦ omega arith
      | Greater ↦ omega (arith, with_few k xs)
    ]

set_few : (ks : List (List ℕ)) → length (key_set ks) ≤ length ks
set_few [] = omega arith
set_few (k ∷ ks) = omega (arith, with_few k (key_set ks), set_few ks)

-- there are no more keys than ids
pub few_keys : (v : Vault) (bucket after : List ℕ) → Sound v → length (later_keys v bucket after) ≤ most_ids
few_keys v bucket after sound =
    let held : List History = filter (λ h. is_held_in bucket h.entry) v.histories in
    let keys : List (List ℕ) = map (λ (h : History). h.entry.key) held in
    omega (arith, sound.enough_ids, filter_few (λ h. is_held_in bucket h.entry) v.histories, length-map held (λ (h : History). h.entry.key), set_few keys, filter_few (λ k. comes_after k after) (keys_of v bucket))

pub walk_ends : (v mid : Vault) (c : ListVersions) (page0 page page' : Page) (after : List ℕ) (next : Option (List ℕ))
    → mid ≡ v → next ≡ None → completed v c page after ≡ completed v c page0 (beginning c) → EndsOrAdvances mid c page after page' next
    → page' ≡ completed v c page0 (beginning c)
walk_ends v mid c page0 page page' after next same none left goes =
    let P : Option (List ℕ) → Type 0 = λ o. EndsOrAdvances mid c page after page' o in
    let Q : Vault → Type 0 = λ w. page' ≡ completed w c page after in
    subst Q same (subst P none goes) ∙ left

pub walk_goes_on : (v mid : Vault) (c : ListVersions) (page0 page page' : Page) (after : List ℕ) (next : Option (List ℕ)) (key : List ℕ)
    → mid ≡ v → next ≡ Some key → completed v c page after ≡ completed v c page0 (beginning c) → EndsOrAdvances mid c page after page' next
    → (completed v c page' key ≡ completed v c page0 (beginning c)) × (length (later_keys v c.bucket key) + most_keys ≤ length (later_keys v c.bucket after))
walk_goes_on v mid c page0 page page' after next key same some left goes =
    let P : Option (List ℕ) → Type 0 = λ o. EndsOrAdvances mid c page after page' o in
    let Q : Vault → Type 0 = λ w. EndsOrAdvances w c page after page' (Some key) in
    let now : EndsOrAdvances v c page after page' (Some key) = subst Q same (subst P some goes) in
    (now.0 ∙ left, now.1)

-- a page that isn't whole is the last
pub last_page : (v mid : Vault) (c : ListVersions) (page page' : Page) (after : List ℕ) (keys : List (List ℕ))
    → mid ≡ v → length keys < most_keys → keys ≡ keys_after v c.bucket after most_keys
    → page' ≡ filled c.most page (flat_map (asked_at mid c) keys)
    → page' ≡ completed v c page after
last_page v mid c page page' after keys same lt is now =
    let all : List (List ℕ) = later_keys v c.bucket after in
    let few : length all ≤ most_keys = omega (arith, length-take most_keys all, ap length is) in
    now ∙ ap (λ w. filled c.most page (flat_map (asked_at w c) keys)) same
    ∙ ap (λ ks. filled c.most page (flat_map (asked_at v c) ks)) (is ∙ take_all most_keys all few)

-- after a whole page the walk goes on
pub next_page : (v mid : Vault) (c : ListVersions) (page page' : Page) (after last next : List ℕ) (keys : List (List ℕ))
    → mid ≡ v → most_keys ≤ length keys → keys ≡ keys_after v c.bucket after most_keys
    → Some last ≡ slice_get keys (length keys - 1) → next ≡ last → (length last == 0) ≡ false
    → page' ≡ filled c.most page (flat_map (asked_at mid c) keys)
    → EndsOrAdvances v c page after page' (Some next)
next_page v mid c page page' after last next keys same whole is at own named now =
    let all : List (List ℕ) = later_keys v c.bucket after in
    let i : ℕ = length keys - 1 in
    let item : last ≡ get_or keys i last = sym (get_or_from_slice_get keys i last last (sym at)) in
    let front : keys ≡ take i keys ++ last ∷ [] = last_apart keys i last (omega arith) item in
    let rest : List (List ℕ) = drop most_keys all in
    let cut : all ≡ take i keys ++ last ∷ rest = sym (take-append-drop most_keys all) ∙ ap (λ ks. ks ++ rest) (sym is ∙ front) ∙ append_assoc (take i keys) (last ∷ []) rest in
    let later : later_keys v c.bucket last ≡ rest = after_page (keys_of v c.bucket) after (take i keys) last rest (rising_keys v c.bucket) cut named in
    let whole_page : take most_keys all ++ rest ≡ all = take-append-drop most_keys all in
    let filled_page : page' ≡ filled c.most page (flat_map (asked_at v c) (take most_keys all)) = now ∙ ap (λ w. filled c.most page (flat_map (asked_at w c) keys)) same ∙ ap (λ ks. filled c.most page (flat_map (asked_at v c) ks)) is in
    let fewer : length (later_keys v c.bucket last) + most_keys ≤ length all = omega (arith, ap length later, length-drop most_keys all, ap length is, length-take most_keys all) in
    let goal_at_last : EndsOrAdvances v c page after page' (Some last) = (
      ap (λ ks. filled c.most page' (flat_map (asked_at v c) ks)) later
          ∙ ap (λ (p : Page). filled c.most p (flat_map (asked_at v c) rest)) filled_page
          ∙ sym (filled-append c.most page (flat_map (asked_at v c) (take most_keys all)) (flat_map (asked_at v c) rest))
          ∙ ap (filled c.most page) (sym (flat_map-append (asked_at v c) (take most_keys all) rest))
          ∙ ap (λ ks. filled c.most page (flat_map (asked_at v c) ks)) whole_page,
      fewer,
    ) in
    let P : List ℕ → Type 0 = λ k. EndsOrAdvances v c page after page' (Some k) in
    subst P (sym own) goal_at_last
  where
    last_apart : (ks : List (List ℕ)) (i : ℕ) (k : List ℕ) → i + 1 ≡ length ks → k ≡ get_or ks i k → ks ≡ take i ks ++ k ∷ []
    last_apart ks i k e at = sym (take_all (i + 1) ks (omega arith)) ∙ take_more ks i k (omega arith) ∙ ap (λ x. take i ks ++ x ∷ []) (sym at)

-- ---- the key at which the listing begins

tied : (key : List ℕ) → is_gt (cmp key key) ≡ false
tied key = ap is_gt (tied_itself nat_list_cmp_total key)

-- nothing is asked for of the key after which the listing begins, where no id is given
pub none_first : (v : Vault) (c : ListVersions) → Sound v → has_first c ≡ false → asked_first v c ≡ []
none_first v c sound absent =
    let parts = or_parts (is_some c.after_id) (is_prefix_later c) absent in
    rw parts.1 (at_after parts.0 (length c.after_key == 0) refl)
  where
    below : (o : Option ℕ) (id : ℕ) → is_some o ≡ false → is_below o id ≡ false
    below None id e = refl
    below (Some after) id e = absurd (cc e)

    at_after : is_some c.after_id ≡ false → (b : Bool) → (length c.after_key == 0) ≡ b → (if b then [] else asked_at v c c.after_key) ≡ []
    at_after none true e = refl
    at_after none false e = nothing_asked v c c.after_key sound (λ id. rw (e, tied c.after_key, below c.after_id id none, and_right (bytes_eq c.after_key c.after_key) false refl) (and_right (starts_with nat_eq c.after_key c.prefix) false refl))

-- where the listing begins at no key
pub no_first : (v : Vault) (c : ListVersions) (begun : List ℕ) (key : Option (List ℕ)) → begun ≡ beginning c → key ≡ None → key ≡ (if length begun == 0 then None else Some begun) → asked_first v c ≡ []
no_first v c begun key same none is = rw (← same) (by_length (length begun == 0) (sym none ∙ is))
  where
    by_length : (b : Bool) → None ≡ (if b then None else Some begun) → (if b then [] else asked_at v c begun) ≡ []
    by_length true e = refl
    by_length false e = absurd (cc e)

-- where it begins at one, that is the first
pub is_first : (v : Vault) (c : ListVersions) (begun : List ℕ) (found : Option (List ℕ)) (key : List ℕ) → begun ≡ beginning c → found ≡ Some key → found ≡ (if length begun == 0 then None else Some begun) → asked_at v c key ≡ asked_first v c
is_first v c begun found key same some is = rw (← same) (by_length (length begun == 0) (sym some ∙ is))
  where
    by_length : (b : Bool) → Some key ≡ (if b then None else Some begun) → asked_at v c key ≡ (if b then [] else asked_at v c begun)
    by_length true e = absurd (cc e)
    by_length false e = ap (asked_at v c) (cc e)

-- a key isn't empty
pub key_named : (key : List ℕ) → is_object_key key ≡ true → (length key == 0) ≡ false
key_named key named = by_size (nat_le 1 (length key)) refl named
  where
    by_size : (b : Bool) → nat_le 1 (length key) ≡ b → (b && is_key_prefix key) ≡ true → (length key == 0) ≡ false
    by_size true e f = grind (arith, nat_tests)
    by_size false e f = absurd (cc f)

-- ---- keys past the prefix

none_past : (v : Vault) (c : ListVersions) (last : List ℕ) (ks : List (List ℕ)) → Sound v → cmp last c.prefix ≡ Greater → has_prefix c last ≡ false → IsOver last ks → flat_map (asked_at v c) ks ≡ []
none_past v c last [] sound over other later = refl
none_past v c last (k ∷ ks) sound over other later =
    ap (λ (ls : List Listed). ls ++ flat_map (asked_at v c) ks) (without_prefix v c k sound (past c.prefix last k over other later.0))
    ∙ none_past v c last ks sound over other later.1

past_parts : (b h : Bool) → (b && not h) ≡ true → (b ≡ true) × (h ≡ false)
past_parts true false e = (refl, refl)
past_parts true true e = absurd (cc e)
past_parts false h e = absurd (cc e)

named_past : (last prefix : List ℕ) → cmp last prefix ≡ Greater → (length last == 0) ≡ false
named_past [] [] over = absurd (cc over)
named_past [] (x ∷ p) over = absurd (cc over)
named_past (y ∷ l) p over = grind arith

-- where the last key of a page is past the prefix, the walk ends
pub past_page : (v mid : Vault) (c : ListVersions) (page page' : Page) (after last : List ℕ) (keys : List (List ℕ))
    → Sound v → is_past c last ≡ true
    → mid ≡ v → most_keys ≤ length keys → keys ≡ keys_after v c.bucket after most_keys
    → Some last ≡ slice_get keys (length keys - 1)
    → page' ≡ filled c.most page (flat_map (asked_at mid c) keys)
    → page' ≡ completed v c page after
past_page v mid c page page' after last keys sound ends same whole is at now =
    let parts = past_parts (is_gt (cmp last c.prefix)) (has_prefix c last) ends in
    let over : cmp last c.prefix ≡ Greater = greater last c.prefix parts.0 in
    let named : (length last == 0) ≡ false = named_past last c.prefix over in
    let goes : EndsOrAdvances v c page after page' (Some last) = next_page v mid c page page' after last last keys same whole is at refl named now in
    sym (ap (filled c.most page') (none_past v c last (later_keys v c.bucket last) sound over parts.1 (over_after last (keys_of v c.bucket) named))) ∙ goes.0

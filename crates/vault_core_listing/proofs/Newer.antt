-- Of the held entries of a key, the newest is the current one.
use Rattle.std.proofs.Common.{◌≡◌, ℕ, ◌<◌, ◌≤◌, ◌++◌, ◌&&◌, Bool, true, false, List, [], ◌∷◌, length, map, Option, Some, refl, sym, ap, subst, ◌∙◌, arith, append_assoc}
use Rattle.std.specs.Prelude.{filter, find, nat_lt, ◌==◌, option_map, reverse}
use Rattle.std.specs.List.{AllByRecursion}
use Rattle.std.specs.Option.{option_eq}
use Rattle.std.specs.Str.{bytes_eq}
use Rattle.std.proofs.lemmas.List.{reverse-append}
use Rattle.std.proofs.lemmas.Slice.Eq.{bytes_eq-Decides}
use Rattle.std.proofs.lemmas.Bool.{and_parts, le-ltb, lt-ltb}
use Rattle.vault_core_model.specs.declared.records.History.{History}
use Rattle.vault_core_model.specs.Vault.{Vault}
use Rattle.vault_core_model.specs.Places.{is_held, is_held_at, held_at, is_current}
use Rattle.vault_core_model.specs.Reads.{entry_of}
use Rattle.vault_core_model.specs.Sound.{Sound}
use Rattle.vault_core_laws.proofs.Lists.{All-filter, All-push}
use Rattle.vault_core_laws.proofs.Newest.{IsRising, finds_itself, passes, rising-filter, rising_ids}
use Rattle.vault_core_listing.specs.Walk.{newest_id}

-- it is that id
abbrev pub is_that : Option ℕ → ℕ → Bool
is_that newest id = option_eq (λ m n. m == n) newest (Some id)

-- ---- ids rise

all_newer : (m n : ℕ) (hs : List History) → m ≤ n → IsRising n hs → filter (λ g. nat_lt m g.entry.id) hs ≡ hs
unfolding IsRising
all_newer m n [] le rising = refl
all_newer m n (h ∷ hs) le rising =
    rw (lt-ltb m h.entry.id (omega (arith, rising.0))) (ap (λ (l : List History). h ∷ l) (all_newer m h.entry.id hs (omega (arith, rising.0)) rising.1))

-- what is newer than one of them is what comes after it
newer_after : (n : ℕ) (gs : List History) (h : History) (hs : List History) → IsRising n (gs ++ h ∷ hs) → (n < h.entry.id) × (filter (λ g. nat_lt h.entry.id g.entry.id) (gs ++ h ∷ hs) ≡ hs) × IsRising h.entry.id hs
unfolding IsRising
newer_after n [] h hs rising =
    (rising.0, rw (le-ltb h.entry.id h.entry.id (omega arith)) (all_newer h.entry.id h.entry.id hs (omega arith) rising.1), rising.1)
newer_after n (g ∷ gs) h hs rising =
    let rest = newer_after g.entry.id gs h hs rising.1 in
    (omega (arith, rising.0, rest.0), rw (le-ltb h.entry.id g.entry.id (omega (arith, rest.0))) rest.1, rest.2)

-- ---- the last of them

-- the last id of these, or n where there is none
abbrev last_id : ℕ → List History → ℕ
last_id n [] = n
last_id n (h ∷ hs) = last_id h.entry.id hs

up_to_last : (n : ℕ) (hs : List History) → IsRising n hs → n ≤ last_id n hs
unfolding IsRising
up_to_last n [] rising = omega arith
up_to_last n (h ∷ hs) rising = omega (arith, rising.0, up_to_last h.entry.id hs rising.1)

-- the first of the ids newest first
ids_down : (h : History) (hs : List History) → (ids : List ℕ) × (reverse (map (λ (g : History). g.entry.id) (h ∷ hs)) ≡ last_id h.entry.id hs ∷ ids)
ids_down h [] = ([], refl)
ids_down h (g ∷ gs) =
    let rest = ids_down g gs in
    (rest.0 ++ h.entry.id ∷ [], reverse-append (h.entry.id ∷ []) (map (λ (x : History). x.entry.id) (g ∷ gs)) ∙ ap (λ (l : List ℕ). l ++ h.entry.id ∷ []) rest.1)

newest_is_last : (v : Vault) (bucket key : List ℕ) (h : History) (hs : List History) → held_at v bucket key ≡ h ∷ hs → newest_id v bucket key ≡ Some (last_id h.entry.id hs)
newest_is_last v bucket key h hs all = rw (all, (ids_down h hs).1) refl

itself : (n : ℕ) → (n == n) ≡ true
itself n = grind arith

-- that is the last of them just where nothing comes after it
last_alone : (h : History) (hs : List History) → IsRising h.entry.id hs → (length hs == 0) ≡ is_that (Some (last_id h.entry.id hs)) h.entry.id
unfolding IsRising
last_alone h [] rising = sym (itself h.entry.id)
last_alone h (g ∷ gs) rising = not_empty g gs ∙ sym (later (last_id g.entry.id gs) h.entry.id (omega (arith, rising.0, up_to_last g.entry.id gs rising.1)))
  where
    not_empty : (x : History) (xs : List History) → (length (x ∷ xs) == 0) ≡ false
    not_empty x xs = grind arith

    later : (m n : ℕ) → n < m → (m == n) ≡ false
    later m n lt = grind arith

-- ---- the held entries of a key

pub record Held (bucket key : List ℕ) (h : History) : Type 0 where
  pub held : is_held h.entry ≡ true
  pub bucket_is : h.entry.bucket ≡ bucket
  pub key_is : h.entry.key ≡ key

held_there : (bucket key : List ℕ) (h : History) → is_held_at bucket key h.entry ≡ true → Held bucket key h
held_there bucket key h here =
    let first = and_parts (bytes_eq h.entry.bucket bucket) (bytes_eq h.entry.key key && is_held h.entry) here in
    let second = and_parts (bytes_eq h.entry.key key) (is_held h.entry) first.1 in
    record { held = second.1; bucket_is = (bytes_eq-Decides h.entry.bucket bucket).0 first.0; key_is = (bytes_eq-Decides h.entry.key key).0 second.0 }

-- it is current where it has that id, is found by its own, and has that key
pub record IsListed (v : Vault) (key : List ℕ) (newest : Option ℕ) (h : History) : Type 0 where
  pub is : is_current v h ≡ is_that newest h.entry.id
  pub found : entry_of v h.entry.id ≡ Some h.entry
  pub keyed : h.entry.key ≡ key

listed_up : (v : Vault) (bucket key : List ℕ) (newest : Option ℕ) (n : ℕ) (gs hs : List History) → held_at v bucket key ≡ gs ++ hs → IsRising 0 (gs ++ hs)
    → newest ≡ Some (last_id n hs)
    → AllByRecursion (λ h. is_held_at bucket key h.entry ≡ true) hs
    → AllByRecursion (λ y. find (λ h. h.entry.id == y.entry.id) v.histories ≡ Some y) hs
    → AllByRecursion (IsListed v key newest) hs
listed_up v bucket key newest n gs [] all rising last here found = tt
listed_up v bucket key newest n gs (h ∷ hs) all rising last here found =
    let at = held_there bucket key h here.0 in
    let after = newer_after 0 gs h hs rising in
    let newer : filter (λ g. nat_lt h.entry.id g.entry.id) (held_at v bucket key) ≡ hs = rw all after.1 in
    let alone : is_current v h ≡ (length hs == 0) = rw (at.held, at.bucket_is, at.key_is, newer) refl in (
      record {
        is = alone ∙ last_alone h hs after.2 ∙ ap (λ o. is_that o h.entry.id) (sym last);
        found = ap (λ o. option_map (λ (g : History). g.entry) o) found.0;
        keyed = at.key_is;
      },
      listed_up v bucket key newest h.entry.id (gs ++ h ∷ []) hs (all ∙ sym (append_assoc gs (h ∷ []) hs)) (subst (IsRising 0) (sym (append_assoc gs (h ∷ []) hs)) rising) last here.1 found.1,
    )

-- ---- newest first

All-reverse : (P : History → Type 0) (hs : List History) → AllByRecursion P hs → AllByRecursion P (reverse hs)
All-reverse P [] all = tt
All-reverse P (h ∷ hs) all = subst (AllByRecursion P) (sym (reverse-append (h ∷ []) hs)) (All-push P (reverse hs) h (All-reverse P hs all.1) all.0)

pub newest_first : (v : Vault) (bucket key : List ℕ) → Sound v → AllByRecursion (IsListed v key (newest_id v bucket key)) (reverse (held_at v bucket key))
newest_first v bucket key sound =
    All-reverse (IsListed v key (newest_id v bucket key)) (held_at v bucket key) (by_held (held_at v bucket key) refl
    (rising-filter (λ h. is_held_at bucket key h.entry) 0 v.histories (rising_ids 0 1 v.histories (omega arith) sound.ids))
    (passes (λ h. is_held_at bucket key h.entry) v.histories)
    (All-filter (λ y. find (λ h. h.entry.id == y.entry.id) v.histories ≡ Some y) (λ h. is_held_at bucket key h.entry) v.histories (finds_itself 1 v.histories sound.ids)))
  where
    by_held : (hs : List History) → held_at v bucket key ≡ hs → IsRising 0 hs
        → AllByRecursion (λ h. is_held_at bucket key h.entry ≡ true) hs
        → AllByRecursion (λ y. find (λ h. h.entry.id == y.entry.id) v.histories ≡ Some y) hs
        → AllByRecursion (IsListed v key (newest_id v bucket key)) hs
    by_held [] all rising here found = tt
    by_held (h ∷ hs) all rising here found =
        listed_up v bucket key (newest_id v bucket key) 0 [] (h ∷ hs) all rising (newest_is_last v bucket key h hs all) here found

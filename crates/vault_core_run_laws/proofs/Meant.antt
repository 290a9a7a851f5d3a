-- The entry that a command means is in the vault, under its own id.
use Rattle.std.proofs.Common.{◌≡◌, ℕ, List, [], ◌∷◌, Bool, true, false, Option, Some, None, Ok, Err, refl, sym, ap}
use Rattle.std.specs.Prelude.{IfOk, IfSome, find, filter, option_map, ◌&&◌, ◌==◌, if◌then◌else◌}
use Rattle.std.specs.List.{AllByRecursion}
use Rattle.std.specs.Str.{bytes_eq}
use Rattle.std.proofs.lemmas.Bool.{and_parts}
use Rattle.vault_base.specs.declared.refusal.Refusal.TheVariants.{NoSuchKey, NoSuchVersion, MethodNotAllowed}
use Rattle.vault_core_model.specs.declared.records.Entry.{Entry}
use Rattle.vault_core_model.specs.declared.records.History.{History}
use Rattle.vault_core_model.specs.Vault.{Vault}
use Rattle.vault_core_model.specs.Places.{is_held, is_held_at, held_at, is_current, current}
use Rattle.vault_core_model.specs.Reads.{entry_of}
use Rattle.vault_core_model.specs.Sound.{Sound}
use Rattle.vault_core_model.specs.Checks.{content_on_top, held_there, held_entry, version_meant}
use Rattle.vault_core_laws.proofs.Newest.{finds_itself, entry_of-own}
use Rattle.vault_core_laws.proofs.Tests.{none_is}
use Rattle.vault_core_run_laws.proofs.Checked.{bind_if}

held_at-held : (bucket key : List ℕ) (e : Entry) → is_held_at bucket key e ≡ true → e.removal ≡ None
held_at-held bucket key e here =
    none_is e.removal (and_parts (bytes_eq e.key key) (is_held e) (and_parts (bytes_eq e.bucket bucket) (bytes_eq e.key key && is_held e) here).1).1

-- ---- what is found in a list

-- of what is found by a test, each fact that holds of all, and the test
found_in : {A : Type 0} (p : A → Bool) (P : A → Type 0) (xs : List A) → AllByRecursion P xs → IfSome (find p xs) P
found_in p P [] all = tt
found_in p P (x ∷ xs) all = elim (p x) as (λ b. IfSome (if b then Some x else find p xs) P) [ true ↦ all.0 | false ↦ found_in p P xs all.1 ]

both_kept : {A : Type 0} (p : A → Bool) (P : A → Type 0) (x : A) (rest : List A) (b : Bool) → p x ≡ b → P x → AllByRecursion (λ y. P y × (p y ≡ true)) rest → AllByRecursion (λ y. P y × (p y ≡ true)) (if b then x ∷ rest else rest)
both_kept p P x rest true e px all = ((px, e), all)
both_kept p P x rest false e px all = all

kept-both : {A : Type 0} (p : A → Bool) (P : A → Type 0) (xs : List A) → AllByRecursion P xs → AllByRecursion (λ y. P y × (p y ≡ true)) (filter p xs)
kept-both p P [] all = tt
kept-both p P (x ∷ xs) all = both_kept p P x (filter p xs) (p x) refl all.0 (kept-both p P xs all.1)

-- ---- the version that is meant

-- the entry is held, and found by its own id
pub record IsHeldEntry (v : Vault) (e : Entry) : Type 0 where
  pub there : entry_of v e.id ≡ Some e
  pub held : e.removal ≡ None

-- and it is a content version
pub record IsHeldVersion (v : Vault) (e : Entry) : Type 0 where
  pub there : entry_of v e.id ≡ Some e
  pub held : e.removal ≡ None
  pub version : e.marker ≡ false

abbrev IsOwn : Vault → History → Type 0
IsOwn v h = find (λ g. g.entry.id == h.entry.id) v.histories ≡ Some h

own_entry : (v : Vault) (h : History) → IsOwn v h → entry_of v h.entry.id ≡ Some h.entry
own_entry v h own = ap (λ (o : Option History). option_map (λ g. g.entry) o) own

held_among : (v : Vault) (bucket key : List ℕ) → Sound v → AllByRecursion (λ h. IsHeldEntry v h.entry) (held_at v bucket key)
held_among v bucket key sound =
    each (λ h. IsOwn v h × (is_held_at bucket key h.entry ≡ true)) (λ h. IsHeldEntry v h.entry)
    (λ h p. record { there = own_entry v h p.0; held = held_at-held bucket key h.entry p.1 })
    (held_at v bucket key) (kept-both (λ h. is_held_at bucket key h.entry) (IsOwn v) v.histories (finds_itself 1 v.histories sound.ids))
  where
    each : (P Q : History → Type 0) → ((h : History) → P h → Q h) → (hs : List History) → AllByRecursion P hs → AllByRecursion Q hs
    each P Q f [] all = tt
    each P Q f (h ∷ hs) all = (f h all.0, each P Q f hs all.1)

if_content : (v : Vault) (h : History) (b : Bool) → h.entry.marker ≡ b → IsHeldEntry v h.entry → IfOk (if b then Err (NoSuchKey true) else Ok h.entry) (IsHeldVersion v)
if_content v h true e held = tt
if_content v h false e held = record { there = held.there; held = held.held; version = e }

on_top : (v : Vault) (o : Option History) → IfSome o (λ h. IsHeldEntry v h.entry) → IfOk (content_on_top o) (IsHeldVersion v)
on_top v None held = tt
on_top v (Some h) held = if_content v h h.entry.marker refl held

-- the entry of an id, where it is held there
pub record IsHeldUnder (v : Vault) (id : ℕ) (e : Entry) : Type 0 where
  pub there : entry_of v id ≡ Some e
  pub held : e.removal ≡ None

if_there : (v : Vault) (bucket key : List ℕ) (id : ℕ) (e : Entry) (b : Bool) → is_held_at bucket key e ≡ b → entry_of v id ≡ Some e → IfOk (if b then Ok e else Err NoSuchVersion) (IsHeldUnder v id)
if_there v bucket key id e true here there = record { there = there; held = held_at-held bucket key e here }
if_there v bucket key id e false here there = tt

there_of : (v : Vault) (bucket key : List ℕ) (id : ℕ) (o : Option Entry) → entry_of v id ≡ o → IfOk (held_there bucket key o) (IsHeldUnder v id)
there_of v bucket key id None there = tt
there_of v bucket key id (Some e) there = if_there v bucket key id e (is_held_at bucket key e) refl there

pub held_entry-is : (v : Vault) (bucket key : List ℕ) (id : ℕ) → IfOk (held_entry v bucket key id) (IsHeldUnder v id)
held_entry-is v bucket key id = there_of v bucket key id (entry_of v id) refl

under_own_id : (v : Vault) (id : ℕ) (e : Entry) → IsHeldUnder v id e → entry_of v e.id ≡ Some e
under_own_id v id e held = entry_of-own v id (Some e) (sym held.there)

if_version : (v : Vault) (e : Entry) (b : Bool) → e.marker ≡ b → entry_of v e.id ≡ Some e → e.removal ≡ None → IfOk (if b then Err MethodNotAllowed else Ok e) (IsHeldVersion v)
if_version v e true m there held = tt
if_version v e false m there held = record { there = there; held = held; version = m }

pub version_meant-is : (v : Vault) (bucket key : List ℕ) (id : Option ℕ) → Sound v → IfOk (version_meant v bucket key id) (IsHeldVersion v)
version_meant-is v bucket key None sound =
    on_top v (current v bucket key) (found_in (is_current v) (λ h. IsHeldEntry v h.entry) (held_at v bucket key) (held_among v bucket key sound))
version_meant-is v bucket key (Some id) sound =
    bind_if (held_entry v bucket key id) (IsHeldUnder v id) _ _ (held_entry-is v bucket key id)
    (λ e held. if_version v e e.marker refl (under_own_id v id e held) held.held)

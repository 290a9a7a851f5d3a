-- The entry that a key's head names is the current one.
use Rattle.std.proofs.Common.{◌≡◌, ℕ, List, [], ◌∷◌, length, Bool, true, false, Option, Some, None, Result, Ok, Err, refl, sym, ◌∙◌, ap, subst}
use Rattle.std.specs.Prelude.{IfOk, IfSome, option_map, find, if◌then◌else◌, ◌&&◌, ◌==◌}
use Rattle.vault_core_model.specs.declared.halt.Fault.{Fault}
use Rattle.vault_core_model.specs.declared.records.Entry.{Entry}
use Rattle.vault_core_model.specs.declared.records.Head.{Head}
use Rattle.vault_core_model.specs.declared.records.History.{History}
use Rattle.vault_core_model.specs.Vault.{Vault}
use Rattle.vault_core_model.specs.Places.{is_held, held_at, newer, is_current, current}
use Rattle.vault_core_model.specs.Reads.{entry_of, head_of}
use Rattle.vault_core_model.specs.Sound.{Sound}
use Rattle.vault_core_laws.proofs.Newest.{current-head, current-no_head, entry_of-own}
use Rattle.vault_core_laws.proofs.Tests.{none_is}

pub none_found : (v : Vault) (bucket key : List ℕ) (head : Option Head) → head ≡ None → head ≡ head_of v bucket key → None ≡ option_map (λ (h : History). h.entry) (current v bucket key)
none_found v bucket key head none is = rw (current-no_head v bucket key (sym is ∙ none)) refl

-- what was read at the head's id
entry_is_current : (v : Vault) (bucket key : List ℕ) (head : Head) → Sound v → head_of v bucket key ≡ Some head → entry_of v head.newest ≡ option_map (λ (h : History). h.entry) (current v bucket key)
entry_is_current v bucket key head sound e =
    let law = current-head v bucket key head sound e in rw (law.1, law.2) refl

pub newest_found : (v mid : Vault) (bucket key : List ℕ) (head : Head) (read : Option Head) (found : Result (Option Entry) Fault)
    → mid ≡ v → Sound v → read ≡ Some head → read ≡ head_of v bucket key
    → IfOk found (λ e. e ≡ entry_of mid head.newest)
    → IfOk found (λ e. e ≡ option_map (λ (h : History). h.entry) (current v bucket key))
newest_found v mid bucket key head read (Ok e) same sound some is found =
    found ∙ ap (λ w. entry_of w head.newest) same ∙ entry_is_current v bucket key head sound (sym is ∙ some)
newest_found v mid bucket key head read (Err f) same sound some is found = found

-- what was read by an id has that id
pub own_found : (v : Vault) (id : ℕ) (found : Result (Option Entry) Fault) → IfOk found (λ e. e ≡ entry_of v id) → IfOk found (λ e. IfSome e (λ entry. entry_of v entry.id ≡ Some entry))
own_found v id (Ok e) is = entry_of-own v id e is
own_found v id (Err f) is = is

-- the same, of an equal vault
pub own_after : (v mid : Vault) (found : Result (Option Entry) Fault) → mid ≡ v → IfOk found (λ e. IfSome e (λ entry. entry_of mid entry.id ≡ Some entry)) → IfOk found (λ e. IfSome e (λ entry. entry_of v entry.id ≡ Some entry))
own_after v mid found same own = let P : Vault → Type 0 = λ w. IfOk found (λ e. IfSome e (λ entry. entry_of w entry.id ≡ Some entry)) in subst P same own

-- ---- the current entry is held

first_held : (h : History) (rest : Option History) (held newest : Bool) → is_held h.entry ≡ held → IfSome rest (λ g. g.entry.removal ≡ None) → IfSome (if held && newest then Some h else rest) (λ g. g.entry.removal ≡ None)
first_held h rest true true e later = none_is h.entry.removal e
first_held h rest true false e later = later
first_held h rest false newest e later = later

current_held : (v : Vault) (hs : List History) → IfSome (find (is_current v) hs) (λ h. h.entry.removal ≡ None)
current_held v [] = tt
current_held v (h ∷ hs) = first_held h (find (is_current v) hs) (is_held h.entry) (length (newer v h) == 0) refl (current_held v hs)

entry_held : (o : Option History) → IfSome o (λ h. h.entry.removal ≡ None) → IfSome (option_map (λ (h : History). h.entry) o) (λ e. e.removal ≡ None)
entry_held None held = tt
entry_held (Some h) held = held

pub held_found : (v : Vault) (bucket key : List ℕ) (found : Result (Option Entry) Fault)
    → IfOk found (λ e. e ≡ option_map (λ (h : History). h.entry) (current v bucket key))
    → IfOk found (λ e. IfSome e (λ entry. entry.removal ≡ None))
held_found v bucket key (Ok e) is =
    let P : Option Entry → Type 0 = λ o. IfSome o (λ entry. entry.removal ≡ None) in
    subst P (sym is) (entry_held (current v bucket key) (current_held v (held_at v bucket key)))
held_found v bucket key (Err f) is = is

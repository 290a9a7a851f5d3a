-- Settings one after another, and the last of them.
use Rattle.std.proofs.Common.{◌≡◌, ◌∙◌, ℕ, ◌+◌, ◌-◌, ◌≤◌, ◌<◌, List, [], ◌∷◌, length, drop, get_or, true, false, Option, Some, None, refl, sym, ap}
use native.Mathlib.Numerals.{unary_clauses}
use Rattle.std.specs.Prelude.{IfOk, Result, Ok, Err, is_some}
use Rattle.std.specs.List.{slice_get}
use Rattle.std.proofs.lemmas.List.{drop_all, drop_more}
use Rattle.vault_core_model.specs.declared.halt.Fault.{Fault}
use Rattle.vault_core_model.specs.declared.records.Author.{Author}
use Rattle.vault_core_model.specs.declared.records.Setting.{Setting}
use Rattle.vault_core_model.specs.Vault.{Vault, last_lock}
use Rattle.vault_core_evidence.specs.declared.breach.Law.{Law}
use Rattle.vault_core_evidence.specs.Lawful.{last_at}
use Rattle.vault_core_evidence.specs.Breaches.{broken, first_tests, next_tests, after_tests, settings_tests}
use Rattle.vault_core_evidence.proofs.Tests.{stops, goes_on}

-- ---- the last of some settings

lock-at : (r : Setting) (rs : List Setting) (s : Setting) → slice_get (r ∷ rs) (length rs) ≡ Some s → last_lock (r ∷ rs) ≡ s.lock
lock-at r [] s is = let e : r ≡ s = cc in ap (λ (o : Setting). o.lock) e
lock-at r (q ∷ qs) s is = lock-at q qs s is

pub lock-last : (ss : List Setting) (s : Setting) → slice_get ss (length ss - 1) ≡ Some s → s.lock ≡ last_lock ss
lock-last [] s is = absurd (cc is)
lock-last (r ∷ rs) s is = sym (lock-at r rs s (simp unary_clauses at is))

moment-at : (from : ℕ) (r : Setting) (rs : List Setting) (s : Setting) → slice_get (r ∷ rs) (length rs) ≡ Some s → last_at from (r ∷ rs) ≡ s.at
moment-at from r [] s is = let e : r ≡ s = cc in ap (λ (o : Setting). o.at) e
moment-at from r (q ∷ qs) s is = moment-at from q qs s is

pub moment-last : (from : ℕ) (ss : List Setting) (s : Setting) → slice_get ss (length ss - 1) ≡ Some s → s.at ≡ last_at from ss
moment-last from [] s is = absurd (cc is)
moment-last from (r ∷ rs) s is = sym (moment-at from r rs s (simp unary_clauses at is))

-- ---- one after another

-- what all later settings break is what those from a place on break, after the one before them
abbrev pub Left : Vault → Setting → List Setting → Setting → ℕ → Type 0
Left v first later last i = broken (after_tests v first later) ≡ broken (after_tests v last (drop i later))

at_place : (v : Vault) (later : List Setting) (last next : Setting) (i : ℕ) → i < length later → next ≡ get_or later i next → broken (after_tests v last (drop i later)) ≡ broken (after_tests v last (next ∷ drop (i + 1) later))
at_place v later last next i low is =
    ap (λ ns. broken (after_tests v last ns)) (drop_more later i next low ∙ ap (λ (n : Setting). n ∷ drop (i + 1) later) (sym is))

pub left_stops : (v mid : Vault) (first last next : Setting) (later : List Setting) (i : ℕ) (found : Option Law) → mid ≡ v → i < length later → next ≡ get_or later i next → Left v first later last i → found ≡ broken (next_tests mid last next) → is_some found ≡ true → found ≡ broken (after_tests v first later)
left_stops v mid first last next later i found same low is left one some =
    stops (next_tests v last next) (after_tests v next (drop (i + 1) later)) found (one ∙ ap (λ w. broken (next_tests w last next)) same) some
    ∙ sym (left ∙ at_place v later last next i low is)

pub left_goes_on : (v mid : Vault) (first last next : Setting) (later : List Setting) (i : ℕ) (found : Option Law) → mid ≡ v → i < length later → next ≡ get_or later i next → Left v first later last i → found ≡ broken (next_tests mid last next) → is_some found ≡ false → Left v first later next (i + 1)
left_goes_on v mid first last next later i found same low is left one none =
    left ∙ (at_place v later last next i low is
    ∙ sym (goes_on (next_tests v last next) (after_tests v next (drop (i + 1) later)) found (broken (after_tests v next (drop (i + 1) later))) (one ∙ ap (λ w. broken (next_tests w last next)) same) none refl))

pub left_ends : (v : Vault) (first last : Setting) (later : List Setting) (i : ℕ) → length later ≤ i → Left v first later last i → None ≡ broken (after_tests v first later)
left_ends v first last later i le left = sym (left ∙ ap (λ ns. broken (after_tests v last ns)) (drop_all i later le))

-- ---- the first and the others

pub none_at_all : (v : Vault) (admitted : ℕ) (by : Author) (ss : List Setting) → ss ≡ [] → None ≡ broken (settings_tests v admitted by ss)
none_at_all v admitted by ss empty = sym (ap (λ xs. broken (settings_tests v admitted by xs)) empty)

pub first_stops : (v : Vault) (admitted : ℕ) (by : Author) (ss : List Setting) (first : Setting) (later : List Setting) (found : Option Law) → ss ≡ first ∷ later → found ≡ broken (first_tests v admitted by first) → is_some found ≡ true → found ≡ broken (settings_tests v admitted by ss)
first_stops v admitted by ss first later found split one some =
    stops (first_tests v admitted by first) (after_tests v first later) found one some ∙ sym (ap (λ xs. broken (settings_tests v admitted by xs)) split)

pub first_goes_on : (v mid : Vault) (admitted : ℕ) (by : Author) (ss : List Setting) (first : Setting) (later : List Setting) (found rest : Option Law) → mid ≡ v → ss ≡ first ∷ later → found ≡ broken (first_tests v admitted by first) → is_some found ≡ false → rest ≡ broken (after_tests mid first later) → rest ≡ broken (settings_tests v admitted by ss)
first_goes_on v mid admitted by ss first later found rest same split one none others =
    goes_on (first_tests v admitted by first) (after_tests v first later) found rest one none (others ∙ ap (λ w. broken (after_tests w first later)) same)
    ∙ sym (ap (λ xs. broken (settings_tests v admitted by xs)) split)

pub first_goes_on_if : (v mid : Vault) (admitted : ℕ) (by : Author) (ss : List Setting) (first : Setting) (later : List Setting) (found : Option Law) (r : Result (Option Law) Fault) → mid ≡ v → ss ≡ first ∷ later → found ≡ broken (first_tests v admitted by first) → is_some found ≡ false → IfOk r (λ rest. rest ≡ broken (after_tests mid first later)) → IfOk r (λ rest. rest ≡ broken (settings_tests v admitted by ss))
first_goes_on_if v mid admitted by ss first later found (Ok rest) same split one none others = first_goes_on v mid admitted by ss first later found rest same split one none others
first_goes_on_if v mid admitted by ss first later found (Err f) same split one none others = tt

-- No change takes a caller away, or its rights.
use Rattle.std.proofs.Common.{◌≡◌, ℕ, List, [], ◌∷◌, map, Bool, true, false, Option, Some, None, refl, sym, ap, subst, ◌∙◌}
use Rattle.std.specs.Prelude.{find, option_map, if◌then◌else◌}
use Rattle.std.specs.Str.{bytes_eq}
use Rattle.std.proofs.lemmas.Slice.Eq.{bytes_eq-Decides}
use Rattle.vault_core_model.specs.declared.change.Change.{Change}
use Rattle.vault_core_model.specs.declared.change.Change.TheVariants.{AddDept, AddCaller, CloseCaller, AddBucket, MoveBucket, SetDefault, SetRules, Admit, AddSetting, Remove}
use Rattle.vault_core_model.specs.declared.records.Caller.{Caller}
use Rattle.vault_core_model.specs.Order.{placed, caller_cmp}
use Rattle.vault_core_model.specs.Vault.{Vault}
use Rattle.vault_core_model.specs.Change.{changed, closed_if}
use Rattle.vault_core_model.specs.Sound.{Sound}
use Rattle.vault_core_laws.proofs.Buckets.{find-placed}
use Rattle.vault_core_laws.proofs.NameOrder.{name-closed}
use Rattle.vault_core_run_laws.specs.Callers.{IsStill, KeepsCallers}
use Rattle.vault_core_run_laws.specs.Chains.{MayMake}

abbrev Still : List Caller → List ℕ → Caller → Type 0
Still cs name c = (closed : Bool) × (find (λ d. bytes_eq d.name name) cs ≡ Some (record c { closed = closed })) × (c.closed ≡ true → closed ≡ true)

-- ---- a caller more

other_caller : (cs : List Caller) (new name : List ℕ) (c : Caller) (b : Bool) → bytes_eq new name ≡ b → find (λ d. bytes_eq d.name new) cs ≡ None → find (λ d. bytes_eq d.name name) cs ≡ Some c → b ≡ false
other_caller cs new name c false e free there = refl
other_caller cs new name c true e free there =
    let P : List ℕ → Type 0 = λ n. find (λ (d : Caller). bytes_eq d.name n) cs ≡ Some c in
    let here : find (λ (d : Caller). bytes_eq d.name new) cs ≡ Some c = subst P (sym ((bytes_eq-Decides new name).0 e)) there in
    absurd (cc (sym free ∙ here))

still_placed : (cs : List Caller) (new : Caller) (name : List ℕ) (c : Caller) → find (λ d. bytes_eq d.name new.name) cs ≡ None → find (λ d. bytes_eq d.name name) cs ≡ Some c → Still (placed caller_cmp new cs) name c
still_placed cs new name c free there = (
  c.closed,
  find-placed caller_cmp (λ d. bytes_eq d.name name) new cs (other_caller cs new.name name c (bytes_eq new.name name) refl free there) ∙ there,
  λ closed. closed,
)

-- ---- a caller closed

one_mapped : (f : Caller → Caller) (c : Caller) (more rest : Option Caller) (x y : Bool) → x ≡ y → more ≡ option_map f rest → (if x then Some (f c) else more) ≡ option_map f (if y then Some c else rest)
one_mapped f c more rest true true e later = refl
one_mapped f c more rest false false e later = later
one_mapped f c more rest true false e later = absurd (cc e)
one_mapped f c more rest false true e later = absurd (cc e)

find_mapped : (f : Caller → Caller) → ((c : Caller) → (f c).name ≡ c.name) → (cs : List Caller) (name : List ℕ) → find (λ d. bytes_eq d.name name) (map f cs) ≡ option_map f (find (λ d. bytes_eq d.name name) cs)
find_mapped f same [] name = refl
find_mapped f same (c ∷ cs) name =
    one_mapped f c (find (λ d. bytes_eq d.name name) (map f cs)) (find (λ d. bytes_eq d.name name) cs) (bytes_eq (f c).name name) (bytes_eq c.name name) (ap (λ n. bytes_eq n name) (same c)) (find_mapped f same cs name)

still_closed : (cs : List Caller) (gone name : List ℕ) (c : Caller) → find (λ d. bytes_eq d.name name) cs ≡ Some c → Still (map (closed_if gone) cs) name c
still_closed cs gone name c there =
    by_name (bytes_eq c.name gone) refl (find_mapped (closed_if gone) (name-closed gone) cs name ∙ ap (λ (o : Option Caller). option_map (closed_if gone) o) there)
  where
    by_name : (b : Bool) → bytes_eq c.name gone ≡ b → find (λ d. bytes_eq d.name name) (map (closed_if gone) cs) ≡ Some (if b then record c { closed = true } else c) → Still (map (closed_if gone) cs) name c
    by_name true e found = (true, found, λ closed. refl)
    by_name false e found = (c.closed, found, λ closed. closed)

-- ---- the changes

from_found : (v : Vault) (name : List ℕ) (c : Caller) → Still v.callers name c → IsStill v name c
from_found v name c still = record { closed = still.0; there = still.1; for_good = still.2 }

callers_changed : (v : Vault) (t : ℕ) (who : List ℕ) (c : Change) → MayMake v t who c → KeepsCallers v (changed v t c)
callers_changed v t who (AddDept name) may = λ n c there. record { closed = c.closed; there = there; for_good = λ e. e }
callers_changed v t who (AddCaller new) may = λ n c there. from_found (changed v t (AddCaller new)) n c (still_placed v.callers new n c may.allowed.0 there)
callers_changed v t who (CloseCaller gone) may = λ n c there. from_found (changed v t (CloseCaller gone)) n c (still_closed v.callers gone n c there)
callers_changed v t who (AddBucket name dept) may = λ n c there. record { closed = c.closed; there = there; for_good = λ e. e }
callers_changed v t who (MoveBucket name dept) may = λ n c there. record { closed = c.closed; there = there; for_good = λ e. e }
callers_changed v t who (SetDefault name default) may = λ n c there. record { closed = c.closed; there = there; for_good = λ e. e }
callers_changed v t who (SetRules name rules) may = λ n c there. record { closed = c.closed; there = there; for_good = λ e. e }
callers_changed v t who (Admit a) may = λ n c there. record { closed = c.closed; there = there; for_good = λ e. e }
callers_changed v t who (AddSetting id s) may = λ n c there. record { closed = c.closed; there = there; for_good = λ e. e }
callers_changed v t who (Remove id r) may = λ n c there. record { closed = c.closed; there = there; for_good = λ e. e }

pub keeps_itself : (v : Vault) → KeepsCallers v v
keeps_itself v n c there = record { closed = c.closed; there = there; for_good = λ e. e }

keeps_on : (u v w : Vault) → KeepsCallers u v → KeepsCallers v w → KeepsCallers u w
keeps_on u v w a b = λ n c there.
    let first = a n c there in
    let second = b n (record c { closed = first.closed }) first.there in
    record { closed = second.closed; there = second.there; for_good = λ e. second.for_good (first.for_good e) }

pub Callers-changed : (u v : Vault) (t : ℕ) (who : List ℕ) (c : Change) → Sound v → KeepsCallers u v → MayMake v t who c → KeepsCallers u (changed v t c)
Callers-changed u v t who c sound before may = keeps_on u v (changed v t c) before (callers_changed v t who c may)

-- Callers keep their rights.
use Rattle.std.proofs.Common.{◌≡◌, ℕ, List, [], ◌∷◌, map, Bool, true, false, Option, Some, None, refl, sym, ap, subst, ◌∙◌}
use Rattle.std.specs.Prelude.{find, if◌then◌else◌}
use Rattle.std.specs.Str.{bytes_eq}
use Rattle.std.proofs.lemmas.Slice.Eq.{bytes_eq-Decides}
use Rattle.vault_core_model.specs.declared.records.Caller.{Caller}
use Rattle.vault_core_model.specs.Order.{placed, caller_cmp}
use Rattle.vault_core_model.specs.Change.{closed_if}
use Rattle.vault_core_laws.proofs.Buckets.{find-placed}
use Rattle.vault_core_run_laws.specs.Bypass.{has_bypass}

-- the caller of that name is another, since the new name is free
other_caller : (cs : List Caller) (name other : List ℕ) (b : Bool) → bytes_eq name other ≡ b → find (λ c. bytes_eq c.name name) cs ≡ None → has_bypass (find (λ c. bytes_eq c.name other) cs) ≡ true → b ≡ false
other_caller cs name other false e free may = refl
other_caller cs name other true e free may =
    let P : List ℕ → Type 0 = λ n. has_bypass (find (λ (c : Caller). bytes_eq c.name n) cs) ≡ true in
    let here : has_bypass (find (λ (c : Caller). bytes_eq c.name name) cs) ≡ true = subst P (sym ((bytes_eq-Decides name other).0 e)) may in
    let Q : Option Caller → Type 0 = λ o. has_bypass o ≡ true in
    absurd (cc (subst Q free here))

pub rights-added : (cs : List Caller) (c : Caller) (who : List ℕ) → find (λ d. bytes_eq d.name c.name) cs ≡ None → has_bypass (find (λ d. bytes_eq d.name who) cs) ≡ true → has_bypass (find (λ d. bytes_eq d.name who) (placed caller_cmp c cs)) ≡ true
rights-added cs c who free may =
    ap has_bypass (find-placed caller_cmp (λ d. bytes_eq d.name who) c cs (other_caller cs c.name who (bytes_eq c.name who) refl free may)) ∙ may

one-closed : (who : List ℕ) (c : Caller) (more rest : Option Caller) (b x : Bool) → bytes_eq c.name who ≡ x → has_bypass more ≡ has_bypass rest → has_bypass (if bytes_eq (if b then record c { closed = true } else c).name who then Some (if b then record c { closed = true } else c) else more) ≡ has_bypass (if x then Some c else rest)
one-closed who c more rest true true e later = rw e refl
one-closed who c more rest true false e later = rw e later
one-closed who c more rest false true e later = rw e refl
one-closed who c more rest false false e later = rw e later

pub rights-closed : (cs : List Caller) (name who : List ℕ) → has_bypass (find (λ d. bytes_eq d.name who) (map (closed_if name) cs)) ≡ has_bypass (find (λ d. bytes_eq d.name who) cs)
rights-closed [] name who = refl
rights-closed (c ∷ cs) name who = one-closed who c (find (λ d. bytes_eq d.name who) (map (closed_if name) cs)) (find (λ d. bytes_eq d.name who) cs) (bytes_eq c.name name) (bytes_eq c.name who) refl (rights-closed cs name who)

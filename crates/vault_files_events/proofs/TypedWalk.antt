-- What is read of each entry on a walk is of its type.
use Rattle.std.proofs.Common.{◌≡◌, ℕ, zero, suc, ◌+◌, ◌<◌, List, [], ◌∷◌, length, take, Option, Some, None, Result, Ok, Err, IfOk, IfSome, ap, subst, ◌∙◌, arith, slice_get}
use Rattle.std.specs.List.{AllByRecursion}
use Rattle.vault_core_model.specs.declared.records.History.{History}
use Rattle.vault_core_model.specs.Sound.{Sound}
use Rattle.vault_core_model.specs.Vault.{Vault, history_of}
use Rattle.vault_files_events.specs.declared.past.Past.{Past}
use Rattle.vault_files_events.specs.Past.{past_of}
use Rattle.vault_files_events.specs.Typed.{IsTyped}
use Rattle.vault_files_events.proofs.Walking.{history_at}

-- an answer of a walk, and what is known however much was counted
pub on_ok : {T E P : Type 0} (r : Result T E) → P → IfOk r (λ n. P)
on_ok (Ok x) known = known
on_ok (Err e) known = tt

pub typed_found : (o : Option History) (p : Option Past) → p ≡ past_of o → IfSome p (λ q. IsTyped q.entry) → IfSome o (λ h. IsTyped h.entry)
typed_found None p is typed = tt
typed_found (Some h) p is typed = let P : Option Past → Type 0 = λ q. IfSome q (λ r. IsTyped r.entry) in subst P is typed

one_typed : (hs : List History) (i : ℕ) → i < length hs → AllByRecursion (λ h. IsTyped h.entry) (take i hs) → IfSome (slice_get hs i) (λ h. IsTyped h.entry) → AllByRecursion (λ h. IsTyped h.entry) (take (suc i) hs)
one_typed [] i low are is = absurd (omega (arith, low))
one_typed (h ∷ hs) zero low are is = (is, tt)
one_typed (h ∷ hs) (suc i) low are is = (are.0, one_typed hs i (omega (arith, low)) are.1 is)

pub next_typed : (v : Vault) (i id : ℕ) → Sound v → i < length v.histories → i + 1 ≡ id → AllByRecursion (λ h. IsTyped h.entry) (take i v.histories) → IfSome (history_of v id) (λ h. IsTyped h.entry)
    → AllByRecursion (λ h. IsTyped h.entry) (take (i + 1) v.histories)
next_typed v i id sound low same are is =
    let k : id ≡ 1 + i = omega (arith, same) in
    let next : suc i ≡ i + 1 = omega arith in
    let there : IfSome (slice_get v.histories i) (λ h. IsTyped h.entry) = subst (λ (o : Option History). IfSome o (λ h. IsTyped h.entry)) (ap (history_of v) k ∙ history_at v i sound) is in
    subst (λ n. AllByRecursion (λ h. IsTyped h.entry) (take n v.histories)) next (one_typed v.histories i low are there)

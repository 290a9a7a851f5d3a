-- What the judgements of all parts say of a vault.
use Rattle.std.proofs.Common.{◌≡◌, ℕ, zero, suc, List, [], ◌∷◌, ◌++◌, length, take, drop, true, Some, None, sym, subst}
use Rattle.std.specs.List.{AllByRecursion}
use Rattle.vault_core_model.specs.declared.records.History.{History}
use Rattle.vault_core_model.specs.Vault.{Vault}
use Rattle.vault_core_evidence.specs.Breaches.{first_breach}
use Rattle.vault_core_evidence.specs.Departments.{Agree, AllAgree}
use Rattle.vault_core_evidence.specs.Lawful.{IsLawful, has_registrar}
use Rattle.vault_core_evidence.specs.Moves.{IsByMove}
use Rattle.vault_core_evidence.specs.Parts.{LawfulAfter, most_of, next_of, part, part_breach}
use Rattle.vault_core_evidence.proofs.FirstBreach.{first-departments, first-lawful, first-moves, first-registrar, list-agrees, list-lawful, list-registrar, lawful-list}
use Rattle.vault_core_evidence.proofs.PartLemmas.{part-and-rest, part-is-rest}

All-append : {X : Type 0} (P : X → Type 0) (xs ys : List X) → AllByRecursion P xs → AllByRecursion P ys → AllByRecursion P (xs ++ ys)
All-append P [] ys first then = then
All-append P (x ∷ xs) ys first then = (first.0, All-append P xs ys first.1 then)

All-take : {X : Type 0} (P : X → Type 0) (n : ℕ) (xs : List X) → AllByRecursion P xs → AllByRecursion P (take n xs)
All-take P zero xs all = tt
All-take P (suc n) [] all = tt
All-take P (suc n) (x ∷ xs) all = (all.0, All-take P n xs all.1)

All-drop : {X : Type 0} (P : X → Type 0) (n : ℕ) (xs : List X) → AllByRecursion P xs → AllByRecursion P (drop n xs)
All-drop P zero xs all = all
All-drop P (suc n) [] all = tt
All-drop P (suc n) (x ∷ xs) all = All-drop P n xs all.1

pub next-lawful : (v : Vault) (after next : ℕ) → next_of (length v.histories) after ≡ Some next → part_breach after v ≡ None → LawfulAfter next v → LawfulAfter after v
next-lawful v after next is none rest =
    subst (λ (hs : List History). AllByRecursion (IsLawful v) hs) (sym (part-and-rest v after next is))
    (All-append (IsLawful v) (part after v) (drop next v.histories) (list-lawful v (part after v) none) rest)

pub last-lawful : (v : Vault) (after : ℕ) → next_of (length v.histories) after ≡ None → part_breach after v ≡ None → LawfulAfter after v
last-lawful v after is none =
    subst (λ (hs : List History). AllByRecursion (IsLawful v) hs) (sym (part-is-rest v after is)) (list-lawful v (part after v) none)

Agree-take : (n : ℕ) (hs : List History) → AllAgree hs → AllAgree (take n hs)
Agree-take zero hs all = tt
Agree-take (suc n) [] all = tt
Agree-take (suc n) (h ∷ hs) all = (All-take (Agree h) n hs all.0, Agree-take n hs all.1)

Agree-drop : (n : ℕ) (hs : List History) → AllAgree hs → AllAgree (drop n hs)
Agree-drop zero hs all = all
Agree-drop (suc n) [] all = tt
Agree-drop (suc n) (h ∷ hs) all = Agree-drop n hs all.1

pub part-agrees : (v : Vault) (after : ℕ) → part_breach after v ≡ None → AllAgree (part after v) × (has_registrar v ≡ true)
part-agrees v after none = (list-agrees v (part after v) none, list-registrar v (part after v) none)

pub part-clean : (v : Vault) (after : ℕ) → first_breach v ≡ None → part_breach after v ≡ None
part-clean v after none =
    let most = most_of (length v.histories) after in
    let agree = first-moves v none in
    let ByMoves : History → Type 0 = λ h. AllByRecursion (IsByMove agree.0 h.entry.bucket) h.tenures in
    lawful-list v agree.0 (part after v)
    (All-take (IsLawful v) most (drop after v.histories) (All-drop (IsLawful v) after v.histories (first-lawful v none)))
    (All-take ByMoves most (drop after v.histories) (All-drop ByMoves after v.histories agree.1))
    (Agree-take most (drop after v.histories) (Agree-drop after v.histories (first-departments v none)))
    (first-registrar v none)

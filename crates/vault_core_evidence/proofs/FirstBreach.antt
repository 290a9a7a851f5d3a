-- No entry breaks a law exactly where the vault is lawful, its tenures agree on the moves and the departments, and the caller of a new vault is there.
use Rattle.std.proofs.Common.{◌≡◌, ℕ, List, [], ◌∷◌, Bool, true, false, Option, Some, None, refl, ap, inl, inr}
use Rattle.std.specs.Prelude.{unwrap_or, if◌then◌else◌}
use Rattle.std.specs.List.{AllByRecursion}
use Rattle.vault_core_model.specs.declared.records.History.{History}
use Rattle.vault_core_model.specs.declared.records.Tenure.{Tenure}
use Rattle.vault_core_model.specs.Vault.{Vault}
use Rattle.vault_core_laws.proofs.Lists.{All-both, All-weaker}
use Rattle.vault_core_evidence.specs.declared.breach.Breach.{Breach}
use Rattle.vault_core_evidence.specs.declared.breach.Law.{Law}
use Rattle.vault_core_evidence.specs.declared.seen_moves.Move.{Move}
use Rattle.vault_core_evidence.specs.declared.breach.Law.TheVariants as law
use Rattle.vault_core_evidence.specs.Departments.{Agree, AllAgree, DepartmentsAgree}
use Rattle.vault_core_evidence.specs.Lawful.{IsLawful, Lawful, has_registrar}
use Rattle.vault_core_evidence.specs.Moves.{IsByMove, AreByMoves, MovesAgree, none_seen, seen_after}
use Rattle.vault_core_evidence.specs.Breaches.{breach, breach_of_list, breach_or, first_breach_after, first_breach}
use Rattle.vault_core_evidence.proofs.BreachLaws.{breach-lawful, lawful-breach}
use Rattle.vault_core_evidence.proofs.MoveTests.{Stays, stays_after, IsIn, in_later, all_in, IsOf, are_by}

abbrev seen_over : (ℕ → Option Move) → List History → ℕ → Option Move
seen_over book [] n = book n
seen_over book (h ∷ hs) n = seen_over (seen_after book h.entry.bucket h.tenures) hs n

abbrev AreIn : (ℕ → Option Move) → List History → Type 0
AreIn book hs = AllByRecursion (λ h. AllByRecursion (IsIn book h.entry.bucket) h.tenures) hs

none_broken : (id : ℕ) (o : Option Law) (later : Option Breach) → breach_or id o later ≡ None → (o ≡ None) × (later ≡ None)
none_broken id None later e = (refl, e)
none_broken id (Some l) later e = absurd (cc e)

tenures_in : (book later : ℕ → Option Move) (bucket : List ℕ) (ts : List Tenure) → Stays book later → AllByRecursion (IsIn book bucket) ts → AllByRecursion (IsIn later bucket) ts
tenures_in book later bucket ts stays all = All-weaker (IsIn book bucket) (IsIn later bucket) (λ t is. in_later book later bucket t stays is) ts all

-- each of these agrees with each of those before them
abbrev AgreeBeside : List History → List History → Type 0
AgreeBeside before hs = AllByRecursion (λ h. AllByRecursion (λ g. Agree g h) before) hs

record Passed (v : Vault) (book : ℕ → Option Move) (before hs : List History) : Type 0 where
  lawful : AllByRecursion (IsLawful v) hs
  seen : AreIn (seen_over book hs) hs
  stays : Stays book (seen_over book hs)
  beside : AgreeBeside before hs
  agree : AllAgree hs

passed : (v : Vault) (book : ℕ → Option Move) (before hs : List History) → first_breach_after v book before hs ≡ None → Passed v book before hs
passed v book before [] e = record { lawful = tt; seen = tt; stays = λ n m is. is; beside = tt; agree = tt }
passed v book before (h ∷ hs) e =
    let next = seen_after book h.entry.bucket h.tenures in
    let none = none_broken h.entry.id (breach v book before h) (first_breach_after v next (h ∷ before) hs) e in
    let one = breach-lawful v book before h none.0 in
    let rest = passed v next (h ∷ before) hs none.1 in
    record {
      lawful = (one.0, rest.lawful);
      seen = (tenures_in next (seen_over next hs) h.entry.bucket h.tenures rest.stays (all_in book h.entry.bucket h.tenures one.1), rest.seen);
      stays = λ n m is. rest.stays n m (stays_after book h.entry.bucket h.tenures one.1 n m is);
      beside = (one.2, All-weaker (λ g. AllByRecursion (λ b. Agree b g) (h ∷ before)) (λ g. AllByRecursion (λ b. Agree b g) before) (λ g all. all.1) hs rest.beside);
      agree = (All-weaker (λ g. AllByRecursion (λ b. Agree b g) (h ∷ before)) (Agree h) (λ g all. all.0) hs rest.beside, rest.agree);
    }

if_registrar : (b : Bool) (o : Option Breach) (other : Breach) → (if b then o else Some other) ≡ None → (b ≡ true) × (o ≡ None)
if_registrar true o other e = (refl, e)
if_registrar false o other e = absurd (cc e)

-- the caller of a new vault is there, and these entries break no law
list_none : (v : Vault) (hs : List History) → breach_of_list v hs ≡ None → (has_registrar v ≡ true) × (first_breach_after v none_seen [] hs ≡ None)
list_none v hs e = if_registrar (has_registrar v) (first_breach_after v none_seen [] hs) (record { id = 1; law = law.Registrar }) e

list_passed : (v : Vault) (hs : List History) → breach_of_list v hs ≡ None → Passed v none_seen [] hs
list_passed v hs e = passed v none_seen [] hs (list_none v hs e).1

no_move : Move
no_move = record { bucket = []; dept = []; from = 0 }

-- the moves of a book
abbrev moves_in : (ℕ → Option Move) → ℕ → Move
moves_in book n = unwrap_or (book n) no_move

by_book : (book : ℕ → Option Move) (bucket : List ℕ) (t : Tenure) → IsIn book bucket t → IsByMove (moves_in book) bucket t
by_book book bucket t (inl first) = inl first
by_book book bucket t (inr is) = inr (ap (λ (o : Option Move). unwrap_or o no_move) is)

are_by_book : (book : ℕ → Option Move) (hs : List History) → AreIn book hs → AreByMoves (moves_in book) hs
are_by_book book hs all =
    All-weaker (λ h. AllByRecursion (IsIn book h.entry.bucket) h.tenures) (λ h. AllByRecursion (IsByMove (moves_in book) h.entry.bucket) h.tenures)
    (λ h is. All-weaker (IsIn book h.entry.bucket) (IsByMove (moves_in book) h.entry.bucket) (λ t i. by_book book h.entry.bucket t i) h.tenures is) hs all

-- ---- of some entries

pub list-lawful : (v : Vault) (hs : List History) → breach_of_list v hs ≡ None → AllByRecursion (IsLawful v) hs
list-lawful v hs e = (list_passed v hs e).lawful

pub list-agrees : (v : Vault) (hs : List History) → breach_of_list v hs ≡ None → AllAgree hs
list-agrees v hs e = (list_passed v hs e).agree

pub list-registrar : (v : Vault) (hs : List History) → breach_of_list v hs ≡ None → has_registrar v ≡ true
list-registrar v hs e = (list_none v hs e).0

clean : (v : Vault) (moves : ℕ → Move) (book : ℕ → Option Move) (before hs : List History) → IsOf moves book → AllByRecursion (IsLawful v) hs → AreByMoves moves hs → AgreeBeside before hs → AllAgree hs → first_breach_after v book before hs ≡ None
clean v moves book before [] of lawful agree beside each = refl
clean v moves book before (h ∷ hs) of lawful agree beside each =
    let one = are_by moves book h.entry.bucket h.tenures of agree.0 in
    let next = All-both (Agree h) (λ g. AllByRecursion (λ b. Agree b g) before) (λ g. AllByRecursion (λ b. Agree b g) (h ∷ before)) (λ g a b. (a, b)) hs each.0 beside.1 in
    rw (lawful-breach v book before h lawful.0 one.0 beside.0) (clean v moves (seen_after book h.entry.bucket h.tenures) (h ∷ before) hs one.1 lawful.1 agree.1 next each.1)

none_beside : (hs : List History) → AgreeBeside [] hs
none_beside [] = tt
none_beside (h ∷ hs) = (tt, none_beside hs)

with_registrar : (b : Bool) (o : Option Breach) (other : Breach) → b ≡ true → o ≡ None → (if b then o else Some other) ≡ None
with_registrar true o other e none = none
with_registrar false o other e none = absurd (cc e)

pub lawful-list : (v : Vault) (moves : ℕ → Move) (hs : List History) → AllByRecursion (IsLawful v) hs → AreByMoves moves hs → AllAgree hs → has_registrar v ≡ true → breach_of_list v hs ≡ None
lawful-list v moves hs lawful agree each registrar =
    with_registrar (has_registrar v) (first_breach_after v none_seen [] hs) (record { id = 1; law = law.Registrar }) registrar
    (clean v moves none_seen [] hs (λ n m is. absurd (cc is)) lawful agree (none_beside hs) each)

-- ---- of all

pub first-lawful : (v : Vault) → first_breach v ≡ None → Lawful v
first-lawful v e = list-lawful v v.histories e

pub first-moves : (v : Vault) → first_breach v ≡ None → MovesAgree v
first-moves v e = (moves_in (seen_over none_seen v.histories), are_by_book (seen_over none_seen v.histories) v.histories (list_passed v v.histories e).seen)

pub first-departments : (v : Vault) → first_breach v ≡ None → DepartmentsAgree v
first-departments v e = list-agrees v v.histories e

pub first-registrar : (v : Vault) → first_breach v ≡ None → has_registrar v ≡ true
first-registrar v e = list-registrar v v.histories e

pub lawful-first : (v : Vault) → Lawful v → MovesAgree v → DepartmentsAgree v → has_registrar v ≡ true → first_breach v ≡ None
lawful-first v lawful agree each registrar = lawful-list v agree.0 v.histories lawful agree.1 each registrar

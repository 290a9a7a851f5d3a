-- Turns, one after another, and how many of them took a request or a line.
use Rattle.std.proofs.Common.{◌≡◌, ◌+◌, ◌≤◌, ℕ, List, [], ◌∷◌, ◌++◌, length, Option, None, Some, Result, Ok, Err, refl, subst, arith}
use Rattle.std.proofs.lemmas.List.{length-append}
use Rattle.vault_core_model.specs.Vault.{Vault}
use Rattle.vault_core.specs.Hearing.{AtMostOne}
use Rattle.vaultctl_serve.specs.Serving.{Missed, Next, ReadsAs, Stepped, SteppedAt, Taken, Tries, Try}
use Rattle.vaultctl_serve.proofs.ServingLemmas.{OnTime-none, Stepped-append, Stepped-more, Stepped-none, Stepped-one, SteppedAt-append}
use Rattle.vaultctl_replay.specs.declared.fault.ReplayFault.{ReplayFault}
use Rattle.vaultctl_serve_lines.specs.Doors.{SteppedInTurns, taken_by, taken_in, turn_after}
use Rattle.vaultctl_serve_lines_answers.specs.declared.line.Next.{Next as AnyNext}
use Rattle.vaultctl_serve_lines_answers.specs.declared.line.Next.TheVariants as next
use Rattle.vaultctl_serve_lines.specs.declared.turns.Turn.{Turn}

pub taken-append : (tries more : List Try) → taken_in (tries ++ more) ≡ taken_in tries + taken_in more
taken-append [] more = omega arith
taken-append (Taken moment ∷ tries) more = omega (arith, taken-append tries more)
taken-append (Missed ∷ tries) more = taken-append tries more

taken-bound : (tries : List Try) → taken_in tries ≤ length tries
taken-bound [] = omega arith
taken-bound (Taken moment ∷ tries) = omega (arith, taken-bound tries)
taken-bound (Missed ∷ tries) = omega (arith, taken-bound tries)

-- ---- known turns, one after another

next-append : (all mid later tries more : List Try) → Next all mid tries → Next mid later more → Next all later (tries ++ more)
next-append all mid later [] more x y = let P : List Try → Type 0 = λ known. Next known later more in subst P x y
next-append [] mid later (try ∷ tries) more x y = (x.0, next-append [] mid later tries more x.1 y)
next-append (known ∷ all) mid later (try ∷ tries) more x y = (x.0, next-append all mid later tries more x.1 y)

pub known-append : (u v w : Option (List Try)) (tries more : List Try) → Tries u v tries → Tries v w more → Tries u w (tries ++ more)
known-append None v w tries more x y = tt
known-append (Some all) None w tries more x y = absurd x
known-append (Some all) (Some mid) None tries more x y = absurd y
known-append (Some all) (Some mid) (Some later) tries more x y = next-append all mid later tries more x y

-- ---- turns

-- a turn whose line was answered
pub takes-one : (answered : Result AnyNext ReplayFault) (made : Turn) → made ≡ turn_after answered → 1 ≡ taken_by made
takes-one (Ok next.On) made is = rw is refl
takes-one (Ok next.End) made is = rw is refl
takes-one (Err fault) made is = rw is refl

-- nothing was waited for
pub Turns-none : (known : Option (List Try)) (vault : Vault) → SteppedInTurns 0 0 known known vault vault
Turns-none known vault = let timely = OnTime-none known vault in (timely.0, timely.1, omega (arith, taken-bound timely.0, timely.1), timely.2, timely.3)

-- a request or a line was taken
pub Turns-taken : (before after : Option (List Try)) (shown moment : Option ℕ) (old new : Vault) → Tries before after (Taken shown ∷ []) → ReadsAs after shown moment → AtMostOne moment old new → SteppedInTurns 1 1 before after old new
Turns-taken None after shown moment old new tries reads once = (Taken moment ∷ [], refl, refl, tt, (new, once, refl))
Turns-taken (Some all) None shown moment old new tries reads once = absurd tries
Turns-taken (Some all) (Some later) shown moment old new tries reads once =
    let P : Option ℕ → Type 0 = λ m. AtMostOne m old new in
    (Taken shown ∷ [], refl, refl, tries, (new, subst P reads once, refl))

pub Turns-append : (turns more n m : ℕ) (before mid after : Option (List Try)) (old between new : Vault) → SteppedInTurns turns n before mid old between → SteppedInTurns more m mid after between new → SteppedInTurns (turns + more) (n + m) before after old new
Turns-append turns more n m before mid after old between new first second = (
  first.0 ++ second.0,
  omega (arith, length-append first.0 second.0, first.1, second.1),
  omega (arith, taken-append first.0 second.0, first.2, second.2),
  known-append before mid after first.0 second.0 first.3 second.3,
  SteppedAt-append first.0 second.0 old between new first.4 second.4,
)

taken-stepped : (tries : List Try) (old new : Vault) → SteppedAt tries old new → Stepped (taken_in tries) old new
taken-stepped [] old new same = Stepped-none 0 old new same
taken-stepped (Taken moment ∷ tries) old new stepped =
    Stepped-append 1 (taken_in tries) old stepped.0 new (Stepped-one moment old stepped.0 stepped.1) (taken-stepped tries stepped.0 new stepped.2)
taken-stepped (Missed ∷ tries) old new stepped = taken-stepped tries old new stepped

pub Turns-stepped : (turns n most : ℕ) (before after : Option (List Try)) (old new : Vault) → n ≤ most → SteppedInTurns turns n before after old new → Stepped most old new
Turns-stepped turns n most before after old new within made = Stepped-more (taken_in made.0) most old new (omega (arith, within, made.2)) (taken-stepped made.0 old new made.4)

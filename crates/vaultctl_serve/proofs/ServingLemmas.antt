-- Steps of connections, one after another, and the tries in which these are taken.
use Rattle.std.proofs.Common.{◌≡◌, ◌+◌, ◌≤◌, ℕ, Bool, true, List, [], ◌∷◌, ◌++◌, length, Option, None, Some, refl, sym, subst, inl, inr, arith}
use Rattle.std.proofs.lemmas.List.{length-append}
use Rattle.vault_core_model.specs.Step.{Reached}
use Rattle.vault_core_model.specs.Vault.{Vault}
use Rattle.vault_core_model.specs.declared.command.Timed.{Timed}
use Rattle.vault_core_model.specs.declared.reply.Reply.{Reply}
use Rattle.vault_core_laws.proofs.Runs.{IsRun-append}
use Rattle.vault_core.proofs.StepLemmas.{run-reached}
use Rattle.vault_core.specs.Hearing.{AreHeard, HearsAll, HearsOnce, HearsSome}
use Rattle.vault_core.specs.Hearing.{AtMostOne}
use Rattle.vaultctl_serve.specs.Serving.{Missed, Next, ReadsAs, Stepped, SteppedAt, SteppedOnTime, SteppedWhile, Taken, Tries, Try}

-- ---- steps

-- no command was carried out
pub Stepped-none : (most : ℕ) (old new : Vault) → new ≡ old → Stepped most old new
Stepped-none most old new same = ([], [], omega arith, same)

pub Stepped-one : (moment : Option ℕ) (old new : Vault) → AtMostOne moment old new → Stepped 1 old new
Stepped-one moment old new once = elim once [
  | inl same ↦ Stepped-none 1 old new same
  | inr step ↦ (record { at = step.0; who = step.1; command = step.2 } ∷ [], step.3 ∷ [], omega arith, (new, step.5, refl))
]

pub Stepped-append : (few more : ℕ) (old mid new : Vault) → Stepped few old mid → Stepped more mid new → Stepped (few + more) old new
Stepped-append few more old mid new first second = (
  first.0 ++ second.0,
  first.1 ++ second.1,
  omega (arith, length-append first.0 second.0, first.2, second.2),
  IsRun-append old mid new first.0 second.0 first.1 second.1 first.3 second.3,
)

pub Stepped-more : (few most : ℕ) (old new : Vault) → few ≤ most → Stepped few old new → Stepped most old new
Stepped-more few most old new within stepped = (stepped.0, stepped.1, omega (arith, stepped.2, within), stepped.3)

pub Stepped-reached : (most : ℕ) (old new : Vault) → Stepped most old new → Reached old → Reached new
Stepped-reached most old new stepped before = run-reached old new stepped.0 stepped.1 before stepped.3

-- ---- steps of tries

pub SteppedAt-append : (tries more : List Try) (old mid new : Vault) → SteppedAt tries old mid → SteppedAt more mid new → SteppedAt (tries ++ more) old new
SteppedAt-append [] more old mid new same second = let P : Vault → Type 0 = λ v. SteppedAt more v new in subst P same second
SteppedAt-append (Taken moment ∷ tries) more old mid new first second = (first.0, first.1, SteppedAt-append tries more first.0 mid new first.2 second)
SteppedAt-append (Missed ∷ tries) more old mid new first second = SteppedAt-append tries more old mid new first second

SteppedAt-stepped : (tries : List Try) (old new : Vault) → SteppedAt tries old new → Stepped (length tries) old new
SteppedAt-stepped [] old new same = Stepped-none 0 old new same
SteppedAt-stepped (Taken moment ∷ tries) old new stepped =
    Stepped-more (1 + length tries) (length (Taken moment ∷ tries)) old new (omega arith)
    (Stepped-append 1 (length tries) old stepped.0 new (Stepped-one moment old stepped.0 stepped.1) (SteppedAt-stepped tries stepped.0 new stepped.2))
SteppedAt-stepped (Missed ∷ tries) old new stepped =
    Stepped-more (length tries) (length (Missed ∷ tries)) old new (omega arith) (SteppedAt-stepped tries old new stepped)

-- ---- known tries

Tries-none : (known : Option (List Try)) → Tries known known []
Tries-none None = tt
Tries-none (Some all) = refl

Next-append : (all mid later tries more : List Try) → Next all mid tries → Next mid later more → Next all later (tries ++ more)
Next-append all mid later [] more x y = let P : List Try → Type 0 = λ known. Next known later more in subst P x y
Next-append [] mid later (try ∷ tries) more x y = (x.0, Next-append [] mid later tries more x.1 y)
Next-append (known ∷ all) mid later (try ∷ tries) more x y = (x.0, Next-append all mid later tries more x.1 y)

Tries-append : (u v w : Option (List Try)) (tries more : List Try) → Tries u v tries → Tries v w more → Tries u w (tries ++ more)
Tries-append None v w tries more x y = tt
Tries-append (Some all) None w tries more x y = absurd x
Tries-append (Some all) (Some mid) None tries more x y = absurd y
Tries-append (Some all) (Some mid) (Some later) tries more x y = Next-append all mid later tries more x y

-- ---- both

-- none was made
pub OnTime-none : (known : Option (List Try)) (vault : Vault) → SteppedOnTime 0 known known vault vault
OnTime-none known vault = ([], refl, Tries-none known, refl)

-- no connection could be taken, and the vault is as it was
pub OnTime-missed : (before mid after : Option (List Try)) (old new : Vault) → Tries before mid (Missed ∷ []) → after ≡ mid → new ≡ old → SteppedOnTime 1 before after old new
OnTime-missed before mid after old new tries stays same =
    let P : Option (List Try) → Type 0 = λ known. Tries before known (Missed ∷ []) in
    (Missed ∷ [], refl, subst P (sym stays) tries, same)

-- one was taken
pub OnTime-taken : (before after : Option (List Try)) (shown moment : Option ℕ) (old new : Vault) → Tries before after (Taken shown ∷ []) → ReadsAs after shown moment → AtMostOne moment old new → SteppedOnTime 1 before after old new
OnTime-taken None after shown moment old new tries reads once = (Taken moment ∷ [], refl, tt, (new, once, refl))
OnTime-taken (Some all) None shown moment old new tries reads once = absurd tries
OnTime-taken (Some all) (Some later) shown moment old new tries reads once =
    let P : Option ℕ → Type 0 = λ m. AtMostOne m old new in
    (Taken shown ∷ [], refl, tries, (new, subst P reads once, refl))

pub OnTime-append : (n m : ℕ) (before mid after : Option (List Try)) (old between new : Vault) → SteppedOnTime n before mid old between → SteppedOnTime m mid after between new → SteppedOnTime (n + m) before after old new
OnTime-append n m before mid after old between new first second = (
  first.0 ++ second.0,
  omega (arith, length-append first.0 second.0, first.1, second.1),
  Tries-append before mid after first.0 second.0 first.2 second.2,
  SteppedAt-append first.0 second.0 old between new first.3 second.3,
)

pub OnTime-stepped : (n : ℕ) (before after : Option (List Try)) (old new : Vault) → SteppedOnTime n before after old new → Stepped n old new
OnTime-stepped n before after old new timely = Stepped-more (length timely.0) n old new (omega (arith, timely.1)) (SteppedAt-stepped timely.0 old new timely.3)

-- as many were made as there were to be
pub While-all : (going : Bool) (n most : ℕ) (before after : Option (List Try)) (old new : Vault) → n ≡ most → SteppedOnTime n before after old new → SteppedWhile going most before after old new
While-all going n most before after old new all timely = (n, omega (arith, all), λ _. all, timely)

-- ---- what is heard

module _ {J : Type 0} (going : J → Bool) (hears : J → Timed → Reply → J → Type 0) where
  pub HearsAll-none : (who : J) (vault : Vault) → HearsAll going hears who who vault vault
  HearsAll-none who vault = ([], [], refl, refl)

  HearsAll-one : (before after : J) (moment : Option ℕ) (old new : Vault) → going before ≡ true → HearsOnce hears before after moment old new → HearsAll going hears before after old new
  HearsAll-one before after moment old new may once = elim once [
    | inl same ↦ ([], [], same.0, same.1)
    | inr step ↦ (step.0 ∷ [], step.1 ∷ [], (new, step.3, refl), (may, after, step.4, refl))
  ]

  AreHeard-append : (before mid after : J) (cs ds : List Timed) (rs ss : List Reply) → AreHeard going hears before mid cs rs → AreHeard going hears mid after ds ss → AreHeard going hears before after (cs ++ ds) (rs ++ ss)
  AreHeard-append before mid after [] ds [] ss first second = let P : J → Type 0 = λ who. AreHeard going hears who after ds ss in subst P first second
  AreHeard-append before mid after [] ds (r ∷ rs) ss first second = absurd first
  AreHeard-append before mid after (c ∷ cs) ds [] ss first second = absurd first
  AreHeard-append before mid after (c ∷ cs) ds (r ∷ rs) ss first second = (first.0, first.1, first.2, AreHeard-append first.1 mid after cs ds rs ss first.3 second)

  -- one turn more, while it might be taken
  pub HearsAll-more : (before between after : J) (old mid new : Vault) → HearsAll going hears before between old mid → going between ≡ true → HearsSome hears between after mid new → HearsAll going hears before after old new
  HearsAll-more before between after old mid new first may some =
      let second = HearsAll-one between after some.0 mid new may some.1 in (
        first.0 ++ second.0,
        first.1 ++ second.1,
        IsRun-append old mid new first.0 second.0 first.1 second.1 first.2 second.2,
        AreHeard-append before between after first.0 second.0 first.1 second.1 first.3 second.3,
      )

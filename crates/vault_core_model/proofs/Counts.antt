-- Counts of failures.
use Rattle.std.proofs.Common.{◌≡◌, ◌≤◌, ◌<◌, ◌+◌, ℕ, Bool, true, false, IsTrue, refl, arith, subst, sym}
use Rattle.std.specs.Prelude.{nat_lt, if◌then◌else◌}
use Rattle.std.proofs.lemmas.Bool.Decides.{nat_tests}
use Rattle.vault_core_model.specs.Leaves.{count_after, largest_count, RoseOrIsFull}

-- of two, the order doesn't matter
pub count_swaps : (n : ℕ) (first second : Bool) → count_after (count_after n first) second ≡ count_after (count_after n second) first
count_swaps n false second = refl
count_swaps n true false = refl
count_swaps n true true = refl

count_rises : (n : ℕ) (failed : Bool) → n ≤ count_after n failed
count_rises n false = omega arith
count_rises n true = by_room (nat_lt n largest_count)
  where
    by_room : (b : Bool) → n ≤ (if b then n + 1 else n)
    by_room true = omega arith
    by_room false = omega arith

rises : (n : ℕ) → RoseOrIsFull n (count_after n true)
rises n room = rw (less_is n largest_count room) (omega arith)
  where
    less_is : (a b : ℕ) → a < b → nat_lt a b ≡ true
    less_is a b lt = grind (arith, nat_tests)

-- the count doesn't sink
pub no_less : (old new : ℕ) (failed : Bool) → new ≡ count_after old failed → old ≤ new
no_less old new failed is = rw is (count_rises old failed)

-- where a failure is reported, it rises, or stands at its greatest value
pub rose : (old new : ℕ) (failed : Bool) → new ≡ count_after old failed → IsTrue failed → RoseOrIsFull old new
rose old new true is stated = subst (RoseOrIsFull old) (sym is) (rises old)
rose old new false is stated = absurd (cc)

-- where none is reported, it stays
pub stays : (old new : ℕ) (failed : Bool) → new ≡ count_after old failed → failed ≡ false → new ≡ old
stays old new true is none = absurd (cc)
stays old new false is none = is

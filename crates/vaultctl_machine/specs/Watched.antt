-- The failures of a keeper whose files are watched.
use Rattle.std.specs.Prelude.{◌≡◌, ℕ, ◌+◌, Bool, true, false, if◌then◌else◌, min, nat_lt, refl}
use Rattle.std.proofs.Common.{arith}
use Rattle.std.proofs.lemmas.Bool.Decides.{nat_tests}
use Rattle.vault_core_model.specs.Leaves.{count_after, largest_count}

-- those of the keeper below, and one for each change that was refused, up to the greatest number
abbrev pub failures : ℕ → ℕ → ℕ
failures below refused = min (below + refused) largest_count

-- where the keeper below reports one, the count rises as its own does
pub failed_below : (below refused : ℕ) (failed : Bool) → failures (count_after below failed) refused ≡ count_after (failures below refused) failed
failed_below below refused false = refl
failed_below below refused true = cases (nat_lt below largest_count) (nat_lt (failures below refused) largest_count) refl refl
  where
    cases : (a b : Bool) → nat_lt below largest_count ≡ a → nat_lt (failures below refused) largest_count ≡ b
        → min ((if a then below + 1 else below) + refused) largest_count ≡ (if b then failures below refused + 1 else failures below refused)
    cases true true e f = grind (arith, nat_tests)
    cases true false e f = grind (arith, nat_tests)
    cases false true e f = grind (arith, nat_tests)
    cases false false e f = grind (arith, nat_tests)

-- One failure more of a keeper whose files are watched.
use Rattle.std.proofs.Common.{◌≡◌, ◌+◌, ℕ, Bool, true, false, refl, arith}
use Rattle.std.specs.Prelude.{min, nat_lt, if◌then◌else◌}
use Rattle.std.proofs.lemmas.Bool.Decides.{nat_tests}
use Rattle.vault_core_model.specs.Leaves.{count_after, largest_count}
use Rattle.vaultctl_machine.specs.Watched.{failures}

-- where a change is refused, it rises by one
pub refused_more : (below refused : ℕ) → failures below (min (refused + 1) largest_count) ≡ count_after (failures below refused) true
refused_more below refused = cases (nat_lt (failures below refused) largest_count) refl
  where
    cases : (b : Bool) → nat_lt (failures below refused) largest_count ≡ b → min (below + min (refused + 1) largest_count) largest_count ≡ (if b then failures below refused + 1 else failures below refused)
    cases true f = grind (arith, nat_tests)
    cases false f = grind (arith, nat_tests)

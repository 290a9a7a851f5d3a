-- What tests that pass say.
use Rattle.std.proofs.Common.{ℕ, ◌<◌, ◌≤◌, ◌&&◌, Bool, true, false, nat_lt, nat_le, IsTrue, refl, arith}
use Rattle.std.proofs.lemmas.Bool.Decides.{nat_tests}

pub both : (a b : Bool) → IsTrue (a && b) → IsTrue a × IsTrue b
both true b h = (refl, h)
both false b h = absurd (cc)

pub and_true : (a b : Bool) → IsTrue a → IsTrue b → IsTrue (a && b)
and_true true b h k = k
and_true false b h k = absurd (cc)

pub less_of_test : (m n : ℕ) → IsTrue (nat_lt m n) → m < n
less_of_test m n h = grind (arith, nat_tests)

pub le_of_test : (m n : ℕ) → IsTrue (nat_le m n) → m ≤ n
le_of_test m n h = grind (arith, nat_tests)

pub test_of_less : (m n : ℕ) → m < n → IsTrue (nat_lt m n)
test_of_less m n h = grind (arith, nat_tests)

-- What is known needn't be asked.
use Rattle.std.proofs.Common.{refl, inl, arith}
use Rattle.sqlite.specs.State.{State, Survives}
use Rattle.sqlite_trees.specs.Tree.{Trees}

-- what asks nothing of a connection
pub survives_none : (s : State) (P : Trees → Type 0) → Survives s s P
survives_none s P = record { clean = omega arith; shield = λ h. h; counts = omega arith; limit = refl; closes = λ _ is_open. inl is_open; crash = λ _ db left. inl left }

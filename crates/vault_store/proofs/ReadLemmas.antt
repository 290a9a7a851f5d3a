-- The lemmas that each read of a keeper names: what it leaves of what is kept and known, and that what it says is one.
pub use Rattle.std.proofs.Math.Logic.{∥∥₁_elim}
pub use Rattle.std.specs.Coded.{Coded-set, coded_bool, coded_list, coded_option, coded_ℕ, ×_prop}
pub use Rattle.vault_store.proofs.KeptLemmas.{no_failure, read_kept}
pub use Rattle.vault_store.proofs.KnownLemmas.{known_still, known_then}

-- A value that is a number is one number.
use Rattle.std.proofs.Common.{◌≡◌, ℕ, sym, ◌∙◌}
use Rattle.sqlite_value.specs.declared.value.Value.{Value}
use Rattle.vault_audit_model.specs.Values.{number}
use Rattle.vault_audit_model.proofs.SameRows.{number_same}

pub one_number : (u : Value) (a b : ℕ) → u ≡ number a → u ≡ number b → a ≡ b
one_number u a b p q = number_same a b (sym p ∙ q)

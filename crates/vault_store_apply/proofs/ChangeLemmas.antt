-- What is said of a change, said of one that is the same.
use Rattle.std.proofs.Common.{◌≡◌, ℕ, sym, subst, Result, OnOk}
use Rattle.sqlite.specs.State.{State, Survives}
use Rattle.sqlite.proofs.StateLemmas.{survives_weaker}
use Rattle.vault_core_model.specs.declared.change.Change.{Change}
use Rattle.vault_core_model.specs.Vault.{Vault}
use Rattle.vault_store_model.specs.Keeping.{Keeps}
use Rattle.vault_store_apply.specs.Applies.{Changes, AreChanged, IsChanged}

module _ (old new : State) (t : ℕ) (c d : Change) (same : c ≡ d) where
  -- a change that was made as this one
  pub made_as : {A E : Type 0} (r : Result A E) → OnOk r (Changes old new t d) → OnOk r (Changes old new t c)
  made_as r done = subst (λ x. OnOk r (Changes old new t x)) (sym same) done

  -- what a crash may leave of every vault that was kept, it may leave of this one
  pub left_of_all : (v : Vault) → Keeps old v → Survives old new (AreChanged old t d) → Survives old new (IsChanged old v t c)
  left_of_all v was crash =
      subst (λ x. Survives old new (IsChanged old v t x)) (sym same)
      (survives_weaker old new _ (IsChanged old v t d) (λ _ trees by is_open later allowed. by v was later allowed) crash)

  pub left_of_one : (v : Vault) → Keeps old v → ((w : Vault) → Keeps old w → Survives old new (IsChanged old w t d)) → Survives old new (IsChanged old v t c)
  left_of_one v was crash = subst (λ x. Survives old new (IsChanged old v t x)) (sym same) (crash v was)

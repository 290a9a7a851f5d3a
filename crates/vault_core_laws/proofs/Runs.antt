-- A run goes on by one step, and one run after another is a run.
use Rattle.std.proofs.Common.{List, [], ◌∷◌, ◌++◌, refl, subst}
use Rattle.vault_core_model.specs.declared.command.Timed.{Timed}
use Rattle.vault_core_model.specs.declared.reply.Reply.{Reply}
use Rattle.vault_core_model.specs.Vault.{Vault}
use Rattle.vault_core_model.specs.Step.{IsStep, IsRun}

pub IsRun-append : (v mid end : Vault) (cs ds : List Timed) (rs ss : List Reply) → IsRun v cs rs mid → IsRun mid ds ss end → IsRun v (cs ++ ds) (rs ++ ss) end
IsRun-append v mid end [] ds [] ss first second = let P : Vault → Type 0 = λ w. IsRun w ds ss end in subst P first second
IsRun-append v mid end [] ds (r ∷ rs) ss first second = absurd first
IsRun-append v mid end (c ∷ cs) ds [] ss first second = absurd first
IsRun-append v mid end (c ∷ cs) ds (r ∷ rs) ss first second = (first.0, first.1, IsRun-append first.0 mid end cs ds rs ss first.2 second)

pub IsRun-push : (v mid end : Vault) (cs : List Timed) (rs : List Reply) (c : Timed) (r : Reply) → IsRun v cs rs mid → IsStep mid c.at c.who c.command r end → IsRun v (cs ++ c ∷ []) (rs ++ r ∷ []) end
IsRun-push v mid end cs rs c r first step = IsRun-append v mid end cs (c ∷ []) rs (r ∷ []) first (end, step, refl)

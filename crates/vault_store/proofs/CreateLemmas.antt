-- A new vault that a crash leaves is found by the next opening.
use Rattle.std.specs.Prelude.{Bool}
use Rattle.sqlite_trees.specs.Tree.{Trees}
use Rattle.sqlite.specs.State.{State, Survives}
use Rattle.sqlite.proofs.StateLemmas.{survives_weaker}
use Rattle.vault_core_model.specs.Vault.{opening_of}
use Rattle.vault_store_apply.specs.Left.{IsFoundIn}
use Rattle.vault_store_create.specs.Create.{AreOpening}

pub opening_found : (external : Bool) (trees : Trees) → AreOpening external trees → IsFoundIn (opening_of external) trees
opening_found external trees it = record { spelled = it.opening; listed = it.listed }

pub leaves_opening : (external : Bool) (old new : State) → Survives old new (AreOpening external) → Survives old new (IsFoundIn (opening_of external))
leaves_opening external old new survives = survives_weaker old new (AreOpening external) (IsFoundIn (opening_of external)) (λ _ trees it. opening_found external trees it) survives

-- Commands that are carried out one after another.
use Rattle.std.specs.Prelude.{◌≡◌, List, [], ◌∷◌}
use Rattle.vault_core_model.specs.declared.command.Timed.{Timed}
use Rattle.vault_core_model.specs.declared.kept.Kept.{Ghosts}
use Rattle.vault_core_model.specs.declared.reply.Reply.{Reply}
use Rattle.vault_core_model.specs.Halts.{is_device_reply}
use Rattle.vault_core_model.specs.Leaves.{Leaves}
use Rattle.vault_core_model.specs.Step.{IsStep}

module _ {K : Type 0} (g : Ghosts K) where
  -- The commands lead the keeper from old to new, one after another, with one reply each. Between any two stands a keeper. From each to the next, where the later is honest, the reply and the vault are those of a step; and the count of failures rises by one, up to its greatest value, exactly where this reply reports that the device failed.
  abbrev pub StepByStep : K → List Timed → List Reply → K → Type 0
  StepByStep old [] [] new = new ≡ old
  StepByStep old (c ∷ cs) (r ∷ rs) new = (mid : K) × (g.is_honest mid → IsStep (g.vault old) c.at c.who c.command r (g.vault mid)) × Leaves g old mid (is_device_reply r) × StepByStep mid cs rs new
  StepByStep old [] (r ∷ rs) new = ⊥
  StepByStep old (c ∷ cs) [] new = ⊥

-- A reading before the last moment is refused, an equal one is fine.
use Rattle.std.specs.Prelude.{◌≡◌, refl, List, [], ◌∷◌, None, codes}
use Rattle.vault_base.specs.declared.refusal.Refusal.TheVariants as refusal
use Rattle.vault_core_model.specs.declared.command.Timed.{Timed}
use Rattle.vault_core_model.specs.declared.reply.Answer.TheVariants as answer
use Rattle.vault_core_model.specs.declared.reply.Reply.TheVariants.{Done, Refused}
use Rattle.vault_core_outcome.specs.Outcome.{replies_to}
use Rattle.vault_tests_days.specs.Script.{by, ann, start, put}

abbrev puts-script : List Timed
puts-script =
    by ann 1705314600 (put (codes "a") (codes "x") None None) ∷
    by ann 1705314599 (put (codes "a") (codes "y") None None) ∷
    by ann 1705314600 (put (codes "a") (codes "z") None None) ∷ []

puts : replies_to start puts-script ≡
    Done (answer.Admitted 1) ∷
    Refused refusal.ClockBack ∷
    Done (answer.Admitted 2) ∷ []
puts = refl

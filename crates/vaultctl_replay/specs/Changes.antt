-- The commands of a run that changed the vault, as their replies report.
use Rattle.std.specs.Prelude.{nat_lt, Bool, true, false, not, List, [], ◌∷◌}
use Rattle.vault_core_model.specs.declared.command.Timed.{Timed}
use Rattle.vault_core_model.specs.declared.reply.Answer.{Answer}
use Rattle.vault_core_model.specs.declared.reply.Answer.TheVariants as answer
use Rattle.vault_core_model.specs.declared.reply.Reply.{Reply}
use Rattle.vault_core_model.specs.declared.reply.Reply.TheVariants.{Done, Refused, Stopped}
use Rattle.vault_core_model.specs.declared.reply.Stop.TheVariants.{Memory, Device, VaultFull}

-- the answer is that of a command that changed the vault
abbrev pub is_change_answer : Answer → Bool
is_change_answer answer.Nothing = true
is_change_answer (answer.Admitted id) = true
is_change_answer (answer.Marked id) = true
is_change_answer (answer.Removed removed) = true
is_change_answer (answer.Moved bytes) = true
is_change_answer (answer.Ran counts) = nat_lt 0 counts.changes
is_change_answer (answer.TakenIn taken) = not taken.again
is_change_answer _ = false

-- the reply reports a change; a lifecycle run that was stopped made one, unless it was stopped before its first
abbrev pub is_change : Reply → Bool
is_change (Done answer) = is_change_answer answer
is_change (Refused refusal) = false
is_change (Stopped changes stop) = nat_lt 0 changes

-- A lifecycle run of which a fault made a part. Where ids were left for no more, the run makes the same part again.
abbrev pub is_cut : Reply → Bool
is_cut (Done answer) = false
is_cut (Refused refusal) = false
is_cut (Stopped changes Memory) = nat_lt 0 changes
is_cut (Stopped changes Device) = nat_lt 0 changes
is_cut (Stopped changes VaultFull) = false

-- the list, after x where the test passed
abbrev pub with_if : {A : Type 0} → Bool → A → List A → List A
with_if true x xs = x ∷ xs
with_if false x xs = xs

-- the commands whose replies report a change
abbrev pub changing : List Timed → List Reply → List Timed
changing [] rs = []
changing (c ∷ cs) [] = []
changing (c ∷ cs) (r ∷ rs) = with_if (is_change r) c (changing cs rs)

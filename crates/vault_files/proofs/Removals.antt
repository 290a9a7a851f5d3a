-- Removals of versions take no note away.
use Rattle.std.proofs.Common.{◌≡◌, ℕ, List, [], ◌∷◌, ◌∙◌, Result, Ok, Err, refl, ap, subst}
use Rattle.std.specs.Prelude.{IsTrue}
use Rattle.std.specs.List.{AllByRecursion}
use Rattle.vault_base.specs.declared.refusal.Refusal.{Refusal}
use Rattle.vault_core_model.specs.declared.access.Access.{Access}
use Rattle.vault_core_model.specs.declared.change.Change.TheVariants.{Remove}
use Rattle.vault_core_model.specs.declared.command.Command.{Command}
use Rattle.vault_core_model.specs.declared.command.Command.TheVariants as command
use Rattle.vault_core_model.specs.declared.command.DeleteVersion.{DeleteVersion}
use Rattle.vault_core_model.specs.declared.command.Timed.{Timed}
use Rattle.vault_core_model.specs.declared.reply.Answer.{Answer}
use Rattle.vault_core_model.specs.declared.reply.Answer.TheVariants as answer
use Rattle.vault_core_model.specs.declared.reply.Removed.{Removed}
use Rattle.vault_core_model.specs.declared.reply.Reply.{Reply}
use Rattle.vault_core_model.specs.declared.reply.Reply.TheVariants.{Done, Refused, Stopped}
use Rattle.vault_core_model.specs.Change.{changed}
use Rattle.vault_core_model.specs.Checks.{◌>>=◌}
use Rattle.vault_core_model.specs.EntryOutcomes.{delete_version, removal_permitted, removal_by}
use Rattle.vault_core_model.specs.Step.{Answers, IsStep, IsRun}
use Rattle.vault_core_model.specs.Vault.{Vault}
use Rattle.vault_files.specs.Again.{is_removal}
use Rattle.vault_files.proofs.Later.{IsLater, later-on, later-same, later-removed}

-- the vault goes on, with the same notes
pub record IsNotedAs (v w : Vault) : Type 0 where
  pub later : IsLater v w
  pub notes : w.notes ≡ v.notes

noted_as-same : (v w : Vault) → w ≡ v → IsNotedAs v w
noted_as-same v w same = record { later = later-same v w same; notes = ap (λ (u : Vault). u.notes) same }

noted_as-on : (u v w : Vault) → IsNotedAs u v → IsNotedAs v w → IsNotedAs u w
noted_as-on u v w a b = record { later = later-on u v w a.later b.later; notes = b.notes ∙ a.notes }

-- an answer with the vault after it
abbrev answered : Answer → Vault → Result (Answer × Vault) Refusal
answered x v = Ok (x, v)

by_removal : (v : Vault) (t : ℕ) (who : List ℕ) (c : DeleteVersion) (x : Answer) (w : Vault) (r : Result Removed Refusal)
    → (r >>= λ (done : Removed). answered (answer.Removed done) (changed v t (Remove c.id (removal_by t who done.permit)))) ≡ answered x w → IsNotedAs v w
by_removal v t who c x w (Err e) h = absurd (cc h)
by_removal v t who c x w (Ok done) h =
    let made = changed v t (Remove c.id (removal_by t who done.permit)) in
    let e : (answer.Removed done, made) ≡ (x, w) = cc in
    let P : Vault → Type 0 = λ u. IsNotedAs v u in
    subst P (ap (λ (p : Answer × Vault). p.1) e) (record { later = later-removed v t c.id (removal_by t who done.permit); notes = refl })

by_access : (v : Vault) (t : ℕ) (who : List ℕ) (c : DeleteVersion) (x : Answer) (w : Vault) (a : Result Access Refusal)
    → (a >>= λ (may : Access). removal_permitted v t c may >>= λ (done : Removed). answered (answer.Removed done) (changed v t (Remove c.id (removal_by t who done.permit)))) ≡ answered x w → IsNotedAs v w
by_access v t who c x w (Err e) h = absurd (cc h)
by_access v t who c x w (Ok may) h = by_removal v t who c x w (removal_permitted v t c may) h

removal-noted : (v : Vault) (t : ℕ) (who : List ℕ) (c : DeleteVersion) (r : Reply) (w : Vault) → Answers (delete_version v t who c) v r w → IsNotedAs v w
removal-noted v t who c (Done x) w h = by_access v t who c x w _ h
removal-noted v t who c (Refused r) w h = noted_as-same v w h.0
removal-noted v t who c (Stopped n s) w h = absurd h

step-noted : (v : Vault) (t : ℕ) (who : List ℕ) (c : Command) (r : Reply) (w : Vault) → IsTrue (is_removal c) → IsStep v t who c r w → IsNotedAs v w
step-noted v t who (command.DeleteVersion c) r w is step = removal-noted v t who c r w step
step-noted v t who _ r w is step = absurd (cc is)

pub run-noted : (v : Vault) (cs : List Timed) (rs : List Reply) (w : Vault) → AllByRecursion (λ c. IsTrue (is_removal c.command)) cs → IsRun v cs rs w → IsNotedAs v w
run-noted v [] [] w all run = noted_as-same v w run
run-noted v [] (r ∷ rs) w all run = absurd run
run-noted v (c ∷ cs) [] w all run = absurd run
run-noted v (c ∷ cs) (r ∷ rs) w all run =
    noted_as-on v run.0 w (step-noted v c.at c.who c.command r run.0 all.0 run.1) (run-noted run.0 cs rs w all.1 run.2)

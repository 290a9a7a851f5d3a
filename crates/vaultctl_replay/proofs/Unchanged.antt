-- A command whose reply reports no change left the vault as it was.
use Rattle.std.proofs.Common.{◌≡◌, ℕ, false, List, [], ◌∷◌, length, take, refl, sym, ◌∙◌, ap, subst, inl, inr, arith}
use Rattle.std.specs.Prelude.{nat_lt, not, is_some, Option, Some, None, Result, Ok, Err, IfOk}
use Rattle.std.proofs.lemmas.Bool.{ltb-false}
use Rattle.vault_base.specs.declared.refusal.Refusal.{Refusal}
use Rattle.vault_base.specs.declared.refusal.Refusal.TheVariants as refusal
use Rattle.vault_base.specs.declared.right.Right.TheVariants as right
use Rattle.vault_rules.specs.KeyPlan.{Planned}
use Rattle.vault_core_model.specs.Checks.{◌>>=◌, access, administrator, allowed_default, asking, check, found, free_move, known_department, known_department_if_given, may_report, other_department, version_meant, within_quota}
use Rattle.vault_core_model.specs.EntryOutcomes as entries
use Rattle.vault_core_model.specs.IntakeOutcome.{intake, intake_by, lock_to_take_in, taken_before}
use Rattle.vault_core_model.specs.Checks.{free_id}
use Rattle.vault_core_model.specs.ListingOutcome.{certificate, entry_in, is_certifiable, is_page_size, list_versions}
use Rattle.vault_core_model.specs.LockOutcomes as locks
use Rattle.vault_core_model.specs.Plan.{after_steps}
use Rattle.vault_core_model.specs.Reads.{entry_of}
use Rattle.vault_core_model.specs.RecordOutcomes as records
use Rattle.vault_core_model.specs.RunOutcome.{AnswersRun, planned_run}
use Rattle.vault_core_model.specs.Step.{Answers, IsStep}
use Rattle.vault_core_model.specs.Vault.{Vault, caller_of, config_of, has_department, note_of, rules_of}
use Rattle.vault_core_model.specs.Totals.{bucket_bytes}
use Rattle.vault_core_model.specs.declared.access.Access.{Access}
use Rattle.vault_core_model.specs.declared.command.Command.{Command}
use Rattle.vault_core_model.specs.declared.command.Command.TheVariants as command
use Rattle.vault_core_model.specs.declared.command.Intake.{Intake}
use Rattle.vault_core_model.specs.declared.records.Note.{Note}
use Rattle.vault_core_model.specs.declared.reply.Answer.{Answer}
use Rattle.vault_core_model.specs.declared.reply.Reply.{Reply}
use Rattle.vault_core_model.specs.declared.reply.Reply.TheVariants.{Done, Refused, Stopped}
use Rattle.vault_core_model.specs.declared.reply.Stop.TheVariants.{Memory, Device, VaultFull}
use Rattle.vaultctl_replay.specs.Changes.{is_change, is_change_answer}

-- where it is done with an answer that reports no change, it leaves the vault as it was
abbrev Shows : Vault → Result (Answer × Vault) Refusal → Type 0
Shows v judged = IfOk judged (λ done. is_change_answer done.0 ≡ false → done.1 ≡ v)

then-shows : {A : Type 0} (v : Vault) (x : Result A Refusal) (f : A → Result (Answer × Vault) Refusal) → ((a : A) → Shows v (f a)) → Shows v (x >>= f)
then-shows v (Ok a) f later = later a
then-shows v (Err x) f later = tt

shows-intake : (v : Vault) (t : ℕ) (who : List ℕ) (c : Intake) (a : Access) (note : Option Note) → Shows v (intake_by v t who c a note)
shows-intake v t who c a None = then-shows v (lock_to_take_in v t c a) _ (λ lock. then-shows v (free_id v) _ (λ id e. absurd cc))
shows-intake v t who c a (Some n) = then-shows v (taken_before c.put n) _ (λ taken e. refl)

done-unchanged : (v v' : Vault) (judged : Result (Answer × Vault) Refusal) (r : Reply) → Shows v judged → Answers judged v r v' → is_change r ≡ false → v' ≡ v
done-unchanged v v' judged (Done a) shows h e = let done : Shows v (Ok (a, v')) = subst (Shows v) h shows in done e
done-unchanged v v' judged (Refused x) shows h e = h.0
done-unchanged v v' judged (Stopped n s) shows h e = absurd h

none-left : (ps : List Planned) → nat_lt 0 (length ps) ≡ false → ps ≡ []
none-left [] e = refl
none-left (p ∷ ps) e = let none = ltb-false 0 (length (p ∷ ps)) e in absurd (omega arith)

no-step : (n : ℕ) → nat_lt 0 n ≡ false → n ≡ 0
no-step n e = let none = ltb-false 0 n e in omega arith

unmade : (v v' : Vault) (bucket : List ℕ) (t n : ℕ) (ps : List Planned) → n ≡ 0 → v' ≡ after_steps v bucket t (take n ps) → v' ≡ v
unmade v v' bucket t n ps none made = made ∙ ap (λ m. after_steps v bucket t (take m ps)) none

run-unchanged : (v v' : Vault) (judged : Result (List Planned) Refusal) (bucket : List ℕ) (t : ℕ) (r : Reply) → AnswersRun judged v bucket t r v' → is_change r ≡ false → v' ≡ v
run-unchanged v v' judged bucket t (Done a) (ps, judged_is, ran, ids, made) e =
    let none = none-left ps (ap is_change_answer (sym ran) ∙ e) in
    made ∙ ap (after_steps v bucket t) none
run-unchanged v v' judged bucket t (Refused x) h e = h.0
run-unchanged v v' judged bucket t (Stopped n Memory) h e = elim h [ inl same ↦ same.1 | inr some ↦ unmade v v' bucket t n some.0 (no-step n e) some.2.1 ]
run-unchanged v v' judged bucket t (Stopped n Device) h e = elim h [ inl same ↦ same.1 | inr some ↦ unmade v v' bucket t n some.0 (no-step n e) some.2.1 ]
run-unchanged v v' judged bucket t (Stopped n VaultFull) (ps, judged_is, many, less, made) e = unmade v v' bucket t n ps (no-step n e) made

pub unchanged : (v : Vault) (t : ℕ) (who : List ℕ) (c : Command) (r : Reply) (v' : Vault) → IsStep v t who c r v' → is_change r ≡ false → v' ≡ v
unchanged v t who (command.AddDept c) r v' h e =
    done-unchanged v v' (records.add_dept v t who c) r
    (then-shows v (administrator v t who) _ (λ _. then-shows v (check (not (has_department v c.dept)) refusal.NameTaken) _ (λ _ e. absurd cc)))
    h e
unchanged v t who (command.AddCaller c) r v' h e =
    done-unchanged v v' (records.add_caller v t who c) r
    (then-shows v (administrator v t who) _ (λ _. then-shows v (known_department_if_given v c.dept) _ (λ _. then-shows v (check (not (is_some (caller_of v c.caller))) refusal.NameTaken) _ (λ _ e. absurd cc))))
    h e
unchanged v t who (command.CloseCaller c) r v' h e =
    done-unchanged v v' (records.close_caller v t who c) r
    (then-shows v (administrator v t who) _ (λ _. then-shows v (check (records.is_open (caller_of v c.caller)) refusal.InvalidArgument) _ (λ _ e. absurd cc)))
    h e
unchanged v t who (command.AddBucket c) r v' h e =
    done-unchanged v v' (records.add_bucket v t who c) r
    (then-shows v (administrator v t who) _ (λ _. then-shows v (known_department v c.dept) _ (λ _. then-shows v (check (not (is_some (config_of v c.bucket))) refusal.BucketAlreadyExists) _ (λ _ e. absurd cc))))
    h e
unchanged v t who (command.MoveBucket c) r v' h e =
    done-unchanged v v' (records.move_bucket v t who c) r
    (then-shows v (records.bucket_to_move v t who c) _ (λ b. then-shows v (other_department v b c.dept) _ (λ _. then-shows v (within_quota v c.dept (bucket_bytes v c.bucket)) _ (λ _. then-shows v (free_move v) _ (λ _ e. absurd cc)))))
    h e
unchanged v t who (command.SetDefault c) r v' h e =
    done-unchanged v v' (records.set_default v t who c) r
    (then-shows v (access v t who c.bucket right.Config) _ (λ _. then-shows v (allowed_default c.default) _ (λ _ e. absurd cc)))
    h e
unchanged v t who (command.GetDefault c) r v' h e =
    done-unchanged v v' (records.get_default v t who c) r (then-shows v (access v t who c.bucket right.Config) _ (λ _ e. refl)) h e
unchanged v t who (command.SetRules c) r v' h e =
    done-unchanged v v' (records.set_rules v t who c) r (then-shows v (access v t who c.bucket right.Config) _ (λ _ e. absurd cc)) h.1 e
unchanged v t who (command.GetRules c) r v' h e =
    done-unchanged v v' (records.get_rules v t who c) r
    (then-shows v (access v t who c.bucket right.Config) _ (λ _. then-shows v (found (rules_of v c.bucket) refusal.NoSuchLifecycleConfiguration) _ (λ _ e. refl)))
    h e
unchanged v t who (command.DropRules c) r v' h e =
    done-unchanged v v' (records.drop_rules v t who c) r (then-shows v (access v t who c.bucket right.Config) _ (λ _ e. absurd cc)) h e
unchanged v t who (command.Put c) r v' h e =
    done-unchanged v v' (entries.put v t who c) r
    (then-shows v (entries.access_to_put v t who c) _ (λ a. then-shows v (entries.admission v t who c a) _ (λ _ e. absurd cc)))
    h e
unchanged v t who (command.Get c) r v' h e =
    done-unchanged v v' (entries.get v t who c) r
    (then-shows v (access v t who c.bucket right.Get) _ (λ _. then-shows v (version_meant v c.bucket c.key c.id) _ (λ _ e. refl)))
    h e
unchanged v t who (command.Head c) r v' h e =
    done-unchanged v v' (entries.head v t who c) r
    (then-shows v (access v t who c.bucket right.Get) _ (λ _. then-shows v (version_meant v c.bucket c.key c.id) _ (λ _ e. refl)))
    h e
unchanged v t who (command.ListVersions c) r v' h e =
    done-unchanged v v' (list_versions v t who c) r
    (then-shows v (access v t who c.bucket right.List) _ (λ _. then-shows v (check (is_page_size c.most) refusal.InvalidArgument) _ (λ _ e. refl)))
    h e
unchanged v t who (command.Delete c) r v' h e =
    done-unchanged v v' (entries.delete v t who c) r (then-shows v (entries.marker_id v t who c) _ (λ _ e. absurd cc)) h e
unchanged v t who (command.DeleteVersion c) r v' h e =
    done-unchanged v v' (entries.delete_version v t who c) r
    (then-shows v (access v t who c.bucket right.DeleteVersion) _ (λ a. then-shows v (entries.removal_permitted v t c a) _ (λ _ e. absurd cc)))
    h e
unchanged v t who (command.SetRetention c) r v' h e =
    done-unchanged v v' (locks.set_retention v t who c) r
    (then-shows v (access v t who c.bucket right.Retain) _ (λ a. then-shows v (locks.next_retention v t who c a) _ (λ _ e. absurd cc)))
    h e
unchanged v t who (command.GetRetention c) r v' h e =
    done-unchanged v v' (locks.get_retention v t who c) r
    (then-shows v (access v t who c.bucket right.Get) _ (λ _. then-shows v (version_meant v c.bucket c.key c.id) _ (λ _ e. refl)))
    h e
unchanged v t who (command.SetHold c) r v' h e =
    done-unchanged v v' (locks.set_hold v t who c) r
    (then-shows v (access v t who c.bucket right.Hold) _ (λ _. then-shows v (locks.next_hold v t who c) _ (λ _ e. absurd cc)))
    h e
unchanged v t who (command.GetHold c) r v' h e =
    done-unchanged v v' (locks.get_hold v t who c) r
    (then-shows v (access v t who c.bucket right.Get) _ (λ _. then-shows v (version_meant v c.bucket c.key c.id) _ (λ _ e. refl)))
    h e
unchanged v t who (command.Run c) r v' h e = run-unchanged v v' (planned_run v t who c) c.bucket t r h e
unchanged v t who (command.Report c) r v' h e =
    done-unchanged v v' (records.report v t who c) r
    (then-shows v (asking v t who) _ (λ caller. then-shows v (may_report caller c.dept) _ (λ _. then-shows v (known_department v c.dept) _ (λ _ e. refl))))
    h e
unchanged v t who (command.Certificate c) r v' h e =
    done-unchanged v v' (certificate v t who c) r
    (then-shows v (access v t who c.bucket right.Report) _ (λ _. then-shows v (entry_in c.bucket (entry_of v c.id)) _ (λ x. then-shows v (check (is_certifiable x) refusal.MethodNotAllowed) _ (λ _ e. refl))))
    h e
unchanged v t who (command.Intake c) r v' h e =
    done-unchanged v v' (intake v t who c) r
    (then-shows v (entries.access_to_put v t who c.put) _ (λ a. shows-intake v t who c a (note_of v c.put.bucket c.batch c.line)))
    h e

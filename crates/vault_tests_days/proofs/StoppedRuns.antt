-- A run of four changes, stopped after each of them and given again.
use Rattle.std.specs.Prelude.{◌≡◌, refl, List, [], ◌∷◌, true, false, Some, None, codes, take}
use Rattle.sha2.specs.Sha256.{sha256}
use Rattle.vault_base.specs.declared.content.Content.TheVariants.{Inside}
use Rattle.vault_rules.specs.declared.plan.Step.TheVariants as step
use Rattle.vault_core_model.specs.declared.records.Author.TheVariants as author
use Rattle.vault_core_model.specs.declared.records.Cause.TheVariants as cause
use Rattle.vault_core_model.specs.declared.reply.Answer.TheVariants as answer
use Rattle.vault_core_model.specs.declared.reply.Reply.TheVariants.{Done, Stopped}
use Rattle.vault_core_model.specs.declared.reply.Stop.TheVariants as stop
use Rattle.vault_core_model.specs.Vault.{Vault}
use Rattle.vault_core_outcome.specs.Outcome.{replies_to, vault_after}
use Rattle.std.proofs.Common.{inr, lit≤}
use Rattle.vault_rules.specs.KeyPlan.{Planned}
use Rattle.vault_core_model.specs.Plan.{plan, after_steps}
use Rattle.vault_core_model.specs.Step.{IsStep}
use Rattle.vault_tests_days.specs.Script.{by, ann, docs, records, start, put, set_rules, run}

abbrev vault : Vault
vault = vault_after start (by ann 1388534400 (set_rules ((record { id = (codes "r1"); prefix = []; enabled = true; days = Some 1; lone_markers = false; noncurrent = Some (record { days = 1; newer = Some 1 }); larger = None; smaller = None }) ∷ [])) ∷ by ann 1709280000 (put (codes "a") (codes "x") None None) ∷ by ann 1709280000 (put (codes "b") (codes "x") None None) ∷ by ann 1709283600 (put (codes "a") (codes "y") None None) ∷ by ann 1709283600 (put (codes "b") (codes "y") None None) ∷ [])

abbrev four_changes : List Planned
four_changes = (record { key = codes "a"; step = step.Mark 0 }) ∷ (record { key = codes "a"; step = step.Remove 1 0 }) ∷ (record { key = codes "b"; step = step.Mark 0 }) ∷ (record { key = codes "b"; step = step.Remove 2 0 }) ∷ []

the_plan : plan vault docs 1709424000 ≡ four_changes
the_plan = refl

abbrev final : Vault
final = record start { last = 1709424000; buckets = (record { name = docs; config = record { dept = records; default = None }; rules = Some ((record { id = (codes "r1"); prefix = []; enabled = true; days = Some 1; lone_markers = false; noncurrent = Some (record { days = 1; newer = Some 1 }); larger = None; smaller = None }) ∷ []) }) ∷ []; histories = (record { entry = record { id = 1; bucket = docs; key = (codes "a"); marker = false; size = 1; digest = Some (sha256 (codes "x")); admitted = 1709280000; by = author.Caller ann; removal = Some (record { at = 1709424000; cause = cause.Rule (codes "r1") }) }; content = None; settings = (record { at = 1709280000; by = ann; lock = record { retention = None; hold = false }; bypass = false }) ∷ []; tenures = (record { dept = records; from = 1709280000; number = 0 }) ∷ [] }) ∷ (record { entry = record { id = 2; bucket = docs; key = (codes "b"); marker = false; size = 1; digest = Some (sha256 (codes "x")); admitted = 1709280000; by = author.Caller ann; removal = Some (record { at = 1709424000; cause = cause.Rule (codes "r1") }) }; content = None; settings = (record { at = 1709280000; by = ann; lock = record { retention = None; hold = false }; bypass = false }) ∷ []; tenures = (record { dept = records; from = 1709280000; number = 0 }) ∷ [] }) ∷ (record { entry = record { id = 3; bucket = docs; key = (codes "a"); marker = false; size = 1; digest = Some (sha256 (codes "y")); admitted = 1709283600; by = author.Caller ann; removal = None }; content = Some (Inside (codes "y")); settings = (record { at = 1709283600; by = ann; lock = record { retention = None; hold = false }; bypass = false }) ∷ []; tenures = (record { dept = records; from = 1709283600; number = 0 }) ∷ [] }) ∷ (record { entry = record { id = 4; bucket = docs; key = (codes "b"); marker = false; size = 1; digest = Some (sha256 (codes "y")); admitted = 1709283600; by = author.Caller ann; removal = None }; content = Some (Inside (codes "y")); settings = (record { at = 1709283600; by = ann; lock = record { retention = None; hold = false }; bypass = false }) ∷ []; tenures = (record { dept = records; from = 1709283600; number = 0 }) ∷ [] }) ∷ (record { entry = record { id = 5; bucket = docs; key = (codes "a"); marker = true; size = 0; digest = None; admitted = 1709424000; by = author.Rule (codes "r1"); removal = None }; content = None; settings = []; tenures = [] }) ∷ (record { entry = record { id = 6; bucket = docs; key = (codes "b"); marker = true; size = 0; digest = None; admitted = 1709424000; by = author.Rule (codes "r1"); removal = None }; content = None; settings = []; tenures = [] }) ∷ [] }

whole : vault_after vault (by ann 1709424000 run ∷ []) ≡ final
whole = refl

abbrev cut_0 : Vault
cut_0 = after_steps vault docs 1709424000 (take 0 four_changes)

stopped_0 : IsStep vault 1709424000 ann run (Stopped 0 stop.Device) cut_0
stopped_0 = inr (four_changes, refl, (lit≤ tt, refl))

again_0 : replies_to cut_0 (by ann 1709424000 run ∷ by ann 1709424000 run ∷ []) ≡ Done (answer.Ran (record { changes = 4; marked = 2; removed = 2; lone = 0 })) ∷ Done (answer.Ran (record { changes = 0; marked = 0; removed = 0; lone = 0 })) ∷ []
again_0 = refl

same_0 : vault_after cut_0 (by ann 1709424000 run ∷ []) ≡ final
same_0 = refl

repeats_0 : plan cut_0 docs 1709424000 ≡ (record { key = codes "a"; step = step.Mark 0 }) ∷ (record { key = codes "a"; step = step.Remove 1 0 }) ∷ (record { key = codes "b"; step = step.Mark 0 }) ∷ (record { key = codes "b"; step = step.Remove 2 0 }) ∷ []
repeats_0 = refl

abbrev cut_1 : Vault
cut_1 = after_steps vault docs 1709424000 (take 1 four_changes)

stopped_1 : IsStep vault 1709424000 ann run (Stopped 1 stop.Device) cut_1
stopped_1 = inr (four_changes, refl, (lit≤ tt, refl))

again_1 : replies_to cut_1 (by ann 1709424000 run ∷ by ann 1709424000 run ∷ []) ≡ Done (answer.Ran (record { changes = 3; marked = 1; removed = 2; lone = 0 })) ∷ Done (answer.Ran (record { changes = 0; marked = 0; removed = 0; lone = 0 })) ∷ []
again_1 = refl

same_1 : vault_after cut_1 (by ann 1709424000 run ∷ []) ≡ final
same_1 = refl

repeats_1 : plan cut_1 docs 1709424000 ≡ (record { key = codes "a"; step = step.Remove 1 0 }) ∷ (record { key = codes "b"; step = step.Mark 0 }) ∷ (record { key = codes "b"; step = step.Remove 2 0 }) ∷ []
repeats_1 = refl

abbrev cut_2 : Vault
cut_2 = after_steps vault docs 1709424000 (take 2 four_changes)

stopped_2 : IsStep vault 1709424000 ann run (Stopped 2 stop.Device) cut_2
stopped_2 = inr (four_changes, refl, (lit≤ tt, refl))

again_2 : replies_to cut_2 (by ann 1709424000 run ∷ by ann 1709424000 run ∷ []) ≡ Done (answer.Ran (record { changes = 2; marked = 1; removed = 1; lone = 0 })) ∷ Done (answer.Ran (record { changes = 0; marked = 0; removed = 0; lone = 0 })) ∷ []
again_2 = refl

same_2 : vault_after cut_2 (by ann 1709424000 run ∷ []) ≡ final
same_2 = refl

repeats_2 : plan cut_2 docs 1709424000 ≡ (record { key = codes "b"; step = step.Mark 0 }) ∷ (record { key = codes "b"; step = step.Remove 2 0 }) ∷ []
repeats_2 = refl

abbrev cut_3 : Vault
cut_3 = after_steps vault docs 1709424000 (take 3 four_changes)

stopped_3 : IsStep vault 1709424000 ann run (Stopped 3 stop.Device) cut_3
stopped_3 = inr (four_changes, refl, (lit≤ tt, refl))

again_3 : replies_to cut_3 (by ann 1709424000 run ∷ by ann 1709424000 run ∷ []) ≡ Done (answer.Ran (record { changes = 1; marked = 0; removed = 1; lone = 0 })) ∷ Done (answer.Ran (record { changes = 0; marked = 0; removed = 0; lone = 0 })) ∷ []
again_3 = refl

same_3 : vault_after cut_3 (by ann 1709424000 run ∷ []) ≡ final
same_3 = refl

repeats_3 : plan cut_3 docs 1709424000 ≡ (record { key = codes "b"; step = step.Remove 2 0 }) ∷ []
repeats_3 = refl

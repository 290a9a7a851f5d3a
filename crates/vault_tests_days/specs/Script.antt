-- Words to write scripts with, and the vault in which every row begins.
use Rattle.std.specs.Prelude.{ℕ, List, [], ◌∷◌, Bool, true, false, Option, Some, None, codes}
use Rattle.vault_base.specs.declared.content.Content.{Content}
use Rattle.vault_base.specs.declared.content.Content.TheVariants.{Inside, External}
use Rattle.vault_lock.specs.declared.retention.Mode.TheVariants as mode
use Rattle.vault_lock.specs.declared.retention.Retention.{Retention}
use Rattle.vault_lock.specs.declared.retention.Default.{Default}
use Rattle.vault_rules.specs.declared.rule.Rule.{Rule}
use Rattle.vault_core_model.specs.declared.rights.Rights.{Rights}
use Rattle.vault_core_model.specs.declared.command.Command.{Command}
use Rattle.vault_core_model.specs.declared.command.Command.TheVariants as command
use Rattle.vault_core_model.specs.declared.command.Timed.{Timed}
use Rattle.vault_core_model.specs.Vault.{Vault, opening, opening_of}
use Rattle.vault_core_model.specs.Rights.{no_rights}
use Rattle.vault_core_outcome.specs.Outcome.{vault_after}

abbrev pub admin_name : List ℕ
admin_name = codes "registrar"

abbrev pub ann : List ℕ
ann = codes "ann"

abbrev pub gov : List ℕ
gov = codes "gov"

abbrev pub docs : List ℕ
docs = codes "docs"

abbrev pub records : List ℕ
records = codes "records"

abbrev pub by : List ℕ → ℕ → Command → Timed
by who t c = record { at = t; who = who; command = c }

abbrev pub compliance : ℕ → Option Retention
compliance u = Some (record { mode = mode.Compliance; until = u })

abbrev pub governance : ℕ → Option Retention
governance u = Some (record { mode = mode.Governance; until = u })

abbrev pub put : List ℕ → List ℕ → Option Retention → Option Bool → Command
put key content retention hold = command.Put (record { bucket = docs; key = key; content = Inside content; retention = retention; hold = hold })

-- bytes that are kept outside: their size and digest
abbrev pub outside : ℕ → List ℕ → Content
outside size digest = External (record { size = size; digest = digest })

abbrev pub put_outside : List ℕ → ℕ → List ℕ → Command
put_outside key size digest = command.Put (record { bucket = docs; key = key; content = outside size digest; retention = None; hold = None })

abbrev pub get : List ℕ → Option ℕ → Command
get key id = command.Get (record { bucket = docs; key = key; id = id })

abbrev pub head : List ℕ → Option ℕ → Command
head key id = command.Head (record { bucket = docs; key = key; id = id })

abbrev pub delete : List ℕ → Command
delete key = command.Delete (record { bucket = docs; key = key })

abbrev pub delete_version : List ℕ → ℕ → Bool → Command
delete_version key id bypass = command.DeleteVersion (record { bucket = docs; key = key; id = id; bypass = bypass })

abbrev pub set_retention : List ℕ → Option ℕ → Retention → Bool → Command
set_retention key id r bypass = command.SetRetention (record { bucket = docs; key = key; id = id; retention = r; bypass = bypass })

abbrev pub get_retention : List ℕ → Option ℕ → Command
get_retention key id = command.GetRetention (record { bucket = docs; key = key; id = id })

abbrev pub set_hold : List ℕ → Option ℕ → Bool → Command
set_hold key id hold = command.SetHold (record { bucket = docs; key = key; id = id; hold = hold })

abbrev pub get_hold : List ℕ → Option ℕ → Command
get_hold key id = command.GetHold (record { bucket = docs; key = key; id = id })

abbrev pub set_default : Option Default → Command
set_default d = command.SetDefault (record { bucket = docs; default = d })

abbrev pub get_default : Command
get_default = command.GetDefault (record { bucket = docs })

abbrev pub set_rules : List Rule → Command
set_rules rules = command.SetRules (record { bucket = docs; rules = rules })

abbrev pub get_rules : Command
get_rules = command.GetRules (record { bucket = docs })

abbrev pub drop_rules : Command
drop_rules = command.DropRules (record { bucket = docs })

abbrev pub run : Command
run = command.Run (record { bucket = docs })

abbrev pub report : Command
report = command.Report (record { dept = records })

abbrev pub certificate : ℕ → Command
certificate id = command.Certificate (record { bucket = docs; id = id })

abbrev pub list_versions : List ℕ → Option ℕ → ℕ → Command
list_versions after_key after_id most = command.ListVersions (record { bucket = docs; prefix = []; after_key = after_key; after_id = after_id; most = most })

abbrev pub move_bucket : List ℕ → Command
move_bucket dept = command.MoveBucket (record { bucket = docs; dept = dept })

abbrev pub close_caller : List ℕ → Command
close_caller name = command.CloseCaller (record { caller = name })

abbrev pub intake : ℕ → List ℕ → List ℕ → Option Retention → Option Bool → Command
intake line key content retention hold = command.Intake (record { batch = codes "b1"; line = line; put = record { bucket = docs; key = key; content = Inside content; retention = retention; hold = hold } })

abbrev pub intake_outside : ℕ → List ℕ → ℕ → List ℕ → Command
intake_outside line key size digest =
    command.Intake (record { batch = codes "b1"; line = line; put = record { bucket = docs; key = key; content = outside size digest; retention = None; hold = None } })

-- an enabled rule for every key, with no action
abbrev pub rule : List ℕ → Rule
rule id = record { id = id; prefix = []; enabled = true; days = None; lone_markers = false; noncurrent = None; larger = None; smaller = None }

abbrev pub ann_rights : Rights
ann_rights = record { admin = false; config = true; put = true; retain = true; hold = true; get = true; list = true; delete = true; delete_version = true; run = true; report = true; bypass = false }

abbrev pub gov_rights : Rights
gov_rights = record no_rights { retain = true; delete_version = true; bypass = true }

-- 2014-01-01T00:00:00Z
abbrev pub beginning : ℕ
beginning = 1388534400

abbrev pub opening_script : List Timed
opening_script =
    by admin_name beginning (command.AddDept (record { dept = records }))
    ∷ by admin_name beginning (command.AddCaller (record { caller = ann; dept = Some records; rights = ann_rights }))
    ∷ by admin_name beginning (command.AddCaller (record { caller = gov; dept = Some records; rights = gov_rights }))
    ∷ by admin_name beginning (command.AddBucket (record { bucket = docs; dept = records }))
    ∷ []

-- the vault in which every row begins
abbrev pub start : Vault
start = vault_after opening opening_script

-- the same, of a vault that registers contents that are kept outside
abbrev pub start_external : Vault
start_external = vault_after (opening_of true) opening_script

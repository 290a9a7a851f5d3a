-- Every change is its edits, in every table but that of the heads.
use Rattle.std.proofs.Common.{ℕ}
use Rattle.vault_core_model.specs.declared.change.Change.{Change}
use Rattle.vault_core_model.specs.declared.change.Change.TheVariants.{AddDept, AddCaller, CloseCaller, AddBucket, MoveBucket, SetDefault, SetRules, Admit, AddSetting, Remove}
use Rattle.vault_core_model.specs.Allowed.{Allows}
use Rattle.vault_core_model.specs.Change.{changed}
use Rattle.vault_core_model.specs.Sound.{Sound}
use Rattle.vault_core_model.specs.Vault.{Vault}
use Rattle.vault_store_model.specs.Rows.{rows_of}
use Rattle.vault_store_model.specs.Changes.{edit_of}
use Rattle.vault_store_model.specs.Beside.{AreSameBesideHeads}
use Rattle.vault_store_model.proofs.RecordLemmas.{dept_added, caller_added, caller_closed, bucket_added}
use Rattle.vault_store_model.proofs.MoveLemmas.{bucket_moved}
use Rattle.vault_store_model.proofs.ConfigLemmas.{default_set, rules_set}
use Rattle.vault_store_model.proofs.SettingLemmas.{setting_added}
use Rattle.vault_store_model.proofs.AdmissionLemmas.{entry_admitted}
use Rattle.vault_store_model.proofs.RemovalLemmas.{entry_removed}

pub beside_heads : (v : Vault) (t : ℕ) (c : Change) → Sound v → Allows v t c → AreSameBesideHeads (rows_of (changed v t c)) (edit_of v t c (rows_of v))
beside_heads v t (AddDept name) sound allowed s beside = dept_added v t name sound allowed s
beside_heads v t (AddCaller c) sound allowed s beside = caller_added v t c s
beside_heads v t (CloseCaller name) sound allowed s beside = caller_closed v t name s
beside_heads v t (AddBucket name dept) sound allowed s beside = bucket_added v t name dept s
beside_heads v t (MoveBucket name dept) sound allowed s beside = bucket_moved v t name dept sound allowed s beside
beside_heads v t (SetDefault name default) sound allowed s beside = default_set v t name default s
beside_heads v t (SetRules name rules) sound allowed s beside = rules_set v t name rules sound allowed.0 s
beside_heads v t (Admit a) sound allowed s beside = entry_admitted v t a sound allowed s beside
beside_heads v t (AddSetting id st) sound allowed s beside = setting_added v t id st sound allowed s beside
beside_heads v t (Remove id r) sound allowed s beside = entry_removed v t id r sound allowed s beside

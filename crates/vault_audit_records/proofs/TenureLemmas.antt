-- Tables that are sound state the tenures of their vault.
use Rattle.std.proofs.Common.{Bool, true, false}
use Rattle.sqlite.specs.Effect.{Database}
use Rattle.vault_core_model.specs.Sound.{HasTenuresAs, HasTenures}
use Rattle.vault_core_model.specs.Vault.{Vault}
use Rattle.vault_core_model.specs.declared.records.History.{History}
use Rattle.vault_audit_model.specs.declared.schema.SchemaVersion.{SchemaVersion}
use Rattle.vault_audit_model.specs.Relations.{IsTenuredAs, AreTenuresOf}
use Rattle.vault_audit_model.specs.Spells.{AreSoundAs}
use Rattle.vault_audit_model.proofs.ListLemmas.{all_as}
use Rattle.vault_audit_rows.proofs.LimitLemmas.{tenured}

tenured_as : (marker : Bool) (v : Vault) (h : History) → HasTenuresAs marker v h → IsTenuredAs marker v h
tenured_as true v h has = has
tenured_as false v h has = (has.0, has.2)

pub sound_tenures : (n : SchemaVersion) (db : Database) (v : Vault) → AreSoundAs n db v → AreTenuresOf n db v
sound_tenures n db v it = record {
  rows = it.spells.tenures;
  unmoved = it.spells.kept.unmoved;
  limits = tenured v it.spells.kept;
  tenured = all_as (λ (h : History) (has : HasTenures v h). tenured_as h.entry.marker v h has) v.histories it.spells.kept.sound.tenured;
}

-- Tables of the schema version that their columns show.
use Rattle.std.proofs.Common.{◌≡◌, Bool, true, false, refl, sym, subst, ◌∙◌}
use Rattle.sqlite.specs.Effect.{Database}
use Rattle.vault_core_model.specs.Vault.{Vault}
use Rattle.vault_audit_model.specs.SchemaVersions.{edition_of, is_external}
use Rattle.vault_audit_model.specs.Spells.{AreSound, AreSoundAs}
use Rattle.vault_audit_model.specs.Tables.{vault_schema}

is_external_of : (external : Bool) → is_external (edition_of external) ≡ external
is_external_of false = refl
is_external_of true = refl

-- the vault that they spell is of the kind that has such a file
pub sound_by_edition : (external : Bool) (db : Database) (v : Vault) → AreSoundAs (edition_of external) db v → AreSound db v
sound_by_edition external db v is = subst (λ e. AreSoundAs (edition_of e) db v) (sym (is.spells.kept.external ∙ is_external_of external)) is

-- where another schema is shown, they spell none of that kind
pub edition_of_sound : (external : Bool) (db : Database) → ((e : Bool) → db.schema ≡ vault_schema e → external ≡ e) → (v : Vault) → AreSound db v → AreSoundAs (edition_of external) db v
edition_of_sound external db shows v is = subst (λ e. AreSoundAs (edition_of e) db v) (sym (shows v.external is.spells.schema)) is

use Rattle.std.proofs.Common.{◌∙◌}
use Rattle.vaultctl_machine.proofs.MigrationLemmas.{kept_is_earlier, never_damaged, refused_earlier, sound_as_stated}
use Rattle.vaultctl_machine.proofs.VersionLemmas.{earlier_inside}
use Rattle.vaultctl_machine.proofs.migration.copy_earlier.Goals as goal

pub copy-requires : goal.copy-requires
copy-requires g c = earlier_inside _ _ c.schema_version_of-schema_version.ensures.earlier

pub returns-clause-found : goal.returns-clause-found
returns-clause-found g c = kept_is_earlier _ _ _ _ _ _ c.copy.result.outcome c.schema_version_of-schema_version.ensures.earlier c.copy.ensures.found

pub returns-clause-undamaged : goal.returns-clause-undamaged
returns-clause-undamaged g c v sound =
    let stated = sound_as_stated _ _ _ v (λ m earlier is. c.schema_version_of-schema_version.ensures.exact m earlier (c.schema.ensures.value ∙ is)) sound in
    never_damaged _ _ _ v c.copy.result.outcome stated c.copy.ensures.damaged

pub returns-clause-refused : goal.returns-clause-refused
returns-clause-refused g c read written = refused_earlier _ _ _ _ _ c.copy.result.outcome c.schema_version_of-schema_version.ensures.earlier (c.copy.ensures.refused read written)

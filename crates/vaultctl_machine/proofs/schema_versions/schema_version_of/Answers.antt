use Rattle.std.proofs.Common.{ap, ap₂, subst, sym, IsTrue, ◌∙◌}
use Rattle.std.specs.List.{list_any}
use Rattle.vaultctl_machine.specs.Files.{is_earlier}
use Rattle.vaultctl_machine.specs.SchemaVersions as spec
use Rattle.vaultctl_machine.proofs.VersionLemmas.{version_exact, version_earlier}
use Rattle.vaultctl_machine.proofs.schema_versions.schema_version_of.Goals as goal

pub returns-clause-exact : goal.returns-clause-exact
returns-clause-exact c n earlier is =
    let tables = c.as_slice-tables.ensures in
    let stated = ap₂ (λ a b. spec.version_by a b c.args.external) (c.have_bounds.ensures ∙ ap (list_any spec.has_bounded_rules) tables) (c.have_tenures.ensures ∙ ap (list_any spec.has_tenures) tables) in
    c.version_by.ensures ∙ stated ∙ version_exact c.args.external c.args.schema.now n earlier is

pub returns-clause-earlier : goal.returns-clause-earlier
returns-clause-earlier c =
    subst (λ n. IsTrue (is_earlier c.args.external n)) (sym c.version_by.ensures) (version_earlier c.have_bounds.result c.have_tenures.result c.args.external)

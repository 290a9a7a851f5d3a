-- The place of a table says which it is.
use Rattle.std.proofs.Common.{◌≡◌, ℕ, get_or, refl, sym, ap, ◌∙◌}
use Rattle.vault_base.specs.declared.refusal.Table.{Table}
use Rattle.vault_base.specs.declared.refusal.Table.TheVariants.{Meta, Departments, Callers, Buckets, Rules, Entries, Contents, Settings, Intake, Heads, Tenures, External}
use Rattle.vault_audit_model.specs.declared.schema.SchemaVersion.TheVariants.{Fourth}
use Rattle.vault_audit_model.specs.Order.{place_of, made_in}

abbrev table_at : ℕ → Table
table_at n = get_or (made_in Fourth) n Meta

placed_back : (t : Table) → table_at (place_of t) ≡ t
placed_back Meta = refl
placed_back Departments = refl
placed_back Callers = refl
placed_back Buckets = refl
placed_back Rules = refl
placed_back Entries = refl
placed_back Contents = refl
placed_back Settings = refl
placed_back Intake = refl
placed_back Heads = refl
placed_back Tenures = refl
placed_back External = refl

pub one_table : (t u : Table) → place_of t ≡ place_of u → t ≡ u
one_table t u same = sym (placed_back t) ∙ ap table_at same ∙ placed_back u

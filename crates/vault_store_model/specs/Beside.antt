-- Rows in every table but that of the heads.
use Rattle.std.specs.Prelude.{◌≡◌, ◌==◌, false, IsPermutation}
use Rattle.vault_base.specs.declared.refusal.Table.{Table}
use Rattle.vault_base.specs.declared.refusal.Table.TheVariants as table
use Rattle.vault_audit_model.specs.Order.{place_of}
use Rattle.vault_store_model.specs.Rows.{Rows}

-- two have the same rows in each of them, in any order
abbrev pub AreSameBesideHeads : Rows → Rows → Type 0
AreSameBesideHeads xs ys = (t : Table) → (place_of t == place_of table.Heads) ≡ false → IsPermutation (xs t) (ys t)

-- The tenures of the histories that are put together.
use Rattle.std.proofs.Common.{◌≡◌, Bool, true, false, List, map, Option, Some, None, refl, sym, ap, subst}
use Rattle.std.specs.List.{AllByRecursion}
use Rattle.vault_core_model.specs.declared.records.Entry.{Entry}
use Rattle.vault_core_model.specs.declared.records.History.{History}
use Rattle.vault_core_model.specs.declared.records.Removal.{Removal}
use Rattle.vault_core_model.specs.Sound.{HasTenures, HasTenuresAs, IsWithBucket}
use Rattle.vault_core_model.specs.Vault.{Vault}
use Rattle.vault_audit_model.specs.declared.rows.MetaRow.{MetaRow}
use Rattle.vault_audit_model.specs.declared.schema.SchemaVersion.{SchemaVersion}
use Rattle.vault_audit_model.specs.declared.schema.SchemaVersion.TheVariants.{First, Second, Third, Fourth}
use Rattle.vault_audit_model.specs.Relations.{IsTenured, IsTenuredAs}
use Rattle.vault_audit_model.specs.Rows.{tenure_row}
use Rattle.vault_audit_model.specs.Spells.{entries_in, tenure_rows_of}
use Rattle.vault_audit_model.specs.Tenures.{HasFirstTenures, IsUnmoved, IsUnmovedIn}
use Rattle.vault_audit_model.proofs.ListLemmas.{all_both}
use Rattle.vault_audit_laws.specs.Parts.{IsTenuredAmong, joined, put_together, versions_at}
use Rattle.vault_audit_laws.proofs.JoinLemmas.{all_third, joined_tenures}

-- the vault `v` has these buckets and departments, and the last moment and the moves that meta states
module _ (m : MetaRow) (v : Vault) (cs ss ts : List History) (e : entries_in cs ≡ entries_in ss) (f : entries_in cs ≡ entries_in ts) where
  abbrev whole : Vault
  whole = record v { last = m.last; histories = joined cs ss ts; moves = m.moves }

  abbrev stated : Vault
  stated = versions_at m v.buckets ts

  with_bucket : (removal : Option Removal) (c s t : History) → IsWithBucket stated removal t → IsWithBucket whole removal (record { entry = t.entry; content = c.content; settings = s.settings; tenures = t.tenures })
  with_bucket None c s t is = is
  with_bucket (Some r) c s t is = tt

  has_as : (marker : Bool) (c s t : History) → IsTenuredAs marker stated t → IsTenuredAmong v.departments t → HasTenuresAs marker whole (record { entry = t.entry; content = c.content; settings = s.settings; tenures = t.tenures })
  has_as true c s t is among = is
  has_as false c s t is among = (is.0, among, with_bucket t.entry.removal c s t is.1)

  has_tenures : (c s t : History) → c.entry ≡ s.entry → c.entry ≡ t.entry → IsTenured stated t × IsTenuredAmong v.departments t → HasTenures whole (put_together c s t)
  has_tenures c s t same also is =
      subst (λ (x : Entry). HasTenures whole (record { entry = x; content = c.content; settings = s.settings; tenures = t.tenures })) (sym also) (has_as t.entry.marker c s t is.0 is.1)

  pub joined_tenured : AllByRecursion (IsTenured stated) ts → AllByRecursion (IsTenuredAmong v.departments) ts → AllByRecursion (HasTenures whole) (joined cs ss ts)
  joined_tenured tenured among =
      all_third (λ (t : History). IsTenured stated t × IsTenuredAmong v.departments t) (HasTenures whole) has_tenures cs ss ts e f
      (all_both (IsTenured stated) (IsTenuredAmong v.departments) ts tenured among)

  first_too : (c s t : History) → c.entry ≡ s.entry → c.entry ≡ t.entry → HasFirstTenures v.buckets t → HasFirstTenures v.buckets (put_together c s t)
  first_too c s t same also is =
      subst (λ (x : Entry). HasFirstTenures v.buckets (record { entry = x; content = c.content; settings = s.settings; tenures = t.tenures })) (sym also) is

  unmoved : IsUnmoved stated → IsUnmoved whole
  unmoved is = record { moves = is.moves; tenures = all_third (HasFirstTenures v.buckets) (HasFirstTenures v.buckets) first_too cs ss ts e f is.tenures }

  pub joined_unmoved : (n : SchemaVersion) → IsUnmovedIn n stated → IsUnmovedIn n whole
  joined_unmoved First is = unmoved is
  joined_unmoved Second is = unmoved is
  joined_unmoved Third is = tt
  joined_unmoved Fourth is = tt

  pub joined_rows : (n : SchemaVersion) → tenure_rows_of n stated ≡ tenure_rows_of n whole
  joined_rows First = refl
  joined_rows Second = refl
  joined_rows Third = ap (map tenure_row) (sym (joined_tenures cs ss ts e f))
  joined_rows Fourth = ap (map tenure_row) (sym (joined_tenures cs ss ts e f))

-- The row of meta.
use Rattle.std.proofs.Common.{◌≡◌, List, [], ◌∷◌, ◌++◌, map, take, Bool, true, false, Option, None, Some, slice_get, IsPermutation, refl, subst}
use Rattle.std.proofs.lemmas.List.Sorted.{IsPermutation-map}
use Rattle.sqlite_keyed.proofs.ListLemmas.{map-map}
use Rattle.sqlite_value.specs.Order.{Row}
use Rattle.vault_core_model.specs.Sound.{Sound}
use Rattle.vault_core_model.specs.Vault.{Vault}
use Rattle.vault_audit_model.specs.declared.rows.MetaRow.{MetaRow}
use Rattle.vault_audit_model.specs.Limits.{IsMetaRow}
use Rattle.vault_audit_model.specs.declared.schema.SchemaVersion.TheVariants.{Third, Fourth}
use Rattle.vault_audit_model.specs.Rows.{meta_row, meta_columns_as}
use Rattle.vault_audit_model.specs.SchemaVersions.{edition_of}
use Rattle.vault_audit_model.specs.Spells.{meta_of}
use Rattle.vault_audit_model.specs.Tables.{meta_tree}
use Rattle.vault_audit_model.specs.Values.{number}
use Rattle.vault_audit_model.proofs.SameRows.{same_meta}
use Rattle.vault_audit_rows.specs.Records.{ReportsOne}
use Rattle.vault_store_reads.specs.Queries.{FindsRows}
use Rattle.vault_store_reads.proofs.FindLemmas.{records_found, read_found}
use Rattle.vault_store_reads.proofs.LimitLemmas.{first_limited}
use Rattle.vault_store_reads.proofs.ListLemmas.{none_of}
use Rattle.vault_store_reads.proofs.TextLemmas.{meta_text, meta_shown, meta_selects}

-- the columns that the third schema version has, and what is there for those that it lacks
abbrev of_third : Row → Row
of_third r = take 5 r ++ number 0 ∷ number 1 ∷ []

-- the columns that the fourth schema version has besides have these values in every vault
as_third : (external : Bool) (m : MetaRow) (stored : List Row) → IsPermutation (meta_row m ∷ []) (map (meta_columns_as (edition_of external)) stored) → IsPermutation (meta_row m ∷ []) (map (meta_columns_as Third) stored)
as_third false m stored same = same
as_third true m stored same = subst (IsPermutation (meta_row m ∷ [])) (map-map of_third (meta_columns_as Fourth) stored) (IsPermutation-map of_third _ _ same)

module _ (v : Vault) (rows : List Row) (finds : FindsRows v meta_text [] rows) where
  meta_found : IsPermutation (map meta_row (meta_of v ∷ [])) rows
  meta_found =
      records_found meta_row (meta_columns_as Third) meta_tree [] meta_shown [] (λ r. true) (λ m. true) (λ r. refl) (λ r. refl) (λ m. refl) finds.0 (meta_of v ∷ []) rows (as_third v.external (meta_of v) (finds.0.trees meta_tree) finds.1.spells.meta)
      (finds.2 _ (meta_selects v.external))

  pub meta_read : (row : Row) (m : MetaRow) → slice_get rows 0 ≡ Some row → row ≡ meta_row m → m ≡ meta_of v
  meta_read row m first reads =
      let same : Some m ≡ Some (meta_of v) = read_found meta_row same_meta (Some (meta_of v)) rows row m meta_found first reads in
      cc same

  pub meta_limited : (row : Row) → slice_get rows 0 ≡ Some row → ReportsOne meta_row IsMetaRow row
  meta_limited row first = first_limited meta_row IsMetaRow (meta_of v ∷ []) rows row (record { last = finds.1.spells.kept.limits.last; moves = finds.1.spells.kept.sound.enough_moves }, tt) meta_found first

  pub meta_there : ¬ ◌≡◌ {A = Option Row} None (slice_get rows 0)
  meta_there none = let gone = none_of meta_row (meta_of v ∷ []) rows meta_found none in absurd cc

  pub kept_sound : Sound v
  kept_sound = finds.1.spells.kept.sound

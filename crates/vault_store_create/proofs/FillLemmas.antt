-- The first tables, without a row, and the last ones, with all rows.
use Rattle.std.proofs.Common.{◌≡◌, ℕ, nat_lt, Bool, [], map, cond, false, ◌≤◌, inl, inr, refl, sym, ap, subst, ◌∙◌, arith}
use Rattle.std.specs.Prelude.{IsPermutation}
use Rattle.std.proofs.lemmas.Bool.{cases_Bool}
use Rattle.std.proofs.lemmas.Bool.Decides.{nat_tests}
use Rattle.sqlite_keyed.proofs.ListLemmas.{IsPermutation-same}
use Rattle.sqlite.specs.Effect.{Database, IsDatabase}
use Rattle.vault_base.specs.declared.refusal.Table.{Table}
use Rattle.vault_base.specs.declared.refusal.Table.TheVariants as table
use Rattle.vault_core_model.specs.Vault.{Vault}
use Rattle.vault_audit_model.specs.declared.schema.SchemaVersion.{SchemaVersion}
use Rattle.vault_audit_model.specs.SchemaVersions.{is_external}
use Rattle.vault_audit_model.specs.Order.{place_of}
use Rattle.vault_audit_model.specs.Spells.{AreSound, AreSoundAs}
use Rattle.vault_store_create.specs.Create.{HasAll}
use Rattle.vault_store_model.proofs.RowsLemmas.{sound_is_rows}
use Rattle.vault_store_model.specs.Rows.{AreSameRows, rows_in, rows_of}
use Rattle.vault_store_edits.proofs.TableLemmas.{no_rows, of_each, rows_are}
use Rattle.vault_store_edits.specs.Trees.{columns_of, has_table}
use Rattle.vault_store_create.specs.Copied.{HasCopied, first_rows, registering}
use Rattle.vault_store_create.proofs.RegisteringLemmas.{is_kept_so, none_outside}

none_below : (n : ℕ) → nat_lt n 0 ≡ false
none_below n = let low : 0 ≤ n = omega arith in grind (arith, nat_tests, low)

-- tables without a row
pub none_copied : (n : SchemaVersion) (external : Bool) (from db : Database) → HasAll external db → HasCopied n external from 0 db
none_copied n external from db made v is = record {
  schema = made.schema;
  rows = λ t.
      let bare : rows_in external db t ≡ [] =
      elim (cases_Bool (has_table external t)) [
        | inl has ↦ rows_are external db t has ∙ ap (map (columns_of external t)) (of_each (λ tree. db.trees tree ≡ []) external made.rows t has)
        | inr lacks ↦ no_rows external db t lacks
      ] in
      let none : first_rows (registering external v) 0 t ≡ [] = ap (λ b. cond b (rows_of (registering external v) t) []) (none_below (place_of t)) in
      IsPermutation-same _ _ (none ∙ sym bare);
  listed = λ none. absurd (omega (arith, none));
}

-- all rows are those of the tables before the last, which has none where every content is inside
all_first : (v : Vault) → rows_of v table.External ≡ [] → (t : Table) → first_rows v 11 t ≡ rows_of v t
all_first v none table.Meta = refl
all_first v none table.Departments = refl
all_first v none table.Callers = refl
all_first v none table.Buckets = refl
all_first v none table.Rules = refl
all_first v none table.Entries = refl
all_first v none table.Contents = refl
all_first v none table.Settings = refl
all_first v none table.Intake = refl
all_first v none table.Heads = refl
all_first v none table.Tenures = refl
all_first v none table.External = sym none

-- tables with all rows are sound for the copy of the same vault
pub all_copied : (n : SchemaVersion) (external : Bool) → is_external n ≡ false → (from db : Database) → HasCopied n external from 11 db → (v : Vault) → AreSoundAs n from v
    → AreSound db (registering external v) × IsDatabase db
all_copied n external inside from db copied v is =
    let it = copied v is in
    let new = registering external v in
    let none = none_outside v (is.spells.kept.external ∙ inside) is.spells.kept.sound.whole external in
    let same : AreSameRows (rows_of new) (rows_in external db) = λ t. subst (λ rows. IsPermutation rows (rows_in external db t)) (all_first new none t) (it.rows t) in
    ((sound_is_rows db new).1 (record { schema = it.schema; rows = same; kept = is_kept_so n v (is.spells.kept.external ∙ inside) is.spells.kept external }), it.listed (omega arith))

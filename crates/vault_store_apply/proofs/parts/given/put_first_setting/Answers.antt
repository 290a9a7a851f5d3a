use Rattle.std.proofs.Common.{◌≡◌, ℕ, List, [], ◌∷◌, Option, Some, Ok, ap, subst, sym}
use Rattle.std.specs.Prelude.{slice_get, unwrap_or}
use Rattle.sqlite.specs.declared.error.Error.{Error}
use Rattle.sqlite.specs.Held.{state}
use Rattle.vault_base.specs.declared.refusal.Table.TheVariants as table
use Rattle.vault_core_model.specs.declared.records.Setting.{Setting}
use Rattle.vault_audit_model.specs.Rows.{setting_row}
use Rattle.vault_store_model.specs.Rows.{Rows}
use Rattle.vault_store_model.specs.Edits.{with_row}
use Rattle.vault_store_edits.proofs.ReadyLemmas.{one_done}
use Rattle.vault_store_edits.specs.Inside.{MakesPart}
use Rattle.vault_store_apply.specs.EntryParts.{with_first_setting}
use Rattle.vault_store_apply.proofs.parts.given.put_first_setting.Goals as goal

-- what holds of the row of the first setting holds of what is put in for the settings
of_the_first : (P : (Rows → Rows) → Type 0) (id : ℕ) (settings : List Setting) (s : Setting) → slice_get settings 0 ≡ Some s
    → P (with_row table.Settings (setting_row (record { id = id; place = 1; setting = s }))) → P (with_first_setting id settings)
of_the_first P id [] s e p = absurd (cc)
of_the_first P id (x ∷ xs) s e p =
    subst (λ (y : Setting). P (with_row table.Settings (setting_row (record { id = id; place = 1; setting = y })))) (sym (ap (λ (o : Option Setting). unwrap_or o x) e)) p

pub returns-clause-part : goal.returns-clause-part
returns-clause-part g c =
    let P : (Rows → Rows) → Type 0 = λ edit. MakesPart {E = Error} g.S.Store c.args.tx.now.conn.now c.put_setting.new.tx.conn.now (Ok (tt {0})) edit in
    of_the_first P c.args.id c.args.settings.now c.in-Some.setting.now (sym c.in-Some.ensures.value) (record {
      edits = λ external clean inside ready.
          let old = state g.S.Store c.args.tx.now.conn.now in
          let new = state g.S.Store c.put_setting.new.tx.conn.now in
          one_done external old new _ ready (c.in_ok-put_setting.ensures.edit.edits external clean inside) (c.in_ok-put_setting.ensures.edit.sound external clean inside ready.schema);
      kept = λ _ _ _ _. tt;
      survives = c.put_setting.ensures.edit.survives;
    })

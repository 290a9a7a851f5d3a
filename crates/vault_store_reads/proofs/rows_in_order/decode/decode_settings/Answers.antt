use Rattle.std.proofs.Common.{◌≡◌, [], ◌∷◌, ◌++◌, refl, rules}
use Rattle.std.proofs.lemmas.List.{map-append}
use Rattle.vault_audit_model.specs.declared.rows.SettingRow.{SettingRow}
use Rattle.vault_audit_model.specs.Limits.{IsSettingRow}
use Rattle.vault_audit_model.specs.Rows.{setting_row}
use Rattle.vault_audit_rows.specs.Records.{ReportsOne}
use Rattle.vault_audit_rows.specs.Health.{IsMemory}
use Rattle.vault_store_reads.proofs.LimitLemmas.{at_place}
use Rattle.vault_store_reads.proofs.OrderedListLemmas.{stated_more}
use Rattle.vault_store_reads.proofs.rows_in_order.decode.decode_settings.Goals as goal

pub loop-row-preserved : goal.loop-row-preserved
loop-row-preserved c =
    let it = c.loop-row.invariant in
    let one = c.in_ok-one.ensures.ok in
    let pushed : c.push.new.self ≡ c.loop-row.settings ++ c.in_ok-one.one ∷ [] = search rules in
    (it.0 ++ one.0 ∷ [], stated_more setting_row it.0 one.0 c.args.rows.now c.loop-row.row-index c.row-item.result it.1 c.loop-row-test.true c.row-item.is one.1, rw (map-append (λ (x : SettingRow). x.setting) it.0 (one.0 ∷ []), pushed, it.2, one.2) refl)

pub returns-in_err-one-clause-memory : goal.returns-in_err-one-clause-memory
returns-in_err-one-clause-memory c readable = let one : IsMemory c.in_err-one.field-0.0 = c.in_err-one.ensures.memory (at_place (ReportsOne setting_row IsSettingRow) c.args.rows.now c.loop-row.row-index c.row-item.result readable c.loop-row-test.true c.row-item.is) in search rules

use Rattle.std.proofs.Common.{refl, sym, subst}
use Rattle.vault_core_model.specs.Change.{changed}
use Rattle.vault_core_model.specs.declared.change.Change.{Change}
use Rattle.vault_core_model.specs.declared.change.Change.TheVariants as change
use Rattle.vault_store_model.specs.Known.{AreKnown}
use Rattle.vault_store_model.proofs.KnownLemmas.{as_many_removed, as_many_set}
use Rattle.vault_store_model.proofs.known.Known.follow.Goals as goal

pub returns-in-AddSetting : goal.returns-in-AddSetting
returns-in-AddSetting c v sound later allowed known =
    let it = change.AddSetting c.in-AddSetting.field-0 c.in-AddSetting.field-1 in
    subst (λ (x : Change). AreKnown c.pass.new.self (changed v c.args.at x)) (sym c.in-AddSetting.is)
    (c.pass.ensures v (changed v c.args.at it) known refl (as_many_set v c.args.at c.in-AddSetting.field-0 c.in-AddSetting.field-1) refl refl refl)

pub returns-in-Remove : goal.returns-in-Remove
returns-in-Remove c v sound later allowed known =
    let it = change.Remove c.in-Remove.field-0 c.in-Remove.field-1 in
    subst (λ (x : Change). AreKnown c.pass-in-Remove.new.self (changed v c.args.at x)) (sym c.in-Remove.is)
    (c.pass-in-Remove.ensures v (changed v c.args.at it) known refl (as_many_removed v c.args.at c.in-Remove.field-0 c.in-Remove.field-1) refl refl refl)

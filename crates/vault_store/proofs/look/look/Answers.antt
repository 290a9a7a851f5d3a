use Rattle.std.proofs.Common.{Result, Ok, Err, sym, subst, ◌∙◌}
use Rattle.std.specs.Prelude.{OnOk, IfErr}
use Rattle.sqlite.specs.Held.{state}
use Rattle.vault_audit_model.specs.Spells.{AreSoundAs}
use Rattle.vault_store.proofs.EditionLemmas.{edition_of_sound, sound_by_edition}
use Rattle.vault_store.proofs.TableLemmas.{leaves_alone}
use Rattle.vault_store.proofs.look.look.Goals as goal

on_ok_both : {A E : Type 0} {P Q : Type 0} (T : Type 0) (r : Result A E) → OnOk r P → OnOk r Q → (P → Q → T) → OnOk r T
on_ok_both T (Ok a) p q f = f p q
on_ok_both T (Err e) p q f = tt

on_ok_by : {A E : Type 0} {P : Type 0} (T : Type 0) (r : Result A E) → OnOk r P → (P → T) → OnOk r T
on_ok_by T (Ok a) p f = f p
on_ok_by T (Err e) p f = tt

if_err_by : {A E : Type 0} (P Q : E → Type 0) (r : Result A E) → IfErr r P → ((e : E) → P e → Q e) → IfErr r Q
if_err_by P Q (Ok a) p f = tt
if_err_by P Q (Err e) p f = f e p

pub returns-clause-sound : goal.returns-clause-sound
returns-clause-sound g c clean =
    on_ok_by _ c.look_as.result (c.look_as.ensures.sound clean) (λ it. (it.0, sound_by_edition c.is_external.result (state g.S.Store c.look_as.new.conn).now it.0 (subst (λ n. AreSoundAs n (state g.S.Store c.look_as.new.conn).now it.0) c.of-schema_version.ensures it.1)))

pub returns-clause-damaged : goal.returns-clause-damaged
returns-clause-damaged g c =
    if_err_by _ _ c.look_as.result c.look_as.ensures.damaged
    (λ r did clean t stated v is.
    did clean t stated v (subst (λ n. AreSoundAs n (state g.S.Store c.args.conn.now).now v) (sym c.of-schema_version.ensures)
    (edition_of_sound c.is_external.result (state g.S.Store c.args.conn.now).now (λ e same. c.is_external.ensures e (c.schema.ensures.value ∙ same)) v is)))

pub returns-clause-alone : goal.returns-clause-alone
returns-clause-alone g c clean =
    let h = c.look_as.new.conn in
    let did = c.look_as.ensures in
    on_ok_both _ c.look_as.result did.rest (did.same clean) (λ rest same v sound. leaves_alone g.S.Store h (g.met.S.Store.settled h.store) same.0.is_open rest v sound)

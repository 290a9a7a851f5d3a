-- Edits that leave the connection ready for the next, and parts of a transaction one after another.
use Rattle.std.proofs.Common.{◌≡◌, Bool, Result, Ok, Err, sym, subst, arith}
use Rattle.sqlite_trees.specs.declared.store.Store.{Ghosts}
use Rattle.sqlite.specs.Effect.{IsDatabase}
use Rattle.sqlite.specs.Held.{Held, state}
use Rattle.sqlite.specs.State.{State, HasCleanDisk}
use Rattle.vault_store_model.specs.Rows.{Rows}
use Rattle.vault_store_model.specs.Edits.{and_then, Edits}
use Rattle.vault_store_model.proofs.EditLemmas.{edits_then}
use Rattle.vault_store_edits.specs.Inside.{IsEdit, IsEditOfSound, MakesPart}
use Rattle.vault_store_edits.specs.Ready.{IsReady}
use Rattle.vault_store_edits.proofs.QueryLemmas.{survives_more}
use Rattle.vault_store_edits.proofs.TransactionLemmas.{kept_after}

pub one_done : (external : Bool) (old new : State) (edit : Rows → Rows) → IsReady external old → Edits external old new edit → IsDatabase new.now → Edits external old new edit × IsReady external new
one_done external old new edit ready edits sound = (edits, record { is_open = edits.is_open; schema = edits.schema ready.schema; sound = sound })

module _ {S A E : Type 0} {g : Ghosts S} {old new : Held S} {edit : Rows → Rows} where
  -- one statement is a part
  pub edit_part : (r : Result A E) → IsEdit g old new r edit → MakesPart g old new r edit
  edit_part (Ok x) it = record {
    edits = λ external clean inside ready. one_done external _ _ edit ready (it.edits external clean inside) (it.sound external clean inside ready.schema);
    kept = λ _ _ _ _. tt;
    survives = it.survives;
  }
  edit_part (Err e) it = record { edits = λ _ _ _ _. tt; kept = λ external clean inside ready. it.kept clean inside; survives = it.survives }

  pub sound_part : (r : Result A E) → IsEditOfSound g old new r edit → MakesPart g old new r edit
  sound_part (Ok x) it = record {
    edits = λ external clean inside ready. one_done external _ _ edit ready (it.edits external clean inside ready.sound) (it.sound external clean inside ready.sound ready.schema);
    kept = λ _ _ _ _. tt;
    survives = it.survives;
  }
  sound_part (Err e) it = record { edits = λ _ _ _ _. tt; kept = λ external clean inside ready. it.kept clean inside; survives = it.survives }

module _ {S A B E : Type 0} {g : Ghosts S} {old mid new : Held S} {a : A} {first second : Rows → Rows} where
  -- one part after another, which is made or not
  pub part_then : (r : Result B E) → MakesPart {E = E} g old mid (Ok a) first → MakesPart g mid new r second → MakesPart g old new r (and_then first second)
  part_then (Ok b) one two = record {
    edits = λ external clean inside ready.
        let early : HasCleanDisk (state g mid) = omega (arith, clean, two.survives.clean) in
        let did = one.edits external early inside ready in
        let more = two.edits external clean did.0.inside did.1 in
        (edits_then external _ _ _ first second did.0 more.0, more.1);
    kept = λ _ _ _ _. tt;
    survives = survives_more _ _ _ one.survives two.survives;
  }
  part_then (Err e) one two = record {
    edits = λ _ _ _ _. tt;
    kept = λ external clean inside ready.
        let early : HasCleanDisk (state g mid) = omega (arith, clean, two.survives.clean) in
        let did = one.edits external early inside ready in
        kept_after external _ _ _ first did.0 (two.kept external clean did.0.inside did.1);
    survives = survives_more _ _ _ one.survives two.survives;
  }

-- what isn't made, and for which its error is returned, makes no part of any edit
pub not_made : {S A B E : Type 0} {g : Ghosts S} {old new : Held S} {edit other : Rows → Rows} {e : E} (r : Result B E) → MakesPart {A = A} g old new (Err e) edit → r ≡ Err e → MakesPart g old new r other
not_made {S} {A} {B} {E} {g} {old} {new} {edit} {other} r it same = subst (λ q. MakesPart g old new q other) (sym same) (record { edits = λ _ _ _ _. tt; kept = it.kept; survives = it.survives })

-- A new vault is in its limits and sound.
use Rattle.std.proofs.Common.{◌≡◌, Bool, true, false, lit≤, refl, sym, subst}
use Rattle.sqlite_trees.specs.Tree.{Trees}
use Rattle.sqlite_catalog.specs.Listing.{IsSound}
use Rattle.sqlite.specs.Effect.{Database}
use Rattle.sqlite.specs.State.{State, HasCleanDisk, Survives}
use Rattle.sqlite.proofs.StateLemmas.{survives_then}
use Rattle.vault_core_model.specs.Vault.{opening_of, registrar_name}
use Rattle.vault_core_model.specs.Sound.{Sound}
use Rattle.vault_audit_model.specs.Limits.{IsInLimits}
use Rattle.vault_audit_model.specs.Spells.{IsKept, AreSound}
use Rattle.vault_store_create.specs.Create.{IsFilled, AreOpening}

is_in_limits : (external : Bool) → IsInLimits (opening_of external)
unfolding lib.Utf8.encode
is_in_limits external = record {
  last = lit≤ tt;
  departments = tt;
  callers = (record { name = ((registrar_name, (refl, refl)), refl); dept = tt }, tt);
  buckets = tt;
  notes = tt;
  histories = tt;
}

is_sound : (external : Bool) → Sound (opening_of external)
is_sound external = record {
  ids = tt;
  enough_ids = lit≤ tt;
  order = lit≤ tt;
  in_time = tt;
  whole = tt;
  placed = tt;
  within = λ dept. lit≤ tt;
  tenured = tt;
  enough_moves = lit≤ tt;
  ordered = record { departments = tt; callers = (tt, tt); buckets = tt; notes = tt };
  employed = (refl, tt);
  owned = tt;
  periods = tt;
  rule_sets = tt;
  lines = tt;
  notes = tt;
}

pub is_kept : (external : Bool) → IsKept (opening_of external)
is_kept false = record { external = refl; limits = is_in_limits false; sound = is_sound false; unmoved = tt }
is_kept true = record { external = refl; limits = is_in_limits true; sound = is_sound true; unmoved = tt }

-- what is in the tables of a new vault is read again
pub left : (external : Bool) (db : Database) → IsFilled external db → (trees : Trees) → trees ≡ db.trees → AreOpening external trees
left external db filled trees same =
    let schema = filled.opening.spells.schema in
    subst (AreOpening external) (sym same) (record {
      opening = subst (λ s. AreSound (record { schema = s; trees = db.trees }) (opening_of external)) schema filled.opening;
      listed = subst (λ s. IsSound s db.trees) schema filled.listed;
    })

-- a crash while they are committed leaves them, or what it left before
pub survives_filled : (external : Bool) (start filled end : State) → (HasCleanDisk end → IsFilled external filled.now) → Survives start filled (λ _. ⊥) → Survives filled end (λ trees. trees ≡ filled.now.trees)
    → Survives start end (AreOpening external)
survives_filled external start filled end are one two =
    survives_then start filled end (λ _. ⊥) (λ trees. trees ≡ filled.now.trees) (AreOpening external) (λ clean trees none. absurd none) (λ clean trees same. left external filled.now (are clean) trees same) one two

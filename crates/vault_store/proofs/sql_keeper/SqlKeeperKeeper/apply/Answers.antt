use Rattle.std.proofs.Common.{ℕ, ◌≤◌, sym, ap, subst, ◌∙◌, inl, inr}
use Rattle.std.proofs.Math.Logic.{∥∥₁_elim, ∥∥₁_map, ∥∥₁_prop}
use Rattle.sqlite.specs.Held.{state}
use Rattle.sqlite.specs.State.{Survives}
use Rattle.sqlite.proofs.StateLemmas.{survives_then, survives_weaker}
use Rattle.vault_core_laws.proofs.Soundness.{Sound-changed}
use Rattle.vault_core_model.specs.Allowed.{Allows}
use Rattle.vault_core_model.specs.Change.{changed}
use Rattle.vault_core_model.specs.Vault.{Vault}
use Rattle.vault_core_model.specs.declared.change.Change.{Change}
use Rattle.vault_store_model.specs.Known.{AreKnown}
use Rattle.vault_store_apply.specs.Left.{IsFoundIn, LeavesAlone}
use Rattle.vault_store.specs.Kept.{after}
use Rattle.vault_store.specs.Left.{IsKept}
use Rattle.vault_store.specs.Opening.{noted_vault}
use Rattle.vault_store.proofs.KeptLemmas.{after_push, kept_alone, found_before, found_with}
use Rattle.vault_store.proofs.KnownLemmas.{known_still, known_of_each}
use Rattle.vault_store.proofs.sql_keeper.SqlKeeperKeeper.apply.Goals as goal

pub apply_change-requires-clause-known : goal.apply_change-requires-clause-known
apply_change-requires-clause-known g c =
    let k = c.check_open.new.self in
    (c.in-Ok.ensures.open, λ clean w keeps. known_of_each g.S.Store k.conn _ w _ k.known clean (c.in-Ok.ensures.open clean) k.kept k.knows keeps)

pub invariant_of-self-in-Ok-apply_change : goal.invariant_of-self-in-Ok-apply_change
invariant_of-self-in-Ok-apply_change g c =
    let k = c.check_open.new.self in
    let noted = noted_vault g.S.Store k.opening.at.items k.opening.known in
    let more = ap (after noted) c.and-self.ensures ∙ after_push noted k.made.items c.args.at c.args.change.now in
    record {
      settled = c.apply_change.ensures.mode;
      sure = λ _ clean. c.in-Ok-apply_change.ensures.open clean;
      knows = ∥∥₁_elim k.kept ∥∥₁_prop (λ kept. ∥∥₁_map k.knows (λ knows clean.
          let before = c.apply_change.ensures.honest clean in
          let early = c.check_open.ensures.read.leaves.honest before in
          let in_time = subst (λ (w : Vault). w.last ≤ c.args.at) (sym c.check_open.ensures.read.leaves.same) (c.requires.in_time early) in
          let allowed = subst (λ (w : Vault). Allows w c.args.at c.args.change.now) (sym c.check_open.ensures.read.leaves.same) (c.requires.allowed early) in
          subst (AreKnown c.follow.new.self) (sym more) (c.follow.ensures _ (kept before).sound in_time allowed (knows before))));
      kept = ∥∥₁_map k.kept (λ kept clean.
          let before = c.apply_change.ensures.honest clean in
          let early = c.check_open.ensures.read.leaves.honest before in
          let it = kept before in
          let in_time = subst (λ (w : Vault). w.last ≤ c.args.at) (sym c.check_open.ensures.read.leaves.same) (c.requires.in_time early) in
          let allowed = subst (λ (w : Vault). Allows w c.args.at c.args.change.now) (sym c.check_open.ensures.read.leaves.same) (c.requires.allowed early) in
          let done = c.in-Ok-apply_change.ensures.done clean _ it.keeps in_time allowed in
          kept_alone _ _ _ _ more c.new-self.ensures
          record { sound = Sound-changed _ _ _ it.sound in_time allowed; keeps = done.0; left = done.1 });
    }

pub invariant_of-self : goal.invariant_of-self
invariant_of-self g c =
    let k = c.check_open.new.self in
    let mine : ℕ × Change = (c.args.at, c.args.change.now) in
    record {
      settled = k.settled;
      sure = k.sure;
      knows = k.knows;
      kept = ∥∥₁_map k.kept (λ kept clean.
          let it = kept clean in
          subst (IsKept (state g.S.Store k.conn) _) (sym c.and-refused.ensures)
          record { sound = it.sound; keeps = it.keeps; left = λ trees may. found_before _ k.refused.items mine trees (it.left trees may) });
    }

pub invariant_of-self-in-Err-apply_change : goal.invariant_of-self-in-Err-apply_change
invariant_of-self-in-Err-apply_change g c =
    let k = c.check_open.new.self in
    let mine : ℕ × Change = (c.args.at, c.args.change.now) in
    record {
      settled = c.apply_change.ensures.mode;
      sure = λ sure. absurd (let both = sym c.blame.ensures.doubted ∙ sure in cc);
      knows = known_still c.apply_change.ensures.honest k.knows;
      kept = ∥∥₁_map k.kept (λ kept clean.
          let before = c.apply_change.ensures.honest clean in
          let early = c.check_open.ensures.read.leaves.honest before in
          let it = kept before in
          let in_time = subst (λ (w : Vault). w.last ≤ c.args.at) (sym c.check_open.ensures.read.leaves.same) (c.requires.in_time early) in
          let allowed = subst (λ (w : Vault). Allows w c.args.at c.args.change.now) (sym c.check_open.ensures.read.leaves.same) (c.requires.allowed early) in
          let crash = c.apply_change.ensures.crash _ it.keeps in_time allowed in
          subst (IsKept (state g.S.Store c.apply_change.new.conn) _) (sym c.and-self-in-Err-apply_change.ensures) record {
            sound = it.sound;
            keeps = c.in-Err-apply_change.ensures.nothing clean _ it.keeps;
            left = λ trees may. elim (crash.crash clean trees may) [
              | inl was ↦ found_before _ k.refused.items mine trees (it.left trees was)
              | inr found ↦ found_with _ k.refused.items mine trees record { in_time = in_time; allowed = allowed; found = found }
            ];
          });
    }

pub returns-in-Ok-apply_change-clause-ok : goal.returns-in-Ok-apply_change-clause-ok
returns-in-Ok-apply_change-clause-ok g c =
    let k = c.check_open.new.self in
    let noted = noted_vault g.S.Store k.opening.at.items k.opening.known in
    ap (after noted) c.and-self.ensures ∙ after_push noted k.made.items c.args.at c.args.change.now ∙ ap (λ (w : Vault). changed w c.args.at c.args.change.now) c.check_open.ensures.read.leaves.same

pub returns-in-Ok-apply_change-clause-crash : goal.returns-in-Ok-apply_change-clause-crash
returns-in-Ok-apply_change-clause-crash g c clean =
    let k = c.check_open.new.self in
    let s0 = state g.S.Store c.args.self.now.conn in
    let s1 = state g.S.Store k.conn in
    let s2 = state g.S.Store c.apply_change.new.conn in
    ∥∥₁_map k.kept (λ kept.
    let before = c.apply_change.ensures.honest clean in
    let early = c.check_open.ensures.read.leaves.honest before in
    let in_time = subst (λ (w : Vault). w.last ≤ c.args.at) (sym c.check_open.ensures.read.leaves.same) (c.requires.in_time early) in
    let allowed = subst (λ (w : Vault). Allows w c.args.at c.args.change.now) (sym c.check_open.ensures.read.leaves.same) (c.requires.allowed early) in
    let made = subst (λ (w : Vault). Survives s1 s2 (IsFoundIn (changed w c.args.at c.args.change.now))) c.check_open.ensures.read.leaves.same (c.apply_change.ensures.crash _ (kept before).keeps in_time allowed) in
    survives_then s0 s1 s2 _ _ _ (λ _ trees none. absurd none) (λ _ trees found. found) c.check_open.ensures.crash made)

pub returns-in-Ok-apply_change-clause-alone : goal.returns-in-Ok-apply_change-clause-alone
returns-in-Ok-apply_change-clause-alone g c clean =
    let k = c.check_open.new.self in
    let noted = noted_vault g.S.Store k.opening.at.items k.opening.known in
    let more = ap (after noted) c.and-self.ensures ∙ after_push noted k.made.items c.args.at c.args.change.now in
    ∥∥₁_map k.kept (λ kept.
    let before = c.apply_change.ensures.honest clean in
    let early = c.check_open.ensures.read.leaves.honest before in
    let in_time = subst (λ (w : Vault). w.last ≤ c.args.at) (sym c.check_open.ensures.read.leaves.same) (c.requires.in_time early) in
    let allowed = subst (λ (w : Vault). Allows w c.args.at c.args.change.now) (sym c.check_open.ensures.read.leaves.same) (c.requires.allowed early) in
    subst (LeavesAlone (state g.S.Store c.apply_change.new.conn)) (sym more) (c.in-Ok-apply_change.ensures.done clean _ (kept before).keeps in_time allowed).1)

pub returns-in-Err-clause-crash : goal.returns-in-Err-clause-crash
returns-in-Err-clause-crash g c clean =
    ∣ survives_weaker (state g.S.Store c.args.self.now.conn) (state g.S.Store c.check_open.new.self.conn) _ _ (λ _ trees none. absurd none) c.check_open.ensures.crash ∣₁

pub returns-in-Err-apply_change-clause-crash : goal.returns-in-Err-apply_change-clause-crash
returns-in-Err-apply_change-clause-crash g c clean =
    let k = c.check_open.new.self in
    let s0 = state g.S.Store c.args.self.now.conn in
    let s1 = state g.S.Store k.conn in
    let s2 = state g.S.Store c.apply_change.new.conn in
    ∥∥₁_map k.kept (λ kept.
    let before = c.apply_change.ensures.honest clean in
    let early = c.check_open.ensures.read.leaves.honest before in
    let in_time = subst (λ (w : Vault). w.last ≤ c.args.at) (sym c.check_open.ensures.read.leaves.same) (c.requires.in_time early) in
    let allowed = subst (λ (w : Vault). Allows w c.args.at c.args.change.now) (sym c.check_open.ensures.read.leaves.same) (c.requires.allowed early) in
    let made = subst (λ (w : Vault). Survives s1 s2 (IsFoundIn (changed w c.args.at c.args.change.now))) c.check_open.ensures.read.leaves.same (c.apply_change.ensures.crash _ (kept before).keeps in_time allowed) in
    survives_then s0 s1 s2 _ _ _ (λ _ trees none. absurd none) (λ _ trees found. found) c.check_open.ensures.crash made)

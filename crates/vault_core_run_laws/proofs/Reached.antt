-- What every permitted change keeps holds of every vault that is reached.
use Rattle.std.proofs.Common.{◌≡◌, ℕ, Bool, List, [], ◌∷◌, sym, subst, lit≤, ◌++◌, ◌∙◌, refl}
use Rattle.vault_core_model.specs.declared.change.Change.{Change}
use Rattle.vault_core_model.specs.declared.change.Change.TheVariants.{AddDept, AddCaller, CloseCaller, AddBucket, MoveBucket, SetDefault, SetRules, Admit, AddSetting, Remove}
use Rattle.vault_core_model.specs.declared.command.Command.{Command}
use Rattle.vault_core_model.specs.declared.command.Timed.{Timed}
use Rattle.vault_core_model.specs.declared.reply.Reply.{Reply}
use Rattle.vault_core_model.specs.Vault.{Vault, opening_of}
use Rattle.vault_core_model.specs.Change.{changed}
use Rattle.vault_core_model.specs.Sound.{Sound}
use Rattle.vault_core_model.specs.Step.{IsStep, IsRun, Reached}
use Rattle.vault_core_laws.proofs.Runs.{IsRun-push}
use Rattle.vault_core_laws.proofs.Soundness.{Sound-changed}
use Rattle.vault_core_run_laws.specs.Callers.{KeepsCallers}
use Rattle.vault_core_run_laws.specs.Chains.{MayMake, MayMakeAll}
use Rattle.vault_core_run_laws.specs.Once.{Extends}
use Rattle.vault_core_run_laws.specs.Removals.{RemovalsWerePermitted}
use Rattle.vault_core_run_laws.specs.Worm.{Worm}
use Rattle.vault_core_run_laws.proofs.Once.{Extends-changed, extends_itself}
use Rattle.vault_core_run_laws.proofs.Callers.{Callers-changed, keeps_itself}
use Rattle.vault_core_run_laws.proofs.StepChanges.{IsStep-leads}
use Rattle.vault_core_run_laws.proofs.Kept.{Safe, Safe-changed, Safe-Worm, Safe-permitted}

-- a permitted change keeps P
abbrev pub Keeps : (Vault → Type 0) → Type 0
Keeps P = (v : Vault) (t : ℕ) (who : List ℕ) (c : Change) → Sound v → P v → MayMake v t who c → P (changed v t c)

pub MayMakeAll-keeps : (P : Vault → Type 0) → Keeps P → (v w : Vault) (t : ℕ) (who : List ℕ) (cs : List Change) → MayMakeAll v t who cs w → Sound v × P v → Sound w × P w
MayMakeAll-keeps P keeps v w t who [] made p = let Q : Vault → Type 0 = λ u. Sound u × P u in subst Q (sym made) p
MayMakeAll-keeps P keeps v w t who (c ∷ cs) made p =
    MayMakeAll-keeps P keeps (changed v t c) w t who cs made.1
    (Sound-changed v t c p.0 made.0.in_time made.0.allowed, keeps v t who c p.0 p.1 made.0)

pub IsRun-keeps : (P : Vault → Type 0) → Keeps P → (v w : Vault) (cs : List Timed) (rs : List Reply) → IsRun v cs rs w → Sound v × P v → Sound w × P w
IsRun-keeps P keeps v w [] [] run p = let Q : Vault → Type 0 = λ u. Sound u × P u in subst Q (sym run) p
IsRun-keeps P keeps v w [] (r ∷ rs) run p = absurd run
IsRun-keeps P keeps v w (c ∷ cs) [] run p = absurd run
IsRun-keeps P keeps v w (c ∷ cs) (r ∷ rs) run p =
    let leads = IsStep-leads v run.0 c.at c.who c.command r p.0 run.1 in
    IsRun-keeps P keeps run.0 w cs rs run.2 (MayMakeAll-keeps P keeps v run.0 c.at c.who leads.0 leads.1 p)

pub Sound-opening : (external : Bool) → Sound (opening_of external)
Sound-opening external = record {
  ids = tt;
  enough_ids = lit≤ tt;
  order = lit≤ tt;
  in_time = tt;
  whole = tt;
  placed = tt;
  within = λ dept. lit≤ tt;
  tenured = tt;
  enough_moves = lit≤ tt;
  ordered = record { departments = tt; callers = (tt, tt); buckets = tt; notes = tt };
  employed = (refl, tt);
  owned = tt;
  periods = tt;
  rule_sets = tt;
  lines = tt;
  notes = tt;
}

reached-Safe : (v : Vault) → Reached v → Sound v × Safe v
reached-Safe v reached = IsRun-keeps Safe Safe-changed (opening_of v.external) v reached.0 reached.1 reached.2 (Sound-opening v.external, tt)

pub reached-Sound : (v : Vault) → Reached v → Sound v
reached-Sound v reached = (reached-Safe v reached).0

pub reached-Worm : (v : Vault) → Reached v → Worm v
reached-Worm v reached = Safe-Worm v (reached-Safe v reached).1

pub reached-permitted : (v : Vault) → Reached v → RemovalsWerePermitted v
reached-permitted v reached = Safe-permitted v (reached-Safe v reached).1

pub run-Sound : (v w : Vault) (cs : List Timed) (rs : List Reply) → Sound v → IsRun v cs rs w → Sound w
run-Sound v w cs rs sound run = (IsRun-keeps (λ u. Unit {0}) (λ u t who c s p may. tt) v w cs rs run (sound, tt)).0

pub run-extends : (v w : Vault) (cs : List Timed) (rs : List Reply) → Sound v → IsRun v cs rs w → Extends v.histories w.histories
run-extends v w cs rs sound run =
    (IsRun-keeps (λ u. Extends v.histories u.histories) (Extends-changed v.histories) v w cs rs run (sound, extends_itself v.histories)).1

pub run-callers : (v w : Vault) (cs : List Timed) (rs : List Reply) → Sound v → IsRun v cs rs w → KeepsCallers v w
run-callers v w cs rs sound run = (IsRun-keeps (KeepsCallers v) (Callers-changed v) v w cs rs run (sound, keeps_itself v)).1

-- ---- as it was made

-- no change has a vault register contents that are kept outside, where it didn't, or the other way round
external-changed : (v : Vault) (t : ℕ) (c : Change) → (changed v t c).external ≡ v.external
external-changed v t (AddDept name) = refl
external-changed v t (AddCaller c) = refl
external-changed v t (CloseCaller name) = refl
external-changed v t (AddBucket name dept) = refl
external-changed v t (MoveBucket name dept) = refl
external-changed v t (SetDefault name default) = refl
external-changed v t (SetRules name rules) = refl
external-changed v t (Admit a) = refl
external-changed v t (AddSetting id s) = refl
external-changed v t (Remove id r) = refl

pub run-external : (v w : Vault) (cs : List Timed) (rs : List Reply) → Sound v → IsRun v cs rs w → w.external ≡ v.external
run-external v w cs rs sound run =
    (IsRun-keeps (λ u. u.external ≡ v.external) (λ u t who c s same may. external-changed u t c ∙ same) v w cs rs run (sound, refl)).1

-- ---- one step more

pub step-reached : (v w : Vault) (t : ℕ) (who : List ℕ) (c : Command) (r : Reply) → Reached v → IsStep v t who c r w → Reached w
step-reached v w t who c r before step =
    let timed : Timed = record { at = t; who = who; command = c } in
    let same : w.external ≡ v.external = run-external v w (timed ∷ []) (r ∷ []) (reached-Sound v before) (w, step, refl) in
    let cs = before.0 ++ timed ∷ [] in
    let rs = before.1 ++ r ∷ [] in
    let run = IsRun-push (opening_of v.external) v w before.0 before.1 timed r before.2 step in
    (cs, rs, subst (λ b. IsRun (opening_of b) cs rs w) (sym same) run)

pub step-extends : (v w : Vault) (t : ℕ) (who : List ℕ) (c : Command) (r : Reply) → Sound v → IsStep v t who c r w → Extends v.histories w.histories
step-extends v w t who c r sound step =
    let timed : Timed = record { at = t; who = who; command = c } in
    run-extends v w (timed ∷ []) (r ∷ []) sound (w, step, refl)

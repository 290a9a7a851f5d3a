-- The commands of a run that changed the vault, by themselves.
use Rattle.std.proofs.Common.{◌≡◌, ℕ, Bool, true, false, List, [], ◌∷◌, refl, sym, ◌∙◌, ap₂, subst}
use Rattle.std.specs.Prelude.{◌||◌, filter, cond}
use Rattle.std.specs.List.{list_any}
use Rattle.vault_core_model.specs.Step.{IsRun, IsStep}
use Rattle.vault_core_model.specs.Vault.{Vault}
use Rattle.vault_core_model.specs.declared.command.Command.{Command}
use Rattle.vault_core_model.specs.declared.command.Timed.{Timed}
use Rattle.vault_core_model.specs.declared.reply.Reply.{Reply}
use Rattle.vault_core_model.specs.declared.reply.Reply.TheVariants.{Done, Refused, Stopped}
use Rattle.vault_core_model.specs.declared.reply.Stop.TheVariants.{Memory, Device, VaultFull}
use Rattle.vault_core_outcome.specs.Outcome.{IsOutcome, outcome, reports_fault}
use Rattle.vaultctl_replay.specs.Changes.{changing, is_change, is_cut, with_if}
use Rattle.vaultctl_replay.proofs.Unchanged.{unchanged}

-- ---- they lead there

one-more : (v mid v' : Vault) (c : Timed) (r : Reply) (cs : List Timed) (rs : List Reply) (b : Bool) → is_change r ≡ b → IsStep v c.at c.who c.command r mid → IsRun mid cs rs v' → IsRun v (with_if b c cs) (cond b (r ∷ rs) rs) v'
one-more v mid v' c r cs rs true e step later = (mid, step, later)
one-more v mid v' c r cs rs false e step later = subst (λ w. IsRun w cs rs v') (unchanged v c.at c.who c.command r mid step e) later

pub lead-there : (v v' : Vault) (cs : List Timed) (rs : List Reply) → IsRun v cs rs v' → IsRun v (changing cs rs) (filter is_change rs) v'
lead-there v v' [] [] h = h
lead-there v v' [] (r ∷ rs) h = absurd h
lead-there v v' (c ∷ cs) [] h = absurd h
lead-there v v' (c ∷ cs) (r ∷ rs) (mid, step, later) = one-more v mid v' c r (changing cs rs) (filter is_change rs) (is_change r) refl step (lead-there mid v' cs rs later)

-- ---- they lead nowhere else

abbrev pub OneAnswer : Type 0
OneAnswer = (v : Vault) (t : ℕ) (who : List ℕ) (c : Command) (r : Reply) (v' : Vault) → reports_fault r ≡ false → IsStep v t who c r v' → IsOutcome (outcome v t who c) r v'

left-of : (a b : Bool) → a || b ≡ false → a ≡ false
left-of true b e = e
left-of false b e = refl

right-of : (a b : Bool) → a || b ≡ false → b ≡ false
right-of true b e = absurd cc
right-of false b e = e

-- a reply that reports a change of no cut run reports no fault
faultless : (r : Reply) → is_change r ≡ true → is_cut r ≡ false → reports_fault r ≡ false
faultless (Done a) e f = refl
faultless (Refused x) e f = absurd cc
faultless (Stopped n Memory) e f = absurd cc
faultless (Stopped n Device) e f = absurd cc
faultless (Stopped n VaultFull) e f = refl

kept : (b : Bool) (r : Reply) (rs : List Reply) → is_change r ≡ b → is_cut r ≡ false → list_any reports_fault rs ≡ false → list_any reports_fault (cond b (r ∷ rs) rs) ≡ false
kept true r rs e f later = rw (faultless r e f) later
kept false r rs e f later = later

pub changes-are-faultless : (rs : List Reply) → list_any is_cut rs ≡ false → list_any reports_fault (filter is_change rs) ≡ false
changes-are-faultless [] e = refl
changes-are-faultless (r ∷ rs) e = kept (is_change r) r (filter is_change rs) refl (left-of (is_cut r) (list_any is_cut rs) e) (changes-are-faultless rs (right-of (is_cut r) (list_any is_cut rs) e))

-- two runs of the same commands without a fault are one
pub one-run : OneAnswer → (v v' w : Vault) (cs : List Timed) (rs qs : List Reply) → list_any reports_fault rs ≡ false → list_any reports_fault qs ≡ false → IsRun v cs rs v' → IsRun v cs qs w → (w ≡ v') × (qs ≡ rs)
one-run one v v' w [] [] [] e f h k = (k ∙ sym h, refl)
one-run one v v' w [] [] (q ∷ qs) e f h k = absurd k
one-run one v v' w [] (r ∷ rs) qs e f h k = absurd h
one-run one v v' w (c ∷ cs) [] qs e f h k = absurd h
one-run one v v' w (c ∷ cs) (r ∷ rs) [] e f h k = absurd k
one-run one v v' w (c ∷ cs) (r ∷ rs) (q ∷ qs) e f (mid, step, later) (other, step', later') =
    let a = one v c.at c.who c.command r mid (left-of (reports_fault r) (list_any reports_fault rs) e) step in
    let b = one v c.at c.who c.command q other (left-of (reports_fault q) (list_any reports_fault qs) f) step' in
    let same : other ≡ mid = b.1 ∙ sym a.1 in
    let rest = one-run one mid v' w cs rs qs (right-of (reports_fault r) (list_any reports_fault rs) e) (right-of (reports_fault q) (list_any reports_fault qs) f) later (subst (λ x. IsRun x cs qs w) same later') in
    let first : q ≡ r = b.0 ∙ sym a.0 in
    (rest.0, ap₂ (λ a b. a ∷ b) first rest.1)

pub lead-nowhere-else : OneAnswer → (v v' w : Vault) (cs : List Timed) (rs qs : List Reply) → IsRun v cs rs v' → list_any is_cut rs ≡ false → IsRun v (changing cs rs) qs w → list_any reports_fault qs ≡ false → (w ≡ v') × (qs ≡ filter is_change rs)
lead-nowhere-else one v v' w cs rs qs h e k f = one-run one v v' w (changing cs rs) (filter is_change rs) qs (changes-are-faultless rs e) f (lead-there v v' cs rs h) k

-- In a lawful vault no setting is before the admission of its version.
use Rattle.std.proofs.Common.{ℕ, ◌≤◌, List, [], ◌∷◌, arith}
use Rattle.std.specs.List.{AllByRecursion}
use Rattle.vault_core_model.specs.declared.records.Author.{Author}
use Rattle.vault_core_model.specs.declared.records.History.{History}
use Rattle.vault_core_model.specs.declared.records.Setting.{Setting}
use Rattle.vault_core_model.specs.Vault.{Vault}
use Rattle.vault_core_evidence.specs.Lawful.{AreLawful, AreLawfulAfter, IsLawful, Lawful}
use Rattle.vault_files_events.specs.Typed.{AreDated}

after-dated : (v : Vault) (admitted : ℕ) (s : Setting) (ss : List Setting) → admitted ≤ s.at → AreLawfulAfter v s ss → AllByRecursion (λ n. admitted ≤ n.at) ss
after-dated v admitted s [] low lawful = tt
after-dated v admitted s (n ∷ ns) low lawful =
    let next : admitted ≤ n.at = omega (arith, low, lawful.0.in_order) in
    (next, after-dated v admitted n ns next lawful.1)

settings-dated : (v : Vault) (admitted : ℕ) (by : Author) (ss : List Setting) → AreLawful v admitted by ss → AllByRecursion (λ s. admitted ≤ s.at) ss
settings-dated v admitted by [] lawful = tt
settings-dated v admitted by (s ∷ ss) lawful =
    let first : admitted ≤ s.at = omega (arith, lawful.0.now) in
    (first, after-dated v admitted s ss first lawful.1)

all-dated : (v : Vault) (hs : List History) → AllByRecursion (IsLawful v) hs → AllByRecursion (λ h. AllByRecursion (λ s. h.entry.admitted ≤ s.at) h.settings) hs
all-dated v [] lawful = tt
all-dated v (h ∷ hs) lawful = (settings-dated v h.entry.admitted h.entry.by h.settings lawful.0.settings, all-dated v hs lawful.1)

pub lawful-dated : (v : Vault) → Lawful v → AreDated v
lawful-dated v lawful = all-dated v v.histories lawful

-- Among the held entries of a key, the newest is the last one.
use Rattle.std.proofs.Common.{◌≡◌, ℕ, ◌+◌, ◌≤◌, ◌<◌, ◌==◌, List, [], ◌∷◌, length, filter, cond, Bool, true, false, refl, sym, ap, subst, ◌∙◌, arith}
use Rattle.std.specs.Prelude.{nat_lt, if◌then◌else◌}
use Rattle.std.specs.List.{AllByRecursion}
use Rattle.std.proofs.lemmas.Bool.{le-ltb, lt-ltb}
use Rattle.vault_core_model.specs.declared.records.Entry.{Entry}
use Rattle.vault_core_model.specs.declared.records.History.{History}
use Rattle.vault_core_model.specs.Sound.{AreIdsFrom}
use Rattle.vault_audit_model.specs.Spells.{entries_in}
use Rattle.vault_store_model.proofs.HeadsByEntry.{is_top, last_of}

-- each id is above those in front
abbrev pub IsRising : ℕ → List Entry → Type 0
IsRising n [] = Unit {0}
IsRising n (e ∷ es) = (n < e.id) × IsRising e.id es

pub rising_ids : (m n : ℕ) (hs : List History) → m < n → AreIdsFrom n hs → IsRising m (entries_in hs)
rising_ids m n [] less ids = tt
rising_ids m n (h ∷ hs) less ids = (omega (arith, ids.0), rising_ids h.entry.id (n + 1) hs (omega (arith, ids.0)) ids.1)

from_lower : (m n : ℕ) (es : List Entry) → m ≤ n → IsRising n es → IsRising m es
from_lower m n [] le rising = tt
from_lower m n (e ∷ es) le rising = (omega (arith, rising.0), rising.1)

pub rising-filter : (p : Entry → Bool) (n : ℕ) (es : List Entry) → IsRising n es → IsRising n (filter p es)
rising-filter p n [] rising = tt
rising-filter p n (e ∷ es) rising =
    elim (p e) as (λ b. IsRising n (if b then e ∷ filter p es else filter p es)) [
      | true ↦ (rising.0, rising-filter p e.id es rising.1)
      | false ↦ from_lower n e.id (filter p es) (omega (arith, rising.0)) (rising-filter p e.id es rising.1)
    ]

-- ---- the last of them

below_last : (n : ℕ) (e : Entry) (es : List Entry) → IsRising n (e ∷ es) → AllByRecursion (λ g. g.id ≤ (last_of e es).id) (e ∷ es)
below_last n e [] rising = (omega arith, tt)
below_last n e (f ∷ fs) rising = let rest = below_last e.id f fs rising.1 in (omega (arith, rest.0, rising.1.0), rest)

before_last : (e f : Entry) (fs : List Entry) (n : ℕ) → IsRising n (e ∷ f ∷ fs) → e.id < (last_of f fs).id
before_last e f fs n rising = let rest = below_last e.id f fs rising.1 in omega (arith, rest.0, rising.1.0)

not_empty : (e : Entry) (es : List Entry) → (length (e ∷ es) == 0) ≡ false
not_empty e es = grind arith

none_newer : (i : ℕ) (es : List Entry) → AllByRecursion (λ g. g.id ≤ i) es → (length (filter (λ g. nat_lt i g.id) es) == 0) ≡ true
none_newer i [] all = refl
none_newer i (e ∷ es) all = rw (le-ltb i e.id all.0) (none_newer i es all.1)

some_newer : (i : ℕ) (e : Entry) (es : List Entry) → i < (last_of e es).id → (length (filter (λ g. nat_lt i g.id) (e ∷ es)) == 0) ≡ false
some_newer i e [] lt = rw (lt-ltb i e.id lt) refl
some_newer i e (f ∷ fs) lt =
    elim (nat_lt i e.id) as (λ b. (length (if b then e ∷ filter (λ x. nat_lt i x.id) (f ∷ fs) else filter (λ x. nat_lt i x.id) (f ∷ fs)) == 0) ≡ false)
    [ true ↦ not_empty e (filter (λ x. nat_lt i x.id) (f ∷ fs)) | false ↦ some_newer i f fs lt ]

-- ---- it alone has no newer one

-- the last of them, where there is one
abbrev pub last_alone : List Entry → List Entry
last_alone [] = []
last_alone (e ∷ es) = last_of e es ∷ []

tops_from : (l : Entry) (ls : List Entry) → AllByRecursion (λ g. g.id ≤ (last_of l ls).id) (l ∷ ls) → (n : ℕ) (e : Entry) (es : List Entry) → last_of e es ≡ last_of l ls → IsRising n (e ∷ es)
    → filter (is_top (l ∷ ls)) (e ∷ es) ≡ last_of e es ∷ []
tops_from l ls below n e [] same rising =
    let top : is_top (l ∷ ls) e ≡ true = none_newer e.id (l ∷ ls) (subst (λ (x : Entry). AllByRecursion (λ (g : Entry). g.id ≤ x.id) (l ∷ ls)) (sym same) below) in
    ap (λ b. cond b (e ∷ []) []) top
tops_from l ls below n e (f ∷ fs) same rising =
    let lower : e.id < (last_of l ls).id = subst (λ (x : Entry). e.id < x.id) same (before_last e f fs n rising) in
    let not_top : is_top (l ∷ ls) e ≡ false = some_newer e.id l ls lower in
    ap (λ b. cond b (e ∷ filter (is_top (l ∷ ls)) (f ∷ fs)) (filter (is_top (l ∷ ls)) (f ∷ fs))) not_top ∙ tops_from l ls below e.id f fs same rising.1

pub tops : (n : ℕ) (es : List Entry) → IsRising n es → filter (is_top es) es ≡ last_alone es
tops n [] rising = refl
tops n (e ∷ es) rising = tops_from e es (below_last n e es rising) n e es refl rising

-- In every vault that is reached the tenures agree on the moves.
use Rattle.std.proofs.Common.{◌≡◌, ℕ, ◌+◌, ◌≤◌, List, [], ◌∷◌, ◌++◌, map, Bool, true, false, refl, sym, ap, subst, inl, inr, arith, eqb}
use Rattle.std.specs.Prelude.{not, ◌==◌, if◌then◌else◌}
use Rattle.std.specs.List.{AllByRecursion}
use Rattle.std.specs.Str.{bytes_eq}
use Rattle.std.proofs.lemmas.Bool.{and_parts}
use Rattle.std.proofs.lemmas.Slice.Eq.{bytes_eq-Decides}
use Rattle.vault_core_model.specs.declared.change.Change.{Change}
use Rattle.vault_core_model.specs.declared.change.Change.TheVariants.{AddDept, AddCaller, CloseCaller, AddBucket, MoveBucket, SetDefault, SetRules, Admit, AddSetting, Remove}
use Rattle.vault_core_model.specs.declared.records.Entry.{Entry}
use Rattle.vault_core_model.specs.declared.records.History.{History}
use Rattle.vault_core_model.specs.declared.records.Removal.{Removal}
use Rattle.vault_core_model.specs.declared.records.Setting.{Setting}
use Rattle.vault_core_model.specs.declared.records.Tenure.{Tenure}
use Rattle.vault_core_model.specs.Places.{is_held, is_held_in, is_held_version_in}
use Rattle.vault_core_model.specs.Vault.{Vault, opening_of}
use Rattle.vault_core_model.specs.Change.{changed, next_tenure, removed_by, removed_if, tenured_by, tenured_if, with_setting}
use Rattle.vault_core_model.specs.Sound.{AreTenures, FollowOn, HasTenures, HasTenuresAs, Sound, end_of}
use Rattle.vault_core_model.specs.Allowed.{HasFirstTenure}
use Rattle.vault_core_model.specs.Step.{Reached}
use Rattle.vault_core_laws.proofs.Lists.{All-push, All-both, All-map}
use Rattle.vault_core_run_laws.specs.Chains.{MayMake}
use Rattle.vault_core_run_laws.proofs.Reached.{IsRun-keeps, Sound-opening}
use Rattle.vault_core_evidence.specs.declared.seen_moves.Move.{Move}
use Rattle.vault_core_evidence.specs.Moves.{IsByMove, MovesAgree}

abbrev AreBy : (ℕ → Move) → History → Type 0
AreBy moves h = AllByRecursion (IsByMove moves h.entry.bucket) h.tenures

-- ---- numbers that are taken

abbrev IsTaken : ℕ → Tenure → Type 0
IsTaken moves t = t.number ≤ moves

follow_taken : (moves end : ℕ) (t : Tenure) (ts : List Tenure) → FollowOn moves end t ts → AllByRecursion (IsTaken moves) ts
follow_taken moves end t [] follow = tt
follow_taken moves end t (u ∷ us) follow = (follow.1, follow_taken moves end u us follow.4)

tenures_taken : (v : Vault) (e : Entry) (ts : List Tenure) → AreTenures v e ts → AllByRecursion (IsTaken v.moves) ts
tenures_taken v e [] are = absurd are
tenures_taken v e (t ∷ ts) are = (omega (arith, are.0), follow_taken v.moves (end_of v.last e.removal) t ts are.2)

taken : (v : Vault) (h : History) (marker : Bool) → HasTenuresAs marker v h → AllByRecursion (IsTaken v.moves) h.tenures
taken v h true has = let P : List Tenure → Type 0 = λ ts. AllByRecursion (IsTaken v.moves) ts in subst P (sym has) tt
taken v h false has = tenures_taken v h.entry h.tenures has.0

-- ---- one move more

abbrev with_move : (ℕ → Move) → ℕ → Move → ℕ → Move
with_move moves n m k = if k == n then m else moves k

other_number : (k n : ℕ) → k ≤ n → (k == n + 1) ≡ false
other_number k n le = grind (arith, le)

own_number : (n : ℕ) → (n == n) ≡ true
own_number n = grind arith

still_by : (moves : ℕ → Move) (n : ℕ) (m : Move) (bucket : List ℕ) (t : Tenure) → IsTaken n t → IsByMove moves bucket t → IsByMove (with_move moves (n + 1) m) bucket t
still_by moves n m bucket t le (inl first) = inl first
still_by moves n m bucket t le (inr by) = inr (rw (other_number t.number n le) by)

are_still : (moves : ℕ → Move) (n : ℕ) (m : Move) (bucket : List ℕ) (ts : List Tenure) → AllByRecursion (IsTaken n) ts → AllByRecursion (IsByMove moves bucket) ts → AllByRecursion (IsByMove (with_move moves (n + 1) m) bucket) ts
are_still moves n m bucket ts low by =
    All-both (IsTaken n) (IsByMove moves bucket) (IsByMove (with_move moves (n + 1) m) bucket) (λ t le b. still_by moves n m bucket t le b) ts low by

moved_one : (v : Vault) (t : ℕ) (name dept : List ℕ) (moves : ℕ → Move) (h : History) → HasTenures v h → AreBy moves h → AreBy (with_move moves (v.moves + 1) (record { bucket = name; dept = dept; from = t })) (tenured_if name (next_tenure v t dept) h)
moved_one v t name dept moves h has by = by_held (is_held_version_in name h.entry) refl
  where
    m : Move
    m = record { bucket = name; dept = dept; from = t }

    before : AreBy (with_move moves (v.moves + 1) (record { bucket = name; dept = dept; from = t })) h
    before = are_still moves v.moves (record { bucket = name; dept = dept; from = t }) h.entry.bucket h.tenures (taken v h h.entry.marker has) by

    by_held : (b : Bool) → is_held_version_in name h.entry ≡ b → AreBy (with_move moves (v.moves + 1) (record { bucket = name; dept = dept; from = t })) (if b then tenured_by (next_tenure v t dept) h else h)
    by_held true e =
        let held = (and_parts (not h.entry.marker) (is_held_in name h.entry) e).1 in
        let here : h.entry.bucket ≡ name = (bytes_eq-Decides h.entry.bucket name).0 (and_parts (bytes_eq h.entry.bucket name) (is_held h.entry) held).0 in
        All-push (IsByMove (with_move moves (v.moves + 1) (record { bucket = name; dept = dept; from = t })) h.entry.bucket) h.tenures (next_tenure v t dept) before
        (inr (rw (own_number (v.moves + 1)) (ap (λ (b : List ℕ). record { bucket = b; dept = dept; from = t }) (sym here))))
    by_held false e = before

-- ---- the other changes

set_one : (moves : ℕ → Move) (id : ℕ) (s : Setting) (h : History) → AreBy moves h → AreBy moves (with_setting id s h)
set_one moves id s h by =
    elim (eqb h.entry.id id) as (λ b. AreBy moves (if b then record h { settings = h.settings ++ s ∷ [] } else h)) [ true ↦ by | false ↦ by ]

removed_one : (moves : ℕ → Move) (id : ℕ) (r : Removal) (h : History) → AreBy moves h → AreBy moves (removed_if id r h)
removed_one moves id r h by =
    elim (eqb h.entry.id id) as (λ b. AreBy moves (if b then removed_by r h else h)) [ true ↦ by | false ↦ by ]

new_one : (moves : ℕ → Move) (t : ℕ) (bucket dept : List ℕ) (marker : Bool) (ts : List Tenure) → HasFirstTenure marker t dept ts → AllByRecursion (IsByMove moves bucket) ts
new_one moves t bucket dept true ts first = let P : List Tenure → Type 0 = λ us. AllByRecursion (IsByMove moves bucket) us in subst P (sym first) tt
new_one moves t bucket dept false ts first = let P : List Tenure → Type 0 = λ us. AllByRecursion (IsByMove moves bucket) us in subst P (sym first) (inl refl, tt)

each : (P Q : History → Type 0) (f : History → History) → ((h : History) → P h → Q (f h)) → (hs : List History) → AllByRecursion P hs → AllByRecursion Q (map f hs)
each P Q f go [] all = tt
each P Q f go (h ∷ hs) all = (go h all.0, each P Q f go hs all.1)

pub MovesAgree-changed : (v : Vault) (t : ℕ) (who : List ℕ) (c : Change) → Sound v → MovesAgree v → MayMake v t who c → MovesAgree (changed v t c)
MovesAgree-changed v t who (AddDept name) sound agree may = agree
MovesAgree-changed v t who (AddCaller c) sound agree may = agree
MovesAgree-changed v t who (CloseCaller name) sound agree may = agree
MovesAgree-changed v t who (AddBucket name dept) sound agree may = agree
MovesAgree-changed v t who (MoveBucket name dept) sound agree may =
    let moves = with_move agree.0 (v.moves + 1) (record { bucket = name; dept = dept; from = t }) in
    (moves, All-map (HasTenures v) (AreBy agree.0) (AreBy moves) (tenured_if name (next_tenure v t dept)) (λ h has by. moved_one v t name dept agree.0 h has by) v.histories sound.tenured agree.1)
MovesAgree-changed v t who (SetDefault name default) sound agree may = agree
MovesAgree-changed v t who (SetRules name rules) sound agree may = agree
MovesAgree-changed v t who (Admit a) sound agree may =
    (agree.0, All-push (AreBy agree.0) v.histories a.history agree.1 (new_one agree.0 t a.history.entry.bucket may.allowed.bucket.dept a.history.entry.marker a.history.tenures may.allowed.tenured))
MovesAgree-changed v t who (AddSetting id s) sound agree may =
    (agree.0, each (AreBy agree.0) (AreBy agree.0) (with_setting id s) (λ h by. set_one agree.0 id s h by) v.histories agree.1)
MovesAgree-changed v t who (Remove id r) sound agree may =
    (agree.0, each (AreBy agree.0) (AreBy agree.0) (removed_if id r) (λ h by. removed_one agree.0 id r h by) v.histories agree.1)

none : Move
none = record { bucket = []; dept = []; from = 0 }

pub reached-MovesAgree : (v : Vault) → Reached v → MovesAgree v
reached-MovesAgree v reached =
    (IsRun-keeps MovesAgree MovesAgree-changed (opening_of v.external) v reached.0 reached.1 reached.2 (Sound-opening v.external, ((λ n. none), tt))).1

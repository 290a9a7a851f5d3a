-- What a text needs of events holds of those of a vault whose values are of their types.
use Rattle.std.proofs.Common.{◌≡◌, ℕ, ◌<◌, ◌≤◌, ◌^◌, Bool, true, false, List, [], ◌∷◌, ◌++◌, map, Option, Some, None, refl, sym, ◌∙◌, arith}
use Rattle.std.specs.Prelude.{filter}
use Rattle.std.specs.List.{AllByRecursion}
use Rattle.vault_base.specs.Limits.{most_moves}
use Rattle.vault_core_model.specs.declared.records.Entry.{Entry}
use Rattle.vault_core_model.specs.declared.records.History.{History}
use Rattle.vault_core_model.specs.declared.records.Removal.{Removal}
use Rattle.vault_core_model.specs.declared.records.Setting.{Setting}
use Rattle.vault_core_model.specs.declared.records.Tenure.{Tenure}
use Rattle.vault_core_model.specs.Sound.{FollowOn, HasTenures, HasTenuresAs, Sound}
use Rattle.vault_core_model.specs.Vault.{Vault}
use Rattle.vault_core_evidence.specs.Events.{Event, admission_of, as_admitted, events_before, events_before_of, events_in, events_of, first_department, is_before, later_tenures, move_event, removal_events, setting_event}
use Rattle.vault_files_events.specs.Typed.{AreTyped, IsTyped}
use Rattle.vault_files_events.proofs.CellTexts.{HasDepartment}
use Rattle.vault_files_events.proofs.EventCells.{IsLegibleEvent}

-- ---- tenures

abbrev AreNumbered : List Tenure → Type 0
AreNumbered ts = AllByRecursion (λ t. t.number < 2 ^ 64) ts

abbrev HasLegibleTenures : History → Type 0
HasLegibleTenures h = HasDepartment h.entry.marker (first_department h.tenures) × AreNumbered (later_tenures h.tenures)

numbered : (moves end : ℕ) (t : Tenure) (ts : List Tenure) → moves ≤ most_moves → FollowOn moves end t ts → AreNumbered ts
numbered moves end t [] few follow = tt
numbered moves end t (u ∷ us) few follow = (omega (arith, follow.1, few), numbered moves end u us few follow.4)

tenures-as : (v : Vault) (marker : Bool) (h : History) (ts : List Tenure) → h.tenures ≡ ts → v.moves ≤ most_moves → HasTenuresAs marker v h → HasDepartment marker (first_department ts) × AreNumbered (later_tenures ts)
tenures-as v true h [] is few has = (refl, tt)
tenures-as v true h (t ∷ ts) is few has = absurd (cc (sym is ∙ has))
tenures-as v false h [] is few has = absurd (rw is at has.0)
tenures-as v false h (t ∷ ts) is few has = (refl, numbered v.moves _ t ts few (rw is at has.0).2)

-- ---- the events of one entry

joined : (xs ys : List Event) → AllByRecursion IsLegibleEvent xs → AllByRecursion IsLegibleEvent ys → AllByRecursion IsLegibleEvent (xs ++ ys)
joined [] ys first then = then
joined (x ∷ xs) ys first then = (first.0, joined xs ys first.1 then)

kept-cases : (b : Bool) (m : ℕ) (e : Event) (es : List Event) → is_before m e ≡ b → IsLegibleEvent e → AllByRecursion IsLegibleEvent (filter (is_before m) es) → AllByRecursion IsLegibleEvent (filter (is_before m) (e ∷ es))
kept-cases true m e es is one rest = rw is (one, rest)
kept-cases false m e es is one rest = rw is rest

kept : (m : ℕ) (es : List Event) → AllByRecursion IsLegibleEvent es → AllByRecursion IsLegibleEvent (filter (is_before m) es)
kept m [] are = tt
kept m (e ∷ es) are = kept-cases (is_before m e) m e es refl are.0 (kept m es are.1)

settings-legible : (e : Entry) (ss : List Setting) → IsTyped e → AllByRecursion IsLegibleEvent (map (setting_event e) ss)
settings-legible e [] is = tt
settings-legible e (s ∷ ss) is = (record { entry = is; what = refl }, settings-legible e ss is)

moves-legible : (e : Entry) (ts : List Tenure) → IsTyped e → AreNumbered ts → AllByRecursion IsLegibleEvent (map (move_event e) ts)
moves-legible e [] is are = tt
moves-legible e (t ∷ ts) is are = (record { entry = is; what = (refl, are.0) }, moves-legible e ts is are.1)

removal-legible : (e : Entry) (r : Option Removal) → IsTyped e → AllByRecursion IsLegibleEvent (removal_events e r)
removal-legible e None is = tt
removal-legible e (Some r) is = (record { entry = is; what = refl }, tt)

bare : (e : Entry) → IsTyped e → IsTyped (as_admitted e)
bare e is = record { id = is.id; bucket = is.bucket; key = is.key; size = is.size; digest = is.digest; by = is.by; cause = tt }

all-legible : (h : History) → IsTyped h.entry → HasLegibleTenures h → AllByRecursion IsLegibleEvent (events_of h)
all-legible h is tenures =
    let e = as_admitted h.entry in
    let moves = map (move_event e) (later_tenures h.tenures) in
    let admission : IsLegibleEvent (admission_of h) = record { entry = bare h.entry is; what = (is.by, tenures.0) } in (
      admission,
      joined (map (setting_event e) h.settings) (moves ++ removal_events e h.entry.removal) (settings-legible e h.settings (bare h.entry is))
          (joined moves (removal_events e h.entry.removal) (moves-legible e (later_tenures h.tenures) (bare h.entry is) tenures.1) (removal-legible e h.entry.removal (bare h.entry is))),
    )

-- ---- the events of all

legible-in : (v : Vault) (m : ℕ) (hs : List History) → v.moves ≤ most_moves → AllByRecursion (λ h. IsTyped h.entry) hs → AllByRecursion (HasTenures v) hs → AllByRecursion IsLegibleEvent (events_in m hs)
legible-in v m [] few typed tenured = tt
legible-in v m (h ∷ hs) few typed tenured =
    joined (events_before_of m h) (events_in m hs) (kept m (events_of h) (all-legible h typed.0 (tenures-as v h.entry.marker h h.tenures refl few tenured.0)))
    (legible-in v m hs few typed.1 tenured.1)

pub events-legible : (v : Vault) (m : ℕ) → Sound v → AreTyped v → AllByRecursion IsLegibleEvent (events_before m v)
events-legible v m sound typed = legible-in v m v.histories sound.enough_moves typed sound.tenured

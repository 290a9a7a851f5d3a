-- What was before a moment that is past stays, after any id.
use Rattle.std.proofs.Common.{◌≡◌, ℕ, zero, suc, ◌+◌, ◌<◌, ◌≤◌, List, [], ◌∷◌, ◌++◌, map, drop, Bool, true, false, Option, Some, None, refl, sym, ap, ◌∙◌, arith}
use Rattle.std.specs.Prelude.{filter, nat_lt}
use Rattle.std.specs.List.{AllByRecursion}
use Rattle.std.proofs.lemmas.Bool.{le-ltb, lt-ltb}
use Rattle.std.proofs.lemmas.List.Elements.{filter-append}
use Rattle.vault_core_model.specs.declared.command.Timed.{Timed}
use Rattle.vault_core_model.specs.declared.records.Entry.{Entry}
use Rattle.vault_core_model.specs.declared.records.History.{History}
use Rattle.vault_core_model.specs.declared.records.Removal.{Removal}
use Rattle.vault_core_model.specs.declared.records.Setting.{Setting}
use Rattle.vault_core_model.specs.declared.records.Tenure.{Tenure}
use Rattle.vault_core_model.specs.declared.reply.Reply.{Reply}
use Rattle.vault_core_model.specs.Sound.{AreIdsFrom, Sound}
use Rattle.vault_core_model.specs.Step.{IsRun}
use Rattle.vault_core_model.specs.Vault.{Vault}
use Rattle.vault_core_run_laws.proofs.Reached.{run-Sound}
use Rattle.vault_core_evidence.proofs.Past.{run-past}
use Rattle.vault_core_evidence.specs.Events.{Event, admission_of, as_admitted, events_before, events_before_of, events_in, events_of, is_before, later_tenures, move_event, removal_events, setting_event}
use Rattle.vault_files_events.specs.EventsText.{event_rows}
use Rattle.vault_files_events.specs.Page.{rest_text}

-- ---- the events of an entry have its id

abbrev IsOf : ℕ → List Event → Type 0
IsOf id es = AllByRecursion (λ e. e.entry.id ≡ id) es

joined : (id : ℕ) (xs ys : List Event) → IsOf id xs → IsOf id ys → IsOf id (xs ++ ys)
joined id [] ys first then = then
joined id (x ∷ xs) ys first then = (first.0, joined id xs ys first.1 then)

settings-own : (e : Entry) (ss : List Setting) → IsOf e.id (map (setting_event e) ss)
settings-own e [] = tt
settings-own e (s ∷ ss) = (refl, settings-own e ss)

moves-own : (e : Entry) (ts : List Tenure) → IsOf e.id (map (move_event e) ts)
moves-own e [] = tt
moves-own e (t ∷ ts) = (refl, moves-own e ts)

removal-own : (e : Entry) (r : Option Removal) → IsOf e.id (removal_events e r)
removal-own e None = tt
removal-own e (Some r) = (refl, tt)

events-own : (h : History) → IsOf h.entry.id (events_of h)
events-own h =
    let e = as_admitted h.entry in
    let moves = map (move_event e) (later_tenures h.tenures) in
    joined h.entry.id (admission_of h ∷ []) (map (setting_event e) h.settings ++ (moves ++ removal_events e h.entry.removal)) (refl, tt)
    (joined h.entry.id (map (setting_event e) h.settings) (moves ++ removal_events e h.entry.removal) (settings-own e h.settings)
    (joined h.entry.id moves (removal_events e h.entry.removal) (moves-own e (later_tenures h.tenures)) (removal-own e h.entry.removal)))

kept-cases : (b : Bool) (m id : ℕ) (x : Event) (xs : List Event) → is_before m x ≡ b → x.entry.id ≡ id → IsOf id (filter (is_before m) xs) → IsOf id (filter (is_before m) (x ∷ xs))
kept-cases true m id x xs e own rest = rw e (own, rest)
kept-cases false m id x xs e own rest = rw e rest

kept : (m id : ℕ) (es : List Event) → IsOf id es → IsOf id (filter (is_before m) es)
kept m id [] own = tt
kept m id (x ∷ xs) own = kept-cases (is_before m x) m id x xs refl own.0 (kept m id xs own.1)

-- ---- events of later ids

abbrev is_after : ℕ → Event → Bool
is_after from e = nat_lt from e.entry.id

all_after : (from id : ℕ) (es : List Event) → nat_lt from id ≡ true → IsOf id es → filter (is_after from) es ≡ es
all_after from id [] later own = refl
all_after from id (x ∷ xs) later own =
    let e : nat_lt from x.entry.id ≡ true = ap (nat_lt from) own.0 ∙ later in
    rw e (ap (λ (l : List Event). x ∷ l) (all_after from id xs later own.1))

none_after : (from id : ℕ) (es : List Event) → nat_lt from id ≡ false → IsOf id es → filter (is_after from) es ≡ []
none_after from id [] later own = refl
none_after from id (x ∷ xs) later own =
    let e : nat_lt from x.entry.id ≡ false = ap (nat_lt from) own.0 ∙ later in
    rw e (none_after from id xs later own.1)

past_own : (m : ℕ) (h : History) → IsOf h.entry.id (events_before_of m h)
past_own m h = kept m h.entry.id (events_of h) (events-own h)

-- where all ids are later, these are all events
whole_after : (m from n : ℕ) (hs : List History) → from < n → AreIdsFrom n hs → filter (is_after from) (events_in m hs) ≡ events_in m hs
whole_after m from n [] low ids = refl
whole_after m from n (h ∷ hs) low ids =
    let later : nat_lt from h.entry.id ≡ true = lt-ltb from h.entry.id (omega (arith, low, ids.0)) in
    filter-append (is_after from) (events_before_of m h) (events_in m hs)
    ∙ (ap (λ (l : List Event). l ++ filter (is_after from) (events_in m hs)) (all_after from h.entry.id (events_before_of m h) later (past_own m h))
    ∙ ap (λ (l : List Event). events_before_of m h ++ l) (whole_after m from (n + 1) hs (omega (arith, low)) ids.1))

-- the events of later ids are those of the entries after the first
events_after : (m n k : ℕ) (hs : List History) → AreIdsFrom (n + 1) hs → filter (is_after (n + k)) (events_in m hs) ≡ events_in m (drop k hs)
events_after m n zero hs ids = whole_after m (n + 0) (n + 1) hs (omega arith) ids
events_after m n (suc k) [] ids = refl
events_after m n (suc k) (h ∷ hs) ids =
    let from = n + suc k in
    let later : nat_lt from h.entry.id ≡ false = le-ltb from h.entry.id (omega (arith, ids.0)) in
    let same : from ≡ (n + 1) + k = omega arith in
    filter-append (is_after from) (events_before_of m h) (events_in m hs)
    ∙ (ap (λ (l : List Event). l ++ filter (is_after from) (events_in m hs)) (none_after from h.entry.id (events_before_of m h) later (past_own m h))
    ∙ (ap (λ i. filter (is_after i) (events_in m hs)) same
    ∙ events_after m (n + 1) k hs ids.1))

-- ---- later vaults

events-from : (v : Vault) (m after : ℕ) → Sound v → filter (is_after (0 + after)) (events_before m v) ≡ events_in m (drop after v.histories)
events-from v m after sound = events_after m 0 after v.histories sound.ids

pub rest-stays : (v later : Vault) (commands : List Timed) (replies : List Reply) (m after : ℕ) → Sound v → m ≤ v.last → IsRun v commands replies later → rest_text m after later ≡ rest_text m after v
rest-stays v later commands replies m after sound past run =
    let same = run-past v later commands replies m sound past run in
    ap event_rows (sym (events-from later m after (run-Sound v later commands replies sound run))
    ∙ (ap (filter (is_after (0 + after))) same
    ∙ events-from v m after sound))

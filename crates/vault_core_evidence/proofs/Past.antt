-- Whatever happens later isn't before a moment that is past.
use Rattle.std.proofs.Common.{◌≡◌, ℕ, ◌≤◌, List, [], ◌∷◌, ◌++◌, map, Bool, true, false, Option, Some, None, refl, sym, ap, subst, ◌∙◌, arith, eqb, append-nil}
use Rattle.std.specs.Prelude.{find, filter, not, ◌==◌, if◌then◌else◌, IsSome}
use Rattle.std.specs.List.{AllByRecursion}
use Rattle.std.proofs.lemmas.Bool.{and_parts, le-ltb}
use Rattle.std.proofs.lemmas.List.{map-append}
use Rattle.std.proofs.lemmas.List.Elements.{filter-append}
use Rattle.vault_core_model.specs.declared.change.Change.{Change}
use Rattle.vault_core_model.specs.declared.change.Change.TheVariants.{AddDept, AddCaller, CloseCaller, AddBucket, MoveBucket, SetDefault, SetRules, Admit, AddSetting, Remove}
use Rattle.vault_core_model.specs.declared.command.Timed.{Timed}
use Rattle.vault_core_model.specs.declared.records.Entry.{Entry}
use Rattle.vault_core_model.specs.declared.records.History.{History}
use Rattle.vault_core_model.specs.declared.records.Removal.{Removal}
use Rattle.vault_core_model.specs.declared.records.Setting.{Setting}
use Rattle.vault_core_model.specs.declared.records.Tenure.{Tenure}
use Rattle.vault_core_model.specs.declared.reply.Reply.{Reply}
use Rattle.vault_core_model.specs.Places.{is_held_in, is_held_version_in}
use Rattle.vault_core_model.specs.Vault.{Vault}
use Rattle.vault_core_model.specs.Change.{changed, next_tenure, removed_by, removed_if, tenured_by, tenured_if, with_setting}
use Rattle.vault_core_model.specs.Sound.{AreTenures, HasTenures, HasTenuresAs, Sound}
use Rattle.vault_core_model.specs.Allowed.{Allows, HasFirst, HasFirstTenure, IsHeldId}
use Rattle.vault_core_model.specs.Step.{IsRun}
use Rattle.vault_core_laws.proofs.Newest.{finds_itself}
use Rattle.vault_core_run_laws.specs.Chains.{MayMake}
use Rattle.vault_core_run_laws.proofs.Kept.{by_own_id, held-found}
use Rattle.vault_core_run_laws.proofs.Reached.{IsRun-keeps}
use Rattle.vault_core_evidence.specs.Events.{Admitted, Gone, Event, as_admitted, first_department, later_tenures, admission_of, setting_event, move_event, removal_events, is_before, events_before_of, events_in, events_before}

-- ---- lists

late : (m : ℕ) (e : Event) → m ≤ e.at → is_before m e ≡ false
late m e le = le-ltb e.at m le

late_alone : (m : ℕ) (e : Event) → m ≤ e.at → filter (is_before m) (e ∷ []) ≡ []
late_alone m e le = rw (late m e le) refl

filter_push : (m : ℕ) (es : List Event) (e : Event) → m ≤ e.at → filter (is_before m) (es ++ e ∷ []) ≡ filter (is_before m) es
filter_push m es e le =
    filter-append (is_before m) es (e ∷ []) ∙ (ap (λ xs. filter (is_before m) es ++ xs) (late_alone m e le) ∙ append-nil (filter (is_before m) es))

-- ---- the parts of what happened to an entry

abbrev four : List Event → List Event → List Event → List Event → List Event
four a s t r = a ++ (s ++ (t ++ r))

abbrev Parts : ℕ → History → List Event
Parts m h =
    four (filter (is_before m) (admission_of h ∷ []))
    (filter (is_before m) (map (setting_event (as_admitted h.entry)) h.settings))
    (filter (is_before m) (map (move_event (as_admitted h.entry)) (later_tenures h.tenures)))
    (filter (is_before m) (removal_events (as_admitted h.entry) h.entry.removal))

filter_four : (m : ℕ) (a s t r : List Event) → filter (is_before m) (four a s t r) ≡ four (filter (is_before m) a) (filter (is_before m) s) (filter (is_before m) t) (filter (is_before m) r)
filter_four m a s t r =
    let p = is_before m in
    filter-append p a (s ++ (t ++ r))
    ∙ (ap (λ xs. filter p a ++ xs) (filter-append p s (t ++ r))
    ∙ ap (λ xs. filter p a ++ (filter p s ++ xs)) (filter-append p t r))

by_parts : (m : ℕ) (h : History) → events_before_of m h ≡ Parts m h
by_parts m h =
    filter_four m (admission_of h ∷ []) (map (setting_event (as_admitted h.entry)) h.settings) (map (move_event (as_admitted h.entry)) (later_tenures h.tenures)) (removal_events (as_admitted h.entry) h.entry.removal)

-- ---- one setting more

setting_late : (m t id : ℕ) (s : Setting) (h : History) → m ≤ t → s.at ≡ t → events_before_of m (with_setting id s h) ≡ events_before_of m h
setting_late m t id s h le now =
    elim (eqb h.entry.id id) as (λ b. events_before_of m (if b then record h { settings = h.settings ++ s ∷ [] } else h) ≡ events_before_of m h) [
      | true ↦ added
      | false ↦ refl
    ]
  where
    e : Entry
    e = as_admitted h.entry

    part : filter (is_before m) (map (setting_event (as_admitted h.entry)) (h.settings ++ s ∷ [])) ≡ filter (is_before m) (map (setting_event (as_admitted h.entry)) h.settings)
    part =
        ap (filter (is_before m)) (map-append (setting_event (as_admitted h.entry)) h.settings (s ∷ []))
        ∙ filter_push m (map (setting_event (as_admitted h.entry)) h.settings) (setting_event (as_admitted h.entry) s) (omega (arith, le, now))

    added : events_before_of m (record h { settings = h.settings ++ s ∷ [] }) ≡ events_before_of m h
    added =
        by_parts m (record h { settings = h.settings ++ s ∷ [] })
        ∙ (ap (λ xs. four (filter (is_before m) (admission_of h ∷ [])) xs (filter (is_before m) (map (move_event (as_admitted h.entry)) (later_tenures h.tenures))) (filter (is_before m) (removal_events (as_admitted h.entry) h.entry.removal))) part
        ∙ sym (by_parts m h))

-- ---- one tenure more

first_push : (ts : List Tenure) (t : Tenure) → IsSome (first_department ts) → first_department (ts ++ t ∷ []) ≡ first_department ts
first_push [] t some = absurd (cc some)
first_push (u ∷ us) t some = refl

later_push : (ts : List Tenure) (t : Tenure) → IsSome (first_department ts) → later_tenures (ts ++ t ∷ []) ≡ later_tenures ts ++ t ∷ []
later_push [] t some = absurd (cc some)
later_push (u ∷ us) t some = refl

tenured_late : (m : ℕ) (t : Tenure) (h : History) → m ≤ t.from → IsSome (first_department h.tenures) → events_before_of m (tenured_by t h) ≡ events_before_of m h
tenured_late m t h le some =
    by_parts m (tenured_by t h)
    ∙ (ap (λ d. four (filter (is_before m) (record { entry = as_admitted h.entry; at = h.entry.admitted; what = Admitted h.entry.by d } ∷ [])) (filter (is_before m) (map (setting_event (as_admitted h.entry)) h.settings)) (filter (is_before m) (map (move_event (as_admitted h.entry)) (later_tenures (h.tenures ++ t ∷ [])))) (filter (is_before m) (removal_events (as_admitted h.entry) h.entry.removal))) (first_push h.tenures t some)
    ∙ (ap (λ xs. four (filter (is_before m) (admission_of h ∷ [])) (filter (is_before m) (map (setting_event (as_admitted h.entry)) h.settings)) xs (filter (is_before m) (removal_events (as_admitted h.entry) h.entry.removal))) part
    ∙ sym (by_parts m h)))
  where
    part : filter (is_before m) (map (move_event (as_admitted h.entry)) (later_tenures (h.tenures ++ t ∷ []))) ≡ filter (is_before m) (map (move_event (as_admitted h.entry)) (later_tenures h.tenures))
    part =
        ap (λ ts. filter (is_before m) (map (move_event (as_admitted h.entry)) ts)) (later_push h.tenures t some)
        ∙ (ap (filter (is_before m)) (map-append (move_event (as_admitted h.entry)) (later_tenures h.tenures) (t ∷ []))
        ∙ filter_push m (map (move_event (as_admitted h.entry)) (later_tenures h.tenures)) (move_event (as_admitted h.entry) t) le)

some_first : (v : Vault) (h : History) (marker : Bool) (ts : List Tenure) → h.tenures ≡ ts → marker ≡ false → HasTenuresAs marker v h → IsSome (first_department ts)
some_first v h true ts is m has = absurd (cc m)
some_first v h false [] is m has = let P : List Tenure → Type 0 = λ us. AreTenures v h.entry us in absurd (subst P is has.0)
some_first v h false (t ∷ ts) is m has = refl

not_marker : (b : Bool) → not b ≡ true → b ≡ false
not_marker true e = absurd (cc e)
not_marker false e = refl

moved_late : (v : Vault) (m : ℕ) (bucket : List ℕ) (t : Tenure) (h : History) → m ≤ t.from → HasTenures v h → events_before_of m (tenured_if bucket t h) ≡ events_before_of m h
moved_late v m bucket t h le has = by_held (is_held_version_in bucket h.entry) refl
  where
    by_held : (b : Bool) → is_held_version_in bucket h.entry ≡ b → events_before_of m (if b then tenured_by t h else h) ≡ events_before_of m h
    by_held true e =
        tenured_late m t h le (some_first v h h.entry.marker h.tenures refl (not_marker h.entry.marker (and_parts (not h.entry.marker) (is_held_in bucket h.entry) e).0) has)
    by_held false e = refl

-- ---- the removal

removed_late : (m : ℕ) (r : Removal) (h : History) → m ≤ r.at → h.entry.removal ≡ None → events_before_of m (removed_by r h) ≡ events_before_of m h
removed_late m r h le held =
    by_parts m (removed_by r h)
    ∙ (ap (λ xs. four (filter (is_before m) (admission_of h ∷ [])) (filter (is_before m) (map (setting_event (as_admitted h.entry)) h.settings)) (filter (is_before m) (map (move_event (as_admitted h.entry)) (later_tenures h.tenures))) xs) part
    ∙ sym (by_parts m h))
  where
    part : filter (is_before m) (removal_events (as_admitted h.entry) (Some r)) ≡ filter (is_before m) (removal_events (as_admitted h.entry) h.entry.removal)
    part =
        late_alone m (record { entry = as_admitted h.entry; at = r.at; what = Gone r }) le
        ∙ ap (λ (o : Option Removal). filter (is_before m) (removal_events (as_admitted h.entry) o)) (sym held)

gone_late : (v : Vault) (m t id : ℕ) (r : Removal) (h : History) → m ≤ t → r.at ≡ t → IsHeldId v id → find (λ g. g.entry.id == h.entry.id) v.histories ≡ Some h → events_before_of m (removed_if id r h) ≡ events_before_of m h
gone_late v m t id r h le now held own = by_id (eqb h.entry.id id) refl
  where
    by_id : (b : Bool) → eqb h.entry.id id ≡ b → events_before_of m (if b then removed_by r h else h) ≡ events_before_of m h
    by_id true e = removed_late m r h (omega (arith, le, now)) (held-found v id h (by_own_id v id h own e) held)
    by_id false e = refl

-- ---- the admission

no_setting : (m t : ℕ) (e : Entry) (marker : Bool) (ss : List Setting) → m ≤ t → HasFirst marker t ss → filter (is_before m) (map (setting_event e) ss) ≡ []
no_setting m t e true ss le first = ap (λ xs. filter (is_before m) (map (setting_event e) xs)) first
no_setting m t e false [] le first = refl
no_setting m t e false (s ∷ []) le first = late_alone m (setting_event e s) (omega (arith, le, first.0))
no_setting m t e false (s ∷ r ∷ rs) le first = absurd first

no_move : (m t : ℕ) (e : Entry) (dept : List ℕ) (marker : Bool) (ts : List Tenure) → HasFirstTenure marker t dept ts → filter (is_before m) (map (move_event e) (later_tenures ts)) ≡ []
no_move m t e dept true ts first = ap (λ xs. filter (is_before m) (map (move_event e) (later_tenures xs))) first
no_move m t e dept false ts first = ap (λ xs. filter (is_before m) (map (move_event e) (later_tenures xs))) first

new_late : (m t : ℕ) (dept : List ℕ) (h : History) → m ≤ t → h.entry.admitted ≡ t → h.entry.removal ≡ None → HasFirst h.entry.marker t h.settings → HasFirstTenure h.entry.marker t dept h.tenures → events_before_of m h ≡ []
new_late m t dept h le now held first tenured =
    by_parts m h
    ∙ (ap (λ xs. four xs (filter (is_before m) (map (setting_event (as_admitted h.entry)) h.settings)) (filter (is_before m) (map (move_event (as_admitted h.entry)) (later_tenures h.tenures))) (filter (is_before m) (removal_events (as_admitted h.entry) h.entry.removal))) (late_alone m (admission_of h) (omega (arith, le, now)))
    ∙ (ap (λ xs. four [] xs (filter (is_before m) (map (move_event (as_admitted h.entry)) (later_tenures h.tenures))) (filter (is_before m) (removal_events (as_admitted h.entry) h.entry.removal))) (no_setting m t (as_admitted h.entry) h.entry.marker h.settings le first)
    ∙ (ap (λ xs. four [] [] xs (filter (is_before m) (removal_events (as_admitted h.entry) h.entry.removal))) (no_move m t (as_admitted h.entry) dept h.entry.marker h.tenures tenured)
    ∙ ap (λ (o : Option Removal). filter (is_before m) (removal_events (as_admitted h.entry) o)) held)))

-- ---- all entries

same_after : (m : ℕ) (P : History → Type 0) (f : History → History) → ((h : History) → P h → events_before_of m (f h) ≡ events_before_of m h) → (hs : List History) → AllByRecursion P hs → events_in m (map f hs) ≡ events_in m hs
same_after m P f go [] all = refl
same_after m P f go (h ∷ hs) all =
    ap (λ xs. xs ++ events_in m (map f hs)) (go h all.0) ∙ ap (λ xs. events_before_of m h ++ xs) (same_after m P f go hs all.1)

one_more : (m : ℕ) (hs : List History) (h : History) → events_before_of m h ≡ [] → events_in m (hs ++ h ∷ []) ≡ events_in m hs
one_more m [] h none = ap (λ xs. xs ++ []) none
one_more m (g ∷ gs) h none = ap (λ xs. events_before_of m g ++ xs) (one_more m gs h none)

-- ---- the changes

-- any allowed change, whoever makes it: so also the one that a crash may leave after what was acknowledged
pub past_changed : (m : ℕ) (v : Vault) (t : ℕ) (c : Change) → Sound v → m ≤ t → Allows v t c → events_before m (changed v t c) ≡ events_before m v
past_changed m v t (AddDept name) sound le may = refl
past_changed m v t (AddCaller c) sound le may = refl
past_changed m v t (CloseCaller name) sound le may = refl
past_changed m v t (AddBucket name dept) sound le may = refl
past_changed m v t (MoveBucket name dept) sound le may =
    same_after m (HasTenures v) (tenured_if name (next_tenure v t dept)) (λ h has. moved_late v m name (next_tenure v t dept) h le has) v.histories sound.tenured
past_changed m v t (SetDefault name default) sound le may = refl
past_changed m v t (SetRules name rules) sound le may = refl
past_changed m v t (Admit a) sound le may =
    one_more m v.histories a.history (new_late m t may.bucket.dept a.history le may.now may.held may.first may.tenured)
past_changed m v t (AddSetting id s) sound le may =
    same_after m (λ h. find (λ g. g.entry.id == h.entry.id) v.histories ≡ Some h) (with_setting id s) (λ h own. setting_late m t id s h le may.now) v.histories (finds_itself 1 v.histories sound.ids)
past_changed m v t (Remove id r) sound le may =
    same_after m (λ h. find (λ g. g.entry.id == h.entry.id) v.histories ≡ Some h) (removed_if id r) (λ h own. gone_late v m t id r h le may.now may.held own) v.histories (finds_itself 1 v.histories sound.ids)

last_changed : (v : Vault) (t : ℕ) (c : Change) → (changed v t c).last ≡ t
last_changed v t (AddDept name) = refl
last_changed v t (AddCaller c) = refl
last_changed v t (CloseCaller name) = refl
last_changed v t (AddBucket name dept) = refl
last_changed v t (MoveBucket name dept) = refl
last_changed v t (SetDefault name default) = refl
last_changed v t (SetRules name rules) = refl
last_changed v t (Admit a) = refl
last_changed v t (AddSetting id s) = refl
last_changed v t (Remove id r) = refl

-- m isn't past the last moment, and what happened before m is that list
abbrev pub IsPast : ℕ → List Event → Vault → Type 0
IsPast m es v = (m ≤ v.last) × (events_before m v ≡ es)

pub IsPast-changed : (m : ℕ) (es : List Event) (v : Vault) (t : ℕ) (who : List ℕ) (c : Change) → Sound v → IsPast m es v → MayMake v t who c → IsPast m es (changed v t c)
IsPast-changed m es v t who c sound past may =
    let le : m ≤ t = omega (arith, past.0, may.in_time) in
    (omega (arith, le, last_changed v t c), past_changed m v t c sound le may.allowed ∙ past.1)

pub run-past : (v w : Vault) (cs : List Timed) (rs : List Reply) (m : ℕ) → Sound v → m ≤ v.last → IsRun v cs rs w → events_before m w ≡ events_before m v
run-past v w cs rs m sound le run =
    (IsRun-keeps (IsPast m (events_before m v)) (IsPast-changed m (events_before m v)) v w cs rs run (sound, (le, refl))).1.1

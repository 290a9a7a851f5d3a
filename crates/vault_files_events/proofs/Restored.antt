-- What a record doesn't show of its entry, the record of the admission before it does.
use Rattle.std.proofs.Common.{◌≡◌, ℕ, ◌≤◌, Bool, true, false, List, [], ◌∷◌, ◌++◌, map, Option, Some, None, refl, sym, ap, ◌∙◌, arith}
use Rattle.std.specs.Prelude.{filter}
use Rattle.std.specs.List.{AllByRecursion}
use Rattle.std.proofs.lemmas.Bool.{le-ltb, ltb-false}
use Rattle.std.proofs.lemmas.List.{map-append}
use Rattle.vault_core_model.specs.declared.records.Author.{Author}
use Rattle.vault_core_model.specs.declared.records.Author.TheVariants as author
use Rattle.vault_core_model.specs.declared.records.Entry.{Entry}
use Rattle.vault_core_model.specs.declared.records.History.{History}
use Rattle.vault_core_model.specs.declared.records.Removal.{Removal}
use Rattle.vault_core_model.specs.declared.records.Setting.{Setting}
use Rattle.vault_core_model.specs.declared.records.Tenure.{Tenure}
use Rattle.vault_core_model.specs.Sound.{FollowOn, HasTenures, HasTenuresAs, IsInTime, LiesBetween, Sound}
use Rattle.vault_core_model.specs.Vault.{Vault}
use Rattle.vault_core_evidence.specs.Events.{Happening, Admitted, Locked, Moved, Gone, Event, admission_of, as_admitted, events_before, events_before_of, events_in, is_before, later_tenures, move_event, removal_events, setting_event}
use Rattle.vault_files_events.specs.Typed.{AreDated}
use Rattle.vault_files_events.proofs.EventCells.{seen}

-- ---- the moment and the author of the last admission

abbrev moment_after : ℕ → ℕ → Happening → ℕ
moment_after old now (Admitted by dept) = now
moment_after old now (Locked s) = old
moment_after old now (Moved t) = old
moment_after old now (Gone r) = old

abbrev author_after : Author → Happening → Author
author_after old (Admitted by dept) = by
author_after old (Locked s) = old
author_after old (Moved t) = old
author_after old (Gone r) = old

-- each event, its entry admitted as the last admission says
abbrev IsDated : History → Type 0
IsDated h = AllByRecursion (λ s. h.entry.admitted ≤ s.at) h.settings

abbrev pub restored : ℕ → Author → List Event → List Event
restored at by [] = []
restored at by (e ∷ es) =
    let rest = restored (moment_after at e.at e.what) (author_after by e.what) es in
    record e { entry = record e.entry { admitted = moment_after at e.at e.what; by = author_after by e.what } } ∷ rest

-- ---- the events after an admission

abbrev is_admission : Happening → Bool
is_admission (Admitted by dept) = true
is_admission (Locked s) = false
is_admission (Moved t) = false
is_admission (Gone r) = false

-- events of that entry, none of which is its admission, from a moment on
abbrev AreLater : Entry → List Event → Type 0
AreLater e es = AllByRecursion (λ x. (x.entry ≡ e) × (is_admission x.what ≡ false) × (e.admitted ≤ x.at)) es

joined : (e : Entry) (xs ys : List Event) → AreLater e xs → AreLater e ys → AreLater e (xs ++ ys)
joined e [] ys first then = then
joined e (x ∷ xs) ys first then = (first.0, joined e xs ys first.1 then)

kept-cases : (b : Bool) (m : ℕ) (e : Entry) (x : Event) (xs : List Event) → is_before m x ≡ b → (x.entry ≡ e) × (is_admission x.what ≡ false) × (e.admitted ≤ x.at) → AreLater e (filter (is_before m) xs) → AreLater e (filter (is_before m) (x ∷ xs))
kept-cases true m e x xs is one rest = rw is (one, rest)
kept-cases false m e x xs is one rest = rw is rest

kept : (m : ℕ) (e : Entry) (xs : List Event) → AreLater e xs → AreLater e (filter (is_before m) xs)
kept m e [] are = tt
kept m e (x ∷ xs) are = kept-cases (is_before m x) m e x xs refl are.0 (kept m e xs are.1)

none-cases : (m : ℕ) (e : Entry) (xs : List Event) → m ≤ e.admitted → AreLater e xs → filter (is_before m) xs ≡ []
none-cases m e [] late are = refl
none-cases m e (x ∷ xs) late are =
    let is : is_before m x ≡ false = le-ltb x.at m (omega (arith, late, are.0.2)) in
    rw is (none-cases m e xs late are.1)

same-moment : (at now : ℕ) (w : Happening) → is_admission w ≡ false → moment_after at now w ≡ at
same-moment at now (Admitted by dept) e = absurd (cc e)
same-moment at now (Locked s) e = refl
same-moment at now (Moved t) e = refl
same-moment at now (Gone r) e = refl

same-author : (by : Author) (w : Happening) → is_admission w ≡ false → author_after by w ≡ by
same-author by (Admitted a dept) e = absurd (cc e)
same-author by (Locked s) e = refl
same-author by (Moved t) e = refl
same-author by (Gone r) e = refl

-- an event of an entry, admitted then and by that author
abbrev as_of : ℕ → Author → Event → Event
as_of at by e = record { entry = record { id = e.entry.id; bucket = e.entry.bucket; key = e.entry.key; marker = e.entry.marker; size = e.entry.size; digest = e.entry.digest; admitted = at; by = by; removal = None }; at = e.at; what = e.what }

later-restored : (e : Entry) (xs more : List Event) → e.removal ≡ None → AreLater e xs → restored e.admitted e.by (map seen xs ++ more) ≡ xs ++ restored e.admitted e.by more
later-restored e [] more held are = refl
later-restored e (x ∷ xs) more held are =
    let at : moment_after e.admitted x.at x.what ≡ e.admitted = same-moment e.admitted x.at x.what are.0.1 in
    let by : author_after e.by x.what ≡ e.by = same-author e.by x.what are.0.1 in
    let first : as_of e.admitted e.by x ≡ x = own x e are.0.0 held in
    let rest = later-restored e xs more held are.1 in
    rw (at, by) (ap (λ (y : Event). y ∷ restored e.admitted e.by (map seen xs ++ more)) first ∙ ap (λ (l : List Event). x ∷ l) rest)
  where
    own : (x : Event) (e : Entry) → x.entry ≡ e → e.removal ≡ None → as_of e.admitted e.by x ≡ x
    own x e is held =
        ap (λ (f : Entry). as_of f.admitted f.by x) (sym is)
        ∙ ap (λ (o : Option Removal). record x { entry = record x.entry { removal = o } }) (sym (ap (λ (f : Entry). f.removal) is ∙ held))

-- ---- the events of an entry

settings-later : (e : Entry) (ss : List Setting) → AllByRecursion (λ s. e.admitted ≤ s.at) ss → AreLater e (map (setting_event e) ss)
settings-later e [] dated = tt
settings-later e (s ∷ ss) dated = ((refl, refl, dated.0), settings-later e ss dated.1)

moves-later : (e : Entry) (ts : List Tenure) → AllByRecursion (λ t. e.admitted ≤ t.from) ts → AreLater e (map (move_event e) ts)
moves-later e [] dated = tt
moves-later e (t ∷ ts) dated = ((refl, refl, dated.0), moves-later e ts dated.1)

removal-later : (e : Entry) (last : ℕ) (r : Option Removal) → LiesBetween e.admitted last r → AreLater e (removal_events e r)
removal-later e last None between = tt
removal-later e last (Some r) between = ((refl, refl, between.0), tt)

follow-later : (moves end admitted : ℕ) (t : Tenure) (ts : List Tenure) → admitted ≤ t.from → FollowOn moves end t ts → AllByRecursion (λ u. admitted ≤ u.from) ts
follow-later moves end admitted t [] low follow = tt
follow-later moves end admitted t (u ∷ us) low follow =
    let next : admitted ≤ u.from = omega (arith, low, follow.2) in
    (next, follow-later moves end admitted u us next follow.4)

tenures-later : (v : Vault) (marker : Bool) (h : History) (ts : List Tenure) → h.tenures ≡ ts → HasTenuresAs marker v h → AllByRecursion (λ t. h.entry.admitted ≤ t.from) (later_tenures ts)
tenures-later v true h [] is has = tt
tenures-later v true h (t ∷ ts) is has = absurd (cc (sym is ∙ has))
tenures-later v false h [] is has = tt
tenures-later v false h (t ∷ ts) is has =
    let are = rw is at has.0 in
    follow-later v.moves _ h.entry.admitted t ts (omega (arith, are.1)) are.2

-- what happened to an entry after its admission
abbrev later_events : History → List Event
later_events h =
    map (setting_event (as_admitted h.entry)) h.settings
    ++ (map (move_event (as_admitted h.entry)) (later_tenures h.tenures)
    ++ removal_events (as_admitted h.entry) h.entry.removal)

all-later : (v : Vault) (h : History) → IsInTime v.last h → HasTenures v h → IsDated h → AreLater (as_admitted h.entry) (later_events h)
all-later v h in_time tenured dated =
    let e = as_admitted h.entry in
    let moves = map (move_event e) (later_tenures h.tenures) in
    joined e (map (setting_event e) h.settings) (moves ++ removal_events e h.entry.removal) (settings-later e h.settings dated)
    (joined e moves (removal_events e h.entry.removal) (moves-later e (later_tenures h.tenures) (tenures-later v h.entry.marker h h.tenures refl tenured)) (removal-later e v.last h.entry.removal in_time))

-- where the admission isn't before the moment, nothing is
one-restored : (b : Bool) (v : Vault) (m at : ℕ) (by : Author) (h : History) (more : List Event) → is_before m (admission_of h) ≡ b → AreLater (as_admitted h.entry) (later_events h)
    → ((at' : ℕ) (by' : Author) → restored at' by' (map seen more) ≡ more) → restored at by (map seen (events_before_of m h ++ more)) ≡ events_before_of m h ++ more
one-restored true v m at by h more is are rest =
    let e = as_admitted h.entry in
    let es = filter (is_before m) (later_events h) in
    let after = later-restored e es (map seen more) refl (kept m e (later_events h) are) in
    rw (is, map-append seen es more) (ap (λ (l : List Event). admission_of h ∷ l) (after ∙ ap (λ (l : List Event). es ++ l) (rest e.admitted e.by)))
one-restored false v m at by h more is are rest =
    let e = as_admitted h.entry in
    let gone : filter (is_before m) (later_events h) ≡ [] = none-cases m e (later_events h) (ltb-false e.admitted m is) are in
    rw (is, gone) (rest at by)

in-restored : (v : Vault) (m at : ℕ) (by : Author) (hs : List History) → AllByRecursion (IsInTime v.last) hs → AllByRecursion (HasTenures v) hs → AllByRecursion IsDated hs
    → restored at by (map seen (events_in m hs)) ≡ events_in m hs
in-restored v m at by [] in_time tenured dated = refl
in-restored v m at by (h ∷ hs) in_time tenured dated =
    one-restored (is_before m (admission_of h)) v m at by h (events_in m hs) refl (all-later v h in_time.0 tenured.0 dated.0) (λ a b. in-restored v m a b hs in_time.1 tenured.1 dated.1)

-- the events before a moment are those that are made of what their records show
pub past-restored : (v : Vault) (m : ℕ) → Sound v → AreDated v → restored 0 (author.Rule []) (map seen (events_before m v)) ≡ events_before m v
past-restored v m sound dated = in-restored v m 0 (author.Rule []) v.histories sound.in_time sound.tenured dated

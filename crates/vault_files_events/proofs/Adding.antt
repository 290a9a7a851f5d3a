-- Records of events added one after another.
use Rattle.std.proofs.Common.{◌≡◌, ℕ, ◌+◌, ◌<◌, ◌≤◌, List, [], ◌∷◌, ◌++◌, length, map, take, take_all, get_or, Bool, cond, filter, refl, sym, ap, subst, ◌∙◌, append_assoc, add_assoc, zero-add, ap₂, length-append}
use Rattle.std.specs.Prelude.{Option, Some, None, Result, Ok, Err, OnOk}
use Rattle.std.proofs.lemmas.List.{map-append, take_more}
use Rattle.std.proofs.lemmas.List.Concat.{flat_map-append}
use Rattle.std.proofs.lemmas.List.Elements.{filter-append}
use Rattle.std.proofs.lemmas.List.Sums.{sum_by-append}
use Rattle.vault_core_model.specs.declared.records.History.{History}
use Rattle.vault_core_evidence.specs.Events.{Event, events_asked_of, events_of}
use Rattle.vault_files_events.specs.Adds.{Adds}
use Rattle.vault_files_events.specs.Asked.{asked_of, is_asked}
use Rattle.vault_files_events.specs.Counts.{admissions, counts, is_admission}
use Rattle.vault_files_events.specs.EventsText.{event_row, event_rows}
use Rattle.vault_files_events.specs.declared.rows.Rows.{Rows}

pub rows_append : (es fs : List Event) → event_rows (es ++ fs) ≡ event_rows es ++ event_rows fs
rows_append es fs = flat_map-append event_row es fs

pub admissions_append : (es fs : List Event) → admissions (es ++ fs) ≡ admissions es + admissions fs
admissions_append es fs = sum_by-append (λ (e : Event). cond (is_admission e.what) 1 0) es fs

pub adds_more : (s t u : Rows) (es fs : List Event) → Adds s es t → Adds t fs u → Adds s (es ++ fs) u
adds_more s t u es fs a b = (
  b.0 ∙ (ap (λ l. l ++ event_rows fs) a.0 ∙ (append_assoc s.text.items (event_rows es) (event_rows fs) ∙ ap (λ l. s.text.items ++ l) (sym (rows_append es fs)))),
  b.1 ∙ (ap (λ n. n + admissions fs) a.1 ∙ (add_assoc s.counted.entries (admissions es) (admissions fs) ∙ ap (λ n. s.counted.entries + n) (sym (admissions_append es fs)))),
  b.2 ∙ (ap (λ n. n + length fs) a.2 ∙ (add_assoc s.counted.events (length es) (length fs) ∙ ap (λ n. s.counted.events + n) (sym (length-append es fs)))),
)

-- ---- the events of the first, and of one more

pub adds_turn : {X : Type 0} (p : Event → Bool) (f : X → Event) (s t u : Rows) (xs : List X) (i : ℕ) (x : X) → i < length xs → x ≡ get_or xs i x
    → Adds s (filter p (map f (take i xs))) t → Adds t (filter p (f x ∷ [])) u → Adds s (filter p (map f (take (i + 1) xs))) u
adds_turn p f s t u xs i x low is a b =
    let more = take_more xs i x low ∙ ap (λ y. take i xs ++ y ∷ []) (sym is) in
    let parts = ap (λ ys. filter p (map f ys)) more ∙ (ap (filter p) (map-append f (take i xs) (x ∷ [])) ∙ filter-append p (map f (take i xs)) (f x ∷ [])) in
    subst (λ es. Adds s es u) (sym parts) (adds_more s t u (filter p (map f (take i xs))) (filter p (f x ∷ [])) a b)

pub adds_end : {X : Type 0} (p : Event → Bool) (f : X → Event) (s t : Rows) (xs : List X) (i : ℕ) → length xs ≤ i → Adds s (filter p (map f (take i xs))) t → Adds s (filter p (map f xs)) t
adds_end p f s t xs i high a = subst (λ ys. Adds s (filter p (map f ys)) t) (take_all i xs high) a

-- ---- the four parts of what happened

filter_four : (p : Event → Bool) (a b c d : List Event) → filter p (a ++ (b ++ (c ++ d))) ≡ filter p a ++ (filter p b ++ (filter p c ++ filter p d))
filter_four p a b c d =
    filter-append p a (b ++ (c ++ d))
    ∙ (ap (λ xs. filter p a ++ xs) (filter-append p b (c ++ d))
    ∙ ap (λ xs. filter p a ++ (filter p b ++ xs)) (filter-append p c d))

pub adds_four : (p : Event → Bool) (s t u w x : Rows) (a b c d : List Event) → Adds s (filter p a) t → Adds t (filter p b) u → Adds u (filter p c) w → Adds w (filter p d) x → Adds s (filter p (a ++ (b ++ (c ++ d)))) x
adds_four p s t u w x a b c d first second third fourth =
    subst (λ es. Adds s es x) (sym (filter_four p a b c d))
    (adds_more s t x (filter p a) (filter p b ++ (filter p c ++ filter p d)) first
    (adds_more t u x (filter p b) (filter p c ++ filter p d) second
    (adds_more u w x (filter p c) (filter p d) third fourth)))

-- ---- what is asked for

all_asked : (es : List Event) → filter (is_asked None) es ≡ es
all_asked [] = refl
all_asked (e ∷ es) = ap (λ l. e ∷ l) (all_asked es)

pub asked_same : (before : Option ℕ) (h : History) → asked_of before h ≡ events_asked_of before h
asked_same None h = all_asked (events_of h)
asked_same (Some m) h = refl

-- the records of all that is asked for, after none
pub all_added : (s t : Rows) (before : Option ℕ) (h : History) → s.text.items ≡ [] → s.counted.entries ≡ 0 → s.counted.events ≡ 0 → Adds s (asked_of before h) t
    → (t.text.items ≡ event_rows (events_asked_of before h)) × (t.counted ≡ counts (events_asked_of before h))
all_added s t before h empty no_entry no_event a =
    let same = asked_same before h in
    let entries = a.1 ∙ (ap (λ k. k + admissions (asked_of before h)) no_entry ∙ (zero-add (admissions (asked_of before h)) ∙ ap admissions same)) in
    let events = a.2 ∙ (ap (λ k. k + length (asked_of before h)) no_event ∙ (zero-add (length (asked_of before h)) ∙ ap length same)) in
    (a.0 ∙ (ap (λ l. l ++ event_rows (asked_of before h)) empty ∙ ap event_rows same), ap₂ (λ n m. record { entries = n; events = m }) entries events)

-- the last of the four parts, where it could be added
pub on_four : {T E : Type 0} (r : Result T E) (p : Event → Bool) (s t u w x : Rows) (a b c d : List Event) → Adds s (filter p a) t → Adds t (filter p b) u → Adds u (filter p c) w
    → OnOk r (Adds w (filter p d) x) → OnOk r (Adds s (filter p (a ++ (b ++ (c ++ d)))) x)
on_four (Ok n) p s t u w x a b c d first second third fourth = adds_four p s t u w x a b c d first second third fourth
on_four (Err e) p s t u w x a b c d first second third fourth = tt

-- A walk over all ids of a vault, and what was taken on the way.
use Rattle.std.proofs.Common.{◌≡◌, ℕ, zero, suc, ◌+◌, ◌<◌, List, [], ◌∷◌, ◌++◌, length, take, drop, Bool, true, false, refl, sym, ap, subst, ◌∙◌, append_assoc, append-nil, take-append-drop, length-append, arith}
use Rattle.std.specs.Prelude.{Option, Some, None, Result, Ok, Err, IfOk, OnErr, if◌then◌else◌, find, ◌==◌, slice_get}
use Rattle.std.proofs.lemmas.List.Concat.{flat_map-append}
use Rattle.vault_core_model.specs.declared.records.History.{History}
use Rattle.vault_core_model.specs.Vault.{Vault, history_of}
use Rattle.vault_core_model.specs.Sound.{AreIdsFrom, Sound}
use Rattle.vault_core_evidence.specs.Events.{Event, events_asked, events_asked_of}
use Rattle.vault_files_events.specs.Counts.{counts}
use Rattle.vault_files_events.specs.EventsText.{asked_found, asked_in, event_rows}
use Rattle.vault_files_events.specs.Taking.{Took, TookSome, TakesInTurn}
use Rattle.vault_files_events.specs.declared.counted.Counted.{Counted}
use Rattle.vault_files_events.proofs.Adding.{admissions_append, rows_append}

-- ---- the history at a place of a sound vault is found by its id

same_id : (a n : ℕ) → a ≡ n → (a == n + 0) ≡ true
same_id a n e = grind (arith, e)

other_id : (a n i : ℕ) → a ≡ n → (a == n + suc i) ≡ false
other_id a n i e = grind (arith, e)

at_place : (n i : ℕ) (hs : List History) → AreIdsFrom n hs → find (λ h. h.entry.id == n + i) hs ≡ slice_get hs i
at_place n i [] ids = refl
at_place n zero (h ∷ hs) ids = rw (same_id h.entry.id n ids.0) refl
at_place n (suc i) (h ∷ hs) ids =
    let next : n + suc i ≡ n + 1 + i = omega arith in
    rw (other_id h.entry.id n i ids.0) (ap (λ k. find (λ (g : History). g.entry.id == k) hs) next ∙ at_place (n + 1) i hs ids.1)

pub history_at : (v : Vault) (i : ℕ) → Sound v → history_of v (1 + i) ≡ slice_get v.histories i
history_at v i sound = at_place 1 i v.histories sound.ids

-- ---- the events of the first entries, of one more, and of the rest

pub one_more : (before : Option ℕ) (hs : List History) (i : ℕ) → i < length hs → asked_in before (take (suc i) hs) ≡ asked_in before (take i hs) ++ asked_found before (slice_get hs i)
one_more before [] i low = absurd (omega (arith, low))
one_more before (h ∷ hs) zero low = append-nil (events_asked_of before h)
one_more before (h ∷ hs) (suc i) low =
    ap (λ es. events_asked_of before h ++ es) (one_more before hs i (omega (arith, low)))
    ∙ sym (append_assoc (events_asked_of before h) (asked_in before (take i hs)) (asked_found before (slice_get hs i)))

pub entry_more : (before : Option ℕ) (v : Vault) (i id : ℕ) → Sound v → i < length v.histories → i + 1 ≡ id → asked_in before (take (i + 1) v.histories) ≡ asked_in before (take i v.histories) ++ asked_found before (history_of v id)
entry_more before v i id sound low same =
    let k : 1 + i ≡ id = omega (arith, same) in
    let next : i + 1 ≡ suc i = omega arith in
    ap (λ n. asked_in before (take n v.histories)) next
    ∙ (one_more before v.histories i low
    ∙ ap (λ (o : Option History). asked_in before (take i v.histories) ++ asked_found before o) (sym (history_at v i sound) ∙ ap (history_of v) k))

split : (before : Option ℕ) (hs : List History) (i : ℕ) → asked_in before hs ≡ asked_in before (take i hs) ++ asked_in before (drop i hs)
split before hs i =
    ap (asked_in before) (sym (take-append-drop i hs)) ∙ flat_map-append (events_asked_of before) (take i hs) (drop i hs)

-- ---- what was taken

pub some_none : {S : Type 0} (took : Took S) → TakesInTurn took → (s : S) (bytes : List ℕ) → TookSome took s bytes s
some_none took turn s bytes = ([], bytes, refl, turn.none s)

pub some_whole : {S : Type 0} (took : Took S) (s t : S) (bytes : List ℕ) → took s bytes t → TookSome took s bytes t
some_whole took s t bytes h = (bytes, [], sym (append-nil bytes), h)

pub some_sooner : {S : Type 0} (took : Took S) (s t : S) (front back : List ℕ) → TookSome took s front t → TookSome took s (front ++ back) t
some_sooner took s t front back h = (h.0, h.1 ++ back, ap (λ l. l ++ back) h.2 ∙ append_assoc h.0 h.1 back, h.3)

pub some_later : {S : Type 0} (took : Took S) → TakesInTurn took → (s t u : S) (front back : List ℕ) → took s front t → TookSome took t back u → TookSome took s (front ++ back) u
some_later took turn s t u front back w h =
    (front ++ h.0, h.1, ap (λ l. front ++ l) h.2 ∙ sym (append_assoc front h.0 h.1), turn.more s t u front h.0 w h.3)

-- ---- on the way

-- the records of the first entries are a beginning of the text
pub first_some : {S : Type 0} (took : Took S) (s t : S) (before : Option ℕ) (v : Vault) (i : ℕ) → took s (event_rows (asked_in before (take i v.histories))) t → TookSome took s (event_rows (events_asked before v)) t
first_some took s t before v i h =
    let whole = ap event_rows (split before v.histories i) ∙ rows_append (asked_in before (take i v.histories)) (asked_in before (drop i v.histories)) in
    subst (λ bytes. TookSome took s bytes t) (sym whole)
    (some_sooner took s t (event_rows (asked_in before (take i v.histories))) (event_rows (asked_in before (drop i v.histories)))
    (some_whole took s t (event_rows (asked_in before (take i v.histories))) h))

-- and so are those of one entry more
pub next_taken : {S : Type 0} (took : Took S) → TakesInTurn took → (s t u : S) (before : Option ℕ) (v : Vault) (i id : ℕ) → Sound v → i < length v.histories → i + 1 ≡ id
    → took s (event_rows (asked_in before (take i v.histories))) t → took t (event_rows (asked_found before (history_of v id))) u → took s (event_rows (asked_in before (take (i + 1) v.histories))) u
next_taken took turn s t u before v i id sound low same first next =
    let whole = ap event_rows (entry_more before v i id sound low same) ∙ rows_append (asked_in before (take i v.histories)) (asked_found before (history_of v id)) in
    subst (λ bytes. took s bytes u) (sym whole)
    (turn.more s t u (event_rows (asked_in before (take i v.histories))) (event_rows (asked_found before (history_of v id))) first next)

pub next_some : {S : Type 0} (took : Took S) → TakesInTurn took → (s t u : S) (before : Option ℕ) (v : Vault) (i id : ℕ) → Sound v → i < length v.histories → i + 1 ≡ id
    → took s (event_rows (asked_in before (take i v.histories))) t → TookSome took t (event_rows (asked_found before (history_of v id))) u → TookSome took s (event_rows (events_asked before v)) u
next_some took turn s t u before v i id sound low same first next =
    let more = ap event_rows (entry_more before v i id sound low same) ∙ rows_append (asked_in before (take i v.histories)) (asked_found before (history_of v id)) in
    let whole = ap event_rows (split before v.histories (i + 1)) ∙ (rows_append (asked_in before (take (i + 1) v.histories)) (asked_in before (drop (i + 1) v.histories)) ∙ ap (λ l. l ++ event_rows (asked_in before (drop (i + 1) v.histories))) more) in
    subst (λ bytes. TookSome took s bytes u) (sym whole)
    (some_sooner took s u (event_rows (asked_in before (take i v.histories)) ++ event_rows (asked_found before (history_of v id))) (event_rows (asked_in before (drop (i + 1) v.histories)))
    (some_later took turn s t u (event_rows (asked_in before (take i v.histories))) (event_rows (asked_found before (history_of v id))) first next))

-- ---- the counts

pub counts_append : (es fs : List Event) → counts (es ++ fs) ≡ record { entries = (counts es).entries + (counts fs).entries; events = (counts es).events + (counts fs).events }
counts_append es fs =
    ap (λ n. record { entries = n; events = length (es ++ fs) }) (admissions_append es fs)
    ∙ ap (λ n. record { entries = (counts es).entries + (counts fs).entries; events = n }) (length-append es fs)

pub next_counted : (before : Option ℕ) (v : Vault) (i id : ℕ) (a b c : Counted) → Sound v → i < length v.histories → i + 1 ≡ id
    → a ≡ counts (asked_in before (take i v.histories)) → b ≡ counts (asked_found before (history_of v id)) → c ≡ record { entries = a.entries + b.entries; events = a.events + b.events }
    → c ≡ counts (asked_in before (take (i + 1) v.histories))
next_counted before v i id a b c sound low same first next sum =
    sum
    ∙ (ap (λ (x : Counted). record { entries = x.entries + b.entries; events = x.events + b.events }) first
    ∙ (ap (λ (y : Counted). record { entries = (counts (asked_in before (take i v.histories))).entries + y.entries; events = (counts (asked_in before (take i v.histories))).events + y.events }) next
    ∙ (sym (counts_append (asked_in before (take i v.histories)) (asked_found before (history_of v id)))
    ∙ ap counts (sym (entry_more before v i id sound low same)))))

-- ---- in the place of an answer

pub on_err : {P T E : Type 0} (r : Result T E) → P → OnErr r P
on_err (Ok x) h = tt
on_err (Err e) h = h

pub its_id : (b : Bool) (n id : ℕ) (o : Option ℕ) → o ≡ (if b then Some n else None) → o ≡ Some id → n ≡ id
its_id true n id o new some = cc (sym new ∙ some)
its_id false n id o new some = absurd (cc (sym new ∙ some))

-- the header and then the rest
pub both_taken : {S X E : Type 0} (took : Took S) → TakesInTurn took → (s t u : S) (front back : List ℕ) (r : Result X E) (P : X → Type 0)
    → took s front t → IfOk r (λ n. took t back u × P n) → IfOk r (λ n. took s (front ++ back) u × P n)
both_taken took turn s t u front back (Ok n) P first rest = (turn.more s t u front back first rest.0, rest.1)
both_taken took turn s t u front back (Err e) P first rest = tt

pub both_some : {S X E : Type 0} (took : Took S) → TakesInTurn took → (s t u : S) (front back : List ℕ) (r : Result X E)
    → took s front t → OnErr r (TookSome took t back u) → OnErr r (TookSome took s (front ++ back) u)
both_some took turn s t u front back (Ok n) first rest = tt
both_some took turn s t u front back (Err e) first rest = some_later took turn s t u front back first rest

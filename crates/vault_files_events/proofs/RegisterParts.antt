-- Parts of the register, one after another, and what removals in between leave of it.
use Rattle.std.proofs.Common.{◌≡◌, ◌⊎◌, ℕ, zero, suc, ◌+◌, ◌-◌, ◌<◌, List, [], ◌∷◌, ◌++◌, length, map, take, drop, Bool, true, false, not, Option, Some, None, IsSome, refl, sym, ap, subst, ◌∙◌, inl, inr, append_assoc, append-nil, length-drop, arith}
use Rattle.std.specs.Prelude.{filter, find, flat_map, nat_lt, option_map, slice_get, ◌==◌}
use Rattle.std.proofs.lemmas.Bool.{le-ltb, lt-ltb}
use Rattle.std.proofs.lemmas.List.Concat.{flat_map-append}
use Rattle.vault_core_model.specs.declared.command.Timed.{Timed}
use Rattle.vault_core_model.specs.declared.records.Entry.{Entry}
use Rattle.vault_core_model.specs.declared.records.History.{History}
use Rattle.vault_core_model.specs.declared.records.Removal.{Removal}
use Rattle.vault_core_model.specs.declared.reply.Reply.{Reply}
use Rattle.vault_core_model.specs.Places.{is_held}
use Rattle.vault_core_model.specs.Reads.{entry_of, removed_entries}
use Rattle.vault_core_model.specs.Sound.{AreIdsFrom, Sound}
use Rattle.vault_core_model.specs.Step.{IsRun}
use Rattle.vault_core_model.specs.Vault.{Vault, history_of}
use Rattle.vault_core_run_laws.specs.Once.{Continues, Extends}
use Rattle.vault_core_run_laws.proofs.Reached.{run-extends, run-Sound}
use Rattle.vault_core_evidence.proofs.ByIds.{get-drop}
use Rattle.vault_core_evidence.proofs.PartLemmas.{part-and-rest, part-is-rest}
use Rattle.vault_core_evidence.specs.Parts.{next_of, part}
use Rattle.vault_files_texts.specs.Register.{header, register, row, row_by}
use Rattle.vault_files_events.specs.RegisterPage.{rest_text, row_found, rows_in}
use Rattle.vault_files_events.proofs.Walking.{history_at}

-- ---- the record of one entry more

abbrev entry_in : Option History → Option Entry
entry_in o = option_map (λ h. h.entry) o

one_more : (hs : List History) (i : ℕ) → i < length hs → rows_in (take (suc i) hs) ≡ rows_in (take i hs) ++ row_found (entry_in (slice_get hs i))
one_more [] i low = absurd (omega (arith, low))
one_more (h ∷ hs) zero low = append-nil (row h.entry)
one_more (h ∷ hs) (suc i) low =
    ap (λ l. row h.entry ++ l) (one_more hs i (omega (arith, low)))
    ∙ sym (append_assoc (row h.entry) (rows_in (take i hs)) (row_found (entry_in (slice_get hs i))))

entry_after : (v : Vault) (after i id : ℕ) → Sound v → i < length v.histories - after → after + (i + 1) ≡ id
    → rows_in (take (i + 1) (drop after v.histories)) ≡ rows_in (take i (drop after v.histories)) ++ row_found (entry_of v id)
entry_after v after i id sound low same =
    let rest = drop after v.histories in
    let next : i + 1 ≡ suc i = omega arith in
    let number : 1 + (after + i) ≡ id = omega (arith, same) in
    let inside : i < length rest = omega (arith, low, length-drop after v.histories) in
    ap (λ n. rows_in (take n rest)) next
    ∙ (one_more rest i inside
    ∙ ap (λ (o : Option History). rows_in (take i rest) ++ row_found (entry_in o)) (get-drop after i v.histories ∙ (sym (history_at v (after + i) sound) ∙ ap (history_of v) number)))

pub rows_more : (v : Vault) (after i id : ℕ) (start so_far now : List ℕ) → Sound v → i < length v.histories - after → after + (i + 1) ≡ id
    → so_far ≡ start ++ rows_in (take i (drop after v.histories)) → now ≡ so_far ++ row_found (entry_of v id)
    → now ≡ start ++ rows_in (take (i + 1) (drop after v.histories))
rows_more v after i id start so_far now sound low same first next =
    let front = rows_in (take i (drop after v.histories)) in
    let back = row_found (entry_of v id) in
    next
    ∙ (ap (λ l. l ++ back) first
    ∙ (append_assoc start front back
    ∙ ap (λ l. start ++ l) (sym (entry_after v after i id sound low same))))

-- ---- the parts are the whole

abbrev removed : List History → List Entry
removed hs = map (λ h. h.entry) (filter (λ h. not (is_held h.entry)) hs)

held-by : (o : Option Removal) (e : Entry) → not (is_held (record e { removal = o })) ≡ false → row_by o e ≡ []
held-by None e held = refl
held-by (Some r) e held = absurd (cc held)

held-row : (e : Entry) → not (is_held e) ≡ false → row e ≡ []
unfolding row
held-row e held = held-by e.removal e held

rows-cases : (b : Bool) (h : History) (hs : List History) → not (is_held h.entry) ≡ b → flat_map row (removed hs) ≡ rows_in hs → flat_map row (removed (h ∷ hs)) ≡ rows_in (h ∷ hs)
rows-cases true h hs e rest = rw e (ap (λ l. row h.entry ++ l) rest)
rows-cases false h hs e rest = rw e (rest ∙ ap (λ l. l ++ rows_in hs) (sym (held-row h.entry e)))

-- what is held has no record
rows-removed : (hs : List History) → flat_map row (removed hs) ≡ rows_in hs
rows-removed [] = refl
rows-removed (h ∷ hs) = rows-cases (not (is_held h.entry)) h hs refl (rows-removed hs)

pub whole-register : (v : Vault) → register (removed_entries v) ≡ header ++ rest_text 0 v
whole-register v = ap (λ l. header ++ l) (rows-removed v.histories)

pub next-rest : (v : Vault) (after next : ℕ) → next_of (length v.histories) after ≡ Some next → rest_text after v ≡ rows_in (part after v) ++ rest_text next v
next-rest v after next is =
    ap rows_in (part-and-rest v after next is) ∙ flat_map-append (λ h. row h.entry) (part after v) (drop next v.histories)

pub last-rest : (v : Vault) (after : ℕ) → next_of (length v.histories) after ≡ None → rest_text after v ≡ rows_in (part after v)
last-rest v after is = ap rows_in (part-is-rest v after is)

-- ---- the same removals have the same records

abbrev is_after : ℕ → Entry → Bool
is_after from e = nat_lt from e.id

all-cases : (b : Bool) (from : ℕ) (h : History) (hs : List History) → not (is_held h.entry) ≡ b → is_after from h.entry ≡ true → filter (is_after from) (removed hs) ≡ removed hs → filter (is_after from) (removed (h ∷ hs)) ≡ removed (h ∷ hs)
all-cases true from h hs e later rest = rw (e, later) (ap (λ (l : List Entry). h.entry ∷ l) rest)
all-cases false from h hs e later rest = rw e rest

-- where all ids are later, these are all
all_after : (from n : ℕ) (hs : List History) → from < n → AreIdsFrom n hs → filter (is_after from) (removed hs) ≡ removed hs
all_after from n [] low ids = refl
all_after from n (h ∷ hs) low ids =
    all-cases (not (is_held h.entry)) from h hs refl (lt-ltb from h.entry.id (omega (arith, low, ids.0))) (all_after from (n + 1) hs (omega (arith, low)) ids.1)

none-cases : (b : Bool) (from : ℕ) (h : History) (hs : List History) → not (is_held h.entry) ≡ b → is_after from h.entry ≡ false → filter (is_after from) (removed (h ∷ hs)) ≡ filter (is_after from) (removed hs)
none-cases true from h hs e sooner = rw (e, sooner) refl
none-cases false from h hs e sooner = rw e refl

removed_after : (n k : ℕ) (hs : List History) → AreIdsFrom (n + 1) hs → filter (is_after (n + k)) (removed hs) ≡ removed (drop k hs)
removed_after n zero hs ids = all_after (n + 0) (n + 1) hs (omega arith) ids
removed_after n (suc k) [] ids = refl
removed_after n (suc k) (h ∷ hs) ids =
    let from = n + suc k in
    let same : from ≡ (n + 1) + k = omega arith in
    none-cases (not (is_held h.entry)) from h hs refl (le-ltb from h.entry.id (omega (arith, ids.0)))
    ∙ (ap (λ i. filter (is_after i) (removed hs)) same
    ∙ removed_after (n + 1) k hs ids.1)

rest-removed : (v : Vault) (after : ℕ) → Sound v → rest_text after v ≡ flat_map row (filter (is_after (0 + after)) (removed_entries v))
rest-removed v after sound =
    sym (rows-removed (drop after v.histories)) ∙ ap (λ (es : List Entry). flat_map row es) (sym (removed_after 0 after v.histories sound.ids))

pub rest-stays : (v later : Vault) (commands : List Timed) (replies : List Reply) (after : ℕ) → Sound v → IsRun v commands replies later → removed_entries later ≡ removed_entries v → rest_text after later ≡ rest_text after v
rest-stays v later commands replies after sound run same =
    rest-removed later after (run-Sound v later commands replies sound run)
    ∙ (ap (λ (es : List Entry). flat_map row (filter (is_after (0 + after)) es)) same
    ∙ sym (rest-removed v after sound))

-- ---- what was removed stays so

abbrev FoundOn : ℕ → List History → History → Type 0
FoundOn id hs g = (h : History) × (find (λ x. x.entry.id == id) hs ≡ Some h) × Continues g h

found-here : (id : ℕ) (x y : History) (gs hs : List History) (g : History) → Continues x y → (x.entry.id == id) ≡ true → find (λ h. h.entry.id == id) (x ∷ gs) ≡ Some g → FoundOn id (y ∷ hs) g
found-here id x y gs hs g on e is =
    let itself : x ≡ g = cc (rw e at is) in
    let own : (y.entry.id == id) ≡ true = ap (λ (n : ℕ). n == id) (ap (λ (f : Entry). f.id) on.entry) ∙ e in
    (y, rw own refl, subst (λ (h : History). Continues h y) itself on)

found-on : (id : ℕ) (gs hs : List History) (g : History) → Extends gs hs → find (λ h. h.entry.id == id) gs ≡ Some g → FoundOn id hs g
found-on id [] hs g extends is = absurd (cc is)
found-on id (x ∷ gs) [] g extends is = absurd extends
found-on id (x ∷ gs) (y ∷ hs) g extends is = by (x.entry.id == id) refl (λ e. found-on id gs hs g extends.1 (rw e at is))
  where
    by : (b : Bool) → (x.entry.id == id) ≡ b → ((x.entry.id == id) ≡ false → FoundOn id hs g) → FoundOn id (y ∷ hs) g
    by true e rest = found-here id x y gs hs g extends.0 e is
    by false e rest =
        let later = rest e in
        let other : (y.entry.id == id) ≡ false = ap (λ (n : ℕ). n == id) (ap (λ (f : Entry). f.id) extends.0.entry) ∙ e in
        (later.0, rw other later.1, later.2)

same-entry : (g h : History) → Continues g h → IsSome g.entry.removal → h.entry ≡ g.entry
same-entry g h on gone = by on.removal
  where
    by : (g.entry.removal ≡ None) ⊎ (h.entry.removal ≡ g.entry.removal) → h.entry ≡ g.entry
    by (inl none) = let P : Option Removal → Type 0 = λ o. IsSome o in absurd (cc (subst P none gone))
    by (inr same) = on.entry ∙ ap (λ (r : Option Removal). record g.entry { removal = r }) same

pub removed-stays : (v later : Vault) (commands : List Timed) (replies : List Reply) (id : ℕ) (e : Entry) → Sound v → IsRun v commands replies later → entry_of v id ≡ Some e → IsSome e.removal → entry_of later id ≡ Some e
removed-stays v later commands replies id e sound run is gone = by (history_of v id) refl
  where
    by : (o : Option History) → history_of v id ≡ o → entry_of later id ≡ Some e
    by None found = absurd (cc (sym (ap entry_in found) ∙ is))
    by (Some g) found =
        let entry : g.entry ≡ e = cc (sym (ap entry_in found) ∙ is) in
        let there = found-on id v.histories later.histories g (run-extends v later commands replies sound run) found in
        let removal : IsSome g.entry.removal = subst (λ (f : Entry). IsSome f.removal) (sym entry) gone in
        ap entry_in there.1 ∙ ap (λ (f : Entry). Some f) (same-entry g there.0 there.2 removal ∙ entry)

-- The current entry of a key is the newest held one.
use Rattle.std.proofs.Common.{◌≡◌, ℕ, ◌+◌, ◌≤◌, ◌<◌, List, [], ◌∷◌, length, Bool, true, false, Option, Some, None, refl, sym, ◌∙◌, ap, subst, arith}
use Rattle.std.specs.Prelude.{if◌then◌else◌, filter, find, nat_lt, ◌&&◌, ◌==◌, option_map, IfSome}
use Rattle.std.specs.List.{AllByRecursion}
use Rattle.std.specs.Str.{bytes_eq}
use Rattle.std.proofs.lemmas.Bool.{and_parts, eqb-true, le-ltb, lt-ltb}
use Rattle.std.proofs.lemmas.Slice.Eq.{bytes_eq-Decides}
use Rattle.vault_core_model.specs.declared.records.Entry.{Entry}
use Rattle.vault_core_model.specs.declared.records.Head.{Head}
use Rattle.vault_core_model.specs.declared.records.History.{History}
use Rattle.vault_core_model.specs.Vault.{Vault}
use Rattle.vault_core_model.specs.Places.{is_held, is_held_at, held_at, is_current, current}
use Rattle.vault_core_model.specs.Reads.{head_over, head_of, entry_of}
use Rattle.vault_core_model.specs.Sound.{AreIdsFrom, Sound}
use Rattle.vault_core_laws.proofs.Lists.{All-weaker, All-both, All-filter}

-- ---- ids rise

unfoldable pub IsRising : ℕ → List History → Type 0
IsRising n [] = Unit {0}
IsRising n (h ∷ hs) = (n < h.entry.id) × IsRising h.entry.id hs

rising_from_lower : (m n : ℕ) (hs : List History) → m ≤ n → IsRising n hs → IsRising m hs
unfolding IsRising
rising_from_lower m n [] le rising = tt
rising_from_lower m n (h ∷ hs) le rising = (omega (arith, rising.0), rising.1)

pub rising-filter : (p : History → Bool) (n : ℕ) (hs : List History) → IsRising n hs → IsRising n (filter p hs)
unfolding IsRising
rising-filter p n [] rising = tt
rising-filter p n (h ∷ hs) rising =
    elim (p h) as (λ b. IsRising n (if b then h ∷ filter p hs else filter p hs)) [
      | true ↦ (rising.0, rising-filter p h.entry.id hs rising.1)
      | false ↦ rising_from_lower n h.entry.id (filter p hs) (omega (arith, rising.0)) (rising-filter p h.entry.id hs rising.1)
    ]

pub rising_ids : (m n : ℕ) (hs : List History) → m < n → AreIdsFrom n hs → IsRising m hs
unfolding IsRising
rising_ids m n [] lt ids = tt
rising_ids m n (h ∷ hs) lt ids = (omega (arith, ids.0), rising_ids h.entry.id (n + 1) hs (omega (arith, ids.0)) ids.1)

above : (n : ℕ) (hs : List History) → IsRising n hs → AllByRecursion (λ h. n < h.entry.id) hs
unfolding IsRising
above n [] rising = tt
above n (h ∷ hs) rising = (rising.0, All-weaker (λ g. h.entry.id < g.entry.id) (λ g. n < g.entry.id) (λ g lt. omega (arith, rising.0)) hs (above h.entry.id hs rising.1))

-- ---- the last of them

abbrev pub last_of : History → List History → History
last_of h [] = h
last_of h (g ∷ gs) = last_of g gs

All-last : (P : History → Type 0) (h : History) (hs : List History) → AllByRecursion P (h ∷ hs) → P (last_of h hs)
All-last P h [] all = all.0
All-last P h (g ∷ gs) all = All-last P g gs all.1

head_over-last : (h : History) (hs : List History) → head_over (h ∷ hs) ≡ Some (record { newest = (last_of h hs).entry.id; count = length (h ∷ hs) })
head_over-last h [] = refl
head_over-last h (g ∷ gs) = ap (λ (o : Option Head). option_map (λ x. record { newest = x.newest; count = length (h ∷ g ∷ gs) }) o) (head_over-last g gs)

below_last : (n : ℕ) (h : History) (hs : List History) → IsRising n (h ∷ hs) → AllByRecursion (λ g. g.entry.id ≤ (last_of h hs).entry.id) (h ∷ hs)
unfolding IsRising
below_last n h [] rising = (omega arith, tt)
below_last n h (g ∷ gs) rising =
    let rest = below_last h.entry.id g gs rising.1 in
    (omega (arith, rest.0, rising.1.0), rest)

-- ---- what is newer

not_empty : (h : History) (hs : List History) → (length (h ∷ hs) == 0) ≡ false
not_empty h hs = grind arith

some_newer : (i : ℕ) (h : History) (hs : List History) → i < (last_of h hs).entry.id → (length (filter (λ g. nat_lt i g.entry.id) (h ∷ hs)) == 0) ≡ false
some_newer i h [] lt = rw (lt-ltb i h.entry.id lt) refl
some_newer i h (g ∷ gs) lt =
    elim (nat_lt i h.entry.id) as (λ b. (length (if b then h ∷ filter (λ x. nat_lt i x.entry.id) (g ∷ gs) else filter (λ x. nat_lt i x.entry.id) (g ∷ gs)) == 0) ≡ false)
    [ true ↦ not_empty h (filter (λ x. nat_lt i x.entry.id) (g ∷ gs)) | false ↦ some_newer i g gs lt ]

none_newer : (i : ℕ) (hs : List History) → AllByRecursion (λ g. g.entry.id ≤ i) hs → (length (filter (λ g. nat_lt i g.entry.id) hs) == 0) ≡ true
none_newer i [] all = refl
none_newer i (h ∷ hs) all = rw (le-ltb i h.entry.id all.0) (none_newer i hs all.1)

-- ---- the current one

-- at its own key an entry is current where nothing there is newer
is_current-at : (v : Vault) (bucket key : List ℕ) (h : History) → is_held_at bucket key h.entry ≡ true → is_current v h ≡ (length (filter (λ g. nat_lt h.entry.id g.entry.id) (held_at v bucket key)) == 0)
is_current-at v bucket key h here =
    let first = and_parts (bytes_eq h.entry.bucket bucket) (bytes_eq h.entry.key key && is_held h.entry) here in
    let second = and_parts (bytes_eq h.entry.key key) (is_held h.entry) first.1 in
    rw (second.1, (bytes_eq-Decides h.entry.bucket bucket).0 first.0, (bytes_eq-Decides h.entry.key key).0 second.0) refl

find-current : (v : Vault) (bucket key : List ℕ) (f : History) (fs : List History) (n : ℕ) (h : History) (hs : List History)
    → held_at v bucket key ≡ f ∷ fs
    → AllByRecursion (λ g. g.entry.id ≤ (last_of f fs).entry.id) (f ∷ fs)
    → last_of h hs ≡ last_of f fs
    → AllByRecursion (λ g. is_held_at bucket key g.entry ≡ true) (h ∷ hs)
    → IsRising n (h ∷ hs)
    → find (is_current v) (h ∷ hs) ≡ Some (last_of h hs)
unfolding IsRising
find-current v bucket key f fs n h [] all below same here rising =
    let P : History → Type 0 = λ m. AllByRecursion (λ g. g.entry.id ≤ m.entry.id) (f ∷ fs) in
    let top : AllByRecursion (λ g. g.entry.id ≤ h.entry.id) (f ∷ fs) = subst P (sym same) below in
    let none : is_current v h ≡ true = rw (is_current-at v bucket key h here.0, all) (none_newer h.entry.id (f ∷ fs) top) in
    rw none refl
find-current v bucket key f fs n h (g ∷ gs) all below same here rising =
    let later : h.entry.id < (last_of g gs).entry.id = All-last (λ x. h.entry.id < x.entry.id) g gs (above h.entry.id (g ∷ gs) rising.1) in
    let lower : h.entry.id < (last_of f fs).entry.id = rw (← same) later in
    let some : is_current v h ≡ false = rw (is_current-at v bucket key h here.0, all) (some_newer h.entry.id f fs lower) in
    rw some (find-current v bucket key f fs h.entry.id g gs all below same here.1 rising.1)

-- ---- found by its id

eq_self : (n : ℕ) → (n == n) ≡ true
eq_self n = grind arith

eq_other : (m n : ℕ) → m < n → (m == n) ≡ false
eq_other m n lt = grind (arith, lt)

pub finds_itself : (n : ℕ) (hs : List History) → AreIdsFrom n hs → AllByRecursion (λ y. find (λ h. h.entry.id == y.entry.id) hs ≡ Some y) hs
finds_itself n [] ids = tt
finds_itself n (h ∷ hs) ids = (
  rw (eq_self h.entry.id) refl,
  All-both (λ y. h.entry.id < y.entry.id) (λ y. find (λ g. g.entry.id == y.entry.id) hs ≡ Some y) (λ y. find (λ g. g.entry.id == y.entry.id) (h ∷ hs) ≡ Some y)
      (λ y lt found. rw (eq_other h.entry.id y.entry.id lt) found) hs
      (above h.entry.id hs (rising_ids h.entry.id (n + 1) hs (omega (arith, ids.0)) ids.1))
      (finds_itself (n + 1) hs ids.1),
)

-- ---- the law

kept_pass : (p : History → Bool) (h : History) (rest : List History) (b : Bool) → p h ≡ b → AllByRecursion (λ h. p h ≡ true) rest → AllByRecursion (λ h. p h ≡ true) (if b then h ∷ rest else rest)
kept_pass p h rest true e all = (e, all)
kept_pass p h rest false e all = all

pub passes : (p : History → Bool) (hs : List History) → AllByRecursion (λ h. p h ≡ true) (filter p hs)
passes p [] = tt
passes p (h ∷ hs) = kept_pass p h (filter p hs) (p h) refl (passes p hs)

newest : (v : Vault) (bucket key : List ℕ) (hd : Head) (list : List History) → held_at v bucket key ≡ list
    → AllByRecursion (λ g. is_held_at bucket key g.entry ≡ true) list → IsRising 0 list
    → AllByRecursion (λ y. find (λ h. h.entry.id == y.entry.id) v.histories ≡ Some y) list
    → head_over list ≡ Some hd
    → (h : History) × (find (is_current v) list ≡ Some h) × (entry_of v hd.newest ≡ Some h.entry)
newest v bucket key hd [] all here rising finds e = absurd (cc e)
newest v bucket key hd (f ∷ fs) all here rising finds e =
    let is : Some (record { newest = (last_of f fs).entry.id; count = length (f ∷ fs) }) ≡ Some hd = sym (head_over-last f fs) ∙ e in
    let id : (last_of f fs).entry.id ≡ hd.newest = ap (λ (o : Option Head). elim o as (λ _. ℕ) [ Some x ↦ x.newest | None ↦ 0 ]) is in (
      last_of f fs,
      find-current v bucket key f fs 0 f fs all (below_last 0 f fs rising) refl here rising,
      rw (← id, All-last (λ y. find (λ h. h.entry.id == y.entry.id) v.histories ≡ Some y) f fs finds) refl,
    )

pub current-head : (v : Vault) (bucket key : List ℕ) (hd : Head) → Sound v → head_of v bucket key ≡ Some hd → (h : History) × (current v bucket key ≡ Some h) × (entry_of v hd.newest ≡ Some h.entry)
current-head v bucket key hd sound e =
    newest v bucket key hd (held_at v bucket key) refl
    (passes (λ h. is_held_at bucket key h.entry) v.histories)
    (rising-filter (λ h. is_held_at bucket key h.entry) 0 v.histories (rising_ids 0 1 v.histories (omega arith) sound.ids))
    (All-filter (λ y. find (λ h. h.entry.id == y.entry.id) v.histories ≡ Some y) (λ h. is_held_at bucket key h.entry) v.histories (finds_itself 1 v.histories sound.ids))
    e

no_head : (v : Vault) (list : List History) → head_over list ≡ None → find (is_current v) list ≡ None
no_head v [] e = refl
no_head v (h ∷ hs) e = absurd (cc (sym (head_over-last h hs) ∙ e))

pub current-no_head : (v : Vault) (bucket key : List ℕ) → head_of v bucket key ≡ None → current v bucket key ≡ None
current-no_head v bucket key e = no_head v (held_at v bucket key) e

-- ---- an entry is found by its own id

passed_or_later : (p : History → Bool) (g : History) (later : Option History) (h : History) (b : Bool) → p g ≡ b → (if b then Some g else later) ≡ Some h → (later ≡ Some h → p h ≡ true) → p h ≡ true
passed_or_later p g later h true passed e rest = let same : g ≡ h = cc e in let P : History → Type 0 = λ x. p x ≡ true in subst P same passed
passed_or_later p g later h false passed e rest = rest e

found_passes : (p : History → Bool) (hs : List History) (h : History) → find p hs ≡ Some h → p h ≡ true
found_passes p [] h e = absurd (cc e)
found_passes p (g ∷ gs) h e = passed_or_later p g (find p gs) h (p g) refl e (found_passes p gs h)

own_entry : (hs : List History) (id : ℕ) (o : Option History) → find (λ h. h.entry.id == id) hs ≡ o → IfSome (option_map (λ (h : History). h.entry) o) (λ e. option_map (λ (h : History). h.entry) (find (λ h. h.entry.id == e.id) hs) ≡ Some e)
own_entry hs id None found = tt
own_entry hs id (Some h) found =
    let same : h.entry.id ≡ id = eqb-true h.entry.id id (found_passes (λ g. g.entry.id == id) hs h found) in
    let P : ℕ → Type 0 = λ i. find (λ g. g.entry.id == i) hs ≡ Some h in
    ap (λ (o : Option History). option_map (λ g. g.entry) o) (subst P (sym same) found)

pub entry_of-own : (v : Vault) (id : ℕ) (o : Option Entry) → o ≡ entry_of v id → IfSome o (λ e. entry_of v e.id ≡ Some e)
entry_of-own v id o is = let P : Option Entry → Type 0 = λ x. IfSome x (λ e. entry_of v e.id ≡ Some e) in subst P (sym is) (own_entry v.histories id (find (λ h. h.entry.id == id) v.histories) refl)

-- A change by id finds its one entry: the ids ascend one by one.
use Rattle.std.proofs.Common.{◌≡◌, ℕ, ◌+◌, ◌≤◌, ◌<◌, List, [], ◌∷◌, length, map, get_or, set, true, false, Some, None, not, refl, sym, ap, arith, suc, zero, eqb}
use Rattle.std.specs.Prelude.{position, nat_lt, ◌==◌, if◌then◌else◌}
use Rattle.std.specs.List.{position_or_len}
use Rattle.std.proofs.lemmas.Bool.{ne_eqb, eq-eqb}
use Rattle.std.proofs.lemmas.Bool.Decides.{nat_tests}
use Rattle.std.proofs.lemmas.List.Quantifiers.{position-Some}
use Rattle.vault_core_model.specs.declared.records.History.{History}
use Rattle.vault_core_model.specs.Sound.{AreIdsFrom}

-- the history changed, where it has that id
abbrev pub if_id : ℕ → (History → History) → History → History
if_id id f h = if h.entry.id == id then f h else h

-- the history at place i
id-at : (n : ℕ) (hs : List History) (i : ℕ) (d : History) → AreIdsFrom n hs → i < length hs → (get_or hs i d).entry.id ≡ n + i
id-at n [] i d ids lt = absurd (omega arith)
id-at n (h ∷ hs) zero d ids lt = omega (arith, ids.0)
id-at n (h ∷ hs) (suc i) d ids lt = omega (arith, id-at (n + 1) hs i d ids.1 (omega arith))

same_of-other : (id : ℕ) (f : History → History) (h : History) → eqb h.entry.id id ≡ false → if_id id f h ≡ h
same_of-other id f h other = rw other refl

-- an id below all is nowhere
unchanged_below : (n id : ℕ) (f : History → History) (hs : List History) → AreIdsFrom n hs → id < n → map (if_id id f) hs ≡ hs
unchanged_below n id f [] ids lt = refl
unchanged_below n id f (h ∷ hs) ids lt =
    let e : eqb h.entry.id id ≡ false = ne_eqb h.entry.id id (λ same. omega (arith, ids.0)) in
    rw (same_of-other id f h e, unchanged_below (n + 1) id f hs ids.1 (omega arith)) refl

changed_there : (n id : ℕ) (f : History → History) (hs : List History) (i : ℕ) (d : History) → AreIdsFrom n hs → i < length hs → (get_or hs i d).entry.id ≡ id → set hs i (f (get_or hs i d)) ≡ map (if_id id f) hs
changed_there n id f [] i d ids lt same = absurd (omega arith)
changed_there n id f (h ∷ hs) zero d ids lt same =
    rw (eq-eqb h.entry.id id same, unchanged_below (n + 1) id f hs ids.1 (omega (arith, ids.0, same))) refl
changed_there n id f (h ∷ hs) (suc i) d ids lt same =
    let e : eqb h.entry.id id ≡ false = ne_eqb h.entry.id id (λ own. omega (arith, ids.0, id-at (n + 1) hs i d ids.1 (omega arith))) in
    rw (same_of-other id f h e) (ap (λ rest. h ∷ rest) (changed_there (n + 1) id f hs i d ids.1 (omega arith) same))

same_of : (a b : ℕ) → eqb a b ≡ true → a ≡ b
same_of a b e = grind (arith, nat_tests)

-- the entry found at place i
pub changed-at : (id : ℕ) (f : History → History) (hs : List History) (i : ℕ) (d : History) → AreIdsFrom 1 hs → position (λ h. h.entry.id == id) hs ≡ Some i → set hs i (f (get_or hs i d)) ≡ map (if_id id f) hs
changed-at id f hs i d ids found =
    let p = position-Some (λ (h : History). h.entry.id == id) hs i d found in
    changed_there 1 id f hs i d ids p.0 (same_of (get_or hs i d).entry.id id p.1)

none_there : (id : ℕ) (f : History → History) (hs : List History) → length hs ≤ position_or_len (λ h. h.entry.id == id) hs → map (if_id id f) hs ≡ hs
none_there id f [] past = refl
none_there id f (h ∷ hs) past =
    elim (eqb h.entry.id id) as (λ b. suc (length hs) ≤ (if not b then 1 + position_or_len (λ g. g.entry.id == id) hs else 0) → (if b then f h else h) ∷ map (if_id id f) hs ≡ h ∷ hs) [
      | true ↦ λ past. absurd (omega arith)
      | false ↦ λ past. ap (λ rest. h ∷ rest) (none_there id f hs (omega arith))
    ] past

past : (k n : ℕ) → (if nat_lt k n then Some k else None) ≡ None → n ≤ k
past k n none =
    elim (nat_lt k n) as (λ b. nat_lt k n ≡ b → (if b then Some k else None) ≡ None → n ≤ k)
    [ true ↦ λ _ none. absurd (cc) | false ↦ λ e _. grind (arith, nat_tests, e) ] refl none

-- no entry has that id
pub changed-nowhere : (id : ℕ) (f : History → History) (hs : List History) → position (λ h. h.entry.id == id) hs ≡ None → hs ≡ map (if_id id f) hs
changed-nowhere id f hs none = sym (none_there id f hs (past (position_or_len (λ (h : History). h.entry.id == id) hs) (length hs) none))

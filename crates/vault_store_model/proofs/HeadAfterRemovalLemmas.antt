-- The head of a key after one of its held entries is removed.
use Rattle.std.proofs.Common.{◌≡◌, ◌≢◌, ℕ, ◌+◌, ◌-◌, ◌<◌, ◌==◌, ◌||◌, List, [], ◌∷◌, length, filter, cond, not, Bool, true, false, Some, None, refl, sym, ap, subst, ◌∙◌, arith, eqb}
use Rattle.std.specs.Prelude.{find, if◌then◌else◌}
use Rattle.std.specs.List.{AllByRecursion, list_any}
use Rattle.std.proofs.lemmas.Bool.{eqb-true}
use Rattle.sqlite_trees.proofs.ListLemmas.{filter-map, filter_all, all_weaker}
use Rattle.vault_core_model.specs.declared.records.Entry.{Entry}
use Rattle.vault_core_model.specs.declared.records.Head.{Head}
use Rattle.vault_core_model.specs.declared.records.History.{History}
use Rattle.vault_core_model.specs.Places.{is_held_at, held_at}
use Rattle.vault_core_model.specs.Reads.{entry_of, head_of, head_over}
use Rattle.vault_core_model.specs.Sound.{Sound}
use Rattle.vault_core_model.specs.Vault.{Vault, history_of}
use Rattle.vault_store_model.specs.Changes.{others_at}
use Rattle.vault_store_model.proofs.EntryLemmas.{found_history, apart}
use Rattle.vault_audit_model.specs.Spells.{entries_in}
use Rattle.vault_store_model.proofs.HeadsByEntry.{held_of_key, held_entries, last_of, head_over_entries, head_of_entries, head_same}
use Rattle.vault_store_model.proofs.ChangeLemmas.{is_held_there}
use Rattle.vault_store_model.proofs.Newest.{IsRising, rising_ids, rising-filter}

-- any but the entry of that id
abbrev is_other : ℕ → Entry → Bool
is_other id e = not (e.id == id)

abbrev has_id : ℕ → List Entry → Bool
has_id id es = list_any (λ e. e.id == id) es

-- ---- the entry is among those of its key

among_held : (p : Entry → Bool) (id : ℕ) (hs : List History) (g : History) → find (λ h. h.entry.id == id) hs ≡ Some g → p g.entry ≡ true → has_id id (filter p (entries_in hs)) ≡ true
among_held p id [] g found passes = absurd (cc found)
among_held p id (h ∷ hs) g found passes =
    elim (eqb h.entry.id id) as (λ b. eqb h.entry.id id ≡ b → (if b then Some h else find (λ x. x.entry.id == id) hs) ≡ Some g → has_id id (cond (p h.entry) (h.entry ∷ filter p (entries_in hs)) (filter p (entries_in hs))) ≡ true) [
      | true ↦ λ here it.
          let same : h ≡ g = cc it in
          let own : p h.entry ≡ true = subst (λ (x : History). p x.entry ≡ true) (sym same) passes in
          ap (λ b. has_id id (cond b (h.entry ∷ filter p (entries_in hs)) (filter p (entries_in hs)))) own ∙ ap (λ b. b || has_id id (filter p (entries_in hs))) here
      | false ↦ λ other it. later (p h.entry) h.entry (filter p (entries_in hs)) (among_held p id hs g it passes)
    ] refl found
  where
    later : (b : Bool) (e : Entry) (es : List Entry) → has_id id es ≡ true → has_id id (cond b (e ∷ es) es) ≡ true
    later true e es there = elim (eqb e.id id) as (λ b. (b || has_id id es) ≡ true) [ true ↦ refl | false ↦ there ]
    later false e es there = there

-- ---- how many others there are

ids_above : (n : ℕ) (es : List Entry) → IsRising n es → AllByRecursion (λ e. n < e.id) es
ids_above n [] rising = tt
ids_above n (e ∷ es) rising = (rising.0, all_weaker (λ g. e.id < g.id) (λ g. n < g.id) (λ g less. omega (arith, rising.0)) es (ids_above e.id es rising.1))

all_others : (e : Entry) (id : ℕ) (es : List Entry) → e.id ≡ id → IsRising e.id es → filter (is_other id) es ≡ es
all_others e id es own rising =
    filter_all (is_other id) es (all_weaker (λ g. e.id < g.id) (λ g. is_other id g ≡ true) (λ g less. ap not (apart g.id id (omega (arith, own, less)))) es (ids_above e.id es rising))

one_less : (n id : ℕ) (es : List Entry) → IsRising n es → has_id id es ≡ true → length (filter (is_other id) es) + 1 ≡ length es
one_less n id [] rising there = absurd (cc there)
one_less n id (e ∷ es) rising there =
    elim (eqb e.id id) as (λ b. eqb e.id id ≡ b → (b || has_id id es) ≡ true → length (cond (not b) (e ∷ filter (is_other id) es) (filter (is_other id) es)) + 1 ≡ length (e ∷ es)) [
      | true ↦ λ here it. let same = ap (λ (l : List Entry). length l) (all_others e id es (eqb-true e.id id here) rising.1) in omega (arith, same)
      | false ↦ λ other it. let rest = one_less e.id id es rising.1 it in omega (arith, rest)
    ] refl there

count_of : (es : List Entry) (head : Head) → head_over_entries es ≡ Some head → head.count ≡ length es
count_of [] head is = absurd (cc is)
count_of (e ∷ es) head is = count_is (record { newest = (last_of e es).id; count = length (e ∷ es) }) head is
  where
    count_is : (x y : Head) → Some x ≡ Some y → y.count ≡ x.count
    count_is x y same = let e : y ≡ x = cc (sym same) in ap (λ (h : Head). h.count) e

-- ---- the newest of the others

same_last : (id : ℕ) (e : Entry) (es : List Entry) → (last_of e es).id ≢ id → (f : Entry) × (fs : List Entry) × (filter (is_other id) (e ∷ es) ≡ f ∷ fs) × (last_of f fs ≡ last_of e es)
same_last id e [] other =
    let apart : eqb e.id id ≡ false = no_tie (eqb e.id id) refl in
    (e, [], ap (λ b. cond (not b) (e ∷ []) []) apart, refl)
  where
    no_tie : (b : Bool) → eqb e.id id ≡ b → b ≡ false
    no_tie true tie = absurd (other (eqb-true e.id id tie))
    no_tie false tie = refl
same_last id e (g ∷ gs) other = by (eqb e.id id) refl (same_last id g gs other)
  where
    by : (b : Bool) → eqb e.id id ≡ b → (f : Entry) × (fs : List Entry) × (filter (is_other id) (g ∷ gs) ≡ f ∷ fs) × (last_of f fs ≡ last_of g gs)
        → (f : Entry) × (fs : List Entry) × (filter (is_other id) (e ∷ g ∷ gs) ≡ f ∷ fs) × (last_of f fs ≡ last_of g gs)
    by true here it = (it.0, it.1, ap (λ b. cond (not b) (e ∷ filter (is_other id) (g ∷ gs)) (filter (is_other id) (g ∷ gs))) here ∙ it.2, it.3)
    by false here it = (e, it.0 ∷ it.1, ap (λ b. cond (not b) (e ∷ filter (is_other id) (g ∷ gs)) (filter (is_other id) (g ∷ gs))) here ∙ ap (λ (l : List Entry). e ∷ l) it.2, it.3)

head_is : (e : Entry) (es : List Entry) (n : ℕ) → length (e ∷ es) + 1 ≡ n → head_over_entries (e ∷ es) ≡ Some (record { newest = (last_of e es).id; count = n - 1 })
head_is e es n is = let less : length (e ∷ es) ≡ n - 1 = omega (arith, is) in ap (λ c. Some (record { newest = (last_of e es).id; count = c })) less

older : (id : ℕ) (es : List Entry) (head : Head) → head_over_entries es ≡ Some head → head.newest ≢ id → length (filter (is_other id) es) + 1 ≡ length es
    → head_over_entries (filter (is_other id) es) ≡ Some (record { newest = head.newest; count = head.count - 1 })
older id [] head is other less = absurd (cc is)
older id (e ∷ es) head is other less =
    let first : Head = record { newest = (last_of e es).id; count = length (e ∷ es) } in
    let same : first ≡ head = some_same first head is in
    let it = same_last id e es (λ tie. other (sym (ap (λ (h : Head). h.newest) same) ∙ tie)) in
    let long : length (it.0 ∷ it.1) + 1 ≡ length (e ∷ es) = sym (ap (λ (l : List Entry). length l + 1) it.2) ∙ less in
    ap head_over_entries it.2 ∙ head_is it.0 it.1 (length (e ∷ es)) long ∙ ap (λ (x : Entry). Some (record { newest = x.id; count = length (e ∷ es) - 1 })) it.3
    ∙ ap (λ (h : Head). Some (record { newest = h.newest; count = h.count - 1 })) same
  where
    some_same : (x y : Head) → Some x ≡ Some y → x ≡ y
    some_same x y e = cc e

-- ---- of a vault

module _ (v : Vault) (id : ℕ) (e : Entry) (head : Head) (sound : Sound v) (there : entry_of v id ≡ Some e) (held : e.removal ≡ None) (is : head_of v e.bucket e.key ≡ Some head) where
  abbrev own : List Entry
  own = held_of_key e.bucket e.key (entries_in v.histories)

  over_own : head_over_entries own ≡ Some head
  over_own = sym (head_of_entries v e.bucket e.key) ∙ is

  rising : IsRising 0 own
  rising = rising-filter (is_held_at e.bucket e.key) 0 (entries_in v.histories) (rising_ids 0 1 v.histories (omega arith) sound.ids)

  others_are : head_over (others_at v id e.bucket e.key) ≡ head_over_entries (filter (is_other id) own)
  others_are =
      head_same (others_at v id e.bucket e.key)
      ∙ ap head_over_entries (sym (filter-map (is_other id) (λ (h : History). h.entry) (held_at v e.bucket e.key)) ∙ ap (filter (is_other id)) (held_entries e.bucket e.key v.histories))

  fewer : length (filter (is_other id) own) + 1 ≡ length own
  fewer =
      let found = found_history (history_of v id) e there in
      let at : is_held_at e.bucket e.key found.0.entry ≡ true = ap (is_held_at e.bucket e.key) found.2 ∙ is_held_there e held in
      one_less 0 id own rising (among_held (is_held_at e.bucket e.key) id v.histories found.0 found.1 at)

  none_over : (es : List Entry) → length es ≡ 0 → head_over_entries es ≡ None
  none_over [] none = refl
  none_over (x ∷ xs) none = absurd (omega (arith, none))

  pub last_removed : head.count ≡ 1 → head_over (others_at v id e.bucket e.key) ≡ None
  last_removed one = let count = count_of own head over_own in others_are ∙ none_over (filter (is_other id) own) (omega (arith, count, one, fewer))

  pub older_removed : head.newest ≢ id → head_over (others_at v id e.bucket e.key) ≡ Some (record { newest = head.newest; count = head.count - 1 })
  older_removed other = others_are ∙ older id own head over_own other fewer

  pub count_removed : (new : Head) → head_over (others_at v id e.bucket e.key) ≡ Some new → new.count + 1 ≡ head.count
  count_removed new after =
      let count = count_of own head over_own in
      let left = count_of (filter (is_other id) own) new (sym others_are ∙ after) in
      omega (arith, count, left, fewer)

-- The part of a removal makes the edit of that change, by what was read of the vault before.
use Rattle.std.proofs.Common.{◌≡◌, ℕ, ◌+◌, ◌-◌, ◌≤◌, ◌==◌, List, [], ◌∷◌, length, filter, cond, Bool, true, false, not, nat_lt, Option, Some, None, refl, sym, ap, subst, ◌∙◌, arith, eqb}
use Rattle.std.specs.Prelude.{find, option_map, unwrap_or, if◌then◌else◌}
use Rattle.std.proofs.lemmas.Bool.{and_parts}
use Rattle.std.proofs.lemmas.Bool.Decides.{nat_tests}
use Rattle.sqlite_value.specs.Order.{Row}
use Rattle.vault_base.specs.Days.{day, last_moment}
use Rattle.vault_base.specs.declared.refusal.Table.{Table}
use Rattle.vault_base.specs.declared.refusal.Table.TheVariants as table
use Rattle.vault_tally.specs.Row.{IsRowOf}
use Rattle.vault_tally.specs.declared.row.Row.{Row as Sums}
use Rattle.vault_core_model.specs.declared.records.BucketConfig.{BucketConfig}
use Rattle.vault_core_model.specs.declared.records.Entry.{Entry}
use Rattle.vault_core_model.specs.declared.records.Head.{Head}
use Rattle.vault_core_model.specs.declared.records.History.{History}
use Rattle.vault_core_model.specs.declared.records.Removal.{Removal}
use Rattle.vault_core_model.specs.declared.records.Tenure.{Tenure}
use Rattle.vault_core_model.specs.declared.change.Change.TheVariants as change
use Rattle.vault_core_model.specs.Allowed.{IsRemoval}
use Rattle.vault_core_model.specs.Change.{changed}
use Rattle.vault_core_model.specs.Places.{is_held_at, held_at}
use Rattle.vault_core_model.specs.Reads.{entry_of, head_of, head_over}
use Rattle.vault_core_model.specs.Sound.{Sound}
use Rattle.vault_core_model.specs.Totals.{items_of}
use Rattle.vault_core_model.specs.Vault.{Vault, config_of, history_of}
use Rattle.vault_audit_model.specs.Spells.{department_in}
use Rattle.vault_store_model.specs.Rows.{Rows}
use Rattle.vault_store_model.specs.Edits.{and_then, at_moment}
use Rattle.vault_store_model.specs.Changes.{summed, headed, others_at, without_entry}
use Rattle.vault_store_model.specs.Sums.{CountsOut, last_tenure_of}
use Rattle.vault_store_model.proofs.EntryLemmas.{found_history}
use Rattle.vault_store_model.proofs.SumLemmas.{sums_removed, entry_same}
use Rattle.vault_store_model.proofs.ChangeLemmas.{is_held_there}
use Rattle.vault_store_model.proofs.HeadAfterRemovalLemmas.{count_removed}
use Rattle.vault_store_reads.specs.Shown.{newest_but}
use Rattle.vault_store_apply.specs.EntryParts.{content_dropped, entry_removed, left_rows}
use Rattle.vault_store_apply.specs.Applies.{IsEditOf}
use Rattle.vault_store_apply.specs.Heads.{head_without, holds_no_other}
use Rattle.vault_store_apply.proofs.AdmissionLemmas.{summed_same}

-- ---- a held entry's key has a head

abbrev HasHead : List History → Type 0
HasHead hs = (head : Head) × (head_over hs ≡ Some head)

head_of_some : (h : History) (hs : List History) → HasHead (h ∷ hs)
head_of_some h [] = (record { newest = h.entry.id; count = 1 }, refl)
head_of_some h (g ∷ gs) =
    let rest = head_of_some g gs in
    let more : Head → Head = λ x. record { newest = x.newest; count = length (h ∷ g ∷ gs) } in
    (more rest.0, ap (option_map more) rest.1)

head_among : (p : History → Bool) (id : ℕ) (hs : List History) (g : History) → find (λ h. h.entry.id == id) hs ≡ Some g → p g ≡ true → HasHead (filter p hs)
head_among p id [] g found passes = absurd (cc found)
head_among p id (h ∷ hs) g found passes =
    elim (eqb h.entry.id id) as (λ b. (if b then Some h else find (λ x. x.entry.id == id) hs) ≡ Some g → HasHead (cond (p h) (h ∷ filter p hs) (filter p hs))) [
      | true ↦ λ it. let same : g ≡ h = cc (sym it) in first (p h) (subst (λ x. p x ≡ true) same passes)
      | false ↦ λ it. past (p h) (head_among p id hs g it passes)
    ] found
  where
    first : (b : Bool) → b ≡ true → HasHead (cond b (h ∷ filter p hs) (filter p hs))
    first true is = head_of_some h (filter p hs)
    first false is = absurd (cc is)

    past : (b : Bool) → HasHead (filter p hs) → HasHead (cond b (h ∷ filter p hs) (filter p hs))
    past true rest = head_of_some h (filter p hs)
    past false rest = rest

head_there : (v : Vault) (id : ℕ) (e : Entry) → entry_of v id ≡ Some e → e.removal ≡ None → (head : Head) × (head_of v e.bucket e.key ≡ Some head)
head_there v id e there held =
    let found = found_history (history_of v id) e there in
    head_among (λ h. is_held_at e.bucket e.key h.entry) id v.histories found.0 found.1 (ap (is_held_at e.bucket e.key) found.2 ∙ is_held_there e held)

-- ---- the newest besides one, where the head names no other

none_besides : (id : ℕ) (hs : List History) (head : Option Head) → head ≡ head_over hs → holds_no_other head id ≡ true → None ≡ option_map (λ (x : Head). x.newest) (head_over (filter (λ h. not (h.entry.id == id)) hs))
none_besides id [] head is alone = refl
none_besides id (h ∷ []) head is alone =
    let both = and_parts (nat_lt 1 2) (h.entry.id == id) (subst (λ o. holds_no_other o id ≡ true) is alone) in
    ap (λ b. option_map (λ (x : Head). x.newest) (head_over (cond (not b) (h ∷ []) []))) (sym both.1)
none_besides id (h ∷ g ∷ gs) head is alone =
    let some = head_of_some g gs in
    let two : Head = record { newest = some.0.newest; count = length (h ∷ g ∷ gs) } in
    let stated : head ≡ Some two = is ∙ ap (option_map (λ (x : Head). record { newest = x.newest; count = length (h ∷ g ∷ gs) })) some.1 in
    let both = and_parts (nat_lt (length (h ∷ g ∷ gs)) 2) (some.0.newest == id) (subst (λ o. holds_no_other o id ≡ true) stated alone) in
    absurd (many (length (h ∷ g ∷ gs)) both.0 (omega arith))
  where
    many : (n : ℕ) → nat_lt n 2 ≡ true → 2 ≤ n → ⊥
    many n less more = grind (arith, nat_tests, less, more)

pub no_other : (v : Vault) (bucket key : List ℕ) (id : ℕ) (head : Option Head) → holds_no_other head id ≡ true → head ≡ head_of v bucket key → None ≡ newest_but v bucket key id
no_other v bucket key id head alone is = none_besides id (held_at v bucket key) head is alone

-- ---- the head that is left

left_of : (o : Option Head) (old : Head) → ((new : Head) → o ≡ Some new → new.count + 1 ≡ old.count) → head_without (option_map (λ h. h.newest) o) (Some old) ≡ o
left_of None old fewer = refl
left_of (Some new) old fewer = let less : old.count - 1 ≡ new.count = omega (arith, fewer new refl) in ap (λ c. Some (record { newest = new.newest; count = c })) less

rows_left : (bucket key : List ℕ) (old : Head) (left : Option Head) (rows : List Row) → left_rows bucket key left rows ≡ headed bucket key (Some old) left rows
rows_left bucket key old None rows = refl
rows_left bucket key old (Some new) rows = refl

-- ---- the edit

module _ (v : Vault) (t id : ℕ) (r : Removal) (e : Entry) (config : BucketConfig) (row sums : Sums) (head left : Option Head) (newest : Option ℕ) (since : ℕ) (sound : Sound v) (later : v.last ≤ t) (low : t ≤ last_moment)
    (is : IsRemoval v t id r) (there : entry_of v id ≡ Some e) (placed : Some config ≡ config_of v e.bucket) (stated : IsRowOf row (items_of v config.dept))
    (since_is : since ≡ unwrap_or (option_map (λ (x : Tenure). x.from) (last_tenure_of v id)) e.admitted) (counted : CountsOut row e.size (day since) (day t) sums) (headed_is : head ≡ head_of v e.bucket e.key) (newest_is : newest ≡ newest_but v e.bucket e.key id)
    (left_is : left ≡ head_without newest head) (external : Bool) (external_is : external ≡ v.external) where
  abbrev after : Vault
  after = changed v t (change.Remove id r)

  held : e.removal ≡ None
  held = subst (λ (x : Entry). x.removal ≡ None) (entry_same is.held.0 e (sym is.held.1 ∙ there)) is.held.2

  removed_sums : e.marker ≡ false → sums ≡ (department_in after config.dept).sums
  removed_sums version = sums_removed v t id r e config since e.admitted row sums sound later low is there version (sym placed) since_is stated counted

  heads_left : (rows : List Row) → left_rows e.bucket e.key left rows ≡ headed e.bucket e.key (head_of v e.bucket e.key) (head_over (others_at v id e.bucket e.key)) rows
  heads_left rows =
      let old = head_there v id e there held in
      let others = head_over (others_at v id e.bucket e.key) in
      let same : left ≡ others =
      left_is ∙ ap (λ n. head_without n head) newest_is ∙ ap (head_without (newest_but v e.bucket e.key id)) (headed_is ∙ old.1)
      ∙ left_of others old.0 (λ new after_is. count_removed v id e old.0 sound there held old.1 new after_is) in
      ap (λ (o : Option Head). left_rows e.bucket e.key o rows) same ∙ rows_left e.bucket e.key old.0 others rows
      ∙ ap (λ (o : Option Head). headed e.bucket e.key o others rows) (sym old.1)

  edits_of_entry : (xs : Rows) (u : Table) → entry_removed v.external e id r left config.dept sums t xs u ≡ and_then (without_entry v after id r (Some e)) (at_moment t) xs u
  edits_of_entry xs table.Meta = refl
  edits_of_entry xs table.Departments =
      let rows = content_dropped v.external id r xs table.Departments in
      summed_same after e.marker config sums removed_sums rows ∙ ap (λ (o : Option BucketConfig). summed after e.marker o rows) placed
  edits_of_entry xs table.Callers = refl
  edits_of_entry xs table.Buckets = refl
  edits_of_entry xs table.Rules = refl
  edits_of_entry xs table.Entries = refl
  edits_of_entry xs table.Contents = refl
  edits_of_entry xs table.Settings = refl
  edits_of_entry xs table.Intake = refl
  edits_of_entry xs table.Heads = heads_left (content_dropped v.external id r xs table.Heads)
  edits_of_entry xs table.Tenures = refl
  edits_of_entry xs table.External = refl

  pub edits_removal : IsEditOf (entry_removed external e id r left config.dept sums t) v t (change.Remove id r)
  edits_removal xs u =
      ap (λ b. entry_removed b e id r left config.dept sums t xs u) external_is
      ∙ edits_of_entry xs u ∙ ap (λ (o : Option Entry). and_then (without_entry v after id r o) (at_moment t) xs u) (sym there)

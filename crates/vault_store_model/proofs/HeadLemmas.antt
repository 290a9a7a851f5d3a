-- The edit of one key's head, on the rows of heads.
use Rattle.std.proofs.Common.{◌≡◌, ℕ, ◌<◌, List, [], ◌∷◌, ◌++◌, map, filter, cond, not, true, false, Option, Some, None, IsPermutation, refl, sym, ap, subst, ◌∙◌, lit<}
use Rattle.std.specs.List.{AllByRecursion}
use Rattle.std.proofs.lemmas.List.Sorted.{IsPermutation-map, IsPermutation-trans, IsPermutation-sym}
use Rattle.std.proofs.lemmas.Slice.Eq.{bytes_eq-Decides}
use Rattle.sqlite_trees.proofs.ListLemmas.{IsPermutation-same}
use Rattle.sqlite_value.specs.Order.{Row}
use Rattle.vault_core_model.specs.declared.records.Entry.{Entry}
use Rattle.vault_core_model.specs.declared.records.Head.{Head}
use Rattle.vault_core_model.specs.Reads.{head_of}
use Rattle.vault_core_model.specs.Sound.{AreIdsFrom}
use Rattle.vault_core_model.specs.Vault.{Vault}
use Rattle.vault_audit_model.specs.declared.rows.HeadRow.{HeadRow}
use Rattle.vault_audit_model.specs.Rows.{head_row}
use Rattle.vault_audit_model.specs.Spells.{heads_in, entries_in}
use Rattle.vault_store_model.specs.Edits.{changed_if}
use Rattle.vault_store_model.specs.Tests.{is_of_key, with_head_columns}
use Rattle.vault_store_model.specs.Changes.{headed}
use Rattle.vault_store_model.proofs.OrderLemmas.{headed_same}
use Rattle.vault_store_model.proofs.HeadsByEntry.{is_newest, head_row_of, heads_by, heads_are, head_of_entries}
use Rattle.vault_store_model.proofs.Newest.{rising_ids}
use Rattle.vault_store_model.proofs.HeadParts.{is_at, is_elsewhere, own_head, other_heads, heads_in_parts, others_same}

-- ---- rows of one key, and of others

own_key : (bucket key : List ℕ) (head : Head) → is_of_key bucket key (head_row (record { bucket = bucket; key = key; head = head })) ≡ true
own_key bucket key head = rw ((bytes_eq-Decides bucket bucket).1 refl, (bytes_eq-Decides key key).1 refl) refl

pub others_apart : (bucket key : List ℕ) (es xs : List Entry) → AllByRecursion (λ h. is_of_key bucket key (head_row h) ≡ false) (map (head_row_of es) (filter (is_newest es) (filter (is_elsewhere bucket key) xs)))
others_apart bucket key es [] = tt
others_apart bucket key es (x ∷ xs) =
    elim (is_at bucket key x) as (λ b. is_at bucket key x ≡ b → AllByRecursion (λ h. is_of_key bucket key (head_row h) ≡ false) (map (head_row_of es) (filter (is_newest es) (cond (not b) (x ∷ filter (is_elsewhere bucket key) xs) (filter (is_elsewhere bucket key) xs))))) [
      | true ↦ λ here. others_apart bucket key es xs
      | false ↦ λ elsewhere.
          elim (is_newest es x) as (λ b. AllByRecursion (λ h. is_of_key bucket key (head_row h) ≡ false) (map (head_row_of es) (cond b (x ∷ filter (is_newest es) (filter (is_elsewhere bucket key) xs)) (filter (is_newest es) (filter (is_elsewhere bucket key) xs)))))
          [ true ↦ (elsewhere, others_apart bucket key es xs) | false ↦ others_apart bucket key es xs ]
    ] refl

-- ---- the edit on the parts

others_left : (bucket key : List ℕ) (hs : List HeadRow) → AllByRecursion (λ h. is_of_key bucket key (head_row h) ≡ false) hs → filter (λ row. not (is_of_key bucket key row)) (map head_row hs) ≡ map head_row hs
others_left bucket key [] all = refl
others_left bucket key (h ∷ hs) all =
    ap (λ b. cond (not b) (head_row h ∷ filter (λ row. not (is_of_key bucket key row)) (map head_row hs)) (filter (λ row. not (is_of_key bucket key row)) (map head_row hs))) all.0
    ∙ ap (λ l. head_row h ∷ l) (others_left bucket key hs all.1)

others_unchanged : (bucket key : List ℕ) (change : Row → Row) (hs : List HeadRow) → AllByRecursion (λ h. is_of_key bucket key (head_row h) ≡ false) hs → map (changed_if (is_of_key bucket key) change) (map head_row hs) ≡ map head_row hs
others_unchanged bucket key change [] all = refl
others_unchanged bucket key change (h ∷ hs) all =
    ap (λ b. cond b (change (head_row h)) (head_row h) ∷ map (changed_if (is_of_key bucket key) change) (map head_row hs)) all.0
    ∙ ap (λ l. head_row h ∷ l) (others_unchanged bucket key change hs all.1)

on_parts : (bucket key : List ℕ) (old new : Option Head) (hs : List HeadRow) → AllByRecursion (λ h. is_of_key bucket key (head_row h) ≡ false) hs
    → headed bucket key old new (map head_row (own_head bucket key old ++ hs)) ≡ map head_row (own_head bucket key new ++ hs)
on_parts bucket key None None hs all = refl
on_parts bucket key None (Some new) hs all = refl
on_parts bucket key (Some old) None hs all =
    let row = head_row (record { bucket = bucket; key = key; head = old }) in
    ap (λ b. cond (not b) (row ∷ filter (λ x. not (is_of_key bucket key x)) (map head_row hs)) (filter (λ x. not (is_of_key bucket key x)) (map head_row hs))) (own_key bucket key old)
    ∙ others_left bucket key hs all
on_parts bucket key (Some old) (Some new) hs all =
    let row = head_row (record { bucket = bucket; key = key; head = old }) in
    let change = with_head_columns new in
    ap (λ b. cond b (change row) row ∷ map (changed_if (is_of_key bucket key) change) (map head_row hs)) (own_key bucket key old)
    ∙ ap (λ l. change row ∷ l) (others_unchanged bucket key change hs all)

-- ---- two vaults

-- the rows of heads in two parts
rows_in_parts : (v : Vault) (bucket key : List ℕ) → AreIdsFrom 1 v.histories → IsPermutation (map head_row (heads_in v)) (map head_row (own_head bucket key (head_of v bucket key) ++ other_heads bucket key (entries_in v.histories)))
rows_in_parts v bucket key ids =
    let es = entries_in v.histories in
    subst (λ (hs : List HeadRow). IsPermutation (map head_row hs) (map head_row (own_head bucket key (head_of v bucket key) ++ other_heads bucket key es))) (sym (heads_are v))
    (subst (λ (o : Option Head). IsPermutation (map head_row (heads_by es)) (map head_row (own_head bucket key o ++ other_heads bucket key es))) (sym (head_of_entries v bucket key))
    (IsPermutation-map head_row _ _ (heads_in_parts 0 bucket key es (rising_ids 0 1 v.histories rising ids))))
  where
    rising : 0 < 1
    rising = lit< tt

-- where only entries of one key changed, the edit of its head makes the rows of heads
pub heads_changed : (v w : Vault) (bucket key : List ℕ) → AreIdsFrom 1 v.histories → AreIdsFrom 1 w.histories → filter (is_elsewhere bucket key) (entries_in w.histories) ≡ filter (is_elsewhere bucket key) (entries_in v.histories)
    → IsPermutation (map head_row (heads_in w)) (headed bucket key (head_of v bucket key) (head_of w bucket key) (map head_row (heads_in v)))
heads_changed v w bucket key before after same =
    let es = entries_in v.histories in
    let old = head_of v bucket key in
    let new = head_of w bucket key in
    IsPermutation-trans _ _ _ (rows_in_parts w bucket key after)
    (IsPermutation-trans _ _ _ (IsPermutation-same _ _ (
    ap (λ (hs : List HeadRow). map head_row (own_head bucket key new ++ hs)) (others_same bucket key es (entries_in w.histories) same)
    ∙ sym (on_parts bucket key old new (other_heads bucket key es) (others_apart bucket key es es))))
    (IsPermutation-sym _ _ (headed_same bucket key old new _ _ (rows_in_parts v bucket key before))))

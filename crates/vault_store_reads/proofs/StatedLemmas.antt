-- What the first row of an answer says, and what all of them do.
use Rattle.std.proofs.Common.{◌≡◌, ℕ, ◌==◌, List, [], ◌∷◌, map, find, Bool, Some, refl, ap, ap₂, ◌∙◌}
use Rattle.std.specs.Prelude.{option_and_then}
use Rattle.std.specs.List.{AllByRecursion}
use Rattle.sqlite_value.specs.Order.{Row, column}
use Rattle.vault_lock.specs.declared.lock.Lock.{Lock}
use Rattle.vault_rules.specs.declared.plan.Held.{Held}
use Rattle.vault_core_model.specs.declared.records.History.{History}
use Rattle.vault_core_model.specs.declared.records.Setting.{Setting}
use Rattle.vault_core_model.specs.Places.{is_held_at, held_at}
use Rattle.vault_core_model.specs.Reads.{entries_of, held_of, last_setting, lock_by}
use Rattle.vault_core_model.specs.Sound.{Sound}
use Rattle.vault_core_model.specs.Vault.{Vault, last_lock}
use Rattle.vault_audit_model.proofs.SameRows.{number_same, text_same, flag_same}
use Rattle.vault_store_reads.specs.Shown.{key_row, name_row, id_row, held_row, entry_shown, without_lock, with_lock_in}
use Rattle.vault_store_reads.specs.declared.rows_in_order.shown.HeldRow.{HeldRow}
use Rattle.sqlite_keyed.proofs.ListLemmas.{all_weaker}
use Rattle.vault_core_laws.proofs.Lists.{All-filter}
use Rattle.vault_core_laws.proofs.Newest.{finds_itself}

-- ---- one row states one

pub same_key : (j k : List ℕ) → key_row j ≡ key_row k → j ≡ k
same_key j k e = text_same j k (ap (λ r. column r 0) e)

pub same_name : (j k : List ℕ) → name_row j ≡ name_row k → j ≡ k
same_name j k e = text_same j k (ap (λ r. column r 0) e)

pub same_id : (a b : ℕ) → id_row a ≡ id_row b → a ≡ b
same_id a b e = number_same a b (ap (λ r. column r 0) e)

abbrev pub held_with : ℕ → Bool → ℕ → ℕ → Lock → Held
held_with id marker size admitted lock = record { id = id; marker = marker; size = size; admitted = admitted; lock = lock }

-- ---- entries with their locks

lock_stated : (ss : List Setting) → lock_by (last_setting ss) ≡ last_lock ss
lock_stated [] = refl
lock_stated (s ∷ ss) = refl

locked : (v : Vault) (h : History) → find (λ g. g.entry.id == h.entry.id) v.histories ≡ Some h → with_lock_in v (without_lock (held_of h)) ≡ held_of h
locked v h is =
    ap (held_with h.entry.id h.entry.marker h.entry.size h.entry.admitted)
    (ap (λ o. lock_by (option_and_then (λ (g : History). last_setting g.settings) o)) is ∙ lock_stated h.settings)

same_entry : (v : Vault) (x y : HeldRow) → held_row x ≡ held_row y → with_lock_in v x ≡ with_lock_in v y
same_entry v x y e =
    let id = number_same x.id y.id (ap (λ r. column r 0) e) in
    let marker = flag_same x.marker y.marker (ap (λ r. column r 1) e) in
    rw (id, marker, number_same x.size y.size (ap (λ r. column r 2) e), number_same x.admitted y.admitted (ap (λ r. column r 3) e)) refl

each_locked : (v : Vault) (hs : List History) (bare : List HeldRow) → AllByRecursion (λ h. with_lock_in v (without_lock (held_of h)) ≡ held_of h) hs → map held_row bare ≡ map entry_shown (map held_of hs) → map (with_lock_in v) bare ≡ map held_of hs
each_locked v [] [] all same = refl
each_locked v [] (x ∷ xs) all same = absurd cc
each_locked v (h ∷ hs) [] all same = absurd cc
each_locked v (h ∷ hs) (x ∷ xs) all same =
    let first : held_row x ≡ entry_shown (held_of h) = cc in
    let rest : map held_row xs ≡ map entry_shown (map held_of hs) = cc in
    ap₂ (λ a l. a ∷ l) (same_entry v x (without_lock (held_of h)) first ∙ all.0) (each_locked v hs xs all.1 rest)

-- entries of such rows, each with the lock of its id, are the held entries of the key
pub locked_entries : (v : Vault) (bucket key : List ℕ) (bare : List HeldRow) (rows : List Row) → (rows ≡ map entry_shown (entries_of v bucket key)) × Sound v → map held_row bare ≡ rows → map (with_lock_in v) bare ≡ entries_of v bucket key
locked_entries v bucket key bare rows (are, sound) stated =
    let P : History → Type 0 = λ h. with_lock_in v (without_lock (held_of h)) ≡ held_of h in
    let all = all_weaker (λ h. find (λ g. g.entry.id == h.entry.id) v.histories ≡ Some h) P (locked v) v.histories (finds_itself 1 v.histories sound.ids) in
    each_locked v (held_at v bucket key) bare (All-filter P (λ h. is_held_at bucket key h.entry) v.histories all) (stated ∙ are)

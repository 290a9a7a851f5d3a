-- The heads of a vault hang on its entries alone.
use Rattle.std.proofs.Common.{◌≡◌, ℕ, ◌==◌, ◌&&◌, List, [], ◌∷◌, length, map, filter, Bool, Option, Some, None, refl, sym, ap, ◌∙◌}
use Rattle.std.specs.Prelude.{nat_lt, option_map}
use Rattle.std.proofs.lemmas.List.{length-map}
use Rattle.sqlite_trees.proofs.ListLemmas.{map-map, filter-map, filter_same, all_of}
use Rattle.vault_core_model.specs.declared.records.Entry.{Entry}
use Rattle.vault_core_model.specs.declared.records.Head.{Head}
use Rattle.vault_core_model.specs.declared.records.History.{History}
use Rattle.vault_core_model.specs.Places.{is_held, is_held_at, held_at, is_current}
use Rattle.vault_core_model.specs.Reads.{head_over, head_of}
use Rattle.vault_core_model.specs.Vault.{Vault}
use Rattle.vault_audit_model.specs.declared.rows.HeadRow.{HeadRow}
use Rattle.vault_audit_model.specs.Spells.{head_in, heads_in, entries_in}
use Rattle.vault_store_model.proofs.ListLemmas.{map_each}

-- the held entries of a key, oldest first
abbrev pub held_of_key : List ℕ → List ℕ → List Entry → List Entry
held_of_key bucket key es = filter (is_held_at bucket key) es

-- none of these is newer
abbrev pub is_top : List Entry → Entry → Bool
is_top es e = length (filter (λ g. nat_lt e.id g.id) es) == 0

abbrev pub is_newest : List Entry → Entry → Bool
is_newest es e = is_held e && is_top (held_of_key e.bucket e.key es) e

abbrev pub head_row_of : List Entry → Entry → HeadRow
head_row_of es e = record { bucket = e.bucket; key = e.key; head = record { newest = e.id; count = length (held_of_key e.bucket e.key es) } }

abbrev pub heads_by : List Entry → List HeadRow
heads_by es = map (head_row_of es) (filter (is_newest es) es)

-- ---- of histories

pub held_entries : (bucket key : List ℕ) (hs : List History) → entries_in (filter (λ h. is_held_at bucket key h.entry) hs) ≡ held_of_key bucket key (entries_in hs)
held_entries bucket key hs = sym (filter-map (is_held_at bucket key) (λ (h : History). h.entry) hs)

count_same : (hs : List History) → length (entries_in hs) ≡ length hs
count_same hs = length-map hs (λ h. h.entry)

pub held_count : (bucket key : List ℕ) (hs : List History) → length (filter (λ h. is_held_at bucket key h.entry) hs) ≡ length (held_of_key bucket key (entries_in hs))
held_count bucket key hs = sym (count_same (filter (λ h. is_held_at bucket key h.entry) hs)) ∙ ap length (held_entries bucket key hs)

top_same : (id : ℕ) (hs : List History) → length (filter (λ (g : History). nat_lt id g.entry.id) hs) ≡ length (filter (λ (g : Entry). nat_lt id g.id) (entries_in hs))
top_same id hs =
    sym (count_same (filter (λ (g : History). nat_lt id g.entry.id) hs)) ∙ ap length (sym (filter-map (λ (g : Entry). nat_lt id g.id) (λ (h : History). h.entry) hs))

current_by : (v : Vault) (h : History) → is_current v h ≡ is_newest (entries_in v.histories) h.entry
current_by v h =
    ap (λ n. is_held h.entry && (n == 0)) (top_same h.entry.id (held_at v h.entry.bucket h.entry.key)
    ∙ ap (λ (es : List Entry). length (filter (λ (g : Entry). nat_lt h.entry.id g.id) es)) (held_entries h.entry.bucket h.entry.key v.histories))

head_by : (v : Vault) (h : History) → head_in v h ≡ head_row_of (entries_in v.histories) h.entry
head_by v h = ap (λ n. record { bucket = h.entry.bucket; key = h.entry.key; head = record { newest = h.entry.id; count = n } }) (held_count h.entry.bucket h.entry.key v.histories)

pub heads_are : (v : Vault) → heads_in v ≡ heads_by (entries_in v.histories)
heads_are v =
    let es = entries_in v.histories in
    map_each (head_in v) (λ h. head_row_of es h.entry) (filter (is_current v) v.histories) (all_of (λ h. head_in v h ≡ head_row_of es h.entry) (head_by v) (filter (is_current v) v.histories))
    ∙ ap (map (λ (h : History). head_row_of es h.entry)) (filter_same (is_current v) (λ h. is_newest es h.entry) v.histories (all_of (λ h. is_current v h ≡ is_newest es h.entry) (current_by v) v.histories))
    ∙ sym (map-map (head_row_of es) (λ (h : History). h.entry) (filter (λ h. is_newest es h.entry) v.histories))
    ∙ ap (map (head_row_of es)) (sym (filter-map (is_newest es) (λ (h : History). h.entry) v.histories))

-- ---- the head over entries

abbrev pub last_of : Entry → List Entry → Entry
last_of e [] = e
last_of e (f ∷ fs) = last_of f fs

-- the newest and the count of these entries, which come oldest first
abbrev pub head_over_entries : List Entry → Option Head
head_over_entries [] = None
head_over_entries (e ∷ es) = Some (record { newest = (last_of e es).id; count = length (e ∷ es) })

pub head_same : (hs : List History) → head_over hs ≡ head_over_entries (entries_in hs)
head_same [] = refl
head_same (h ∷ []) = refl
head_same (h ∷ g ∷ gs) =
    ap (λ (o : Option Head). option_map (λ x. record { newest = x.newest; count = length (h ∷ g ∷ gs) }) o) (head_same (g ∷ gs))
    ∙ ap (λ n. Some (record { newest = (last_of g.entry (entries_in gs)).id; count = n })) (sym (count_same (h ∷ g ∷ gs)))

pub head_of_entries : (v : Vault) (bucket key : List ℕ) → head_of v bucket key ≡ head_over_entries (held_of_key bucket key (entries_in v.histories))
head_of_entries v bucket key = head_same (held_at v bucket key) ∙ ap head_over_entries (held_entries bucket key v.histories)

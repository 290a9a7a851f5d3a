-- A listing's page as it fills, key by key.
use Rattle.std.specs.Prelude.{◌≡◌, ◌==◌, ℕ, ◌+◌, ◌-◌, ◌≤◌, Bool, true, false, ◌&&◌, ◌||◌, not, nat_lt, nat_eq, min, List, [], ◌∷◌, ◌++◌, length, map, filter, flat_map, take, reverse, slice_get, Option, Some, None, is_some, if◌then◌else◌}
use Rattle.std.specs.List.{starts_with}
use Rattle.std.specs.Str.{bytes_eq}
use Rattle.std.specs.Ordering.{nat_cmp, is_gt}
use Rattle.std.specs.Cmp.Lexicographic.{slice_cmp}
use Rattle.vault_base.specs.Limits.{most_ids, most_keys}
use Rattle.vault_core_model.specs.declared.command.ListVersions.{ListVersions}
use Rattle.vault_core_model.specs.declared.records.Entry.{Entry}
use Rattle.vault_core_model.specs.declared.reply.Listed.{Listed}
use Rattle.vault_core_model.specs.declared.reply.Page.{Page}
use Rattle.vault_core_model.specs.Vault.{Vault}
use Rattle.vault_core_model.specs.Places.{held_at, comes_after}
use Rattle.vault_core_model.specs.ListingOutcome.{asked_for, is_asked_for, listed}
use Rattle.vault_core_model.specs.Reads.{entry_of, ids_before, later_keys}

-- the page with one entry more while there is room; then it is known that there are more
abbrev pub grown : ℕ → Page → Listed → Page
grown most page l =
    if page.more then page
    else (if nat_lt (length page.entries) most then record { entries = page.entries ++ l ∷ []; more = false } else record { entries = page.entries; more = true })

-- the page with the entry of that id, if there is one
abbrev pub GrowsBy : Vault → ℕ → Bool → ℕ → Page → Page → Type 0
GrowsBy v id current most page page' =
    (entry : Entry) → entry_of v id ≡ Some entry → page' ≡ grown most page (record { entry = entry; current = current })

-- with these, one after another
abbrev pub filled : ℕ → Page → List Listed → Page
filled most page [] = page
filled most page (l ∷ ls) = filled most (grown most page l) ls

-- a key begins as asked
abbrev pub has_prefix : ListVersions → List ℕ → Bool
has_prefix c key = starts_with nat_eq key c.prefix

-- all keys after that one begin otherwise
abbrev pub is_past : ListVersions → List ℕ → Bool
is_past c key = is_gt (slice_cmp nat_cmp key c.prefix) && not (has_prefix c key)

-- something of that key may be asked for
abbrev pub is_key_asked : ListVersions → List ℕ → Bool
is_key_asked c key =
    has_prefix c key && (comes_after key c.after_key || (bytes_eq key c.after_key && is_some c.after_id))

-- of that key the entries older than that one are asked for; each is where there is none
abbrev pub older_than : ListVersions → List ℕ → Option ℕ
older_than c key = if comes_after key c.after_key then None else c.after_id

-- how many ids of a key are read: one for each entry that the page still takes, and one by which it is known that there are more
abbrev pub ids_read : ListVersions → Page → ℕ
ids_read c page = min (c.most - length page.entries) most_ids + 1

-- the id of the newest held entry of a key
abbrev pub newest_id : Vault → List ℕ → List ℕ → Option ℕ
newest_id v bucket key = slice_get (ids_before v bucket key None 1) 0

-- where each entry of a key is asked for, the first that is asked for is the newest
abbrev pub IsFirstAsked : Vault → ListVersions → List ℕ → ℕ → Type 0
IsFirstAsked v c key first = older_than c key ≡ None → newest_id v c.bucket key ≡ Some first

-- the entries of a key that are asked for, newest first
abbrev pub asked_at : Vault → ListVersions → List ℕ → List Listed
asked_at v c key = map (listed v) (filter (λ h. is_asked_for c h.entry) (reverse (held_at v c.bucket key)))

-- the prefix comes after the key after which the listing begins
abbrev pub is_prefix_later : ListVersions → Bool
is_prefix_later c = is_gt (slice_cmp nat_cmp c.prefix c.after_key)

-- the key at which the listing begins: nothing is asked for of the keys before it
abbrev pub beginning : ListVersions → List ℕ
beginning c = if is_prefix_later c then c.prefix else c.after_key

-- something may be asked for of it: older entries than one, or all of a prefix that is a key
abbrev pub has_first : ListVersions → Bool
has_first c = is_some c.after_id || is_prefix_later c

-- of the key at which the listing begins, where it is one
abbrev pub asked_first : Vault → ListVersions → List Listed
asked_first v c = if length (beginning c) == 0 then [] else asked_at v c (beginning c)

-- the page once it has the entries of all keys after that one
abbrev pub completed : Vault → ListVersions → Page → List ℕ → Page
completed v c page after = filled c.most page (flat_map (asked_at v c) (later_keys v c.bucket after))

-- the walk is done with that page, or goes on after a key after at least a page of keys more
abbrev pub EndsOrAdvances : Vault → ListVersions → Page → List ℕ → Page → Option (List ℕ) → Type 0
EndsOrAdvances v c page after page' None = page' ≡ completed v c page after
EndsOrAdvances v c page after page' (Some next) =
    (completed v c page' next ≡ completed v c page after)
    × (length (later_keys v c.bucket next) + most_keys ≤ length (later_keys v c.bucket after))

-- the page that a listing answers
abbrev pub page_of : Vault → ListVersions → Page
page_of v c = record { entries = map (listed v) (take c.most (asked_for v c)); more = nat_lt c.most (length (asked_for v c)) }

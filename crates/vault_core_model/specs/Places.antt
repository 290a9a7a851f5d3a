-- Which entries are held, which are current, and which keys have one.
use Rattle.std.specs.Prelude.{ℕ, ◌&&◌, ◌||◌, ◌==◌, Bool, nat_lt, List, [], ◌∷◌, length, map, filter, find, Option, is_none, not}
use Rattle.std.specs.Cmp.Lexicographic.{slice_cmp}
use Rattle.std.specs.Ordering.{nat_cmp, is_gt}
use Rattle.std.specs.Str.{bytes_eq}
use Rattle.std.specs.declared.cmp.Ordering.{Ordering}
use Rattle.std.specs.declared.cmp.Ordering.TheVariants.{Less, Equal, Greater}
use Rattle.vault_core_model.specs.declared.records.Entry.{Entry}
use Rattle.vault_core_model.specs.declared.records.History.{History}
use Rattle.vault_core_model.specs.Vault.{Vault}

-- admitted and not removed
abbrev pub is_held : Entry → Bool
is_held e = is_none e.removal

-- held in that bucket, under that key
abbrev pub is_held_at : List ℕ → List ℕ → Entry → Bool
is_held_at bucket key e = bytes_eq e.bucket bucket && (bytes_eq e.key key && is_held e)

-- the held entries of a key, oldest first
abbrev pub held_at : Vault → List ℕ → List ℕ → List History
held_at v bucket key = filter (λ h. is_held_at bucket key h.entry) v.histories

-- the held entries of the same key that are newer (S3 User Guide, "How S3 Versioning works")
abbrev pub newer : Vault → History → List History
newer v h = filter (λ g. nat_lt h.entry.id g.entry.id) (held_at v h.entry.bucket h.entry.key)

-- held, and none is newer
abbrev pub is_current : Vault → History → Bool
is_current v h = is_held h.entry && (length (newer v h) == 0)

-- the current entry of a key
abbrev pub current : Vault → List ℕ → List ℕ → Option History
current v bucket key = find (is_current v) (held_at v bucket key)

-- the key comes after that one, by their bytes; every key comes after the empty text
abbrev pub comes_after : List ℕ → List ℕ → Bool
comes_after key after = length after == 0 || is_gt (slice_cmp nat_cmp key after)

-- k before the keys x and xs, or x before the rest, or k once, by how k compares with x
abbrev pub with_key_by : Ordering → List ℕ → List ℕ → List (List ℕ) → List (List ℕ) → List (List ℕ)
with_key_by Less k x xs with_k = k ∷ x ∷ xs
with_key_by Equal k x xs with_k = x ∷ xs
with_key_by Greater k x xs with_k = x ∷ with_k

-- the keys with k among them
abbrev pub with_key : List ℕ → List (List ℕ) → List (List ℕ)
with_key k [] = k ∷ []
with_key k (x ∷ xs) = with_key_by (slice_cmp nat_cmp k x) k x xs (with_key k xs)

-- the set of these keys, by their bytes
abbrev pub key_set : List (List ℕ) → List (List ℕ)
key_set [] = []
key_set (k ∷ ks) = with_key k (key_set ks)

-- held in that bucket
abbrev pub is_held_in : List ℕ → Entry → Bool
is_held_in bucket e = bytes_eq e.bucket bucket && is_held e

-- a held content version in that bucket
abbrev pub is_held_version_in : List ℕ → Entry → Bool
is_held_version_in bucket e = not e.marker && is_held_in bucket e

-- the keys of a bucket that have a held entry, by their bytes
abbrev pub keys_of : Vault → List ℕ → List (List ℕ)
keys_of v bucket = key_set (map (λ h. h.entry.key) (filter (λ h. is_held_in bucket h.entry) v.histories))

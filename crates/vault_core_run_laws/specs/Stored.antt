-- Where the content of each version is that was ever admitted.
use Rattle.std.specs.Prelude.{◌≡◌, ◌⊎◌, ◌&&◌, ℕ, Bool, true, false, not, List, filter, sum_by, Option, Some, None, option_map, IsSome}
use Rattle.std.specs.List.{AllByRecursion}
use Rattle.vault_base.specs.declared.content.Content.{Content}
use Rattle.vault_base.specs.Content.{size, digest}
use Rattle.vault_core_model.specs.declared.records.History.{History}
use Rattle.vault_core_model.specs.Checks.{is_own}
use Rattle.vault_core_model.specs.Vault.{Vault, config_of}

-- held, with its content: all its bytes, or their size and digest where they are kept outside
abbrev pub IsHeldWhole : History → Type 0
IsHeldWhole h =
    (h.entry.removal ≡ None) × ((content : Content) × (h.content ≡ Some content) × (size content ≡ h.entry.size) × (h.entry.digest ≡ Some (digest content)))

-- removed, and its content is gone
abbrev pub IsGone : History → Type 0
IsGone h = IsSome h.entry.removal × (h.content ≡ None)

-- a content version is held with its content, or it was removed, never both and never neither; a marker has no content
abbrev pub StandsOnce : Bool → History → Type 0
StandsOnce true h = h.content ≡ None
StandsOnce false h = IsHeldWhole h ⊎ IsGone h

abbrev pub EachStandsOnce : Vault → Type 0
EachStandsOnce v = AllByRecursion (λ h. StandsOnce h.entry.marker h) v.histories

-- how many bytes the held content has
abbrev pub size_if_given : Option Content → ℕ
size_if_given None = 0
size_if_given (Some content) = size content

abbrev pub content_size : History → ℕ
content_size h = size_if_given h.content

-- and of all versions
abbrev pub all_stored_bytes : Vault → ℕ
all_stored_bytes v = sum_by content_size v.histories

-- a content version in a bucket of the department
abbrev pub is_version_of : Vault → List ℕ → History → Bool
is_version_of v dept h =
    not h.entry.marker && is_own (option_map (λ c. c.dept) (config_of v h.entry.bucket)) dept

-- and of the versions in a department's buckets
abbrev pub stored_bytes : Vault → List ℕ → ℕ
stored_bytes v dept = sum_by content_size (filter (is_version_of v dept) v.histories)

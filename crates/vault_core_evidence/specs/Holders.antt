-- The version of each bucket that is held longest of those that were seen: it shows what all of them show from then on.
use Rattle.std.specs.Prelude.{◌≡◌, ℕ, if◌then◌else◌, Bool, true, false, not, nat_le, List, [], ◌∷◌, Option, Some, None}
use Rattle.std.specs.Str.{bytes_eq}
use Rattle.std.specs.BTreeMap.{get}
use Rattle.vault_core_model.specs.declared.records.Tenure.{Tenure}
use Rattle.vault_core_model.specs.Order.{name_cmp}
use Rattle.vault_core_evidence.specs.declared.holders.Holder.{Holder}
use Rattle.vault_core_evidence.specs.declared.holders.Holders.{Holders}
use Rattle.vault_core_evidence.specs.Departments.{tenures_fit}

abbrev pub is_by : Option ℕ → ℕ → Bool
is_by None end = false
is_by (Some own) end = nat_le own end

-- the one end is after the other
abbrev pub is_later : Option ℕ → Option ℕ → Bool
is_later own None = false
is_later own (Some end) = not (is_by own end)

-- that of a bucket that the code has seen
abbrev pub holder_of : Holders → List ℕ → Option Holder
holder_of s bucket = get name_cmp s.holders bucket

-- a version with these tenures and that end agrees with it
abbrev pub fits_holder : Option Holder → List Tenure → Option ℕ → Bool
fits_holder None ts end = true
fits_holder (Some h) ts end = tenures_fit ts end h.tenures h.end

-- a version with that end is held longer
abbrev pub outlasts : Option ℕ → Option Holder → Bool
outlasts end None = true
outlasts end (Some h) = is_later end h.end

-- which of the two is held longer
abbrev pub longer : Option Holder → List Tenure → Option ℕ → Option Holder
longer o [] end = o
longer o (t ∷ ts) end = if outlasts end o then Some (record { tenures = t ∷ ts; end = end }) else o

-- this version is that of its bucket, and those of the others are as they were
abbrev pub Keeps : Holders → List ℕ → Holder → Holders → Type 0
Keeps s bucket h after = (name : List ℕ) → holder_of after name ≡ (if bytes_eq bucket name then Some h else holder_of s name)

-- a version of that bucket was tested, and where it passed it was seen
abbrev pub SeesVersion : Holders → List ℕ → List Tenure → Option ℕ → Bool → Holders → Type 0
SeesVersion s bucket ts end passes after =
    (passes ≡ fits_holder (holder_of s bucket) ts end)
    × (passes ≡ true → (name : List ℕ) → holder_of after name ≡ (if bytes_eq bucket name then longer (holder_of s bucket) ts end else holder_of s name))

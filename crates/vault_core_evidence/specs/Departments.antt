-- The department that a bucket had in each second, as the tenures of its versions show it.
use Rattle.std.specs.Prelude.{◌≡◌, ◌⊎◌, ◌≤◌, ◌<◌, ◌&&◌, ◌||◌, ℕ, Bool, true, not, nat_lt, List, [], ◌∷◌, Option, Some, None, option_map}
use Rattle.std.specs.List.{AllByRecursion}
use Rattle.std.specs.Str.{bytes_eq}
use Rattle.vault_core_model.specs.declared.records.Entry.{Entry}
use Rattle.vault_core_model.specs.declared.records.History.{History}
use Rattle.vault_core_model.specs.declared.records.Tenure.{Tenure}
use Rattle.vault_core_model.specs.Vault.{Vault}

-- the second is before that end, where there is an end
abbrev pub IsBefore : ℕ → Option ℕ → Type 0
IsBefore s None = Unit {0}
IsBefore s (Some end) = s < end

-- when a tenure ended: as the next one after it began, or else at that end
abbrev pub until : List Tenure → Option ℕ → Option ℕ
until [] end = end
until (t ∷ ts) end = Some t.from

-- by these tenures a version was of that department as that second ended
abbrev pub WasOf : List Tenure → Option ℕ → ℕ → List ℕ → Type 0
WasOf [] end s dept = ⊥
WasOf (t ∷ ts) end s dept = ((t.from ≤ s) × IsBefore s (until ts end) × (t.dept ≡ dept)) ⊎ WasOf ts end s dept

-- when the entry was removed, if it was
abbrev pub removed_at : Entry → Option ℕ
removed_at e = option_map (λ r. r.at) e.removal

-- two versions of one bucket were of one department as each second ended in which both were held
abbrev pub Agree : History → History → Type 0
Agree h g =
    h.entry.bucket ≡ g.entry.bucket → (s : ℕ) (dept other : List ℕ) → WasOf h.tenures (removed_at h.entry) s dept → WasOf g.tenures (removed_at g.entry) s other → dept ≡ other

-- each two of these
abbrev pub AllAgree : List History → Type 0
AllAgree [] = Unit {0}
AllAgree (h ∷ hs) = AllByRecursion (Agree h) hs × AllAgree hs

-- So a version was admitted by the department that had its bucket then, and was each later one's for as long as that had it.
abbrev pub DepartmentsAgree : Vault → Type 0
DepartmentsAgree v = AllAgree v.histories

-- ---- a test that computes

abbrev pub is_before : ℕ → Option ℕ → Bool
is_before s None = true
is_before s (Some end) = nat_lt s end

abbrev pub is_before_both : ℕ → Option ℕ → Option ℕ → Bool
is_before_both s end other = is_before s end && is_before s other

-- some second ended in both times
abbrev pub share : ℕ → Option ℕ → ℕ → Option ℕ → Bool
share from to begin end = is_before_both from to end && is_before_both begin to end

-- a tenure of that time and department is of one department with each of these tenures that shares a second with it
abbrev pub tenure_fits : ℕ → Option ℕ → List ℕ → List Tenure → Option ℕ → Bool
tenure_fits from to dept [] end = true
tenure_fits from to dept (t ∷ ts) end =
    (not (share from to t.from (until ts end)) || bytes_eq dept t.dept) && tenure_fits from to dept ts end

-- so is each of the first tenures
abbrev pub tenures_fit : List Tenure → Option ℕ → List Tenure → Option ℕ → Bool
tenures_fit [] own others end = true
tenures_fit (t ∷ ts) own others end = tenure_fits t.from (until ts own) t.dept others end && tenures_fit ts own others end

abbrev pub agree : History → History → Bool
agree h g =
    not (bytes_eq h.entry.bucket g.entry.bucket) || tenures_fit g.tenures (removed_at g.entry) h.tenures (removed_at h.entry)

-- the history agrees with each of those before it
abbrev pub agrees_with : List History → History → Bool
agrees_with [] h = true
agrees_with (g ∷ gs) h = agree g h && agrees_with gs h

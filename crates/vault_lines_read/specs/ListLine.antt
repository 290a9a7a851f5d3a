-- Members of the line that asks for a listing of versions which are read in a way of their own.
use Rattle.std.specs.Prelude.{ℕ, ◌≡◌, ◌⊎◌, codes, Bool, IsTrue, if◌then◌else◌, Option, Some, None, is_some, MatchOption, Result, Ok, Err}
use Rattle.serde_json.specs.Data.{Data}
use Rattle.serde_json.specs.Find.{get}
use Rattle.vault_base.specs.declared.refusal.Refusal.{Refusal}
use Rattle.vault_base.specs.declared.refusal.Refusal.TheVariants.{InvalidArgument}
use Rattle.vault_base.specs.Limits.{most_listed}
use Rattle.vault_values.specs.Fault.{◌>>=◌}
use Rattle.vault_lines_json.specs.Spelling.{IsAbsent, IsId, IsSmall}
use Rattle.vault_lines_json.specs.Values.{optional_id_of, optional_number_of}

-- an id is given with the key that it belongs to
abbrev pub IsAfterId : Data → Option ℕ → Type 0
IsAfterId d id = MatchOption id (IsAbsent d (codes "after_id")) (λ id. IsId d (codes "after_id") id × IsTrue (is_some (get (codes "after_key") d)))

-- 1,000 where it is left out
abbrev pub IsMost : Data → ℕ → Type 0
IsMost d most = IsSmall d (codes "most") most ⊎ (IsAbsent d (codes "most") × (most ≡ most_listed))

-- ---- reading

abbrev pub with_key : Bool → Option ℕ → Result (Option ℕ) Refusal
with_key has_key None = Ok None
with_key has_key (Some id) = if has_key then Ok (Some id) else Err InvalidArgument

unfoldable pub after_id_of : Data → Result (Option ℕ) Refusal
after_id_of d = do
  id ← optional_id_of (codes "after_id") d
  with_key (is_some (get (codes "after_key") d)) id

abbrev pub or_most_listed : Option ℕ → ℕ
or_most_listed None = most_listed
or_most_listed (Some most) = most

unfoldable pub most_of : Data → Result ℕ Refusal
most_of d = do
  most ← optional_number_of (codes "most") d
  Ok (or_most_listed most)

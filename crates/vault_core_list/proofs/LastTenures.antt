-- The last of some tenures.
use Rattle.std.proofs.Common.{◌≡◌, ◌-◌, List, [], ◌∷◌, length, Some, ap, sym}
use native.Mathlib.Numerals.{unary_clauses}
use Rattle.std.specs.List.{slice_get}
use Rattle.vault_base.specs.Days.{day}
use Rattle.vault_core_model.specs.declared.records.Tenure.{Tenure}
use Rattle.vault_core_model.specs.Totals.{last_day_from}

last_at : (r : Tenure) (rs : List Tenure) (t : Tenure) → slice_get (r ∷ rs) (length rs) ≡ Some t → last_day_from (r ∷ rs) ≡ day t.from
last_at r [] t is = let e : r ≡ t = cc in ap (λ (x : Tenure). day x.from) e
last_at r (q ∷ qs) t is = last_at q qs t is

pub last_day_from-last : (ts : List Tenure) (t : Tenure) → slice_get ts (length ts - 1) ≡ Some t → day t.from ≡ last_day_from ts
last_day_from-last [] t is = absurd (cc is)
last_day_from-last (r ∷ rs) t is = sym (last_at r rs t (simp unary_clauses at is))

-- The tenures of versions, one after the other.
use Rattle.std.specs.Prelude.{◌≡◌, ℕ, ◌≤◌, ◌<◌, ◌⊎◌, Bool, true, false, List, map, flat_map, filter, ◌∷◌, [], Option, Some, None, option_map, IfSome, IsPermutation}
use Rattle.std.specs.Str.{bytes_eq}
use Rattle.sqlite_value.specs.declared.value.Value.{Value}
use Rattle.sqlite_value.specs.declared.keys.Collation.TheVariants.{Binary}
use Rattle.sqlite_value.specs.Order.{Row, column}
use Rattle.sqlite_sql.specs.declared.ops.BinaryOp.TheVariants.{Compare}
use Rattle.sqlite_sql.specs.declared.ops.CompareOp.TheVariants.{Eq}
use Rattle.sqlite_sql.specs.Ops.{binary, is_true}
use Rattle.sqlite_sql.specs.Query.{or_nulls}
use Rattle.sqlite.specs.Effect.{Database}
use Rattle.vault_core_model.specs.declared.records.Tenure.{Tenure}
use Rattle.vault_audit_model.specs.Tables.{tenures_tree, entries_tree, buckets_tree}
use Rattle.vault_audit_rows.specs.Pass.{AllFit, after}
use Rattle.vault_audit_tenures.specs.declared.owned_tenures.OwnedTenure.{OwnedTenure}
use Rattle.vault_audit_tenures.specs.declared.chain.TenurePass.{TenurePass}
use Rattle.vault_audit_tenures.specs.OwnedTenures.{owned_row, IsOwned}

-- ---- one tenure

-- the last moment, or that of the removal
abbrev pub end_at : ℕ → Option ℕ → ℕ
end_at last None = last
end_at last (Some t) = t

-- begun by a move that is counted, and not after its version's end
abbrev pub IsTimely : ℕ → ℕ → OwnedTenure → Type 0
IsTimely moves last t = (t.tenure.number ≤ moves) × (t.tenure.from ≤ end_at last t.removed)

-- the first of a version begins with its admission
abbrev pub IsFirst : OwnedTenure → Type 0
IsFirst t = (t.tenure.number ≡ 0) × (t.tenure.from ≡ t.admitted)

-- the next one begins by a later move, at no earlier moment, and is another department's
abbrev pub IsNext : Tenure → Tenure → Type 0
IsNext s t = (s.number < t.number) × (s.from ≤ t.from) × (bytes_eq s.dept t.dept ≡ false)

-- the last one is of the department of the bucket, while the version is held
abbrev pub EndsAs : Option ℕ → Option (List ℕ) → Option Tenure → Type 0
EndsAs None owner t = option_map (λ u. u.dept) t ≡ owner
EndsAs (Some at) owner t = Unit {0}

abbrev pub IsLast : OwnedTenure → Type 0
IsLast t = EndsAs t.removed t.owner (Some t.tenure)

-- ---- all, by version and move

-- after the one before it, of the same version or of an earlier one that ends there
abbrev pub Follows : Option OwnedTenure → OwnedTenure → Type 0
Follows None t = IsFirst t
Follows (Some s) t = ((t.id ≡ s.id) × IsNext s.tenure t.tenure) ⊎ ((s.id < t.id) × IsFirst t × IsLast s)

abbrev pub ComesNext : TenurePass → OwnedTenure → Type 0
ComesNext p t = IsOwned t × IsTimely p.moves p.last t × Follows p.before t

abbrev pub with_tenure : TenurePass → OwnedTenure → TenurePass
with_tenure p t = record { moves = p.moves; last = p.last; before = Some t }

-- before the first tenure
abbrev pub no_tenure : ℕ → ℕ → TenurePass
no_tenure moves last = record { moves = moves; last = last; before = None }

abbrev pub Fit : TenurePass → List OwnedTenure → Type 0
Fit = AllFit owned_row ComesNext with_tenure

-- the last of these may be the last of its version
abbrev pub AreEnded : TenurePass → List OwnedTenure → Type 0
AreEnded p ts = IfSome (after owned_row ComesNext with_tenure p ts).before IsLast

-- ---- what is read

-- the two values are the same, and not NULL
abbrev pub are_same : Value → Value → Bool
are_same u v = is_true (binary (Compare Eq Binary) u v)

-- a tenure's row beside those of an entry and of a bucket
abbrev pub beside : Row → Row → Row → Row
beside r e b = column r 1 ∷ column r 2 ∷ column r 3 ∷ column r 4 ∷ column e 7 ∷ column e 10 ∷ column b 2 ∷ []

-- the rows that stand beside it: the entry of its id, and that entry's bucket
abbrev pub shown_beside : List Row → List Row → Row → List Row
shown_beside entries buckets r =
    flat_map (λ e. map (beside r e) (or_nulls (filter (λ b. are_same (column b 1) (column e 2)) buckets)))
    (or_nulls (filter (λ e. are_same (column e 0) (column r 1)) entries))

abbrev pub shown_in : Database → List Row
shown_in db = flat_map (shown_beside (db.trees entries_tree) (db.trees buckets_tree)) (db.trees tenures_tree)

-- whether the tenures of each version that has any follow one another, from its admission to its end
abbrev pub DecidesChains : ℕ → ℕ → Database → Bool → Type 0
DecidesChains moves last db true =
    (ts : List OwnedTenure) × IsPermutation (map owned_row ts) (shown_in db) × Fit (no_tenure moves last) ts × AreEnded (no_tenure moves last) ts
DecidesChains moves last db false =
    (ts : List OwnedTenure) → IsPermutation (map owned_row ts) (shown_in db) → Fit (no_tenure moves last) ts → ¬ AreEnded (no_tenure moves last) ts

-- The moves of buckets, as the tenures of all versions show them.
use Rattle.std.specs.Prelude.{◌≡◌, ◌⊎◌, ◌==◌, ◌&&◌, ◌||◌, if◌then◌else◌, ℕ, Bool, true, List, [], ◌∷◌, Option, Some, None}
use Rattle.std.specs.List.{AllByRecursion}
use Rattle.std.specs.Ordering.{nat_cmp}
use Rattle.std.specs.Str.{bytes_eq}
use Rattle.std.specs.BTreeMap.{get}
use Rattle.vault_core_model.specs.declared.records.History.{History}
use Rattle.vault_core_model.specs.declared.records.Tenure.{Tenure}
use Rattle.vault_core_model.specs.Vault.{Vault}
use Rattle.vault_core_evidence.specs.declared.seen_moves.Move.{Move}
use Rattle.vault_core_evidence.specs.declared.seen_moves.SeenMoves.{SeenMoves}

-- the move that began this tenure of a version in that bucket
abbrev pub move_by : List ℕ → Tenure → Move
move_by bucket t = record { bucket = bucket; dept = t.dept; from = t.from }

-- the tenure is from the admission, or by the move of its number
abbrev pub IsByMove : (ℕ → Move) → List ℕ → Tenure → Type 0
IsByMove moves bucket t = (t.number ≡ 0) ⊎ (moves t.number ≡ move_by bucket t)

abbrev pub AreByMoves : (ℕ → Move) → List History → Type 0
AreByMoves moves hs = AllByRecursion (λ h. AllByRecursion (IsByMove moves h.entry.bucket) h.tenures) hs

-- tenures of one number are of one bucket, one department and one moment, over the whole vault
abbrev pub MovesAgree : Vault → Type 0
MovesAgree v = (moves : ℕ → Move) × AreByMoves moves v.histories

-- ---- a test that goes over the tenures in order, with the move of each number that was seen

abbrev pub is_same_move : Move → Move → Bool
is_same_move m n = bytes_eq m.bucket n.bucket && (bytes_eq m.dept n.dept && m.from == n.from)

-- no tenure of that number was seen, or it shows the same move
abbrev pub fits : Option Move → Move → Bool
fits None m = true
fits (Some n) m = is_same_move n m

abbrev pub is_as_seen : (ℕ → Option Move) → List ℕ → Tenure → Bool
is_as_seen seen bucket t = t.number == 0 || fits (seen t.number) (move_by bucket t)

-- what was seen, once this tenure was; the admission is no move
abbrev pub seen_with : (ℕ → Option Move) → List ℕ → Tenure → ℕ → Option Move
seen_with seen bucket t n =
    if t.number == 0 then seen n else (if n == t.number then Some (move_by bucket t) else seen n)

abbrev pub are_as_seen : (ℕ → Option Move) → List ℕ → List Tenure → Bool
are_as_seen seen bucket [] = true
are_as_seen seen bucket (t ∷ ts) = is_as_seen seen bucket t && are_as_seen (seen_with seen bucket t) bucket ts

abbrev pub seen_after : (ℕ → Option Move) → List ℕ → List Tenure → ℕ → Option Move
seen_after seen bucket [] n = seen n
seen_after seen bucket (t ∷ ts) n = seen_after (seen_with seen bucket t) bucket ts n

-- no move
abbrev pub none_seen : ℕ → Option Move
none_seen n = None

-- the move of that number that the code has seen
abbrev pub seen_of : SeenMoves → ℕ → Option Move
seen_of s n = get nat_cmp s.moves n

-- the move that this tenure shows was added, and nothing else
abbrev pub IsAdded : SeenMoves → List ℕ → Tenure → SeenMoves → Type 0
IsAdded s bucket t after = (n : ℕ) → seen_of after n ≡ (if n == t.number then Some (move_by bucket t) else seen_of s n)

-- a tenure was tested, and where it passed it was seen
abbrev pub SeesOne : SeenMoves → List ℕ → Tenure → Bool → SeenMoves → Type 0
SeesOne s bucket t passes after =
    (passes ≡ is_as_seen (seen_of s) bucket t) × (passes ≡ true → (n : ℕ) → seen_of after n ≡ seen_with (seen_of s) bucket t n)

-- these tenures were tested, and where they passed they were seen
abbrev pub Sees : SeenMoves → List ℕ → List Tenure → Bool → SeenMoves → Type 0
Sees s bucket ts passes after =
    (passes ≡ are_as_seen (seen_of s) bucket ts) × (passes ≡ true → (n : ℕ) → seen_of after n ≡ seen_after (seen_of s) bucket ts n)

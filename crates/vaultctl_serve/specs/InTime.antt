-- What of a request comes in time.
use Rattle.std.specs.Prelude.{ℕ, ◌≡◌, ◌≤◌, ◌<◌, nat_le, List, [], ◌∷◌, ◌++◌, length, map, take, All, Option, Some, None, Result, MatchResult, if◌then◌else◌}
use Rattle.std.specs.Option.{option_map}
use Rattle.vaultctl_serve.specs.Scan.{next}
use Rattle.vaultctl_serve.specs.declared.scan.Scan.{Scan}
use Rattle.vaultctl_serve.specs.declared.scan.Scan.TheVariants.{Leading, Within, Fresh, Ended}

-- a byte, and when it comes: in nanoseconds from when its connection was taken
pub record Due : Type 0 where
  pub at : ℕ
  pub byte : ℕ

-- the bytes alone
abbrev pub bytes_of : List Due → List ℕ
bytes_of dues = map (λ due. due.byte) dues

-- by when the next byte of a request has to come: 30 seconds after its head, 5 until then
abbrev pub allowed : Scan → ℕ
allowed Leading = 5_000_000_000
allowed Within = 5_000_000_000
allowed Fresh = 5_000_000_000
allowed Ended = 30_000_000_000

-- of a request that has come so far, the bytes that come in time, up to the first that doesn't
abbrev pub in_time : Scan → List Due → List ℕ
in_time scan [] = []
in_time scan (due ∷ later) = let rest = in_time (next scan due.byte) later in if nat_le due.at (allowed scan) then due.byte ∷ rest else []

-- the same where it is known what comes
abbrev pub known_in_time : Scan → Option (List Due) → Option (List ℕ)
known_in_time scan coming = option_map (in_time scan) coming

-- The bytes that a read gave are those that came next, by then; none only at the end or with no room. One that failed took nothing.
abbrev pub Comes : {E : Type 0} → Option (List Due) → Option (List Due) → ℕ → Result ℕ E → List ℕ → Type 0
Comes None None by result buf = Unit {0}
Comes None (Some later) by result buf = ⊥
Comes (Some dues) None by result buf = ⊥
Comes (Some dues) (Some later) by result buf = MatchResult result
    (λ n. (given : List Due) × (dues ≡ given ++ later) × (bytes_of given ≡ take n buf) × All (λ due. due.at ≤ by) given × (n ≡ 0 → 0 < length buf → later ≡ []))
    (λ _. later ≡ dues)

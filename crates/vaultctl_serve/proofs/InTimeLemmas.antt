-- Bytes that come in time, read piece by piece.
use Rattle.std.proofs.Common.{◌≡◌, ◌∙◌, ◌<◌, ◌≤◌, ℕ, List, [], ◌∷◌, ◌++◌, length, take, All, true, nat_le, Option, None, Some, IsSome, Ok, refl, ap, sym, subst, arith, lit≤}
use Rattle.std.proofs.lemmas.Bool.Decides.{nat_tests}
use Rattle.std.proofs.lemmas.List.Elements.{All-head, All-tail}
use Rattle.std.specs.Io.Buffered.{reader_buffer, reader_capacity, reader_inner, reader_remaining}
use Rattle.std.specs.Io.KnownBytes.{Consumes, IsAtEnd, prepend_known}
use Rattle.std.specs.List.{fold}
use Rattle.std.specs.declared.alloc.Global.{Global}
use Rattle.std.specs.declared.io.BufReader.{BufReader}
use Rattle.vaultctl_serve.specs.InTime.{Due, allowed, bytes_of, Comes, in_time, known_in_time}
use Rattle.vaultctl_serve.specs.Scan.{next}
use Rattle.vaultctl_serve.specs.declared.scan.Scan.{Scan}
use Rattle.vaultctl_serve.specs.declared.scan.Scan.TheVariants.{Leading, Within, Fresh, Ended}

-- no byte of a request has to come sooner than a first one
allowed-least : (scan : Scan) → 5_000_000_000 ≤ allowed scan
allowed-least Leading = lit≤ tt
allowed-least Within = lit≤ tt
allowed-least Fresh = lit≤ tt
allowed-least Ended = lit≤ tt

-- a byte more doesn't shorten the time
allowed-grows : (scan : Scan) (byte : ℕ) → allowed scan ≤ allowed (next scan byte)
allowed-grows Leading byte = allowed-least (next Leading byte)
allowed-grows Within byte = allowed-least (next Within byte)
allowed-grows Fresh byte = allowed-least (next Fresh byte)
allowed-grows Ended byte = lit≤ tt

-- bytes that all come in time, and what comes after them
pub in_time-given : (scan : Scan) (given later : List Due) (by : ℕ) → by ≤ allowed scan → All (λ due. due.at ≤ by) given
    → in_time scan (given ++ later) ≡ bytes_of given ++ in_time (fold next scan (bytes_of given)) later
in_time-given scan [] later by within all = refl
in_time-given scan (due ∷ dues) later by within all =
    let soon : due.at ≤ by = All-head (λ (d : Due). d.at ≤ by) due dues all in
    let passes : nat_le due.at (allowed scan) ≡ true = grind (arith, nat_tests) in
    let others = in_time-given (next scan due.byte) dues later by (omega (arith, within, allowed-grows scan due.byte)) (All-tail (λ (d : Due). d.at ≤ by) due dues all) in
    rw passes (ap (λ (bytes : List ℕ). due.byte ∷ bytes) others)

given-in_time : (E : Type 0) (old new : Option (List Due)) (scan : Scan) (by n : ℕ) (buf : List ℕ) → (IsSome old → by ≤ allowed scan) → Comes {E = E} old new by (Ok n) buf
    → Consumes (known_in_time scan old) (known_in_time (fold next scan (take n buf)) new) (take n buf) × (n ≡ 0 → 0 < length buf → IsAtEnd (known_in_time (fold next scan (take n buf)) new))
given-in_time E None None scan by n buf within comes = (tt, λ _ _. tt)
given-in_time E None (Some later) scan by n buf within comes = absurd comes
given-in_time E (Some dues) None scan by n buf within comes = absurd comes
given-in_time E (Some dues) (Some later) scan by n buf within comes =
    let all = ap (in_time scan) comes.1 ∙ in_time-given scan comes.0 later by (within refl) comes.3 in
    let P : List ℕ → Type 0 = λ bytes. in_time scan dues ≡ bytes ++ in_time (fold next scan bytes) later in
    (subst P comes.2 all, λ none room. ap (in_time (fold next scan (take n buf))) (comes.4 none room))

-- a read that gave n bytes, in a time that was looked at first
pub read-in_time : (E : Type 0) (first old new : Option (List Due)) (scan after : Scan) (by n : ℕ) (buf : List ℕ) → first ≡ old → after ≡ fold next scan (take n buf) → (IsSome old → by ≤ allowed scan) → Comes {E = E} first new by (Ok n) buf
    → Consumes (known_in_time scan old) (known_in_time after new) (take n buf) × (n ≡ 0 → 0 < length buf → IsAtEnd (known_in_time after new))
read-in_time E first old new scan after by n buf same scanned within comes =
    let P : Option (List Due) → Type 0 = λ known. Comes {E = E} known new by (Ok n) buf in
    let Q : Scan → Type 0 = λ s. Consumes (known_in_time scan old) (known_in_time s new) (take n buf) × (n ≡ 0 → 0 < length buf → IsAtEnd (known_in_time s new)) in
    subst Q (sym scanned) (given-in_time E old new scan by n buf within (subst P same comes))

-- ---- what is read ahead

none-before : (known : Option (List ℕ)) → prepend_known [] known ≡ known
none-before None = refl
none-before (Some xs) = refl

-- a buffer in which nothing is yet gives what its reader does
pub unread-remaining : {R : Type 0} (remaining : R → Option (List ℕ)) (reader : BufReader R Global) (inner : R) → reader_inner reader ≡ inner → reader_buffer reader ≡ [] → reader_capacity reader ≡ 8192 → reader_remaining remaining reader ≡ remaining inner
unread-remaining remaining reader inner is empty capacity = rw (capacity, empty, is) (none-before (remaining inner))

-- the same of a reader of a request that gives what comes in time
abbrev pub left_of : {R : Type 0} → BufReader R Global → (R → Scan) → (R → Option (List Due)) → Option (List ℕ)
left_of reader scan_of coming = reader_remaining (λ r. known_in_time (scan_of r) (coming r)) reader

pub request-remaining : {R : Type 0} (reader : BufReader R Global) (inner : R) (scan_of : R → Scan) (coming : R → Option (List Due)) (scan : Scan) (known : Option (List Due)) → reader_inner reader ≡ inner → reader_buffer reader ≡ [] → reader_capacity reader ≡ 8192 → scan_of inner ≡ scan → coming inner ≡ known
    → left_of reader scan_of coming ≡ known_in_time scan known
request-remaining {R} reader inner scan_of coming scan known is empty capacity at comes =
    unread-remaining (λ (r : R). known_in_time (scan_of r) (coming r)) reader inner is empty capacity ∙ ap (λ (s : Scan). known_in_time s (coming inner)) at ∙ ap (λ (k : Option (List Due)). known_in_time scan k) comes

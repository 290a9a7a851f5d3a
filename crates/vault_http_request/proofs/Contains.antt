-- On a text within another one.
use Rattle.std.proofs.Common.{◌≡◌, ◌<◌, ◌+◌, ℕ, suc, zero, List, [], ◌∷◌, drop, length, true, false, arith, refl, nat_eq}
use Rattle.std.specs.List.{starts_with}
use Rattle.vault_http_request.specs.Supported.{contains}

-- where it doesn't begin, it stands after, if at all
pub contains_after : (part text : List ℕ) (i : ℕ) → i < length text → starts_with nat_eq (drop i text) part ≡ false → contains part (drop (suc i) text) ≡ contains part (drop i text)
contains_after part [] i h e = absurd (omega arith)
contains_after part (b ∷ bs) zero h e = rw e refl
contains_after part (b ∷ bs) (suc i) h e = contains_after part bs i (omega arith) e

pub contains_next : (part text : List ℕ) (i : ℕ) → i < length text → starts_with nat_eq (drop i text) part ≡ false → contains part (drop (i + 1) text) ≡ contains part (drop i text)
contains_next part text i h e = let next : i + 1 ≡ suc i = omega arith in rw next (contains_after part text i h e)

-- where it begins, it stands
pub contains_here : (part text : List ℕ) (i : ℕ) → i < length text → starts_with nat_eq (drop i text) part ≡ true → contains part (drop i text) ≡ true
contains_here part [] i h e = absurd (omega arith)
contains_here part (b ∷ bs) zero h e = rw e refl
contains_here part (b ∷ bs) (suc i) h e = contains_here part bs i (omega arith) e

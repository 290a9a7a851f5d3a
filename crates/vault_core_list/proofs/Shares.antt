-- The shares of a version, one by one.
use Rattle.std.proofs.Common.{◌≡◌, ℕ, ◌+◌, ◌<◌, ◌≤◌, List, [], ◌∷◌, ◌++◌, length, take, drop, get_or, Bool, true, false, suc, zero, refl, ap, arith}
use Rattle.std.specs.Prelude.{slice_get, ◌==◌}
use Rattle.std.proofs.lemmas.Bool.{ne_eqb}
use Rattle.std.proofs.lemmas.List.{take_all}
use Rattle.vault_core_model.specs.declared.records.Entry.{Entry}
use Rattle.vault_core_model.specs.declared.records.Tenure.{Tenure}
use Rattle.vault_core_model.specs.Totals.{Share, shares_from}
use Rattle.vault_core_list.specs.Shares.{share_by}

abbrev shares : Entry → Bool → List Tenure → List Share
shares e first ts = shares_from e.size e.removal first ts

shares-cons : (e : Entry) (first : Bool) (t : Tenure) (ts : List Tenure) → shares e first (t ∷ ts) ≡ share_by e first t (slice_get ts 0) ∷ shares e false ts
shares-cons e first t [] = refl
shares-cons e first t (u ∷ us) = refl

-- a tenure more, after the first one
later-more : (e : Entry) (ts : List Tenure) (i : ℕ) (t : Tenure) → i < length ts → t ≡ get_or ts i t → take (suc i) (shares e false ts) ≡ take i (shares e false ts) ++ share_by e false t (slice_get (drop (suc i) ts) 0) ∷ []
later-more e [] i t lt is = absurd (omega arith)
later-more e (x ∷ xs) zero t lt is = rw (is, shares-cons e false x xs) refl
later-more e (x ∷ xs) (suc i) t lt is = rw (shares-cons e false x xs) (ap (λ rest. share_by e false x (slice_get xs 0) ∷ rest) (later-more e xs i t (omega arith) is))

more : (e : Entry) (ts : List Tenure) (i : ℕ) (t : Tenure) → i < length ts → t ≡ get_or ts i t → take (suc i) (shares e true ts) ≡ take i (shares e true ts) ++ share_by e (i == 0) t (slice_get (drop (suc i) ts) 0) ∷ []
more e [] i t lt is = absurd (omega arith)
more e (x ∷ xs) zero t lt is = rw (is, shares-cons e true x xs) refl
more e (x ∷ xs) (suc i) t lt is =
    let later : (suc i == 0) ≡ false = ne_eqb (suc i) 0 (λ same. omega (arith, same)) in
    rw (later, shares-cons e true x xs) (ap (λ rest. share_by e true x (slice_get xs 0) ∷ rest) (later-more e xs i t (omega arith) is))

-- a tenure more
pub shares-more : (e : Entry) (ts : List Tenure) (i : ℕ) (t : Tenure) → i < length ts → t ≡ get_or ts i t → take (i + 1) (shares e true ts) ≡ take i (shares e true ts) ++ share_by e (i == 0) t (slice_get (drop (i + 1) ts) 0) ∷ []
shares-more e ts i t lt is = let next : i + 1 ≡ suc i = omega arith in rw next (more e ts i t lt is)

shares-length : (e : Entry) (first : Bool) (ts : List Tenure) → length (shares e first ts) ≡ length ts
shares-length e first [] = refl
shares-length e first (t ∷ ts) = rw (shares-cons e first t ts) (ap (λ n. suc n) (shares-length e false ts))

-- as many as the tenures are all of them
pub shares-whole : (e : Entry) (ts : List Tenure) (i : ℕ) → length ts ≤ i → take i (shares e true ts) ≡ shares e true ts
shares-whole e ts i past = take_all i (shares e true ts) (omega (arith, past, shares-length e true ts))

-- The head of a key, entry by entry.
use Rattle.std.proofs.Common.{◌≡◌, ℕ, ◌+◌, ◌<◌, List, [], ◌∷◌, ◌++◌, length, take, get_or, Bool, true, false, Some, filter, refl, ap, append-nil}
use Rattle.std.proofs.lemmas.List.{length-append}
use Rattle.std.proofs.lemmas.List.Elements.{filter_more}
use Rattle.vault_core_model.specs.declared.records.History.{History}
use Rattle.vault_core_model.specs.Reads.{head_over}

-- the newest of some entries is the last one
pub head_over-push : (hs : List History) (h : History) → head_over (hs ++ h ∷ []) ≡ Some (record { newest = h.entry.id; count = length hs + 1 })
head_over-push [] h = refl
head_over-push (g ∷ []) h = refl
head_over-push (f ∷ g ∷ gs) h = rw (head_over-push (g ∷ gs) h) (ap (λ n. Some (record { newest = h.entry.id; count = n })) (length-append (f ∷ g ∷ gs) (h ∷ [])))

-- an entry more, of those that pass
pub head-held : (p : History → Bool) (hs : List History) (i : ℕ) (h : History) → i < length hs → h ≡ get_or hs i h → p h ≡ true → head_over (filter p (take (i + 1) hs)) ≡ Some (record { newest = h.entry.id; count = length (filter p (take i hs)) + 1 })
head-held p hs i h lt is held = rw (filter_more p hs i h lt, ← is, held) (head_over-push (filter p (take i hs)) h)

pub held-more : (p : History → Bool) (hs : List History) (i : ℕ) (h : History) → i < length hs → h ≡ get_or hs i h → p h ≡ true → length (filter p (take (i + 1) hs)) ≡ length (filter p (take i hs)) + 1
held-more p hs i h lt is held = rw (filter_more p hs i h lt, ← is, held) (length-append (filter p (take i hs)) (h ∷ []))

-- an entry more, of the others
pub other-more : (p : History → Bool) (hs : List History) (i : ℕ) (h : History) → i < length hs → h ≡ get_or hs i h → p h ≡ false → filter p (take (i + 1) hs) ≡ filter p (take i hs)
other-more p hs i h lt is other = rw (filter_more p hs i h lt, ← is, other) (append-nil (filter p (take i hs)))

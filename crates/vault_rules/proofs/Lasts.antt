-- The last of a key's entries.
use Rattle.std.proofs.Common.{◌≡◌, ◌≢◌, ℕ, suc, ◌-◌, ◌++◌, Bool, true, false, List, [], ◌∷◌, length, Option, Some, None, refl, sym, ap, ◌∙◌, arith, append-nil}
use Rattle.std.specs.Prelude.{slice_get}
use Rattle.vault_rules.specs.declared.plan.Held.{Held}
use Rattle.vault_rules.specs.declared.plan.Step.TheVariants.{Mark}
use Rattle.vault_rules.specs.KeyPlan.{id_above}
use Rattle.vault_rules.specs.Walk.{Dues, unless, last_mark, mark_step, later_phases, walk, marked_by, marker_at, removal, removals, keep_if, left_over, lone_removal}
use Rattle.vault_rules.proofs.Fit.{IsFit}

pub last_mark-last : (d : Dues) (hs : List Held) (x : Held) → Some x ≡ slice_get hs (length hs - 1) → last_mark d hs ≡ unless x.marker (d.current x.size x.admitted)
last_mark-last d [] x e = absurd (cc)
last_mark-last d (y ∷ []) x e = let h : x ≡ y = cc in ap (λ z. unless z.marker (d.current z.size z.admitted)) (sym h)
last_mark-last d (y ∷ z ∷ zs) x e =
    let k : length (y ∷ z ∷ zs) - 1 ≡ suc (length (z ∷ zs) - 1) = omega arith in
    last_mark-last d (z ∷ zs) x (e ∙ ap (slice_get (y ∷ z ∷ zs)) k)

-- x is the last of these
abbrev EndsWith : List Held → Held → Type 0
EndsWith [] x = ⊥
EndsWith (y ∷ []) x = x ≡ y
EndsWith (y ∷ z ∷ zs) x = EndsWith (z ∷ zs) x

ends_with : (hs : List Held) (x : Held) → Some x ≡ slice_get hs (length hs - 1) → EndsWith hs x
ends_with [] x e = absurd (cc)
ends_with (y ∷ []) x e = cc
ends_with (y ∷ z ∷ zs) x e =
    let k : length (y ∷ z ∷ zs) - 1 ≡ suc (length (z ∷ zs) - 1) = omega arith in
    ends_with (z ∷ zs) x (e ∙ ap (slice_get (y ∷ z ∷ zs)) k)

ends_keep : (y x : Held) (o : Option ℕ) (l : List Held) → EndsWith l x → EndsWith (keep_if y o l) x
ends_keep y x None [] e = absurd e
ends_keep y x None (z ∷ zs) e = e
ends_keep y x (Some r) l e = e

-- the last entry always stays
left_ends : (d : Dues) (hs : List Held) (x : Held) → EndsWith hs x → EndsWith (left_over d hs) x
left_ends d [] x e = absurd e
left_ends d (y ∷ []) x e = e
left_ends d (y ∷ z ∷ zs) x e = ends_keep y x (removal d y (z ∷ zs)) (left_over d (z ∷ zs)) (left_ends d (z ∷ zs) x e)

alone : (l : List Held) (x : Held) → length l ≡ 1 → EndsWith l x → l ≡ x ∷ []
alone [] x h e = absurd e
alone (y ∷ []) x h e = ap (λ z. z ∷ []) (sym e)
alone (y ∷ z ∷ zs) x h e = absurd (omega arith)

-- where one stays, it is the last
left_alone : (d : Dues) (hs : List Held) (x : Held) → Some x ≡ slice_get hs (length hs - 1) → length (left_over d hs) ≡ 1 → left_over d hs ≡ x ∷ []
left_alone d hs x e h = alone (left_over d hs) x h (left_ends d hs x (ends_with hs x e))

crowded : (d : Dues) (l : List Held) → length l ≢ 1 → lone_removal d l ≡ []
crowded d [] h = refl
crowded d (x ∷ []) h = absurd (h refl)
crowded d (x ∷ y ∷ ys) h = refl

-- a key that isn't marked
pub walk_unmarked : (d : Dues) (t : ℕ) (hs : List Held) → last_mark d hs ≡ None → walk d t hs ≡ later_phases d hs
walk_unmarked d t hs m = ap (λ o. mark_step o ++ later_phases d (marked_by t o hs)) m

-- of which not just one entry is left
pub walk_crowded : (d : Dues) (t : ℕ) (hs : List Held) → last_mark d hs ≡ None → length (left_over d hs) ≢ 1 → walk d t hs ≡ removals d hs
walk_crowded d t hs m h = walk_unmarked d t hs m ∙ (ap (λ l. removals d hs ++ l) (crowded d (left_over d hs) h) ∙ append-nil (removals d hs))

-- of which one entry is left
pub walk_alone : (d : Dues) (t : ℕ) (hs : List Held) (x : Held) → last_mark d hs ≡ None → Some x ≡ slice_get hs (length hs - 1) → length (left_over d hs) ≡ 1 → walk d t hs ≡ removals d hs ++ lone_removal d (x ∷ [])
walk_alone d t hs x m e h = walk_unmarked d t hs m ∙ ap (λ l. removals d hs ++ lone_removal d l) (left_alone d hs x e h)

-- at least two entries
abbrev pub IsLong : List Held → Type 0
IsLong l = (x : Held) × (y : Held) × (ys : List Held) × (l ≡ x ∷ y ∷ ys)

pub unless_none : (b : Bool) (o : Option ℕ) → o ≡ None → unless b o ≡ None
unless_none true o e = refl
unless_none false o e = e

pub long_keep : (x : Held) (o : Option ℕ) (l : List Held) → IsLong l → IsLong (keep_if x o l)
long_keep x None l h = (x, h.0, h.1 ∷ h.2, ap (λ l. x ∷ l) h.3)
long_keep x (Some r) l h = h

-- what a new marker stands above became noncurrent just now, so it stays
pub left_long : (d : Dues) (t : ℕ) → IsFit d t → (x : Held) (xs : List Held) (id : ℕ) → IsLong (left_over d (x ∷ xs ++ marker_at id t ∷ []))
left_long d t f x [] id = (x, marker_at id t, [], ap (λ o. keep_if x o (marker_at id t ∷ [])) (unless_none (d.locked x.lock) (d.noncurrent x.size t 0) (f.fresh x.size 0)))
left_long d t f x (y ∷ ys) id = long_keep x (removal d x (y ∷ ys ++ marker_at id t ∷ [])) (left_over d (y ∷ ys ++ marker_at id t ∷ [])) (left_long d t f y ys id)

-- a key that is marked
pub walk_marked : (d : Dues) (t : ℕ) (hs : List Held) (r : ℕ) → IsFit d t → last_mark d hs ≡ Some r → walk d t hs ≡ Mark r ∷ removals d (hs ++ marker_at (id_above hs) t ∷ [])
walk_marked d t [] r f m = absurd (cc)
walk_marked d t (x ∷ xs) r f m =
    let hs = x ∷ xs ++ marker_at (id_above (x ∷ xs)) t ∷ [] in
    ap (λ o. mark_step o ++ later_phases d (marked_by t o (x ∷ xs))) m
    ∙ ap (λ l. Mark r ∷ l) (ap (λ l. removals d hs ++ lone_removal d l) (left_long d t f x xs (id_above (x ∷ xs))).3 ∙ append-nil (removals d hs))

some_last : (z : Held) (zs : List Held) → None ≡ slice_get (z ∷ zs) (length (z ∷ zs) - 1) → ⊥
some_last z [] e = cc
some_last z (x ∷ xs) e = let k : length (z ∷ x ∷ xs) - 1 ≡ suc (length (x ∷ xs) - 1) = omega arith in some_last x xs (e ∙ ap (slice_get (z ∷ x ∷ xs)) k)

pub none_last : (d : Dues) (hs : List Held) → None ≡ slice_get hs (length hs - 1) → length (left_over d hs) ≢ 1
none_last d [] e h = absurd (omega arith)
none_last d (y ∷ ys) e h = some_last y ys e

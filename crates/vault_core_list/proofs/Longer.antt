-- The tenures that histories get, put in one by one.
use Rattle.std.proofs.Common.{◌≡◌, ℕ, ◌+◌, ◌<◌, List, [], ◌∷◌, ◌++◌, length, map, take, drop, get_or, set, true, false, Option, Some, None, suc, zero, refl, sym, ap, ◌∙◌, arith}
use Rattle.std.specs.Prelude.{if◌then◌else◌}
use Rattle.std.proofs.lemmas.List.{drop-set-lt, get_or-drop, get_or-map, drop_more}
use Rattle.std.proofs.lemmas.List.Edits.{map_over_more}
use Rattle.vault_core_model.specs.declared.records.History.{History}
use Rattle.vault_core_model.specs.declared.records.Tenure.{Tenure}
use Rattle.vault_core_model.specs.Change.{tenured_by, tenured_if}
use Rattle.vault_core_model.specs.Places.{is_held_version_in}
use Rattle.vault_core_list.specs.Moves.{longer_if}

-- ---- one history

-- the tenures that it gets are those that it has after the move
pub got-longer : (bucket : List ℕ) (t : Tenure) (h : History) (ts : List Tenure) → longer_if bucket t h ≡ Some ts → record h { tenures = ts } ≡ tenured_if bucket t h
got-longer bucket t h ts got =
    elim (is_held_version_in bucket h.entry) as (λ b. (if b then Some (h.tenures ++ t ∷ []) else None) ≡ Some ts → record h { tenures = ts } ≡ (if b then tenured_by t h else h)) [
      | true ↦ λ got. let same : ts ≡ h.tenures ++ t ∷ [] = cc in ap (λ xs. record h { tenures = xs }) same
      | false ↦ λ got. absurd (cc)
    ] got

-- where it gets none, it stays as it is
pub got-none : (bucket : List ℕ) (t : Tenure) (h : History) → longer_if bucket t h ≡ None → tenured_if bucket t h ≡ h
got-none bucket t h got =
    elim (is_held_version_in bucket h.entry) as (λ b. (if b then Some (h.tenures ++ t ∷ []) else None) ≡ None → (if b then tenured_by t h else h) ≡ h)
    [ true ↦ λ got. absurd (cc) | false ↦ λ got. refl ] got

-- ---- the list

-- the first n are changed
abbrev pub begun : {X : Type 0} → (X → X) → ℕ → List X → List X
begun f n xs = map f (take n xs) ++ drop n xs

-- the next one is as it was
begun-next : {X : Type 0} (f : X → X) (xs : List X) (i : ℕ) (d : X) → i < length xs → get_or (begun f i xs) i d ≡ get_or xs i d
begun-next f [] i d lt = absurd (omega arith)
begun-next f (x ∷ xs) zero d lt = refl
begun-next f (x ∷ xs) (suc i) d lt = begun-next f xs i d (omega arith)

-- those after one that was written
pub drop-written : {X : Type 0} (xs ys : List X) (i : ℕ) (x : X) → i < length xs → i < length ys → drop i xs ≡ drop i ys → drop (i + 1) (set xs i x) ≡ drop (i + 1) ys
drop-written xs ys i x lt lt' same =
    let past : i < i + 1 = omega arith in
    let tails : get_or xs i x ∷ drop (i + 1) xs ≡ get_or ys i x ∷ drop (i + 1) ys = sym (drop_more xs i x lt) ∙ same ∙ drop_more ys i x lt' in
    let rest : drop (i + 1) xs ≡ drop (i + 1) ys = cc in
    drop-set-lt (i + 1) xs i x past ∙ rest

-- the first of those that are the same
same-first : {X : Type 0} (xs ys : List X) (i : ℕ) (d : X) → drop i xs ≡ drop i ys → get_or xs i d ≡ get_or ys i d
same-first xs ys i d same =
    let at : i + 0 ≡ i = omega arith in
    rw at at (sym (get_or-drop i xs 0 d) ∙ ap (λ zs. get_or zs 0 d) same ∙ get_or-drop i ys 0 d)

-- what waits for the next history is what that gets
pub next-longer : (bucket : List ℕ) (t : Tenure) (hs gs : List History) (os ps : List (Option (List Tenure))) (i : ℕ) (h : History) (o : Option (List Tenure)) → i < length hs → gs ≡ begun (tenured_if bucket t) i hs → h ≡ get_or gs i h → ps ≡ map (longer_if bucket t) hs → drop i os ≡ drop i ps → get_or os i o ≡ longer_if bucket t h
next-longer bucket t hs gs os ps i h o lt so_far is given waiting =
    let same : h ≡ get_or hs i h = is ∙ ap (λ xs. get_or xs i h) so_far ∙ begun-next (tenured_if bucket t) hs i h lt in
    same-first os ps i o waiting ∙ ap (λ xs. get_or xs i o) given ∙ get_or-map (longer_if bucket t) hs i h o lt ∙ ap (longer_if bucket t) (sym same)

-- one more has its tenures
pub longer-more : (bucket : List ℕ) (t : Tenure) (hs gs : List History) (i : ℕ) (h : History) (ts : List Tenure) → i < length hs → gs ≡ begun (tenured_if bucket t) i hs → h ≡ get_or gs i h → longer_if bucket t h ≡ Some ts → set gs i (record (get_or gs i h) { tenures = ts }) ≡ begun (tenured_if bucket t) (i + 1) hs
longer-more bucket t hs gs i h ts lt so_far is got =
    let put : record (get_or gs i h) { tenures = ts } ≡ tenured_if bucket t h = ap (λ (x : History). record x { tenures = ts }) (sym is) ∙ got-longer bucket t h ts got in
    ap (λ x. set gs i x) put ∙ map_over_more (tenured_if bucket t) hs gs i h lt so_far is

-- one more keeps its own
pub longer-same : (bucket : List ℕ) (t : Tenure) (hs gs : List History) (i : ℕ) (h : History) → i < length hs → gs ≡ begun (tenured_if bucket t) i hs → h ≡ get_or gs i h → longer_if bucket t h ≡ None → set gs i (get_or gs i h) ≡ begun (tenured_if bucket t) (i + 1) hs
longer-same bucket t hs gs i h lt so_far is got =
    ap (λ x. set gs i x) (sym is ∙ sym (got-none bucket t h got)) ∙ map_over_more (tenured_if bucket t) hs gs i h lt so_far is

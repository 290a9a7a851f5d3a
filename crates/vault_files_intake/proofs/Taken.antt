-- The rows of a list, one after another.
use Rattle.std.proofs.Common.{◌≡◌, ℕ, ◌+◌, ◌<◌, List, [], ◌∷◌, ◌++◌, ◌∙◌, length, map, take, drop, refl, sym, ap, subst, arith, append_assoc}
use Rattle.std.proofs.lemmas.List.{take_more, take-append-drop, map-append, length-map, length-take}
use Rattle.std.specs.Prelude.{Option, Some, None, get_or}
use Rattle.csv.specs.Records.{Row as Cells, fields_of}
use Rattle.vault_base.specs.declared.refusal.Refusal.{Refusal}
use Rattle.vault_base.specs.declared.refusal.Refusal.TheVariants as refusal
use Rattle.vault_core_model.specs.Vault.{Vault}
use Rattle.vault_files_intake.specs.declared.folder.File.{File}
use Rattle.vault_files_intake.specs.declared.report.RowReply.{RowReply}
use Rattle.vault_files_intake.specs.TakenIn.{TakesRows, TakesOne, StopsAt, StopsBefore}

-- one row more after those that were taken
taken-next : (files : Option (List File)) (t : ℕ) (who bucket batch : List ℕ) (n m : ℕ) (xs : List (List (List ℕ))) (cells : List (List ℕ)) (v mid v' : Vault) (rows after : List RowReply)
    → m ≡ n + length xs → TakesRows files t who bucket batch n xs v rows None mid → TakesOne files t who bucket batch (m + 1) cells mid rows after v' → TakesRows files t who bucket batch n (xs ++ cells ∷ []) v after None v'
taken-next files t who bucket batch n m [] cells v mid v' [] after count h one =
    let same : m ≡ n = omega (arith, count) in
    rw (one.2) (ap (λ k. k + 1) same, one.0, v', rw (← same, ← h.1) one.3, (refl, refl))
taken-next files t who bucket batch n m (x ∷ xs) cells v mid v' [] after count h one = absurd (cc h.0)
taken-next files t who bucket batch n m [] cells v mid v' (row ∷ rows) after count h one = absurd h
taken-next files t who bucket batch n m (x ∷ xs) cells v mid v' (row ∷ rows) after count h one =
    let more : m ≡ (n + 1) + length xs = omega (arith, count) in
    rw (one.2) (h.0, h.1, h.2, h.3, taken-next files t who bucket batch (n + 1) m xs cells h.2 mid v' rows (rows ++ record { line = m + 1; reply = one.1 } ∷ []) more h.4 (one.0, one.1, refl, one.3))

-- a stop after those that were taken
taken-stop : (files : Option (List File)) (t : ℕ) (who bucket batch : List ℕ) (n m : ℕ) (xs later : List (List (List ℕ))) (r : Refusal) (v mid v' : Vault) (rows : List RowReply)
    → m ≡ n + length xs → TakesRows files t who bucket batch n xs v rows None mid → StopsAt m later r → v' ≡ mid → TakesRows files t who bucket batch n (xs ++ later) v rows (Some r) v'
taken-stop files t who bucket batch n m [] later r v mid v' [] count h stops same =
    let n_is : m ≡ n = omega (arith, count) in
    (subst (λ k. StopsAt k later r) n_is stops, same ∙ h.1)
taken-stop files t who bucket batch n m (x ∷ xs) later r v mid v' [] count h stops same = absurd (cc h.0)
taken-stop files t who bucket batch n m [] later r v mid v' (row ∷ rows) count h stops same = absurd h
taken-stop files t who bucket batch n m (x ∷ xs) later r v mid v' (row ∷ rows) count h stops same =
    let more : m ≡ (n + 1) + length xs = omega (arith, count) in
    (h.0, h.1, h.2, h.3, taken-stop files t who bucket batch (n + 1) m xs later r h.2 mid v' rows more h.4 stops same)

stops-here : (above : ℕ) (cells : List (List ℕ)) (later : List (List (List ℕ))) (r : Refusal) → StopsBefore cells r → StopsAt above (cells ∷ later) r
stops-here above cells later refusal.Memory h = tt
stops-here above cells later refusal.Device h = tt
stops-here above cells later refusal.MalformedBody h = h
stops-here above cells later _ h = absurd h

-- ---- by the place in a list

-- the records up to a place, and the one there
upto : (below : List Cells) (i : ℕ) (x : Cells) → i < length below → x ≡ get_or below i x → map fields_of (take (i + 1) below) ≡ map fields_of (take i below) ++ fields_of x ∷ []
upto below i x lt is =
    ap (map fields_of) (take_more below i x lt) ∙ map-append fields_of (take i below) (get_or below i x ∷ [])
    ∙ ap (λ y. map fields_of (take i below) ++ fields_of y ∷ []) (sym is)

count_upto : (below : List Cells) (i : ℕ) → i < length below → i ≡ 0 + length (map fields_of (take i below))
count_upto below i lt = let n = length-map (take i below) fields_of in let k = length-take i below in rw n (omega (arith, k, lt))

-- the records above a place, the one there, and those below it
split : (below : List Cells) (i : ℕ) (x : Cells) → i < length below → x ≡ get_or below i x → map fields_of below ≡ map fields_of (take i below) ++ fields_of x ∷ map fields_of (drop (i + 1) below)
split below i x lt is =
    ap (map fields_of) (sym (take-append-drop (i + 1) below)) ∙ map-append fields_of (take (i + 1) below) (drop (i + 1) below)
    ∙ ap (λ l. l ++ map fields_of (drop (i + 1) below)) (upto below i x lt is)
    ∙ append_assoc (map fields_of (take i below)) (fields_of x ∷ []) (map fields_of (drop (i + 1) below))

pub row-taken : (files : Option (List File)) (t : ℕ) (who bucket batch : List ℕ) (below : List Cells) (i : ℕ) (x : Cells) (line : ℕ) (v mid v' : Vault) (rows after : List RowReply)
    → i < length below → x ≡ get_or below i x → line ≡ i + 1 → TakesRows files t who bucket batch 0 (map fields_of (take i below)) v rows None mid
    → TakesOne files t who bucket batch line (fields_of x) mid rows after v' → TakesRows files t who bucket batch 0 (map fields_of (take (i + 1) below)) v after None v'
row-taken files t who bucket batch below i x line v mid v' rows after lt is number h one =
    rw (upto below i x lt is) (taken-next files t who bucket batch 0 i (map fields_of (take i below)) (fields_of x) v mid v' rows after (count_upto below i lt) h (subst (λ n. TakesOne files t who bucket batch n (fields_of x) mid rows after v') number one))

pub row-stops : (files : Option (List File)) (t : ℕ) (who bucket batch : List ℕ) (below : List Cells) (i : ℕ) (x : Cells) (r : Refusal) (v mid v' : Vault) (rows after : List RowReply)
    → i < length below → x ≡ get_or below i x → TakesRows files t who bucket batch 0 (map fields_of (take i below)) v rows None mid
    → StopsBefore (fields_of x) r → after ≡ rows → v' ≡ mid → TakesRows files t who bucket batch 0 (map fields_of below) v after (Some r) v'
row-stops files t who bucket batch below i x r v mid v' rows after lt is h stops kept same =
    let later = map fields_of (drop (i + 1) below) in
    rw (kept, split below i x lt is) (taken-stop files t who bucket batch 0 i (map fields_of (take i below)) (fields_of x ∷ later) r v mid v' rows (count_upto below i lt) h (stops-here i (fields_of x) later r stops) same)

-- no line has the number of the next row
pub lines-end : (files : Option (List File)) (t : ℕ) (who bucket batch : List ℕ) (below : List Cells) (i : ℕ) (x : Cells) (v mid : Vault) (rows : List RowReply)
    → i < length below → x ≡ get_or below i x → 4294967295 < i + 1 → TakesRows files t who bucket batch 0 (map fields_of (take i below)) v rows None mid
    → TakesRows files t who bucket batch 0 (map fields_of below) v rows (Some refusal.EntityTooLarge) mid
lines-end files t who bucket batch below i x v mid rows lt is many h =
    let later = map fields_of (drop (i + 1) below) in
    rw (split below i x lt is) (taken-stop files t who bucket batch 0 i (map fields_of (take i below)) (fields_of x ∷ later) refusal.EntityTooLarge v mid mid rows (count_upto below i lt) h many refl)

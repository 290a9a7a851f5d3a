-- The register is of the removed entries that it has records of alone.
use Rattle.std.proofs.Common.{◌≡◌, ℕ, Bool, true, false, not, List, [], ◌∷◌, ◌++◌, map, get_or, drop, Option, Some, None, IsSome, refl, sym, ap, ◌∙◌}
use Rattle.std.specs.Prelude.{filter}
use Rattle.std.specs.List.{AllByRecursion, flat_map}
use Rattle.std.proofs.lemmas.Fmt.{decimal_injective}
use Rattle.std.proofs.lemmas.List.{append_cancel_left}
use Rattle.csv.specs.Writing.{default_writer, read_back, row_text}
use Rattle.vault_core_model.specs.declared.records.Author.{Author}
use Rattle.vault_core_model.specs.declared.records.Entry.{Entry}
use Rattle.vault_core_model.specs.declared.records.History.{History}
use Rattle.vault_core_model.specs.declared.records.Removal.{Removal}
use Rattle.vault_core_model.specs.Places.{is_held}
use Rattle.vault_core_model.specs.Reads.{removed_entries}
use Rattle.vault_core_model.specs.Vault.{Vault}
use Rattle.vault_files_texts.specs.Register.{cells, header, name_cells, origin_cells, register, removal_cells, row}
use Rattle.vault_files_events.specs.Typed.{AreTyped, IsTyped}
use Rattle.vault_files_events.proofs.CellTexts.{same-author, same-cause, same-digest, same-kind}
use Rattle.vault_files_events.proofs.EventCells.{cell, id-fits, made-removal}
use Rattle.vault_files_events.proofs.MomentTexts.{same-moment}
use Rattle.vault_files_events.proofs.RowTexts.{same-rows}

-- ---- entries by their values

pub same-entry : (e f : Entry) → e.id ≡ f.id → e.bucket ≡ f.bucket → e.key ≡ f.key → e.marker ≡ f.marker → e.size ≡ f.size → e.digest ≡ f.digest
    → e.admitted ≡ f.admitted → e.by ≡ f.by → e.removal ≡ f.removal → e ≡ f
same-entry e f id bucket key marker size digest admitted by removal =
    ap (λ x. record e { id = x }) id
    ∙ (ap (λ (x : List ℕ). record e { id = f.id; bucket = x }) bucket
    ∙ (ap (λ (x : List ℕ). record e { id = f.id; bucket = f.bucket; key = x }) key
    ∙ (ap (λ (x : Bool). record e { id = f.id; bucket = f.bucket; key = f.key; marker = x }) marker
    ∙ (ap (λ x. record e { id = f.id; bucket = f.bucket; key = f.key; marker = f.marker; size = x }) size
    ∙ (ap (λ (x : Option (List ℕ)). record f { digest = x; admitted = e.admitted; by = e.by; removal = e.removal }) digest
    ∙ (ap (λ x. record f { admitted = x; by = e.by; removal = e.removal }) admitted
    ∙ (ap (λ (x : Author). record f { by = x; removal = e.removal }) by
    ∙ ap (λ (x : Option Removal). record f { removal = x }) removal)))))))

-- ---- records

same-cells : (e f : Entry) (q r : Removal) → IsTyped e → IsTyped f → e.removal ≡ Some q → f.removal ≡ Some r → cells e q ≡ cells f r → e ≡ f
unfolding name_cells origin_cells removal_cells
same-cells e f q r is own gone left e-cells =
    let id = decimal_injective e.id f.id (id-fits e.id is.id) (id-fits f.id own.id) (cell 0 _ _ e-cells) in
    let size = decimal_injective e.size f.size is.size own.size (cell 4 _ _ e-cells) in
    let at = same-moment q.at r.at (cell 8 _ _ e-cells) in
    let removal = made-removal q r at (same-cause q.cause r.cause (cell 9 _ _ e-cells) (cell 10 _ _ e-cells)) in
    same-entry e f id (cell 1 _ _ e-cells) (cell 2 _ _ e-cells) (same-kind e.marker f.marker (cell 3 _ _ e-cells)) size
    (same-digest e.digest f.digest is.digest own.digest (cell 5 _ _ e-cells))
    (same-moment e.admitted f.admitted (cell 6 _ _ e-cells)) (same-author e.by f.by is.by own.by (cell 7 _ _ e-cells))
    (gone ∙ (ap Some removal ∙ sym left))

abbrev cells_by : Option Removal → Entry → List (List ℕ)
cells_by None e = []
cells_by (Some r) e = cells e r

abbrev row_cells : Entry → List (List ℕ)
row_cells e = cells_by e.removal e

abbrev AreGone : List Entry → Type 0
AreGone es = AllByRecursion (λ e. IsTyped e × IsSome e.removal) es

one-row : (e : Entry) (o : Option Removal) → e.removal ≡ o → IsSome o → row e ≡ row_text default_writer (row_cells e)
unfolding row
one-row e None is some = absurd (cc some)
one-row e (Some r) is some = rw is refl

all-rows : (es : List Entry) → AreGone es → flat_map row es ≡ flat_map (λ e. row_text default_writer (row_cells e)) es
all-rows [] are = refl
all-rows (e ∷ es) are =
    ap (λ l. l ++ flat_map row es) (one-row e e.removal refl are.0.1) ∙ ap (λ l. row_text default_writer (row_cells e) ++ l) (all-rows es are.1)

one-same : (e f : Entry) (o p : Option Removal) → e.removal ≡ o → f.removal ≡ p → IsTyped e × IsSome o → IsTyped f × IsSome p → read_back (cells_by o e) ≡ read_back (cells_by p f) → e ≡ f
unfolding name_cells
one-same e f None p gone left is own same = absurd (cc is.1)
one-same e f (Some q) None gone left is own same = absurd (cc own.1)
one-same e f (Some q) (Some r) gone left is own same = same-cells e f q r is.0 own.0 gone left same

all-same : (es fs : List Entry) → AreGone es → AreGone fs → map (λ e. read_back (row_cells e)) es ≡ map (λ e. read_back (row_cells e)) fs → es ≡ fs
all-same [] [] are own same = refl
all-same [] (f ∷ fs) are own same = absurd (cc same)
all-same (e ∷ es) [] are own same = absurd (cc same)
all-same (e ∷ es) (f ∷ fs) are own same =
    let first : read_back (row_cells e) ≡ read_back (row_cells f) = ap (λ (l : List (List (List ℕ))). get_or l 0 []) same in
    let rest = all-same es fs are.1 own.1 (ap (drop 1) same) in
    ap (λ (x : Entry). x ∷ es) (one-same e f e.removal f.removal refl refl are.0 own.0 first) ∙ ap (λ (l : List Entry). f ∷ l) rest

-- ---- the register of a vault

abbrev removed : List History → List Entry
removed hs = map (λ h. h.entry) (filter (λ h. not (is_held h.entry)) hs)

gone-by : (o : Option Removal) (e : Entry) → not (is_held (record e { removal = o })) ≡ true → IsSome o
gone-by None e gone = absurd (cc gone)
gone-by (Some r) e gone = refl

gone-cases : (b : Bool) (h : History) (hs : List History) → not (is_held h.entry) ≡ b → IsTyped h.entry → AreGone (removed hs) → AreGone (removed (h ∷ hs))
gone-cases true h hs is typed rest = rw is ((typed, gone-by h.entry.removal h.entry is), rest)
gone-cases false h hs is typed rest = rw is rest

all-gone : (hs : List History) → AllByRecursion (λ h. IsTyped h.entry) hs → AreGone (removed hs)
all-gone [] typed = tt
all-gone (h ∷ hs) typed = gone-cases (not (is_held h.entry)) h hs refl typed.0 (all-gone hs typed.1)

pub same-removals : (v w : Vault) → AreTyped v → AreTyped w → register (removed_entries v) ≡ register (removed_entries w) → removed_entries v ≡ removed_entries w
same-removals v w typed own e =
    let gone = all-gone v.histories typed in
    let left = all-gone w.histories own in
    let rows = append_cancel_left header (flat_map row (removed_entries v)) (flat_map row (removed_entries w)) e in
    all-same (removed_entries v) (removed_entries w) gone left
    (same-rows row_cells (removed_entries v) (removed_entries w) (sym (all-rows (removed_entries v) gone) ∙ (rows ∙ all-rows (removed_entries w) left)))

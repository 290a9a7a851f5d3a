-- The cells of a record are of one event alone, but for what they don't show of its entry.
use Rattle.std.proofs.Common.{◌≡◌, ℕ, ◌<◌, ◌^◌, Bool, List, [], ◌∷◌, ◌++◌, map, get_or, drop, slice_index, Option, Some, None, refl, sym, ap, subst, ◌∙◌, append_assoc, arith, IsTrue}
use Rattle.std.specs.List.{AllByRecursion}
use Rattle.std.proofs.lemmas.Fmt.{decimal_injective}
use Rattle.std.proofs.lemmas.Grind.{common_steps}
use Rattle.csv.specs.Writing.{read_back}
use Rattle.vault_base.specs.Name.{is_version_id}
use Rattle.vault_lock.specs.declared.retention.Mode.{Mode}
use Rattle.vault_lock.specs.declared.retention.Retention.{Retention}
use Rattle.vault_core_model.specs.declared.records.Author.TheVariants as author
use Rattle.vault_core_model.specs.declared.records.Cause.{Cause}
use Rattle.vault_core_model.specs.declared.records.Entry.{Entry}
use Rattle.vault_core_model.specs.declared.records.Removal.{Removal}
use Rattle.vault_core_model.specs.declared.records.Setting.{Setting}
use Rattle.vault_core_model.specs.declared.records.Tenure.{Tenure}
use Rattle.vault_core_evidence.specs.Events.{Happening, Admitted, Locked, Moved, Gone, Event}
use Rattle.vault_files_events.specs.EventsText.{happening_name, who_did, retention_cells, lock_cells, last_cells, first_cells, entry_cells, event_cells}
use Rattle.vault_files_events.specs.Typed.{IsAuthor, IsTyped}
use Rattle.vault_files_events.proofs.CellTexts.{HasDepartment, mode-there, same-author, same-bypass, same-cause, same-department, same-digest, same-hold, same-kind, same-mode}
use Rattle.vault_files_events.proofs.MomentTexts.{same-moment}

-- ---- what a text needs of an event

-- what happened at that moment to a marker, or to a version
abbrev pub IsHappening : Bool → ℕ → Happening → Type 0
IsHappening marker at (Admitted by dept) = IsAuthor by × HasDepartment marker dept
IsHappening marker at (Locked s) = s.at ≡ at
IsHappening marker at (Moved t) = (t.from ≡ at) × (t.number < 2 ^ 64)
IsHappening marker at (Gone r) = r.at ≡ at

pub record IsLegibleEvent (e : Event) : Type 0 where
  pub entry : IsTyped e.entry
  pub what : IsHappening e.entry.marker e.at e.what

pub id-fits : (id : ℕ) → IsTrue (is_version_id id) → id < 2 ^ 64
id-fits id is = grind (arith, common_steps)

-- ---- what happened

-- the first letter of its name
abbrev letter : Happening → ℕ
letter (Admitted by dept) = 97
letter (Locked s) = 108
letter (Moved t) = 109
letter (Gone r) = 114

begins : (w : Happening) → slice_index (happening_name w) 0 ≡ letter w
begins (Admitted by dept) = refl
begins (Locked s) = refl
begins (Moved t) = refl
begins (Gone r) = refl

same-letter : (w x : Happening) → happening_name w ≡ happening_name x → letter w ≡ letter x
same-letter w x e = sym (begins w) ∙ (ap (λ l. slice_index l 0) e ∙ begins x)

-- a cell of a record
pub cell : (i : ℕ) (c d : List (List ℕ)) → c ≡ d → get_or c i [] ≡ get_or d i []
cell i c d e = ap (λ (l : List (List ℕ)). get_or l i []) e

made-retention : (m n : Mode) (t u : ℕ) → m ≡ n → t ≡ u → ◌≡◌ {A = Retention} (record { mode = m; until = t }) (record { mode = n; until = u })
made-retention m n t u mode until = ap (λ x. record { mode = x; until = t }) mode ∙ ap (λ x. record { mode = n; until = x }) until

same-retention : (q r : Option Retention) (a b : List (List ℕ)) → retention_cells q ++ a ≡ retention_cells r ++ b → (q ≡ r) × (a ≡ b)
same-retention None None a b e = (refl, ap (drop 2) e)
same-retention None (Some r) a b e = absurd (mode-there r.mode (cell 0 _ _ e))
same-retention (Some q) None a b e = absurd (mode-there q.mode (sym (cell 0 _ _ e)))
same-retention (Some q) (Some r) a b e =
    (ap Some (made-retention q.mode r.mode q.until r.until (same-mode q.mode r.mode (cell 0 _ _ e)) (same-moment q.until r.until (cell 1 _ _ e))), ap (drop 2) e)

made-setting : (s t : Setting) → s.at ≡ t.at → s.by ≡ t.by → s.lock.retention ≡ t.lock.retention → s.lock.hold ≡ t.lock.hold → s.bypass ≡ t.bypass → s ≡ t
made-setting s t at by retention hold bypass =
    ap (λ x. record s { at = x }) at
    ∙ (ap (λ (x : List ℕ). record s { at = t.at; by = x }) by
    ∙ (ap (λ (x : Option Retention). record s { at = t.at; by = t.by; lock = record { retention = x; hold = s.lock.hold } }) retention
    ∙ (ap (λ (x : Bool). record s { at = t.at; by = t.by; lock = record { retention = t.lock.retention; hold = x } }) hold
    ∙ ap (λ (x : Bool). record t { bypass = x }) bypass)))

same-setting : (s t : Setting) → s.at ≡ t.at → s.by ≡ t.by → lock_cells (Locked s) ++ last_cells (Locked s) ≡ lock_cells (Locked t) ++ last_cells (Locked t) → s ≡ t
unfolding lock_cells last_cells
same-setting s t at by e =
    let flat = sym (append_assoc (retention_cells s.lock.retention) _ _) ∙ (e ∙ append_assoc (retention_cells t.lock.retention) _ _) in
    let parts = same-retention s.lock.retention t.lock.retention _ _ flat in
    made-setting s t at by parts.0 (same-hold s.lock.hold t.lock.hold (cell 0 _ _ parts.1)) (same-bypass s.bypass t.bypass (cell 1 _ _ parts.1))

made-tenure : (t u : Tenure) → t.dept ≡ u.dept → t.from ≡ u.from → t.number ≡ u.number → t ≡ u
made-tenure t u dept from number =
    ap (λ (x : List ℕ). record t { dept = x }) dept
    ∙ (ap (λ x. record t { dept = u.dept; from = x }) from
    ∙ ap (λ x. record u { number = x }) number)

pub made-removal : (q r : Removal) → q.at ≡ r.at → q.cause ≡ r.cause → q ≡ r
made-removal q r at cause = ap (λ x. record q { at = x }) at ∙ ap (λ (x : Cause). record r { cause = x }) cause

same-happening : (marker : Bool) (at : ℕ) (w x : Happening) → IsHappening marker at w → IsHappening marker at x → letter w ≡ letter x → who_did w ≡ who_did x
    → lock_cells w ++ last_cells w ≡ lock_cells x ++ last_cells x → w ≡ x
unfolding lock_cells last_cells
same-happening marker at (Admitted b c) (Admitted d f) is own name who cells =
    ap (λ a. Admitted a c) (same-author b d is.0 own.0 who) ∙ ap (λ (o : Option (List ℕ)). Admitted d o) (same-department marker c f is.1 own.1 (cell 5 _ _ cells))
same-happening marker at (Locked s) (Locked t) is own name who cells = ap Locked (same-setting s t (is ∙ sym own) who cells)
same-happening marker at (Moved t) (Moved u) is own name who cells =
    ap Moved (made-tenure t u (cell 5 _ _ cells) (is.0 ∙ sym own.0) (decimal_injective t.number u.number is.1 own.1 (cell 6 _ _ cells)))
same-happening marker at (Gone q) (Gone r) is own name who cells =
    ap Gone (made-removal q r (is ∙ sym own) (same-cause q.cause r.cause (cell 4 _ _ cells) who))
same-happening marker at w x is own name who cells = absurd (omega (arith, name))

-- ---- the whole record

-- an entry by what each of its records shows
abbrev pub seen_entry : ℕ → List ℕ → List ℕ → Bool → ℕ → Option (List ℕ) → Entry
seen_entry id bucket key marker size digest =
    record { id = id; bucket = bucket; key = key; marker = marker; size = size; digest = digest; admitted = 0; by = author.Rule []; removal = None }

-- an event without what its record doesn't show of its entry: when and by whom that was admitted, and its end
abbrev pub seen : Event → Event
seen e = record { entry = seen_entry e.entry.id e.entry.bucket e.entry.key e.entry.marker e.entry.size e.entry.digest; at = e.at; what = e.what }

made-entry : (e f : Entry) → e.id ≡ f.id → e.bucket ≡ f.bucket → e.key ≡ f.key → e.marker ≡ f.marker → e.size ≡ f.size → e.digest ≡ f.digest
    → seen_entry e.id e.bucket e.key e.marker e.size e.digest ≡ seen_entry f.id f.bucket f.key f.marker f.size f.digest
made-entry e f id bucket key marker size digest =
    ap (λ x. seen_entry x e.bucket e.key e.marker e.size e.digest) id
    ∙ (ap (λ x. seen_entry f.id x e.key e.marker e.size e.digest) bucket
    ∙ (ap (λ x. seen_entry f.id f.bucket x e.marker e.size e.digest) key
    ∙ (ap (λ x. seen_entry f.id f.bucket f.key x e.size e.digest) marker
    ∙ (ap (λ x. seen_entry f.id f.bucket f.key f.marker x e.digest) size
    ∙ ap (λ x. seen_entry f.id f.bucket f.key f.marker f.size x) digest))))

made-event : (e f : Event) → seen_entry e.entry.id e.entry.bucket e.entry.key e.entry.marker e.entry.size e.entry.digest ≡ seen_entry f.entry.id f.entry.bucket f.entry.key f.entry.marker f.entry.size f.entry.digest
    → e.at ≡ f.at → e.what ≡ f.what → seen e ≡ seen f
made-event e f entry at what =
    ap (λ (x : Entry). record { entry = x; at = e.at; what = e.what }) entry
    ∙ (ap (λ x. record { entry = seen_entry f.entry.id f.entry.bucket f.entry.key f.entry.marker f.entry.size f.entry.digest; at = x; what = e.what }) at
    ∙ ap (λ (x : Happening). record { entry = seen_entry f.entry.id f.entry.bucket f.entry.key f.entry.marker f.entry.size f.entry.digest; at = f.at; what = x }) what)

same-cells : (e f : Event) → IsLegibleEvent e → IsLegibleEvent f → event_cells e ≡ event_cells f → seen e ≡ seen f
unfolding first_cells entry_cells
same-cells e f is own cells =
    let marker = same-kind e.entry.marker f.entry.marker (cell 6 _ _ cells) in
    let at = same-moment e.at f.at (cell 2 _ _ cells) in
    let digest = same-digest e.entry.digest f.entry.digest is.entry.digest own.entry.digest (cell 8 _ _ cells) in
    let what-is = subst (λ (b : Bool). IsHappening b f.at e.what) marker (subst (λ t. IsHappening e.entry.marker t e.what) at is.what) in
    let entry = made-entry e.entry f.entry (decimal_injective e.entry.id f.entry.id (id-fits e.entry.id is.entry.id) (id-fits f.entry.id own.entry.id) (cell 0 _ _ cells)) (cell 4 _ _ cells) (cell 5 _ _ cells) marker
    (decimal_injective e.entry.size f.entry.size is.entry.size own.entry.size (cell 7 _ _ cells)) digest in
    made-event e f entry at
    (same-happening f.entry.marker f.at e.what f.what what-is own.what (same-letter e.what f.what (cell 1 _ _ cells)) (cell 3 _ _ cells) (ap (drop 9) cells))

pub same-seen : (es fs : List Event) → AllByRecursion IsLegibleEvent es → AllByRecursion IsLegibleEvent fs
    → map (λ e. read_back (event_cells e)) es ≡ map (λ e. read_back (event_cells e)) fs → map seen es ≡ map seen fs
unfolding first_cells
same-seen [] [] are own cells = refl
same-seen [] (f ∷ fs) are own cells = absurd (cc cells)
same-seen (e ∷ es) [] are own cells = absurd (cc cells)
same-seen (e ∷ es) (f ∷ fs) are own cells =
    let first : event_cells e ≡ event_cells f = ap (λ (l : List (List (List ℕ))). get_or l 0 []) cells in
    let rest = same-seen es fs are.1 own.1 (ap (drop 1) cells) in
    ap (λ (x : Event). x ∷ map seen es) (same-cells e f are.0 own.0 first) ∙ ap (λ (l : List Event). seen f ∷ l) rest

-- The text of what happened before a moment, and its seal, are of one past alone.
use Rattle.std.proofs.Common.{◌≡◌, ◌⊎◌, ℕ, zero, suc, ◌<◌, Bool, true, false, List, [], ◌∷◌, ◌++◌, length, drop, slice_index, codes, inl, inr, refl, sym, ap, ◌∙◌, arith, append_assoc, length-append, decimal, w32}
use Rattle.std.specs.Int.{to_be_bytes}
use Rattle.std.specs.List.{AllByRecursion}
use Rattle.std.specs.Str.{bytes_eq}
use Rattle.std.proofs.lemmas.List.{append_cancel_left, append_cancel_right}
use Rattle.std.proofs.lemmas.Slice.Eq.{bytes_eq-Decides}
use Rattle.hex.specs.Hex.{IsBytes, encode_lower, lower_digits}
use Rattle.hex.proofs.HexLemmas.{length-encode_with}
use Rattle.sha2.specs.Sha256.{digest_bytes, sha256}
use Rattle.sha2.proofs.Facts256.{length-sha256}
use Rattle.vault_base.specs.Moment.{moment_text}
use Rattle.vault_core_model.specs.declared.records.Author.TheVariants as author
use Rattle.vault_core_model.specs.Sound.{Sound}
use Rattle.vault_core_model.specs.Vault.{Vault}
use Rattle.vault_core_evidence.specs.Events.{Event, events_before}
use Rattle.vault_files_texts.specs.Certificate.{labelled}
use Rattle.vault_files_events.specs.Counts.{admissions}
use Rattle.vault_files_events.specs.EventsText.{event_cells, event_row, event_rows, events_header, events_text}
use Rattle.vault_files_events.specs.Seal.{Collide, seal_of, seal_text}
use Rattle.vault_files_events.specs.declared.seal_lines.Seal.{Seal}
use Rattle.vault_files_events.specs.Typed.{AreDated, AreTyped}
use Rattle.vault_files_events.proofs.CellTexts.{same-hex}
use Rattle.vault_files_events.proofs.EventCells.{same-seen}
use Rattle.vault_files_events.proofs.LegibleEvents.{events-legible}
use Rattle.vault_files_events.proofs.Lines.{same-after-label, same-backs, same-fronts}
use Rattle.vault_files_events.proofs.MomentTexts.{moment-length, same-moment}
use Rattle.vault_files_events.proofs.Restored.{past-restored, restored}
use Rattle.vault_files_events.proofs.RowTexts.{same-rows}

-- a vault whose events can be read back from their text
record IsLegible (v : Vault) : Type 0 where
  sound : Sound v
  typed : AreTyped v
  dated : AreDated v

same-past : (v w : Vault) (m : ℕ) → IsLegible v → IsLegible w → events_text (events_before m v) ≡ events_text (events_before m w) → events_before m v ≡ events_before m w
unfolding event_row
same-past v w m is own e =
    let rows = append_cancel_left events_header (event_rows (events_before m v)) (event_rows (events_before m w)) e in
    let shown = same-seen (events_before m v) (events_before m w) (events-legible v m is.sound is.typed) (events-legible w m own.sound own.typed)
    (same-rows event_cells (events_before m v) (events_before m w) rows) in
    sym (past-restored v m is.sound is.dated) ∙ (ap (restored 0 (author.Rule [])) shown ∙ past-restored w m own.sound own.dated)

-- ---- digests

by-digest : (s t : List ℕ) → sha256 s ≡ sha256 t → (s ≡ t) ⊎ Collide s t
by-digest s t e = by (bytes_eq s t) refl
  where
    by : (b : Bool) → bytes_eq s t ≡ b → (s ≡ t) ⊎ Collide s t
    by true is = inl ((bytes_eq-Decides s t).0 is)
    by false is = inr ((λ same. absurd (cc (sym is ∙ (bytes_eq-Decides s t).1 same))), e)

abbrev AreBytes : List ℕ → Type 0
AreBytes bs = AllByRecursion (λ b. b < 256) bs

joined : (xs ys : List ℕ) → AreBytes xs → AreBytes ys → AreBytes (xs ++ ys)
joined [] ys first then = then
joined (x ∷ xs) ys first then = (first.0, joined xs ys first.1 then)

word-bytes : (n : ℕ) → AreBytes (to_be_bytes w32 n)
word-bytes n = (omega arith, (omega arith, (omega arith, (omega arith, tt))))

all-bytes : (h : List ℕ) (n : ℕ) → AreBytes (digest_bytes h n)
unfolding digest_bytes
all-bytes h zero = tt
all-bytes h (suc n) = joined (digest_bytes h n) (to_be_bytes w32 (slice_index h n)) (all-bytes h n) (word-bytes (slice_index h n))

at-place : (bs : List ℕ) → AreBytes bs → IsBytes bs
at-place [] are i = omega arith
at-place (b ∷ bs) are zero = are.0
at-place (b ∷ bs) are (suc i) = at-place bs are.1 i

digest-bytes : (text : List ℕ) → IsBytes (sha256 text)
unfolding sha256
digest-bytes text = at-place (digest_bytes _ 8) (all-bytes _ 8)

-- ---- seals

abbrev digest_line : List ℕ → List ℕ
digest_line text = labelled (codes "sha256") (encode_lower (sha256 text))

digest-line-length : (s t : List ℕ) → length (digest_line s) ≡ length (digest_line t)
digest-line-length s t =
    let ended = λ (text : List ℕ). length-append (encode_lower (sha256 text)) (10 ∷ []) in
    let digits = λ (text : List ℕ). length-encode_with lower_digits (sha256 text) in
    omega (arith, ended s, ended t, digits s, digits t, length-sha256 s, length-sha256 t)

same-digest-line : (s t : List ℕ) → digest_line s ≡ digest_line t → sha256 s ≡ sha256 t
same-digest-line s t e =
    same-hex (sha256 s) (sha256 t) (digest-bytes s) (digest-bytes t) (append_cancel_right (encode_lower (sha256 s)) (encode_lower (sha256 t)) (10 ∷ []) (ap (drop 8) e))

-- the moment of the first line
same-before : (m n : ℕ) (x y : List ℕ) → labelled (codes "before") (moment_text m) ++ x ≡ labelled (codes "before") (moment_text n) ++ y → m ≡ n
same-before m n x y e =
    same-moment m n (same-fronts (moment_text m) (moment_text n) _ _ (moment-length m ∙ sym (moment-length n)) (same-after-label (codes "before") (moment_text m) (moment_text n) x y e)).0

abbrev upper_lines : ℕ → List Event → List ℕ
upper_lines m es =
    labelled (codes "before") (moment_text m) ++ labelled (codes "entries") (decimal (admissions es)) ++ labelled (codes "events") (decimal (length es))

-- a seal over these events
abbrev seal_over : ℕ → List Event → Seal
seal_over m es = record { before = m; entries = admissions es; events = length es; digest = sha256 (events_text es) }

same-lines : (m n : ℕ) (es fs : List Event) → seal_text (seal_over m es) ≡ seal_text (seal_over n fs) → (m ≡ n) × (sha256 (events_text es) ≡ sha256 (events_text fs))
same-lines m n es fs e =
    let parts = same-backs (upper_lines m es) (upper_lines n fs) (digest_line (events_text es)) (digest_line (events_text fs)) (digest-line-length (events_text es) (events_text fs)) e in
    let flat = λ (at : ℕ) (xs : List Event). append_assoc (labelled (codes "before") (moment_text at)) (labelled (codes "entries") (decimal (admissions xs))) (labelled (codes "events") (decimal (length xs))) in
    (same-before m n _ _ (sym (flat m es) ∙ (parts.0 ∙ flat n fs)), same-digest-line (events_text es) (events_text fs) parts.1)

abbrev HaveOnePast : Vault → ℕ → Vault → ℕ → Type 0
HaveOnePast v m w n = (events_before m v ≡ events_before n w) ⊎ Collide (events_text (events_before m v)) (events_text (events_before n w))

same-sealed : (v w : Vault) (m n : ℕ) → IsLegible v → IsLegible w → seal_text (seal_of m v) ≡ seal_text (seal_of n w) → (m ≡ n) × HaveOnePast v m w n
same-sealed v w m n is own e =
    let same = same-lines m n (events_before m v) (events_before n w) e in
    (same.0, by same.0 (by-digest (events_text (events_before m v)) (events_text (events_before n w)) same.1))
  where
    by : m ≡ n → (events_text (events_before m v) ≡ events_text (events_before n w)) ⊎ Collide (events_text (events_before m v)) (events_text (events_before n w)) → HaveOnePast v m w n
    by at (inl same) =
        inl (same-past v w m is own (same ∙ ap (λ k. events_text (events_before k w)) (sym at)) ∙ ap (λ k. events_before k w) at)
    by at (inr apart) = inr apart

-- ---- with their premises

pub texts-same : (v w : Vault) (m : ℕ) → Sound v → Sound w → AreTyped v → AreTyped w → AreDated v → AreDated w → events_text (events_before m v) ≡ events_text (events_before m w) → events_before m v ≡ events_before m w
texts-same v w m is own typed named dated begun e =
    same-past v w m (record { sound = is; typed = typed; dated = dated }) (record { sound = own; typed = named; dated = begun }) e

pub seals-same : (v w : Vault) (m n : ℕ) → Sound v → Sound w → AreTyped v → AreTyped w → AreDated v → AreDated w → seal_text (seal_of m v) ≡ seal_text (seal_of n w) → (m ≡ n) × HaveOnePast v m w n
seals-same v w m n is own typed named dated begun e =
    same-sealed v w m n (record { sound = is; typed = typed; dated = dated }) (record { sound = own; typed = named; dated = begun }) e

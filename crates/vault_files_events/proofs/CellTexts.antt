-- The text of a cell is of one value alone.
use Rattle.std.proofs.Common.{◌≡◌, ℕ, length, drop, Bool, true, false, IfSome, IsTrue, List, [], ◌++◌, slice_index, Option, Some, None, IsSome, Result, Ok, codes, unwrap_or, refl, sym, ap, ◌∙◌, arith}
use Rattle.std.specs.List.{list_all}
use Rattle.std.proofs.lemmas.Bool.{and_parts}
use Rattle.hex.specs.Hex.{IsBytes, decode_of, encode_lower, lower_digits}
use Rattle.hex.specs.declared.error.FromHexError.{FromHexError}
use Rattle.hex.proofs.HexLemmas.{decode_of-encode_lower, length-encode_with}
use Rattle.vault_base.specs.Name.{is_from, is_plain_byte, is_plain_name}
use Rattle.vault_lock.specs.declared.retention.Mode.{Mode}
use Rattle.vault_lock.specs.declared.retention.Mode.TheVariants.{Governance, Compliance}
use Rattle.vault_core_model.specs.declared.records.Author.{Author}
use Rattle.vault_core_model.specs.declared.records.Author.TheVariants as author
use Rattle.vault_core_model.specs.declared.records.Cause.{Cause}
use Rattle.vault_core_model.specs.declared.records.Cause.TheVariants as cause
use Rattle.vault_values.specs.Words.{hold_name, mode_name}
use Rattle.vault_files_texts.specs.Register.{kind_name}
use Rattle.vault_files_texts.specs.Removed.{author_text, cause_kind, cause_name, digest_text}
use Rattle.vault_files_events.specs.EventsText.{bypass_name}
use Rattle.vault_files_events.specs.Typed.{IsAuthor}

-- a byte of a text
byte : (i : ℕ) (x y : List ℕ) → x ≡ y → slice_index x i ≡ slice_index y i
byte i x y e = ap (λ l. slice_index l i) e

-- ---- words

pub same-kind : (a b : Bool) → kind_name a ≡ kind_name b → a ≡ b
same-kind true true e = refl
same-kind false false e = refl
same-kind true false e = let first : 109 ≡ 118 = byte 0 _ _ e in absurd (omega (arith, first))
same-kind false true e = let first : 118 ≡ 109 = byte 0 _ _ e in absurd (omega (arith, first))

pub same-bypass : (a b : Bool) → bypass_name a ≡ bypass_name b → a ≡ b
same-bypass true true e = refl
same-bypass false false e = refl
same-bypass true false e = let first : 116 ≡ 102 = byte 0 _ _ e in absurd (omega (arith, first))
same-bypass false true e = let first : 102 ≡ 116 = byte 0 _ _ e in absurd (omega (arith, first))

pub same-hold : (a b : Bool) → hold_name a ≡ hold_name b → a ≡ b
same-hold true true e = refl
same-hold false false e = refl
same-hold true false e = let second : 78 ≡ 70 = byte 1 _ _ e in absurd (omega (arith, second))
same-hold false true e = let second : 70 ≡ 78 = byte 1 _ _ e in absurd (omega (arith, second))

pub same-mode : (a b : Mode) → mode_name a ≡ mode_name b → a ≡ b
same-mode Governance Governance e = refl
same-mode Compliance Compliance e = refl
same-mode Governance Compliance e = let first : 71 ≡ 67 = byte 0 _ _ e in absurd (omega (arith, first))
same-mode Compliance Governance e = let first : 67 ≡ 71 = byte 0 _ _ e in absurd (omega (arith, first))

-- no mode has an empty name
pub mode-there : (a : Mode) → [] ≡ mode_name a → ⊥
mode-there Governance e = absurd (cc e)
mode-there Compliance e = absurd (cc e)

-- ---- digests

ok-same : (x y : List ℕ) → ◌≡◌ {A = Result (List ℕ) FromHexError} (Ok x) (Ok y) → x ≡ y
ok-same x y e = cc e

pub same-hex : (xs ys : List ℕ) → IsBytes xs → IsBytes ys → encode_lower xs ≡ encode_lower ys → xs ≡ ys
same-hex xs ys are own e = ok-same xs ys (sym (decode_of-encode_lower xs are) ∙ (ap decode_of e ∙ decode_of-encode_lower ys own))

abbrev pub IsDigest : List ℕ → Type 0
IsDigest digest = IsBytes digest × (length digest ≡ 32)

no-digits : (digest : List ℕ) → length digest ≡ 32 → [] ≡ encode_lower digest → ⊥
no-digits digest size e = absurd (omega (arith, size, ap length e, length-encode_with lower_digits digest))

pub same-digest : (c d : Option (List ℕ)) → IfSome c IsDigest → IfSome d IsDigest → digest_text c ≡ digest_text d → c ≡ d
same-digest None None is own e = refl
same-digest None (Some d) is own e = absurd (no-digits d own.1 e)
same-digest (Some c) None is own e = absurd (no-digits c is.1 (sym e))
same-digest (Some c) (Some d) is own e = ap Some (same-hex c d is.0 own.0 e)

-- ---- departments

-- a marker is of no department, and a version of one
abbrev pub HasDepartment : Bool → Option (List ℕ) → Type 0
HasDepartment true dept = dept ≡ None
HasDepartment false dept = IsSome dept

pub same-department : (marker : Bool) (c d : Option (List ℕ)) → HasDepartment marker c → HasDepartment marker d → unwrap_or c [] ≡ unwrap_or d [] → c ≡ d
same-department true c d is own e = is ∙ sym own
same-department false None d is own e = absurd (cc is)
same-department false (Some c) None is own e = absurd (cc own)
same-department false (Some c) (Some d) is own e = ap Some e

-- ---- authors

-- no name of a caller is the text of a rule: it has no blank
no-rule : (name rule : List ℕ) → IsTrue (is_plain_name name) → name ≡ codes "rule " ++ rule → ⊥
no-rule name rule plain e =
    let bytes : list_all is_plain_byte name ≡ true = (and_parts (is_from 1 64 (length name)) (list_all is_plain_byte name) plain).1 in
    let other : list_all is_plain_byte (codes "rule " ++ rule) ≡ true = ap (list_all is_plain_byte) (sym e) ∙ bytes in
    absurd (cc other)

after-blank : (x y : List ℕ) → codes "rule " ++ x ≡ codes "rule " ++ y → x ≡ y
after-blank x y e = ap (drop 5) e

pub same-author : (a b : Author) → IsAuthor a → IsAuthor b → author_text a ≡ author_text b → a ≡ b
same-author (author.Caller x) (author.Caller y) is own e = ap author.Caller e
same-author (author.Caller x) (author.Rule y) is own e = absurd (no-rule x y is e)
same-author (author.Rule x) (author.Caller y) is own e = absurd (no-rule y x own (sym e))
same-author (author.Rule x) (author.Rule y) is own e = ap author.Rule (after-blank x y e)

-- ---- causes

pub same-cause : (c d : Cause) → cause_kind c ≡ cause_kind d → cause_name c ≡ cause_name d → c ≡ d
same-cause (cause.Request x) (cause.Request y) e name = ap cause.Request name
same-cause (cause.Bypass x) (cause.Bypass y) e name = ap cause.Bypass name
same-cause (cause.Rule x) (cause.Rule y) e name = ap cause.Rule name
same-cause (cause.Request x) (cause.Bypass y) e name = let first : 114 ≡ 98 = byte 0 _ _ e in absurd (omega (arith, first))
same-cause (cause.Request x) (cause.Rule y) e name = let second : 101 ≡ 117 = byte 1 _ _ e in absurd (omega (arith, second))
same-cause (cause.Bypass x) (cause.Request y) e name = let first : 98 ≡ 114 = byte 0 _ _ e in absurd (omega (arith, first))
same-cause (cause.Bypass x) (cause.Rule y) e name = let first : 98 ≡ 114 = byte 0 _ _ e in absurd (omega (arith, first))
same-cause (cause.Rule x) (cause.Request y) e name = let second : 117 ≡ 101 = byte 1 _ _ e in absurd (omega (arith, second))
same-cause (cause.Rule x) (cause.Bypass y) e name = let first : 114 ≡ 98 = byte 0 _ _ e in absurd (omega (arith, first))

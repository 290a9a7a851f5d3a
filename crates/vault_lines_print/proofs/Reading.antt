-- The text that is printed of a command is a line that asks for it.
use Rattle.std.proofs.Common.{◌≡◌, ◌≤◌, ◌-◌, ℕ, false, List, [], ◌∷◌, ◌++◌, sym, ◌∙◌, ap, subst, length, take, arith, get_or, length-append}
use Rattle.std.specs.Prelude.{◌==◌, slice_index, if◌then◌else◌, Some, None}
use Rattle.std.specs.Str.{IsUtf8}
use Rattle.std.proofs.Math.Seq.{get_or-append_seam}
use Rattle.std.proofs.lemmas.Str.{is_utf8-from_IsUtf8}
use Rattle.serde_json.specs.Data.{Data, Members, object, depth}
use Rattle.serde_json.specs.Read.{max_depth, read}
use Rattle.serde_json.specs.Written.{compact_text, has_float}
use Rattle.vault_base.specs.Limits.{longest_line}
use Rattle.vault_core_model.specs.declared.command.Timed.{Timed}
use Rattle.vault_lines_json.specs.Document.{json_of}
use Rattle.vault_lines_read.specs.ReadLine.{line_of, without_cr}
use Rattle.vault_lines_read.specs.declared.read_line.Line.TheVariants as line
use Rattle.vault_lines_read.proofs.LineLemmas.{spelled-is-command}
use Rattle.vault_lines_print.specs.Lines.{HasNoLf, SpellsTimed}
use Rattle.vault_lines_print.specs.Members.{line_value}
use Rattle.vault_lines_print.specs.Spelled.{IsTimedSpelled}
use Rattle.vault_lines_print.proofs.Asking.{asks}
use Rattle.vault_lines_print.proofs.Texts.{ends-with-brace, no-lf}

-- ---- a line that ends with a brace has no CR at its end

last-byte : (front : List ℕ) (b : ℕ) → get_or (front ++ b ∷ []) (length (front ++ b ∷ []) - 1) 0 ≡ b
last-byte front b =
    let place : length (front ++ b ∷ []) - 1 ≡ length front = omega (arith, length-append front (b ∷ [])) in
    ap (λ n. get_or (front ++ b ∷ []) n 0) place ∙ get_or-append_seam front b [] 0

no-cr : (line front : List ℕ) → line ≡ front ++ 125 ∷ [] → without_cr line ≡ line
no-cr line front e =
    let last : slice_index line (length line - 1) ≡ 125 = ap (λ l. get_or l (length l - 1) 0) e ∙ last-byte front 125 in
    ap (λ b. if b == 13 then take (length line - 1) line else line) last

object-ends : (ms : Members) → (front : List ℕ) × (compact_text (object ms) ≡ front ++ 125 ∷ [])
object-ends ms = let rest = ends-with-brace false ms in (123 ∷ rest.0, ap (λ text. 123 ∷ text) rest.1)

value-ends : (t : Timed) → (front : List ℕ) × (compact_text (line_value t) ≡ front ++ 125 ∷ [])
value-ends t = object-ends _

-- ---- the line

module _ (text : List ℕ) (d : Data) (t : Timed) (is : d ≡ line_value t) (spelled : IsTimedSpelled t) (printed : has_float d ≡ false → text ≡ compact_text d) where
  pub is-text : text ≡ compact_text (line_value t)
  is-text = printed (ap has_float is ∙ (asks t spelled).whole) ∙ ap compact_text is

  pub text-has-no-lf : HasNoLf text
  text-has-no-lf = subst HasNoLf (sym is-text) (no-lf (line_value t))

  kept : without_cr text ≡ text
  kept = let ends = value-ends t in no-cr text ends.0 (is-text ∙ ends.1)

  is-value : IsUtf8 text → (depth d ≤ max_depth → read text ≡ Some d) → json_of (without_cr text) ≡ Some (line_value t)
  is-value utf8 reads =
      let deep : depth d ≤ max_depth = subst (λ x. depth x ≤ max_depth) (sym is) (asks t spelled).flat in
      ap json_of kept ∙ ap (λ b. if b then read text else None) (is_utf8-from_IsUtf8 text utf8) ∙ reads deep ∙ ap (λ x. Some x) is

  pub text-spells : IsUtf8 text → (depth d ≤ max_depth → read text ≡ Some d) → SpellsTimed text t
  text-spells utf8 reads = let a = asks t spelled in (line_value t, is-value utf8 reads, a.form, a.spelled)

  pub text-asks : IsUtf8 text → (depth d ≤ max_depth → read text ≡ Some d) → length text ≤ longest_line → line_of text ≡ line.Command t
  text-asks utf8 reads short = spelled-is-command text t (short, text-spells utf8 reads)

-- The line that ends a journal is no JSON, and is refused.
use Rattle.std.proofs.Common.{◌≡◌, Bool, true, false, [], refl, sym, ◌∙◌, ap, length, arith}
use Rattle.std.specs.Prelude.{if◌then◌else◌, Option, Some, None}
use Rattle.std.specs.Str.{is_utf8}
use Rattle.serde_json.specs.Data.{Data}
use Rattle.serde_json.specs.Read.{read}
use Rattle.serde_json.proofs.OnLiterals.{serde_json_on_literals}
use Rattle.vault_base.specs.declared.refusal.Refusal.TheVariants.{MalformedBody}
use Rattle.vault_lines_json.specs.Document.{json_of}
use Rattle.vault_lines_read.specs.Grammar.{HasShape}
use Rattle.vault_lines_read.specs.ReadLine.{line_of, without_cr}
use Rattle.vault_lines_read.specs.declared.read_line.Line.TheVariants as line
use Rattle.vault_lines_read.proofs.LineLemmas.{malformed}
use Rattle.vaultctl_replay.specs.Entries.{end_line}

no-json : (b : Bool) → (let found : Option Data = if b then read end_line else None in found) ≡ None
unfolding serde_json_on_literals
no-json true = refl
no-json false = refl

kept : without_cr end_line ≡ end_line
kept = refl

no-value : json_of (without_cr end_line) ≡ None
no-value = ap json_of kept ∙ no-json (is_utf8 end_line)

is-filled : without_cr end_line ≡ [] → ⊥
is-filled e = let none : length end_line ≡ 0 = ap length (sym kept ∙ e) in omega arith

has-no-shape : HasShape end_line → ⊥
has-no-shape h = let found : None ≡ Some h.1.0 = sym no-value ∙ h.1.1 in cc

pub refused : line_of end_line ≡ line.Refused MalformedBody
refused = malformed end_line is-filled has-no-shape

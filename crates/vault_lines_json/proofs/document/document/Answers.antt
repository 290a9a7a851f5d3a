use Rattle.std.proofs.Common.{◌≡◌, true, false, refl, List, ℕ, Bool, Some, None}
use Rattle.std.specs.Str.{is_utf8, IsUtf8}
use Rattle.std.proofs.lemmas.Str.{is_utf8-from_IsUtf8, IsUtf8-from_is_utf8}
use Rattle.serde_json.specs.Data.{Data}
use Rattle.serde_json.specs.Read.{read}
use Rattle.std.specs.Prelude.{IsTrue}
use Rattle.std.proofs.Common.{arith}
use Rattle.serde_json.specs.Errors.{IsMemory}
use Rattle.vault_lines_json.specs.Document.{json_of}
use Rattle.vault_lines_json.proofs.document.document.Goals as goal

found : (bytes : List ℕ) (d : Data) → IsUtf8 bytes → read bytes ≡ Some d → json_of bytes ≡ Some d
found bytes d u e = rw (is_utf8-from_IsUtf8 bytes u, e) refl

none_if : (bytes : List ℕ) (b : Bool) → is_utf8 bytes ≡ b → (IsUtf8 bytes → read bytes ≡ None) → json_of bytes ≡ None
none_if bytes true e h = rw (e, h (IsUtf8-from_is_utf8 bytes e)) refl
none_if bytes false e h = rw e refl

not_true : (b : Bool) → b ≡ false → IsTrue b → ⊥
not_true b e t = grind arith

pub returns-in-Ok : goal.returns-in-Ok
returns-in-Ok c = rw (found _ _ c.in-Ok.ensures.ok.0 c.in-Ok.ensures.ok.1) refl

pub returns-else-is_memory : goal.returns-else-is_memory
returns-else-is_memory c =
    let other = λ (m : IsMemory c.in-Err.error). not_true _ c.if-is_memory.false (c.is_memory.ensures.1 m) in
    rw (none_if c.args.bytes.now _ refl (c.in-Err.ensures.err other)) refl

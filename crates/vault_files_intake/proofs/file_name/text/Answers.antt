use Rattle.std.proofs.Common.{◌≡◌, ℕ, List, Bool, true, false, Some, None, refl}
use Rattle.std.specs.Str.{is_utf8, IsUtf8}
use Rattle.std.proofs.lemmas.Str.{is_utf8-from_IsUtf8, IsUtf8-from_is_utf8}
use Rattle.vault_files_intake.specs.FileName.{text_of}
use Rattle.vault_files_intake.proofs.file_name.text.Goals as goal

found : (bytes text : List ℕ) → text ≡ bytes → IsUtf8 bytes → Some text ≡ text_of bytes
found bytes text e u = rw (is_utf8-from_IsUtf8 bytes u, e) refl

none_if : (bytes : List ℕ) (b : Bool) → is_utf8 bytes ≡ b → (IsUtf8 bytes → ⊥) → None ≡ text_of bytes
none_if bytes true e h = absurd (h (IsUtf8-from_is_utf8 bytes e))
none_if bytes false e h = rw e refl

pub returns-in-Ok : goal.returns-in-Ok
returns-in-Ok c = found _ _ c.in-Ok.ensures.cases.0 c.in-Ok.ensures.cases.1

pub returns-in-Err : goal.returns-in-Err
returns-in-Err c = none_if c.args.bytes.now _ refl c.in-Err.ensures.cases.0

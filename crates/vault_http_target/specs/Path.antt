-- The parts of a path, and the texts that they mean.
use Rattle.std.specs.Prelude.{ℕ, ◌+◌, ◌==◌, not, List, take, drop, Option, Some, None, Result, Ok, Err, if◌then◌else◌}
use Rattle.std.specs.List.{prefix_len}
use Rattle.std.specs.Str.{is_utf8}
use Rattle.percent_encoding.specs.Percent.{percent_decode}
use Rattle.vault_base.specs.declared.refusal.Refusal.{Refusal}

abbrev pub count_before : ℕ → List ℕ → ℕ
count_before stop bytes = prefix_len (λ b. not (b == stop)) bytes

-- the bytes before the first such byte, or all of them
abbrev pub before : ℕ → List ℕ → List ℕ
before stop bytes = take (count_before stop bytes) bytes

-- the bytes after it
abbrev pub after : ℕ → List ℕ → List ℕ
after stop bytes = drop (count_before stop bytes + 1) bytes

-- the bytes as a text
abbrev pub as_text : List ℕ → Option (List ℕ)
as_text bytes = if is_utf8 bytes then Some bytes else None

-- a value that is there, or else that refusal
abbrev pub or_refusal : {A : Type 0} → Refusal → Option A → Result A Refusal
or_refusal refusal None = Err refusal
or_refusal refusal (Some x) = Ok x

-- the text that a part of a path means
unfoldable pub decoded : Refusal → List ℕ → Result (List ℕ) Refusal
decoded refusal part = or_refusal refusal (as_text (percent_decode part))

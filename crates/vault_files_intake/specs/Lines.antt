-- What an intake prints.
use Rattle.std.specs.Prelude.{ℕ, List, [], ◌∷◌, ◌++◌, Bool, true, false, not, ◌&&◌, Option, Some, None, is_none, codes, if◌then◌else◌}
use Rattle.std.specs.Fmt.{decimal}
use Rattle.std.specs.List.{flat_map, list_any}
use Rattle.vault_base.specs.Refusal.{name_of}
use Rattle.vault_base.specs.declared.refusal.Refusal.{Refusal}
use Rattle.vault_core_model.specs.declared.reply.Answer.TheVariants as answer
use Rattle.vault_core_model.specs.declared.reply.Reply.{Reply}
use Rattle.vault_core_model.specs.declared.reply.Reply.TheVariants.{Done, Refused}
use Rattle.vault_core_model.specs.declared.reply.TakenIn.{TakenIn}
use Rattle.vault_files_intake.specs.declared.report.RowReply.{RowReply}

-- a number and two words with a blank between, and an LF
abbrev pub words : ℕ → List ℕ → List ℕ → List ℕ
words number word last = decimal number ++ 32 ∷ word ++ 32 ∷ last ++ 10 ∷ []

-- whether the line was accepted before
abbrev pub word_of : TakenIn → List ℕ
word_of taken = if taken.again then codes "again" else codes "admitted"

-- the line of a row with an id
abbrev pub taken_line : ℕ → TakenIn → List ℕ
taken_line line taken = words line (word_of taken) (decimal taken.id)

-- the line of a row that is answered so; an intake gives no other answers
abbrev pub reply_line : ℕ → Reply → List ℕ
reply_line line (Done (answer.TakenIn taken)) = taken_line line taken
reply_line line (Refused refusal) = words line (codes "refused") (name_of refusal)
reply_line line _ = []

abbrev pub row_line : RowReply → List ℕ
row_line row = reply_line row.line row.reply

-- the lines of all rows, in order
abbrev pub row_lines : List RowReply → List ℕ
row_lines rows = flat_map row_line rows

-- what stopped the intake
abbrev pub stopped_line : Refusal → List ℕ
stopped_line refusal = codes "stopped " ++ name_of refusal ++ 10 ∷ []

abbrev pub stopped_lines : Option Refusal → List ℕ
stopped_lines None = []
stopped_lines (Some refusal) = stopped_line refusal

-- a line for each row, and at last what stopped the intake
abbrev pub lines : List RowReply → Option Refusal → List ℕ
lines rows stopped = row_lines rows ++ stopped_lines stopped

abbrev pub is_refused : Reply → Bool
is_refused (Refused refusal) = true
is_refused _ = false

abbrev pub refuses_a_row : List RowReply → Bool
refuses_a_row rows = list_any (λ row. is_refused row.reply) rows

-- the intake came to its end and refused no row
abbrev pub is_accepted : List RowReply → Option Refusal → Bool
is_accepted rows stopped = is_none stopped && not (refuses_a_row rows)

-- The text of a department's report: labels left in 12 places, numbers right in 20.
use Rattle.std.specs.Prelude.{ℕ, ◌-◌, List, [], ◌∷◌, ◌++◌, length, replicate, codes}
use Rattle.std.specs.Fmt.{decimal}
use Rattle.vault_base.specs.Moment.{moment_text}
use Rattle.vault_core_model.specs.declared.reply.Report.{Report}

-- n blanks
abbrev pub blanks : ℕ → List ℕ
blanks n = replicate n 32

-- a text filled up to 12 places with blanks after it
abbrev pub left_in_12 : List ℕ → List ℕ
left_in_12 text = text ++ blanks (12 - length text)

-- a text filled up to 20 places with blanks before it
abbrev pub right_in_20 : List ℕ → List ℕ
right_in_20 text = blanks (20 - length text) ++ text

-- a line of a label and a text
unfoldable pub text_line : List ℕ → List ℕ → List ℕ
text_line label value = left_in_12 label ++ value ++ 10 ∷ []

-- a line of a label and a number
unfoldable pub number_line : List ℕ → ℕ → List ℕ
number_line label n = text_line label (right_in_20 (decimal n))

-- the department and the moment, and the six sums
unfoldable pub report_text : Report → List ℕ
report_text r =
    text_line (codes "department") r.dept
    ++ text_line (codes "at") (moment_text r.at)
    ++ number_line (codes "admitted") r.admitted
    ++ number_line (codes "received") r.received
    ++ number_line (codes "held") r.held
    ++ number_line (codes "removed") r.removed
    ++ number_line (codes "handed") r.handed
    ++ number_line (codes "byte-days") r.byte_days

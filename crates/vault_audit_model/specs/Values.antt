-- How numbers, texts, truth values and bytes stand in the columns of a row.
use Rattle.std.specs.Prelude.{ℕ, pos, Bool, true, false, List, Option, Some, None}
use Rattle.sqlite_value.specs.declared.value.Value.{Value}
use Rattle.sqlite_value.specs.declared.value.Value.TheVariants.{Null, Int, Text, Blob}

abbrev pub number : ℕ → Value
number n = Int (pos n)

-- what is absent is NULL
abbrev pub number_or_null : Option ℕ → Value
number_or_null None = Null
number_or_null (Some n) = number n

abbrev pub text_or_null : Option (List ℕ) → Value
text_or_null None = Null
text_or_null (Some t) = Text t

abbrev pub bytes_or_null : Option (List ℕ) → Value
bytes_or_null None = Null
bytes_or_null (Some b) = Blob b

-- a truth value or a hold
abbrev pub flag : Bool → Value
flag false = number 0
flag true = number 1

abbrev pub flag_or_null : Option Bool → Value
flag_or_null None = Null
flag_or_null (Some b) = flag b

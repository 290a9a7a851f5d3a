-- Numbers of decimal digits.
use Rattle.std.specs.Prelude.{ℕ, ◌==◌, ◌&&◌, not, nat_le, List, length, Bool, Result, Ok, Err, if◌then◌else◌}
use Rattle.std.specs.Char.{is_ascii_digit}
use Rattle.std.specs.List.{list_all}
use Rattle.std.specs.Str.Parse.{digits_value}
use Rattle.vault_http_target.specs.declared.number.NumberFault.{NumberFault}
use Rattle.vault_http_target.specs.declared.number.NumberFault.TheVariants.{Form, TooLarge}

-- digits, at least one
abbrev pub is_number : List ℕ → Bool
is_number text = not (length text == 0) && list_all is_ascii_digit text

abbrev pub value_upto : ℕ → List ℕ → Result ℕ NumberFault
value_upto most text = if nat_le (digits_value 10 text) most then Ok (digits_value 10 text) else Err TooLarge

-- the number that a text writes, if it is no greater than the limit
unfoldable pub number_upto : ℕ → List ℕ → Result ℕ NumberFault
number_upto most text = if is_number text then value_upto most text else Err Form

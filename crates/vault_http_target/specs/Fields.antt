-- The headers of a head: their names and values, in order.
use Rattle.std.specs.Prelude.{ℕ, ◌+◌, List, [], ◌∷◌, map, Bool, Option, Some, None, is_some, if◌then◌else◌}
use Rattle.std.specs.Str.{bytes_eq}
use Rattle.std.specs.Char.{to_ascii_lowercase}

-- names and values of headers, or of a query
abbrev pub Fields : Type 0
Fields = List (List ℕ × List ℕ)

-- the same but for the case of ASCII letters
abbrev pub same_name : List ℕ → List ℕ → Bool
same_name a b = bytes_eq (map to_ascii_lowercase a) (map to_ascii_lowercase b)

-- the first value under that name
abbrev pub value_of : List ℕ → Fields → Option (List ℕ)
value_of name [] = None
value_of name (p ∷ ps) = if same_name p.0 name then Some p.1 else value_of name ps

abbrev pub has : List ℕ → Fields → Bool
has name fields = is_some (value_of name fields)

-- how many have that name
abbrev pub count_of : List ℕ → Fields → ℕ
count_of name [] = 0
count_of name (p ∷ ps) = (if same_name p.0 name then 1 else 0) + count_of name ps

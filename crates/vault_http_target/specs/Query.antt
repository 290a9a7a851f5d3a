-- The query of a target: its names and values.
use Rattle.std.specs.Prelude.{ℕ, List, [], ◌∷◌, map, count_by, Bool, Option, Some, None, is_some, if◌then◌else◌}
use Rattle.std.specs.List.{list_all}
use Rattle.std.specs.Str.{bytes_eq}
use Rattle.std.specs.Str.Lossy.{utf8_lossy}
use Rattle.form_urlencoded.specs.Form.{decode, raw_pairs}
use Rattle.vault_lines_json.specs.Shape.{is_among}
use Rattle.vault_http_target.specs.Fields.{Fields}
use Rattle.vault_http_target.specs.declared.query.Pair.{Pair}

abbrev pub shown : Pair → List ℕ × List ℕ
shown p = (p.name, p.value)

-- a name or a value: bytes that are no UTF-8 become U+FFFD
abbrev pub read : List ℕ → List ℕ
read bytes = utf8_lossy (decode bytes)

abbrev pub read_pair : List ℕ × List ℕ → List ℕ × List ℕ
read_pair p = (read p.0, read p.1)

abbrev pub pairs_of : List ℕ → Fields
pairs_of query = map read_pair (raw_pairs query)

-- names are compared with their letter case
abbrev pub is_named : List ℕ → List ℕ × List ℕ → Bool
is_named name p = bytes_eq p.0 name

-- the first value under that name
abbrev pub value_named : List ℕ → Fields → Option (List ℕ)
value_named name [] = None
value_named name (p ∷ ps) = if is_named name p then Some p.1 else value_named name ps

abbrev pub has_named : List ℕ → Fields → Bool
has_named name pairs = is_some (value_named name pairs)

-- each name is among these
abbrev pub are_among : List (List ℕ) → Fields → Bool
are_among names pairs = list_all (λ p. is_among names p.0) pairs

-- how many names are among these
abbrev pub count_among : List (List ℕ) → Fields → ℕ
count_among names pairs = count_by (λ p. is_among names p.0) pairs

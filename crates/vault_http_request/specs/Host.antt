-- For which hosts a server answers.
use Rattle.std.specs.Prelude.{ℕ, List, [], ◌∷◌, ◌&&◌, ◌||◌, ◌==◌, nat_le, length, take, drop, codes, Bool, true, false, Option, Some, None}
use Rattle.std.specs.Char.{is_ascii_digit}
use Rattle.std.specs.List.{list_all, list_any}
use Rattle.vault_http_target.specs.Fields.{Fields, count_of, same_name, value_of}

-- nothing, or a colon and a port, whose digits may be left out
abbrev pub is_port : List ℕ → Bool
is_port [] = true
is_port (b ∷ bytes) = (b == 58) && list_all is_ascii_digit bytes

-- the value of a header host names this host, in any letter case, with a port or without
abbrev pub names_host : List ℕ → List ℕ → Bool
names_host value name = nat_le (length name) (length value) && (same_name (take (length name) value) name && is_port (drop (length name) value))

-- it names this machine, as seen from it
abbrev pub is_own : List ℕ → Bool
is_own value = names_host value (codes "localhost") || (names_host value (codes "127.0.0.1") || names_host value (codes "[::1]"))

-- there is a value, and it names this machine or one of these hosts
abbrev pub is_known : Option (List ℕ) → List (List ℕ) → Bool
is_known None names = false
is_known (Some value) names = is_own value || list_any (names_host value) names

-- a head with these headers is for one of these hosts: its one header host names this machine or one of them; where there are none, each head is
abbrev pub is_for : List (List ℕ) → Fields → Bool
is_for names fields = (length names == 0) || ((count_of (codes "host") fields == 1) && is_known (value_of (codes "host") fields) names)

-- The last moment, the first one, and later moments that are none.
use Rattle.std.specs.Prelude.{◌≡◌, refl, ℕ, ◌+◌, ◌*◌, ℤ, pos, negsuc, List, [], ◌∷◌, map, Option, None, Some, option_map}
use Rattle.vault_base_time.specs.Calendar.{date_of, years_later}
use Rattle.vault_base_time.specs.Days.{as_moment, day, day_length, moment_at}

-- 2024-02-29T12:00:00Z
abbrev leap : ℕ
leap = 1709208000

-- 9999-02-28T12:00:00Z, and nothing in 10000
years : map (λ n. as_moment (years_later n leap)) (1 ∷ 4 ∷ 7975 ∷ 7976 ∷ []) ≡
    Some 1740744000 ∷ Some 1835438400 ∷ Some 253375819200 ∷ None ∷ []
unfolding date_of
years = refl

-- most is the greatest number of 64 bits
days : map (λ n. as_moment (leap + day_length * n)) (1 ∷ 2913114 ∷ 2913115 ∷ 18446744073709551615 ∷ []) ≡
    Some 1709294400 ∷ Some 253402257600 ∷ None ∷ None ∷ []
days = refl

ends : map (λ n. option_map day (moment_at n)) (pos 0 ∷ pos 253402300799 ∷ pos 253402300800 ∷ negsuc 0 ∷ []) ≡
    Some 0 ∷ Some 2932896 ∷ None ∷ None ∷ []
ends = refl

-- How many vaults were looked for in files, and how many were given out.
use Rattle.std.specs.Prelude.{ℕ, ◌+◌, ◌-◌, ◌^◌, min}

-- how many vaults were looked for, after one look more; the count stops at 2^64 - 1
abbrev pub after_a_look : ℕ → ℕ
after_a_look looked = min (looked + 1) (2 ^ 64 - 1)

-- how many vaults were given out, with one more; the count stops at 2^64 - 1
abbrev pub with_one_given : ℕ → ℕ
with_one_given given = min (given + 1) (2 ^ 64 - 1)

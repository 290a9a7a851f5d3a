-- Which entries the lifecycle rules make due at a moment.
use Rattle.std.specs.Prelude.{ℕ, ◌+◌, ◌*◌, ◌&&◌, ◌||◌, Bool, true, false, nat_eq, nat_lt, nat_le, List, Option, Some, None, position, unwrap_or}
use Rattle.std.specs.List.{starts_with}
use Rattle.vault_base.specs.Days.{day_length, midnight_from}
use Rattle.vault_rules.specs.declared.rule.Noncurrent.{Noncurrent}
use Rattle.vault_rules.specs.declared.rule.Rule.{Rule}

-- the size is above the bound ObjectSizeGreaterThan, where it is given
abbrev pub is_larger : Option ℕ → ℕ → Bool
is_larger None size = true
is_larger (Some bound) size = nat_lt bound size

-- the size is below the bound ObjectSizeLessThan, where it is given
abbrev pub is_smaller : Option ℕ → ℕ → Bool
is_smaller None size = true
is_smaller (Some bound) size = nat_lt size bound

-- the rule is enabled, its prefix begins the key, and the size is within its bounds (S3 User Guide, "Lifecycle configuration elements": filters by object size; both bounds are excluded)
abbrev pub fits : Rule → List ℕ → ℕ → Bool
fits r key size = r.enabled && starts_with nat_eq key r.prefix && is_larger r.larger size && is_smaller r.smaller size

-- the midnight has come that ends n days from a moment (S3 User Guide, "Lifecycle configuration elements": How Amazon S3 calculates how long an object has been noncurrent, and rounding)
abbrev pub have_passed : ℕ → ℕ → ℕ → Bool
have_passed days from t = nat_le (midnight_from (from + day_length * days)) t

-- the rule's Days, if it has them, have passed
abbrev pub days_have_passed : Option ℕ → ℕ → ℕ → Bool
days_have_passed None from t = false
days_have_passed (Some days) from t = have_passed days from t

-- NoncurrentDays have passed since the entry became noncurrent, and enough newer noncurrent entries stand above it
abbrev pub noncurrent_has_passed : Option Noncurrent → ℕ → ℕ → ℕ → Bool
noncurrent_has_passed None since rank t = false
noncurrent_has_passed (Some n) since rank t = have_passed n.days since t && nat_le (unwrap_or n.newer 0) rank

-- the rule makes the key's current content due
abbrev pub makes_current_due : List ℕ → ℕ → ℕ → ℕ → Rule → Bool
makes_current_due key size admitted t r = fits r key size && days_have_passed r.days admitted t

-- the rule makes a noncurrent entry due
abbrev pub makes_noncurrent_due : List ℕ → ℕ → ℕ → ℕ → ℕ → Rule → Bool
makes_noncurrent_due key size since rank t r = fits r key size && noncurrent_has_passed r.noncurrent since rank t

-- the rule makes a lone marker due
abbrev pub makes_marker_due : List ℕ → ℕ → ℕ → ℕ → Rule → Bool
makes_marker_due key size admitted t r = fits r key size && (r.lone_markers || days_have_passed r.days admitted t)

-- the place of the first rule that makes due: current content, a noncurrent entry, a lone marker
abbrev pub due_current : List Rule → List ℕ → ℕ → ℕ → ℕ → Option ℕ
due_current rules key size admitted t = position (makes_current_due key size admitted t) rules

abbrev pub due_noncurrent : List Rule → List ℕ → ℕ → ℕ → ℕ → ℕ → Option ℕ
due_noncurrent rules key size since rank t = position (makes_noncurrent_due key size since rank t) rules

abbrev pub due_marker : List Rule → List ℕ → ℕ → ℕ → ℕ → Option ℕ
due_marker rules key size admitted t = position (makes_marker_due key size admitted t) rules

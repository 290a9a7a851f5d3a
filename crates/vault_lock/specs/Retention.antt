-- Retention modes and periods, and the first setting of a version.
use Rattle.std.specs.Prelude.{ℕ, ◌<◌, ◌+◌, ◌*◌, Bool, true, false, ◌&&◌, nat_lt, nat_le, Option, Some, None, option_map, if◌then◌else◌}
use Rattle.vault_base.specs.Days.{day_length, last_moment, is_moment}
use Rattle.vault_base.specs.Calendar.{years_later}
use Rattle.vault_lock.specs.declared.retention.Mode.{Mode}
use Rattle.vault_lock.specs.declared.retention.Mode.TheVariants.{Governance, Compliance}
use Rattle.vault_lock.specs.declared.retention.Retention.{Retention}
use Rattle.vault_lock.specs.declared.lock.Lock.{Lock}
use Rattle.vault_lock.specs.declared.retention.Period.{Period}
use Rattle.vault_lock.specs.declared.retention.Period.TheVariants.{Days, Years}
use Rattle.vault_lock.specs.declared.retention.Default.{Default}

-- whether two modes are one
abbrev pub is_mode : Mode → Mode → Bool
is_mode Governance Governance = true
is_mode Compliance Compliance = true
is_mode _ _ = false

-- a retention is in force until its moment, which isn't one of them (S3 User Guide, "Locking objects with Object Lock": Retention periods)
abbrev pub is_in_force : Retention → ℕ → Bool
is_in_force r t = nat_lt t r.until

-- the retention, where it is in force
abbrev pub in_force : Option Retention → ℕ → Option Retention
in_force None t = None
in_force (Some r) t = if is_in_force r t then Some r else None

-- a default's period is 1 to 36,500 days or 1 to 100 years
abbrev pub is_period : Period → Bool
is_period (Days n) = nat_le 1 n && nat_le n 36500
is_period (Years n) = nat_le 1 n && nat_le n 100

-- where a period that begins at t ends: days of 86,400 seconds, or years by the calendar
abbrev pub end_of : Period → ℕ → ℕ
end_of (Days n) t = t + day_length * n
end_of (Years n) t = years_later n t

-- the retention that a default gives at t; an end past the last moment is out of range
abbrev pub default_retention : Default → ℕ → Option Retention
default_retention d t =
    if is_moment (end_of d.period t) then Some (record { mode = d.mode; until = end_of d.period t }) else None

-- the bucket's default applies to a version placed at t, and its period ends past the last moment
abbrev pub DefaultEndsTooLate : Option Default → Option Retention → ℕ → Type 0
DefaultEndsTooLate (Some d) None t = last_moment < end_of d.period t
DefaultEndsTooLate _ _ t = ⊥

-- the first lock of a version placed at t: the retention asked for, else the bucket's default, else none; none at all where the default's end is out of range (S3 User Guide, "Locking objects with Object Lock": Default retention)
abbrev pub first_lock : Option Default → Option Retention → Bool → ℕ → Option Lock
first_lock d (Some r) hold t = Some (record { retention = Some r; hold = hold })
first_lock None None hold t = Some (record { retention = None; hold = hold })
first_lock (Some d) None hold t =
    option_map (λ r. record { retention = Some r; hold = hold }) (default_retention d t)

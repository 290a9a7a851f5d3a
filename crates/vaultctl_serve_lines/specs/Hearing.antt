-- Lines as they come on a connection.
use Rattle.std.specs.Prelude.{ℕ, ◌≡◌, ◌≤◌, ◌==◌, nat_le, is_some, List, [], ◌∷◌, ◌++◌, All, true, Option, Some, None, if◌then◌else◌}
use Rattle.std.specs.List.{position}
use Rattle.vaultctl_replay.specs.Lines.{ended, HasNoLf}
use Rattle.vaultctl_serve.specs.InTime.{Due, bytes_of}
use Rattle.vaultctl_serve_lines_answers.specs.declared.heard.Heard.{Heard}
use Rattle.vaultctl_serve_lines.specs.declared.hearing.News.{News}
use Rattle.vaultctl_serve_lines.specs.declared.hearing.News.TheVariants as news

-- by when the next byte of a line has to come, in nanoseconds from its first: 30 seconds where more than 16,384 have come, 5 until then
abbrev pub line_allowed : ℕ → ℕ
line_allowed come = if nat_le come 16384 then 5_000_000_000 else 30_000_000_000

-- what bytes are that a read gave
abbrev pub news_of : List ℕ → News
news_of [] = news.End
news_of (b ∷ bytes) = if is_some (position (λ c. c == 10) (b ∷ bytes)) then news.Line else news.Part

-- where it is known what comes, these bytes came next, by then
abbrev pub Gave : Option (List Due) → Option (List Due) → List ℕ → ℕ → Type 0
Gave None None given by = Unit {0}
Gave None (Some later) given by = ⊥
Gave (Some dues) None given by = ⊥
Gave (Some dues) (Some later) given by =
    (came : List Due) × (dues ≡ came ++ later) × (bytes_of came ≡ given) × All (λ due. due.at ≤ by) came

-- the first line of the bytes, if it has its LF, and what comes after it; without an LF all stays
abbrev pub Cuts : List ℕ → Option Heard → List ℕ → Type 0
Cuts part None rest = HasNoLf part × (rest ≡ part)
Cuts part (Some heard) rest = HasNoLf heard.bytes.items × (heard.is_ended ≡ true) × (part ≡ ended heard.bytes.items ++ rest)

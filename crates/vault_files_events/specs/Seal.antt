-- The seal over what happened in a vault before a moment.
use Rattle.std.specs.Prelude.{◌≡◌, ◌≢◌, ◌≤◌, ◌<◌, ⊤, ℕ, List, ◌++◌, length, Option, Some, None, Result, Ok, Err, codes, unwrap_or}
use Rattle.std.specs.Fmt.{decimal}
use Rattle.hex.specs.Hex.{encode_lower}
use Rattle.sha2.specs.Sha256.{sha256}
use Rattle.vault_base.specs.Moment.{moment_text}
use Rattle.vault_base.specs.declared.refusal.Refusal.TheVariants as refusal
use Rattle.vault_core_model.specs.declared.halt.Halt.{Halt}
use Rattle.vault_core_model.specs.declared.halt.Halt.TheVariants as halt
use Rattle.vault_core_model.specs.Vault.{Vault}
use Rattle.vault_core_evidence.specs.Events.{events_before}
use Rattle.vault_files_texts.specs.Certificate.{labelled}
use Rattle.vault_files_events.specs.Counts.{admissions}
use Rattle.vault_files_events.specs.EventsText.{events_text}
use Rattle.vault_files_events.specs.declared.seal_lines.Seal.{Seal}

-- the seal of what happened in a vault before m: how many entries were admitted, how many events there were, and the digest of their text
abbrev pub seal_of : ℕ → Vault → Seal
seal_of m v =
    record { before = m; entries = admissions (events_before m v); events = length (events_before m v); digest = sha256 (events_text (events_before m v)) }

-- two texts are different and have one SHA-256 digest
abbrev pub Collide : List ℕ → List ℕ → Type 0
Collide s t = (s ≢ t) × (sha256 s ≡ sha256 t)

-- its four lines
abbrev pub seal_text : Seal → List ℕ
seal_text s =
    labelled (codes "before") (moment_text s.before)
    ++ labelled (codes "entries") (decimal s.entries)
    ++ labelled (codes "events") (decimal s.events)
    ++ labelled (codes "sha256") (encode_lower s.digest)

-- the moment of a seal is the last one, where none is given
abbrev pub moment_asked : Option ℕ → Vault → ℕ
moment_asked before v = unwrap_or before v.last

-- a moment is given that the vault hasn't reached
abbrev pub IsAhead : Option ℕ → Vault → Type 0
IsAhead None v = ⊥
IsAhead (Some m) v = v.last < m

-- a fault says nothing; the one refusal is of a moment that the vault hasn't reached
abbrev pub StopsAs : Halt → Option ℕ → Vault → Type 0
StopsAs (halt.Fault f) before v = ⊤
StopsAs (halt.Refused r) before v = (r ≡ refusal.InvalidArgument) × IsAhead before v

-- a seal is of the moment that is asked for, which isn't past the last one
abbrev pub SealsAs : Result Seal Halt → Option ℕ → Vault → Type 0
SealsAs (Ok s) before v = (moment_asked before v ≤ v.last) × (s ≡ seal_of (moment_asked before v) v)
SealsAs (Err e) before v = StopsAs e before v

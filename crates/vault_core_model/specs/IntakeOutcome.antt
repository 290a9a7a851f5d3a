-- What a line of an intake batch is answered, and the vault after it.
use Rattle.std.specs.Prelude.{ℕ, Bool, true, false, not, ◌&&◌, ◌==◌, nat_le, List, Option, Some, None, Result, Ok, Err, if◌then◌else◌}
use Rattle.std.specs.Str.{bytes_eq}
use Rattle.vault_base.specs.declared.refusal.Refusal.{Refusal}
use Rattle.vault_base.specs.declared.refusal.Refusal.TheVariants.{InvalidArgument, IntakeConflict}
use Rattle.vault_base.specs.Content.{size, digest}
use Rattle.vault_lock.specs.declared.retention.Retention.{Retention}
use Rattle.vault_lock.specs.declared.lock.Lock.{Lock}
use Rattle.vault_lock.specs.Retention.{is_mode}
use Rattle.vault_core_model.specs.declared.access.Access.{Access}
use Rattle.vault_core_model.specs.declared.records.Note.{Note}
use Rattle.vault_core_model.specs.declared.change.Change.TheVariants as change
use Rattle.vault_core_model.specs.declared.command.Intake.{Intake}
use Rattle.vault_core_model.specs.declared.command.Put.{Put}
use Rattle.vault_core_model.specs.declared.reply.Answer.{Answer}
use Rattle.vault_core_model.specs.declared.reply.Answer.TheVariants as answer
use Rattle.vault_core_model.specs.declared.reply.TakenIn.{TakenIn}
use Rattle.vault_core_model.specs.Vault.{Vault, note_of}
use Rattle.vault_core_model.specs.Change.{changed}
use Rattle.vault_core_model.specs.Checks.{◌>>=◌, check, free_id}
use Rattle.vault_core_model.specs.EntryOutcomes.{access_to_put, lock_to_admit, new_version}

abbrev pub is_same_retention : Option Retention → Option Retention → Bool
is_same_retention None None = true
is_same_retention (Some r) (Some s) = is_mode r.mode s.mode && r.until == s.until
is_same_retention _ _ = false

abbrev pub is_same_switch : Bool → Bool → Bool
is_same_switch true b = b
is_same_switch false b = not b

-- ON, OFF and not given are three
abbrev pub is_same_hold : Option Bool → Option Bool → Bool
is_same_hold None None = true
is_same_hold (Some a) (Some b) = is_same_switch a b
is_same_hold _ _ = false

-- the note has the same key, size, digest, retention and hold: it doesn't matter whether one of the contents is kept outside
abbrev pub agrees : Note → Put → Bool
agrees n c =
    bytes_eq n.key c.key && (n.size == size c.content && (bytes_eq n.digest (digest c.content)
    && (is_same_retention n.retention c.retention && is_same_hold n.hold c.hold)))

-- a line number is 1 to 4,294,967,295
abbrev pub is_line : ℕ → Bool
is_line n = nat_le 1 n && nat_le n 4294967295

-- the note of an accepted line
abbrev pub new_note : ℕ → Intake → Note
new_note id c =
    record { bucket = c.put.bucket; batch = c.batch; line = c.line; key = c.put.key; size = size c.put.content; digest = digest c.put.content; retention = c.put.retention; hold = c.put.hold; id = id }

-- the lock that a line's version gets: the line's number, then what a put checks
abbrev pub lock_to_take_in : Vault → ℕ → Intake → Access → Result Lock Refusal
lock_to_take_in v t c a = do
  _ ← check (is_line c.line) InvalidArgument
  lock_to_admit v t c.put a

-- a line that was not accepted before is admitted, and noted
abbrev pub take_in : Vault → ℕ → List ℕ → Intake → Access → Result (Answer × Vault) Refusal
take_in v t who c a = do
  lock ← lock_to_take_in v t c a
  id ← free_id v
  Ok (answer.TakenIn (record { id = id; again = false }), changed v t (change.Admit (record { history = new_version id t who a.bucket.dept c.put lock; note = Some (new_note id c) })))

-- one that was is answered by the id that it got, also where the version was removed since
abbrev pub taken_before : Put → Note → Result TakenIn Refusal
taken_before c n = if agrees n c then Ok (record { id = n.id; again = true }) else Err IntakeConflict

-- the line by its note: it admits nothing where it has one
abbrev pub intake_by : Vault → ℕ → List ℕ → Intake → Access → Option Note → Result (Answer × Vault) Refusal
intake_by v t who c a None = take_in v t who c a
intake_by v t who c a (Some n) = do
  taken ← taken_before c.put n
  Ok (answer.TakenIn taken, v)

-- the note is asked before the arguments
abbrev pub intake : Vault → ℕ → List ℕ → Intake → Result (Answer × Vault) Refusal
intake v t who c = do
  a ← access_to_put v t who c.put
  intake_by v t who c a (note_of v c.put.bucket c.batch c.line)

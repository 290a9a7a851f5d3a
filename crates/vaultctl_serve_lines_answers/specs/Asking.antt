-- What is answered to what only the second door has: the end, how things are, which buckets there are, what happened, what was removed, and whether the rules were kept.
use Rattle.std.specs.Prelude.{ℕ, ◌≡◌, ◌⊎◌, ◌-◌, nat_lt, if◌then◌else◌, length, take, Bool, true, false, IsTrue, List, Option, Some, None, Result, Ok, Err}
use Rattle.std.specs.Io.KnownBytes.{Appends}
use Rattle.vault_base.specs.declared.refusal.Refusal.{Refusal}
use Rattle.vault_base.specs.declared.refusal.Refusal.TheVariants.{InvalidArgument}
use Rattle.vault_core_model.specs.Checks.{◌>>=◌, administrator}
use Rattle.vault_core_model.specs.Halts.{is_device_refusal}
use Rattle.vault_core_model.specs.Leaves.{Standing, count_after}
use Rattle.vault_core_model.specs.Reads.{buckets_after}
use Rattle.vault_core_model.specs.Step.{is_fault}
use Rattle.vault_core_model.specs.Vault.{Vault, next_id}
use Rattle.vault_core_model.specs.declared.reply.Answer.TheVariants.{Nothing as NothingMore}
use Rattle.vault_core_model.specs.declared.reply.Reply.TheVariants as reply
use Rattle.vault_lines_reply.specs.ReplyLine.{reply_text}
use Rattle.vault_core_evidence.specs.declared.breach.Breach.{Breach}
use Rattle.vault_core_evidence.specs.Breaches.{law_name}
use Rattle.vault_core_evidence.specs.Parts.{judged_part}
use Rattle.vault_files_events.specs.Page.{page_of}
use Rattle.vault_files_events.specs.RegisterPage.{page_of as register_page_of}
use Rattle.vaultctl_serve_lines_answers.specs.BucketsLine.{buckets_text}
use Rattle.vaultctl_serve_lines_answers.specs.LawfulLine.{breach_text, clean_text}
use Rattle.vaultctl_serve_lines_answers.specs.PageLine.{page_line_text}
use Rattle.vaultctl_serve_lines_answers.specs.StatusLine.{status_text}
use Rattle.vaultctl_serve_lines_answers.specs.declared.buckets_line.BucketsPage.{BucketsPage}
use Rattle.vaultctl_serve_lines_answers.specs.declared.inquiry.About.TheVariants as about
use Rattle.vaultctl_serve_lines_answers.specs.declared.inquiry.Part.{Part}
use Rattle.vaultctl_serve_lines_answers.specs.declared.status_line.Status.{Status}
use Rattle.vault_io.specs.Begins.{Begins}
use Rattle.vaultctl_serve_lines_answers.specs.declared.asked.DoorRequest.{DoorRequest}
use Rattle.vaultctl_serve_lines_answers.specs.declared.asked.Wanted.{Wanted}
use Rattle.vaultctl_serve_lines_answers.specs.declared.asked.Wanted.TheVariants as wanted
use Rattle.vaultctl_serve_lines_answers.specs.declared.asking.Found.{Found}
use Rattle.vaultctl_serve_lines_answers.specs.declared.asking.Found.TheVariants as found
use Rattle.vaultctl_serve_lines_answers.specs.declared.line.Next.{Next}
use Rattle.vaultctl_serve_lines_answers.specs.declared.line.Next.TheVariants as next
use Rattle.vaultctl_serve_lines_answers.specs.declared.service.Service.{Service}

-- how many entries have an id, how often the device failed, when the last change was, and when the server began
abbrev pub status_of : Vault → ℕ → Option ℕ → Status
status_of v failures since = record { entries = next_id v - 1; failures = failures; last = v.last; since = since }

-- the first 1,000 of some names, and whether there are more
abbrev pub first_names : List (List ℕ) → BucketsPage
first_names names = record { names = take 1000 names; more = nat_lt 1000 (length names) }

-- the names of the first 1,000 buckets after that text, and whether there is one more
abbrev pub buckets_page : Vault → List ℕ → BucketsPage
buckets_page v after = record { names = buckets_after v after 1000; more = nat_lt 1000 (length (buckets_after v after 1001)) }

-- what happened to the entries of a part, before a moment that the vault has reached
abbrev pub events_found : Vault → Part → Result Found Refusal
events_found v part = if nat_lt v.last part.before then Err InvalidArgument else Ok (found.Page (page_of part.before part.after v))

abbrev pub found_of : Vault → ℕ → Option ℕ → Wanted → Result Found Refusal
found_of v failures since wanted.End = Ok found.End
found_of v failures since (wanted.About about.Status) = Ok (found.Status (status_of v failures since))
found_of v failures since (wanted.About (about.Buckets after)) = Ok (found.Buckets (buckets_page v after))
found_of v failures since (wanted.About (about.Events part)) = events_found v part
found_of v failures since (wanted.About (about.Register after)) = Ok (found.Page (register_page_of after v))
found_of v failures since (wanted.About (about.Lawful after)) = Ok (found.Judged (judged_part after v))

-- the clock, and a caller with the right to administer; then what is asked for
abbrev pub judged : Vault → ℕ → Option ℕ → DoorRequest → Result Found Refusal
judged v failures since asked = do
  _ ← administrator v asked.at asked.who
  found_of v failures since asked.what

-- what is answered is what was judged; or it is that memory was wanting or the device failed, at any time
abbrev pub StatedAs : Result Found Refusal → Result Found Refusal → Type 0
StatedAs (Ok found) judged = judged ≡ Ok found
StatedAs (Err r) judged = IsTrue (is_fault r) ⊎ (judged ≡ Err r)

-- it is answered that the device failed
abbrev pub is_device_stated : Result Found Refusal → Bool
is_device_stated (Ok found) = false
is_device_stated (Err r) = is_device_refusal r

-- it is answered that the server ends
abbrev pub is_end : Result Found Refusal → Bool
is_end (Ok found.End) = true
is_end (Ok (found.Status status)) = false
is_end (Ok (found.Buckets page)) = false
is_end (Ok (found.Page page)) = false
is_end (Ok (found.Judged part)) = false
is_end (Err r) = false

-- the line of a judgement
abbrev pub judged_text : Option Breach → Option ℕ → List ℕ
judged_text None next = clean_text next
judged_text (Some b) next = breach_text b.id (law_name b.law) next

-- the line of what is answered
abbrev pub stated_text : List ℕ → Result Found Refusal → List ℕ
stated_text version (Ok found.End) = reply_text (reply.Done NothingMore)
stated_text version (Ok (found.Status status)) = status_text version status
stated_text version (Ok (found.Buckets page)) = buckets_text page
stated_text version (Ok (found.Page page)) = page_line_text page.text page.next
stated_text version (Ok (found.Judged part)) = judged_text part.breach part.next
stated_text version (Err r) = reply_text (reply.Refused r)

-- what of an answer is written where a server goes on, and where it ends
abbrev pub Written : Next → Option (List ℕ) → Option (List ℕ) → List ℕ → Type 0
Written next.On w w' text = Appends w w' text
Written next.End w w' text = Begins w w' text

-- Somebody asked for what only this door has: the vault stays, and this much of the answer is written.
abbrev pub Given : (List ℕ → Type 0) → Standing → Standing → Service → DoorRequest → Type 0
Given Sent old new service asked =
    (new.vault ≡ old.vault)
    × ((stated : Result Found Refusal) × (new.is_honest → StatedAs stated (judged old.vault old.count service.since asked))
    × (new.count ≡ count_after old.count (is_device_stated stated)) × Sent (stated_text service.version.now stated))

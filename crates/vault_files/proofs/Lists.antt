-- A list that is taken in again.
use Rattle.std.proofs.Common.{◌≡◌, ℕ, ◌≤◌, List, [], ◌∷◌, ◌∙◌, length, Bool, true, false, Option, Some, None, Result, Ok, Err, refl, sym, subst, inl, inr}
use Rattle.std.specs.Prelude.{MatchBool, nat_le}
use Rattle.vault_base.specs.Days.{last_moment}
use Rattle.vault_base.specs.declared.refusal.Refusal.{Refusal}
use Rattle.vault_base.specs.declared.refusal.Refusal.TheVariants as refusal
use Rattle.vault_core_model.specs.Vault.{Vault}
use Rattle.vault_files_intake.specs.List.{most_list, below_header}
use Rattle.vault_files_intake.specs.declared.folder.File.{File}
use Rattle.vault_files_intake.specs.declared.report.RowReply.{RowReply}
use Rattle.vault_files_intake.specs.TakenIn.{StopsAtOnce, TakesBelow, TakesList}
use Rattle.vault_files.specs.Again.{IsGivenAgain, AreAnsweredAgain, MeetNoClockBack}
use Rattle.vault_files.proofs.Later.{IsLater}
use Rattle.vault_files.proofs.Records.{records-same}
use Rattle.vault_files.proofs.Removals.{IsNotedAs, run-noted}
use Rattle.vault_files.proofs.Rows.{rows-again, rows-still}

-- ---- each id again

none-again : (rows later : List RowReply) (cut : Option Refusal) → rows ≡ [] → AreAnsweredAgain rows later cut
none-again rows later cut none = rw none tt

cut-again : (rows later : List RowReply) (cut : Option Refusal) (r : Refusal) → later ≡ [] → cut ≡ Some r → AreAnsweredAgain rows later cut
cut-again [] later cut r none stopped = tt
cut-again (row ∷ rows) later cut r none stopped = rw (none, stopped) refl

below-again : (files : List File) (t u : ℕ) (who bucket batch : List ℕ) (below : Result (List (List (List ℕ))) Refusal) (v : Vault) (rows : List RowReply) (stop : Option Refusal) (end w : Vault) (later : List RowReply) (cut : Option Refusal) (w' : Vault)
    → IsLater end w → w.last ≤ u → TakesBelow (Some files) t who bucket batch below v rows stop end → TakesBelow (Some files) u who bucket batch below w later cut w' → AreAnsweredAgain rows later cut
below-again files t u who bucket batch (Err r) v rows stop end w later cut w' on in_time h g = none-again rows later cut h.0
below-again files t u who bucket batch (Ok records) v rows stop end w later cut w' on in_time h g = rows-again files t u who bucket batch 0 records v rows stop end w later cut w' on in_time h g

list-again : (files : List File) (t u : ℕ) (who bucket batch list : List ℕ) (v : Vault) (rows : List RowReply) (stop : Option Refusal) (end w : Vault) (later : List RowReply) (cut : Option Refusal) (w' : Vault)
    → IsLater end w → w.last ≤ u → TakesList (Some files) t who bucket batch list v rows stop end → TakesList (Some files) u who bucket batch list w later cut w' → AreAnsweredAgain rows later cut
list-again files t u who bucket batch list v rows stop end w later cut w' on in_time (inl h) g = none-again rows later cut h.0
list-again files t u who bucket batch list v rows stop end w later cut w' on in_time (inr h) (inl g) = cut-again rows later cut refusal.Memory g.0 g.1
list-again files t u who bucket batch list v rows stop end w later cut w' on in_time (inr h) (inr g) =
    let P : List (List (List ℕ)) → Type 0 = λ records. TakesBelow (Some files) u who bucket batch (below_header records) w later cut w' in
    below-again files t u who bucket batch (below_header h.0) v rows stop end w later cut w' on in_time h.2 (subst P (records-same list g.0 h.0 g.1 h.1) g.2)

intake-again : (b : Bool) (files : List File) (t u : ℕ) (who bucket batch list : List ℕ) (v : Vault) (rows : List RowReply) (stop : Option Refusal) (end w : Vault) (later : List RowReply) (cut : Option Refusal) (w' : Vault)
    → IsLater end w → w.last ≤ u
    → MatchBool b (TakesList (Some files) t who bucket batch list v rows stop end) (StopsAtOnce refusal.EntityTooLarge v rows stop end)
    → MatchBool b (TakesList (Some files) u who bucket batch list w later cut w') (StopsAtOnce refusal.EntityTooLarge w later cut w')
    → AreAnsweredAgain rows later cut
intake-again true files t u who bucket batch list v rows stop end w later cut w' on in_time h g = list-again files t u who bucket batch list v rows stop end w later cut w' on in_time h g
intake-again false files t u who bucket batch list v rows stop end w later cut w' on in_time h g = none-again rows later cut h.0

pub given-again : (rows later : List RowReply) (stop cut : Option Refusal) (v v' : Vault) → IsGivenAgain rows stop v later cut v' → AreAnsweredAgain rows later cut
given-again rows later stop cut v v' g =
    let noted = run-noted g.between g.removals g.replies v g.only g.removed in
    intake-again (nat_le (length g.list) most_list) g.files g.first g.second g.who g.bucket g.batch g.list g.before rows stop g.between v later cut v' noted.later g.in_time g.taken g.again

-- ---- nothing is admitted

below-still : (files : List File) (t u : ℕ) (who bucket batch : List ℕ) (below : Result (List (List (List ℕ))) Refusal) (v : Vault) (rows : List RowReply) (stop : Option Refusal) (end w : Vault) (later : List RowReply) (cut : Option Refusal) (w' : Vault)
    → IsNotedAs end w → t ≤ u → u ≤ last_moment → w.last ≤ u → stop ≡ None → MeetNoClockBack rows
    → TakesBelow (Some files) t who bucket batch below v rows stop end → TakesBelow (Some files) u who bucket batch below w later cut w' → w' ≡ w
below-still files t u who bucket batch (Err r) v rows stop end w later cut w' on go top in_time whole no_back h g = g.2
below-still files t u who bucket batch (Ok records) v rows (Some r) end w later cut w' on go top in_time whole no_back h g = absurd (cc whole)
below-still files t u who bucket batch (Ok records) v rows None end w later cut w' on go top in_time whole no_back h g =
    rows-still files t u who bucket batch 0 records v rows end w later cut w' on.later (λ line. rw (on.notes) refl) go top in_time no_back h g

list-still : (files : List File) (t u : ℕ) (who bucket batch list : List ℕ) (v : Vault) (rows : List RowReply) (stop : Option Refusal) (end w : Vault) (later : List RowReply) (cut : Option Refusal) (w' : Vault)
    → IsNotedAs end w → t ≤ u → u ≤ last_moment → w.last ≤ u → stop ≡ None → MeetNoClockBack rows
    → TakesList (Some files) t who bucket batch list v rows stop end → TakesList (Some files) u who bucket batch list w later cut w' → w' ≡ w
list-still files t u who bucket batch list v rows stop end w later cut w' on go top in_time whole no_back h (inl g) = g.2
list-still files t u who bucket batch list v rows stop end w later cut w' on go top in_time whole no_back (inl h) (inr g) = absurd (cc (sym whole ∙ h.1))
list-still files t u who bucket batch list v rows stop end w later cut w' on go top in_time whole no_back (inr h) (inr g) =
    let P : List (List (List ℕ)) → Type 0 = λ records. TakesBelow (Some files) u who bucket batch (below_header records) w later cut w' in
    below-still files t u who bucket batch (below_header h.0) v rows stop end w later cut w' on go top in_time whole no_back h.2 (subst P (records-same list g.0 h.0 g.1 h.1) g.2)

intake-still : (b : Bool) (files : List File) (t u : ℕ) (who bucket batch list : List ℕ) (v : Vault) (rows : List RowReply) (stop : Option Refusal) (end w : Vault) (later : List RowReply) (cut : Option Refusal) (w' : Vault)
    → IsNotedAs end w → t ≤ u → u ≤ last_moment → w.last ≤ u → stop ≡ None → MeetNoClockBack rows
    → MatchBool b (TakesList (Some files) t who bucket batch list v rows stop end) (StopsAtOnce refusal.EntityTooLarge v rows stop end)
    → MatchBool b (TakesList (Some files) u who bucket batch list w later cut w') (StopsAtOnce refusal.EntityTooLarge w later cut w')
    → w' ≡ w
intake-still true files t u who bucket batch list v rows stop end w later cut w' on go top in_time whole no_back h g = list-still files t u who bucket batch list v rows stop end w later cut w' on go top in_time whole no_back h g
intake-still false files t u who bucket batch list v rows stop end w later cut w' on go top in_time whole no_back h g = g.2

pub given-still : (rows later : List RowReply) (stop cut : Option Refusal) (v v' : Vault) → IsGivenAgain rows stop v later cut v' → stop ≡ None → MeetNoClockBack rows → v' ≡ v
given-still rows later stop cut v v' g whole no_back =
    let noted = run-noted g.between g.removals g.replies v g.only g.removed in
    intake-still (nat_le (length g.list) most_list) g.files g.first g.second g.who g.bucket g.batch g.list g.before rows stop g.between v later cut v' noted g.goes_on g.is_moment g.in_time whole no_back g.taken g.again

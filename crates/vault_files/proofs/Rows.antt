-- The rows of a list that is taken in again.
use Rattle.std.proofs.Common.{◌≡◌, ℕ, ◌+◌, ◌≤◌, ◌⊎◌, List, [], ◌∷◌, ◌∙◌, true, false, Option, Some, None, Result, Ok, Err, refl, sym, ap, subst, arith, inl, inr}
use Rattle.std.specs.Prelude.{is_ok, IsTrue}
use Rattle.vault_base.specs.Days.{last_moment}
use Rattle.vault_base.specs.declared.refusal.Refusal.{Refusal}
use Rattle.vault_base.specs.declared.refusal.Refusal.TheVariants.{ClockBack}
use Rattle.vault_base.specs.declared.content.Content.{Content}
use Rattle.vault_core_model.specs.declared.command.Intake.{Intake}
use Rattle.vault_core_model.specs.declared.reply.Answer.{Answer}
use Rattle.vault_core_model.specs.declared.reply.Answer.TheVariants as answer
use Rattle.vault_core_model.specs.declared.reply.Reply.{Reply}
use Rattle.vault_core_model.specs.declared.reply.Reply.TheVariants.{Done, Refused, Stopped}
use Rattle.vault_core_model.specs.IntakeOutcome.{intake}
use Rattle.vault_core_model.specs.Step.{Answers, is_fault}
use Rattle.vault_core_model.specs.Vault.{Vault, note_of}
use Rattle.vault_values.specs.Fault.{◌>>=◌}
use Rattle.vault_files_intake.specs.Row.{row_of}
use Rattle.vault_files_intake.specs.declared.row.Row.{Row}
use Rattle.vault_files_intake.specs.declared.folder.File.{File}
use Rattle.vault_files_intake.specs.declared.report.RowReply.{RowReply}
use Rattle.vault_files_intake.specs.Folder.{file_in}
use Rattle.vault_files_intake.specs.TakenIn.{content_of, command_of, intake_of, is_fault_reply, MayAnswer, Judged, AnswersRow, TakesRows}
use Rattle.vault_files.specs.Again.{IsAnsweredAgain, AreAnsweredAgain, is_clock_back, MeetNoClockBack}
use Rattle.vault_files.proofs.Later.{IsLater, later-on, later-same}
use Rattle.vault_files.proofs.IntakeLines.{note_for, done-later, done-other_lines, done-last, done-taken, done-accepted, accepted-again, refused-again}

-- ---- what a row asks for

-- what a row asks for, by these files
abbrev pub asked_of : List File → List ℕ → List ℕ → ℕ → List (List ℕ) → Result Intake Refusal
asked_of files bucket batch line cells = command_of (file_in files) bucket batch line cells

by_row : (files : List File) (folder : List ℕ → Option (List ℕ)) (bucket batch : List ℕ) (line : ℕ) (r : Result Row Refusal) → MayAnswer (Some files) folder
    → (r >>= λ (row : Row). content_of (folder row.file) >>= λ (content : Content). Ok (intake_of bucket batch line row content)) ≡ (r >>= λ (row : Row). content_of (file_in files row.file) >>= λ (content : Content). Ok (intake_of bucket batch line row content))
by_row files folder bucket batch line (Err e) may = refl
by_row files folder bucket batch line (Ok row) may = rw (may row.file) refl

same_command : (files : List File) (folder : List ℕ → Option (List ℕ)) (bucket batch : List ℕ) (line : ℕ) (cells : List (List ℕ)) → MayAnswer (Some files) folder → command_of folder bucket batch line cells ≡ asked_of files bucket batch line cells
unfolding command_of
same_command files folder bucket batch line cells may = by_row files folder bucket batch line (row_of cells) may

row-judged : (files : List File) (t : ℕ) (who bucket batch : List ℕ) (line : ℕ) (cells : List (List ℕ)) (v : Vault) (reply : Reply) (v' : Vault) → AnswersRow (Some files) t who bucket batch line cells v reply v' → Judged (asked_of files bucket batch line cells) t who v reply v'
row-judged files t who bucket batch line cells v reply v' h =
    let P : Result Intake Refusal → Type 0 = λ asked. Judged asked t who v reply v' in
    subst P (same_command files h.0 bucket batch line cells h.1) h.2

-- the command is of the row's bucket, batch and line
record IsOfRow (bucket batch : List ℕ) (line : ℕ) (c : Intake) : Type 0 where
  in_bucket : c.put.bucket ≡ bucket
  of_batch : c.batch ≡ batch
  at_line : c.line ≡ line

of_same : (bucket batch : List ℕ) (line : ℕ) (row : Row) (content : Content) (c : Intake) → intake_of bucket batch line row content ≡ c → IsOfRow bucket batch line c
of_same bucket batch line row content c same =
    let P : Intake → Type 0 = λ d. IsOfRow bucket batch line d in
    subst P same (record { in_bucket = refl; of_batch = refl; at_line = refl })

of_content : (bucket batch : List ℕ) (line : ℕ) (row : Row) (r : Result Content Refusal) (c : Intake) → (r >>= λ (content : Content). Ok (intake_of bucket batch line row content)) ≡ Ok c → IsOfRow bucket batch line c
of_content bucket batch line row (Err e) c h = absurd (cc h)
of_content bucket batch line row (Ok content) c h = of_same bucket batch line row content c (cc h)

of_row : (files : List File) (bucket batch : List ℕ) (line : ℕ) (r : Result Row Refusal) (c : Intake) → (r >>= λ (row : Row). content_of (file_in files row.file) >>= λ (content : Content). Ok (intake_of bucket batch line row content)) ≡ Ok c → IsOfRow bucket batch line c
of_row files bucket batch line (Err e) c h = absurd (cc h)
of_row files bucket batch line (Ok row) c h = of_content bucket batch line row (content_of (file_in files row.file)) c h

asked-of_row : (files : List File) (bucket batch : List ℕ) (line : ℕ) (cells : List (List ℕ)) (c : Intake) → asked_of files bucket batch line cells ≡ Ok c → IsOfRow bucket batch line c
unfolding command_of
asked-of_row files bucket batch line cells c h = of_row files bucket batch line (row_of cells) c h

-- ---- what one row leaves

-- the vault goes on; the notes of the other lines are as before; no moment is after the reading
record GoesOn (t : ℕ) (bucket batch : List ℕ) (line : ℕ) (v w : Vault) : Type 0 where
  later : IsLater v w
  others : (other : ℕ) → (line ≡ other → ⊥) → note_of w bucket batch other ≡ note_of v bucket batch other
  last : v.last ≤ t → w.last ≤ t

goes_on-same : (t : ℕ) (bucket batch : List ℕ) (line : ℕ) (v w : Vault) → w ≡ v → GoesOn t bucket batch line v w
goes_on-same t bucket batch line v w same = record {
  later = later-same v w same;
  others = λ other not_it. ap (λ (u : Vault). note_of u bucket batch other) same;
  last = λ in_time. rw same in_time;
}

goes_on-done : (t : ℕ) (who bucket batch : List ℕ) (line : ℕ) (c : Intake) (x : Answer) (v w : Vault) → IsOfRow bucket batch line c → intake v t who c ≡ Ok (x, w) → GoesOn t bucket batch line v w
goes_on-done t who bucket batch line c x v w of h = record {
  later = done-later v t who c x w h;
  others = λ other not_it. rw (← of.in_bucket, ← of.of_batch) (done-other_lines v t who c x w other h (λ it. not_it (sym of.at_line ∙ it)));
  last = λ in_time. done-last v t who c x w h in_time;
}

goes_on-answered : (t : ℕ) (who bucket batch : List ℕ) (line : ℕ) (c : Intake) (reply : Reply) (v w : Vault) → IsOfRow bucket batch line c → Answers (intake v t who c) v reply w → GoesOn t bucket batch line v w
goes_on-answered t who bucket batch line c (Done x) v w of h = goes_on-done t who bucket batch line c x v w of h
goes_on-answered t who bucket batch line c (Refused r) v w of h = goes_on-same t bucket batch line v w h.0
goes_on-answered t who bucket batch line c (Stopped n s) v w of h = absurd h

goes_on-judged : (files : List File) (t : ℕ) (who bucket batch : List ℕ) (line : ℕ) (cells : List (List ℕ)) (reply : Reply) (v w : Vault) (asked : Result Intake Refusal) → asked_of files bucket batch line cells ≡ asked → Judged asked t who v reply w → GoesOn t bucket batch line v w
goes_on-judged files t who bucket batch line cells reply v w (Err r) is h = goes_on-same t bucket batch line v w h.1
goes_on-judged files t who bucket batch line cells reply v w (Ok c) is h = goes_on-answered t who bucket batch line c reply v w (asked-of_row files bucket batch line cells c is) h.1

row-goes_on : (files : List File) (t : ℕ) (who bucket batch : List ℕ) (line : ℕ) (cells : List (List ℕ)) (v : Vault) (reply : Reply) (w : Vault) → AnswersRow (Some files) t who bucket batch line cells v reply w → GoesOn t bucket batch line v w
row-goes_on files t who bucket batch line cells v reply w h =
    goes_on-judged files t who bucket batch line cells reply v w (asked_of files bucket batch line cells) refl (row-judged files t who bucket batch line cells v reply w h)

-- ---- what all rows leave

-- the vault goes on, and the notes of the lines above are as before
record GoOn (bucket batch : List ℕ) (above : ℕ) (v w : Vault) : Type 0 where
  later : IsLater v w
  others : (line : ℕ) → line ≤ above → note_of w bucket batch line ≡ note_of v bucket batch line

go_on-same : (bucket batch : List ℕ) (above : ℕ) (v w : Vault) → w ≡ v → GoOn bucket batch above v w
go_on-same bucket batch above v w same =
    record { later = later-same v w same; others = λ line h. ap (λ (u : Vault). note_of u bucket batch line) same }

rows-go_on : (files : List File) (t : ℕ) (who bucket batch : List ℕ) (above : ℕ) (records : List (List (List ℕ))) (v : Vault) (rows : List RowReply) (stop : Option Refusal) (w : Vault)
    → TakesRows (Some files) t who bucket batch above records v rows stop w → GoOn bucket batch above v w
rows-go_on files t who bucket batch above records v [] None w h = go_on-same bucket batch above v w h.1
rows-go_on files t who bucket batch above records v [] (Some r) w h = go_on-same bucket batch above v w h.1
rows-go_on files t who bucket batch above [] v (row ∷ rows) stop w h = absurd h
rows-go_on files t who bucket batch above (cells ∷ records) v (row ∷ rows) stop w h =
    let one = row-goes_on files t who bucket batch (above + 1) cells v row.reply h.2 h.3 in
    let rest = rows-go_on files t who bucket batch (above + 1) records h.2 rows stop w h.4 in
    record {
      later = later-on v h.2 w one.later rest.later;
      others = λ line le. rest.others line (omega arith) ∙ one.others line (λ it. absurd (omega (arith, it, le)));
    }

-- ---- each id again

-- an answer with the vault after it
abbrev answered : Answer → Vault → Result (Answer × Vault) Refusal
answered x v = Ok (x, v)

-- the id of an accepted line is reported again, and nothing is changed
stated_again : (w w' : Vault) (u : ℕ) (who : List ℕ) (c : Intake) (id : ℕ) (again : Reply)
    → intake w u who c ≡ Ok (answer.TakenIn (record { id = id; again = true }), w) → is_fault_reply again ≡ false → Answers (intake w u who c) w again w' → (again ≡ Done (answer.TakenIn (record { id = id; again = true }))) × (w' ≡ w)
stated_again w w' u who c id (Done x) own no_fault h =
    let both : answered x w' ≡ answered (answer.TakenIn (record { id = id; again = true })) w = sym h ∙ own in
    let e : (x, w') ≡ (answer.TakenIn (record { id = id; again = true }), w) = cc in
    (ap (λ (p : Answer × Vault). Done p.0) e, ap (λ (p : Answer × Vault). p.1) e)
stated_again w w' u who c id (Refused r) own no_fault h = absurd (refusal h.1)
  where
    refusal : IsTrue (is_fault r) ⊎ (intake w u who c ≡ Err r) → ⊥
    refusal (inl fault) = cc (sym no_fault ∙ fault)
    refusal (inr refused) = cc (sym own ∙ refused)
stated_again w w' u who c id (Stopped n s) own no_fault h = absurd h

id-again : (t u : ℕ) (who : List ℕ) (c : Intake) (reply again : Reply) (v mid w w' : Vault) → IsLater v w → IsLater mid w → w.last ≤ u
    → Answers (intake v t who c) v reply mid → is_fault_reply again ≡ false → Answers (intake w u who c) w again w' → IsAnsweredAgain reply again
id-again t u who c (Done (answer.TakenIn y)) again v mid w w' from later in_time h no_fault g =
    let was = done-accepted v t who c y mid h in
    (stated_again w w' u who c y.id again (accepted-again v mid w t u who c y.id was from.callers from.buckets later in_time) no_fault g).0
id-again t u who c (Done _) again v mid w w' from later in_time h no_fault g = tt
id-again t u who c (Refused r) again v mid w w' from later in_time h no_fault g = tt
id-again t u who c (Stopped n s) again v mid w w' from later in_time h no_fault g = tt

row-again : (asked : Result Intake Refusal) (t u : ℕ) (who : List ℕ) (reply again : Reply) (v mid w w' : Vault) → IsLater v w → IsLater mid w → w.last ≤ u → Judged asked t who v reply mid → Judged asked u who w again w' → IsAnsweredAgain reply again
row-again (Err r) t u who reply again v mid w w' from later in_time h g = let P : Reply → Type 0 = λ x. IsAnsweredAgain x again in subst P (sym h.0) tt
row-again (Ok c) t u who reply again v mid w w' from later in_time h g = id-again t u who c reply again v mid w w' from later in_time h.1 g.0 g.1

pub rows-again : (files : List File) (t u : ℕ) (who bucket batch : List ℕ) (above : ℕ) (records : List (List (List ℕ))) (v : Vault) (rows : List RowReply) (stop : Option Refusal) (end w : Vault) (later : List RowReply) (cut : Option Refusal) (w' : Vault)
    → IsLater end w → w.last ≤ u → TakesRows (Some files) t who bucket batch above records v rows stop end → TakesRows (Some files) u who bucket batch above records w later cut w' → AreAnsweredAgain rows later cut
rows-again files t u who bucket batch above records v [] stop end w later cut w' on in_time h g = tt
rows-again files t u who bucket batch above [] v (row ∷ rows) stop end w later cut w' on in_time h g = absurd h
rows-again files t u who bucket batch above (cells ∷ records) v (row ∷ rows) stop end w [] None w' on in_time h g = absurd (cc g.0)
rows-again files t u who bucket batch above (cells ∷ records) v (row ∷ rows) stop end w [] (Some r) w' on in_time h g = refl
rows-again files t u who bucket batch above (cells ∷ records) v (row ∷ rows) stop end w (again ∷ later) cut w' on in_time h g =
    let one = row-goes_on files t who bucket batch (above + 1) cells v row.reply h.2 h.3 in
    let rest = rows-go_on files t who bucket batch (above + 1) records h.2 rows stop end h.4 in
    let to_end = later-on h.2 end w rest.later on in
    let next = row-goes_on files u who bucket batch (above + 1) cells w again.reply g.2 g.3 in (
      g.0 ∙ sym h.0,
      row-again (asked_of files bucket batch (above + 1) cells) t u who row.reply again.reply v h.2 w g.2 (later-on v h.2 w one.later to_end) to_end in_time (row-judged files t who bucket batch (above + 1) cells v row.reply h.2 h.3) (row-judged files u who bucket batch (above + 1) cells w again.reply g.2 g.3),
      rows-again files t u who bucket batch (above + 1) records h.2 rows stop end g.2 later cut w' (later-on end w g.2 on next.later) (next.last in_time) h.4 g.4,
    )

-- ---- nothing is admitted

-- who is refused changes nothing
refused-same : (w w' : Vault) (u : ℕ) (who : List ℕ) (c : Intake) (again : Reply) → is_ok (intake w u who c) ≡ false → Answers (intake w u who c) w again w' → w' ≡ w
refused-same w w' u who c (Done x) refused h = let P : Result (Answer × Vault) Refusal → Type 0 = λ r. is_ok r ≡ false in absurd (cc (subst P h refused))
refused-same w w' u who c (Refused r) refused h = h.0
refused-same w w' u who c (Stopped n s) refused h = absurd h

not_clock_back : (r : Refusal) → is_clock_back (Refused r) ≡ false → r ≡ ClockBack → ⊥
not_clock_back r other is = let P : Refusal → Type 0 = λ x. is_clock_back (Refused x) ≡ false in cc (subst P is other)

was_refused : (r : Refusal) (judged : Result (Answer × Vault) Refusal) → is_fault r ≡ false → IsTrue (is_fault r) ⊎ (judged ≡ Err r) → judged ≡ Err r
was_refused r judged no_fault (inl fault) = absurd (cc (sym no_fault ∙ fault))
was_refused r judged no_fault (inr refused) = refused

answer-still : (t u : ℕ) (who : List ℕ) (c : Intake) (reply again : Reply) (v mid w w' : Vault) → IsLater v w → IsLater mid w → t ≤ u → u ≤ last_moment → w.last ≤ u → note_for w c ≡ note_for mid c → is_clock_back reply ≡ false
    → is_fault_reply reply ≡ false → Answers (intake v t who c) v reply mid → is_fault_reply again ≡ false → Answers (intake w u who c) w again w' → w' ≡ w
answer-still t u who c (Done x) again v mid w w' from later on top in_time noted no_back no_fault h sane g =
    let taken = done-taken v t who c x mid h in
    let P : Answer → Type 0 = λ z. intake v t who c ≡ Ok (z, mid) in
    let was = done-accepted v t who c taken.0 mid (subst P taken.1 h) in
    (stated_again w w' u who c taken.0.id again (accepted-again v mid w t u who c taken.0.id was from.callers from.buckets later in_time) sane g).1
answer-still t u who c (Refused r) again v mid w w' from later on top in_time noted no_back no_fault h sane g =
    let refused = was_refused r (intake v t who c) no_fault h.1 in
    refused-same w w' u who c again
    (refused-again v w t u who c r from on top in_time (noted ∙ ap (λ (x : Vault). note_for x c) h.0) refused (not_clock_back r no_back)) g
answer-still t u who c (Stopped n s) again v mid w w' from later on top in_time noted no_back no_fault h sane g = absurd h

row-still : (files : List File) (bucket batch : List ℕ) (line : ℕ) (cells : List (List ℕ)) (asked : Result Intake Refusal) (t u : ℕ) (who : List ℕ) (reply again : Reply) (v mid w w' : Vault) → asked_of files bucket batch line cells ≡ asked
    → IsLater v w → IsLater mid w → t ≤ u → u ≤ last_moment → w.last ≤ u → note_of w bucket batch line ≡ note_of mid bucket batch line → is_clock_back reply ≡ false
    → Judged asked t who v reply mid → Judged asked u who w again w' → w' ≡ w
row-still files bucket batch line cells (Err r) t u who reply again v mid w w' is from later on top in_time noted no_back h g = g.1
row-still files bucket batch line cells (Ok c) t u who reply again v mid w w' is from later on top in_time noted no_back h g =
    let of = asked-of_row files bucket batch line cells c is in
    let noted_so : note_for w c ≡ note_for mid c = rw (of.in_bucket, of.of_batch, of.at_line) noted in
    answer-still t u who c reply again v mid w w' from later on top in_time noted_so no_back h.0 h.1 g.0 g.1

pub rows-still : (files : List File) (t u : ℕ) (who bucket batch : List ℕ) (above : ℕ) (records : List (List (List ℕ))) (v : Vault) (rows : List RowReply) (end w : Vault) (later : List RowReply) (cut : Option Refusal) (w' : Vault)
    → IsLater end w → ((line : ℕ) → note_of w bucket batch line ≡ note_of end bucket batch line) → t ≤ u → u ≤ last_moment → w.last ≤ u → MeetNoClockBack rows
    → TakesRows (Some files) t who bucket batch above records v rows None end → TakesRows (Some files) u who bucket batch above records w later cut w' → w' ≡ w
rows-still files t u who bucket batch above records v rows end w [] None w' on same_notes go top in_time no_back h g = g.1
rows-still files t u who bucket batch above records v rows end w [] (Some r) w' on same_notes go top in_time no_back h g = g.1
rows-still files t u who bucket batch above [] v rows end w (again ∷ later) cut w' on same_notes go top in_time no_back h g = absurd g
rows-still files t u who bucket batch above (cells ∷ records) v [] end w (again ∷ later) cut w' on same_notes go top in_time no_back h g = absurd (cc h.0)
rows-still files t u who bucket batch above (cells ∷ records) v (row ∷ rows) end w (again ∷ later) cut w' on same_notes go top in_time no_back h g =
    let one = row-goes_on files t who bucket batch (above + 1) cells v row.reply h.2 h.3 in
    let rest = rows-go_on files t who bucket batch (above + 1) records h.2 rows None end h.4 in
    let to_end = later-on h.2 end w rest.later on in
    let noted = same_notes (above + 1) ∙ rest.others (above + 1) (omega arith) in
    let same : g.2 ≡ w =
    row-still files bucket batch (above + 1) cells (asked_of files bucket batch (above + 1) cells) t u who row.reply again.reply v h.2 w g.2 refl (later-on v h.2 w one.later to_end) to_end go top in_time noted no_back.0 (row-judged files t who bucket batch (above + 1) cells v row.reply h.2 h.3) (row-judged files u who bucket batch (above + 1) cells w again.reply g.2 g.3) in
    let P : Vault → Type 0 = λ x. TakesRows (Some files) u who bucket batch (above + 1) records x later cut w' in
    rows-still files t u who bucket batch (above + 1) records h.2 rows end w later cut w' on same_notes go top in_time no_back.1 h.4 (subst P same g.4)

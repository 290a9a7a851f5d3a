-- A journal's lines, carried out one after another, lead to the vault.
use Rattle.std.proofs.Common.{◌≡◌, ℕ, zero, suc, Bool, true, false, List, [], ◌∷◌, ◌++◌, refl, sym, ◌∙◌, ap, ap₂, subst, inl, inr, append_assoc, append-nil, map, length, take, drop, ◌≤◌, arith}
use Rattle.std.specs.Prelude.{◌≢◌, ◌||◌, ◌⊎◌, filter, Option, Some, None}
use Rattle.std.specs.List.{flat_map, list_any}
use Rattle.std.specs.declared.io.Write.{Ghosts as Writing}
use Rattle.std.proofs.lemmas.List.Elements.{All-nil, All-cons}
use Rattle.vault_base.specs.declared.refusal.Refusal.{Refusal}
use Rattle.vault_base.specs.declared.refusal.Refusal.TheVariants.{MalformedBody}
use Rattle.vault_core_outcome.specs.Outcome.{reports_fault}
use Rattle.vault_core_model.specs.Step.{IsRun, IsStep}
use Rattle.vault_core_model.specs.Vault.{Vault}
use Rattle.vault_core_model.specs.declared.command.Timed.{Timed}
use Rattle.vault_core_model.specs.declared.kept.Kept.{Ghosts}
use Rattle.vault_core_model.specs.declared.reply.Reply.{Reply}
use Rattle.vault_core_model.specs.declared.reply.Reply.TheVariants as reply
use Rattle.vault_core.specs.Hearing.{AtMostOne}
use Rattle.vault_lines_read.specs.declared.read_line.Line.{Line}
use Rattle.vault_lines_read.specs.declared.read_line.Line.TheVariants as line
use Rattle.vault_lines_read.specs.ReadLine.{line_of}
use Rattle.vaultctl_replay.specs.Changes.{changing, is_change, is_cut}
use Rattle.vaultctl_replay.specs.Entries.{end_line, is_open}
use Rattle.vault_core.specs.Hearing.{HearsAll}
use Rattle.vaultctl_replay.specs.Journal.{AreRecords, Hears, IsJournal, IsRest, Lacks, LeadTo, Records}
use Rattle.vaultctl_replay.specs.declared.journal.Journal.{Journal}
use Rattle.vaultctl_replay.specs.declared.state.JournalState.{JournalState}
use Rattle.vaultctl_replay.specs.declared.state.JournalState.TheVariants.{Open, Ended, Lost}
use Rattle.vaultctl_replay.proofs.Notes.{journal-of, no-lf-at-the-end}
use Rattle.vaultctl_replay.specs.Lines.{AskSoFar, HasNoLf, Splits, ended, last_of}
use Rattle.vaultctl_replay.specs.Runs.{Runs}

-- ---- what a journal's lines ask for

-- the lines of these bytes, and then those of other bytes
pub record Parts (bytes : List ℕ) (cs : List Timed) (after : List ℕ) (more : List (List ℕ)) (rest : List ℕ) : Type 0 where
  pub lines : List (List ℕ)
  pub splits : Splits (bytes ++ after) lines rest
  pub asked : map line_of lines ≡ map (λ c. line.Command c) cs ++ map line_of more

split : (bytes : List ℕ) (cs : List Timed) (after : List ℕ) (more : List (List ℕ)) (rest : List ℕ) → Records bytes cs → Splits after more rest → Parts bytes cs after more rest
split bytes [] after more rest e others =
    record { lines = more; splits = subst (λ b. Splits (b ++ after) more rest) (sym e) others; asked = refl }
split bytes (c ∷ cs) after more rest (first, later, (text, no_lf, asks, is), whole, records) others =
    let past = split later cs after more rest records others in
    record {
      lines = text ∷ past.lines;
      splits = record {
        whole = ap (λ b. b ++ after) whole ∙ append_assoc first later after ∙ ap₂ (λ a b. a ++ b) is past.splits.whole ∙ sym (append_assoc (ended text) (flat_map ended past.lines) rest);
        each = All-cons HasNoLf text past.lines no_lf past.splits.each;
        last = past.splits.last;
      };
      asked = ap₂ (λ a b. a ∷ b) asks past.asked;
    }

abbrev pub OneReading : Type 0
OneReading = (input : List ℕ) (lines others : List (List ℕ)) (rest other : List ℕ) → Splits input lines rest → Splits input others other → (lines ≡ others) × (rest ≡ other)

-- what is asked so far is what the lines that end ask for, where there is no rest, or the end isn't reached
asks : OneReading → (AtEnd : Type 0) (bytes : List ℕ) (lines : List (List ℕ)) (rest : List ℕ) (asked : List Line) → Splits bytes lines rest → (rest ≡ []) ⊎ (AtEnd → ⊥) → AskSoFar AtEnd bytes asked → asked ≡ map line_of lines
asks one AtEnd bytes lines rest asked own whole (inl (ls, r, splits, is)) = is ∙ ap (map line_of) (one bytes ls lines r rest splits own).0
asks one AtEnd bytes lines rest asked own (inr never) (inr (at_end, later)) = absurd (never at_end)
asks one AtEnd bytes lines rest asked own (inl none) (inr (at_end, (ls, r, splits, is))) =
    let same = one bytes ls lines r rest splits own in
    is ∙ ap₂ (λ a b. map line_of a ++ last_of b) same.0 (same.1 ∙ none) ∙ append-nil (map line_of lines)

-- ---- commands that are carried out one after another are a run; then lines are refused

abbrev refusals : List Refusal → List Reply
refusals xs = map (λ x. reply.Refused x) xs

refused-run : (Honest : Type 0) (v w : Vault) (n m : ℕ) (xs : List Refusal) (qs : List Reply) → Runs Honest v n (map (λ x. line.Refused x) xs) qs w m → (qs ≡ refusals xs) × (w ≡ v)
refused-run Honest v w n m [] qs h = (h.0, h.1)
refused-run Honest v w n m (x ∷ xs) qs (mid, between, first, others, answered, later, is) =
    let rest = refused-run Honest mid w between m xs others later in
    (is ∙ ap₂ (λ a b. a ++ b) answered.0 rest.0, rest.1 ∙ answered.1)

run-of : (Honest : Type 0) → Honest → (v w : Vault) (n m : ℕ) (cs : List Timed) (xs : List Refusal) (qs : List Reply) → Runs Honest v n (map (λ c. line.Command c) cs ++ map (λ x. line.Refused x) xs) qs w m
    → (ps : List Reply) × (qs ≡ ps ++ refusals xs) × IsRun v cs ps w
run-of Honest honest v w n m [] xs qs h = let rest = refused-run Honest v w n m xs qs h in ([], rest.0, rest.1)
run-of Honest honest v w n m (c ∷ cs) xs qs (mid, between, first, others, (r, step, one, counted), later, is) =
    let rest = run-of Honest honest mid w between m cs xs others later in
    (r ∷ rest.0, is ∙ ap₂ (λ a b. a ++ b) one rest.1, (mid, step honest, rest.2))

clear-more : (b : Bool) (ps qs : List Reply) → (list_any reports_fault (ps ++ qs) ≡ false → list_any reports_fault ps ≡ false) → b || list_any reports_fault (ps ++ qs) ≡ false → b || list_any reports_fault ps ≡ false
clear-more true ps qs later e = e
clear-more false ps qs later e = later e

clear-front : (ps qs : List Reply) → list_any reports_fault (ps ++ qs) ≡ false → list_any reports_fault ps ≡ false
clear-front [] qs e = refl
clear-front (p ∷ ps) qs e = clear-more (reports_fault p) ps qs (clear-front ps qs) e

-- ---- a run in two parts

run-split : (n : ℕ) (v v' : Vault) (cs : List Timed) (rs : List Reply) → IsRun v cs rs v' → (mid : Vault) × IsRun v (take n cs) (take n rs) mid × IsRun mid (drop n cs) (drop n rs) v'
run-split zero v v' cs rs h = (v, refl, h)
run-split (suc n) v v' [] [] h = (v, refl, h)
run-split (suc n) v v' [] (r ∷ rs) h = absurd h
run-split (suc n) v v' (c ∷ cs) [] h = absurd h
run-split (suc n) v v' (c ∷ cs) (r ∷ rs) (mid, step, later) =
    let rest = run-split n mid v' cs rs later in
    (rest.0, (mid, step, rest.1), rest.2)

-- ---- the vault

abbrev pub NowhereElse : Type 0
NowhereElse = (v v' w : Vault) (cs : List Timed) (rs qs : List Reply) → IsRun v cs rs v' → list_any is_cut rs ≡ false → IsRun v (changing cs rs) qs w → list_any reports_fault qs ≡ false → (w ≡ v') × (qs ≡ filter is_change rs)

abbrev pub IsRefused : Type 0
IsRefused = line_of end_line ≡ line.Refused MalformedBody

module _ {K : Type 0} (g : Ghosts K) (nowhere : NowhereElse) (one : OneReading) (refused : IsRefused) where
  -- a line for each change of a run, and then lines that are refused, and a rest
  lead-by : (state : JournalState) (v v' : Vault) (lines after : List ℕ) (cs : List Timed) (rs : List Reply) (more : List (List ℕ)) (rest : List ℕ) (xs : List Refusal)
      → IsRun v cs rs v' → AreRecords lines cs rs → Splits after more rest → map line_of more ≡ map (λ x. line.Refused x) xs → (rest ≡ []) ⊎ ((state ≢ Lost) → ⊥) → LeadTo g state (lines ++ after) v v'
  lead-by state v v' lines after cs rs more rest xs run (records, whole) others are_refused no_more copy copy' asked qs honest is_copy ask runs clear =
      let own = split lines (changing cs rs) after more rest records others in
      let is = asks one (state ≢ Lost) (lines ++ after) own.lines rest asked own.splits no_more ask ∙ own.asked ∙ ap (λ l. map (λ c. line.Command c) (changing cs rs) ++ l) are_refused in
      let given = subst (λ u. Runs (g.is_honest copy') u (g.count copy) asked qs (g.vault copy') (g.count copy')) is_copy runs in
      let made = run-of (g.is_honest copy') honest v (g.vault copy') (g.count copy) (g.count copy') (changing cs rs) xs qs
      (subst (λ l. Runs (g.is_honest copy') v (g.count copy) l qs (g.vault copy') (g.count copy')) is given) in
      (nowhere v v' (g.vault copy') cs rs made.0 run whole made.2 (clear-front made.0 (refusals xs) (subst (λ l. list_any reports_fault l ≡ false) made.1 clear))).0

  lead-on : (state : JournalState) (v v' : Vault) (lines : List ℕ) (cs : List Timed) (rs : List Reply) → IsRun v cs rs v' → AreRecords lines cs rs → LeadTo g state (lines ++ []) v v'
  lead-on state v v' lines cs rs run records =
      lead-by state v v' lines [] cs rs [] [] [] run records (record { whole = refl; each = All-nil HasNoLf; last = All-nil (λ b. b ≢ 10) }) refl (inl refl)

  lead-to-end : (state : JournalState) (v v' : Vault) (lines : List ℕ) (cs : List Timed) (rs : List Reply) → IsRun v cs rs v' → AreRecords lines cs rs → LeadTo g state (lines ++ ended end_line) v v'
  lead-to-end state v v' lines cs rs run records =
      lead-by state v v' lines (ended end_line) cs rs (end_line ∷ []) [] (MalformedBody ∷ []) run records
      (record { whole = refl; each = All-cons HasNoLf end_line [] no-lf-at-the-end (All-nil HasNoLf); last = All-nil (λ b. b ≢ 10) }) (ap (λ l. l ∷ []) refused) (inl refl)

  lead-to-part : (v v' : Vault) (lines part : List ℕ) (cs : List Timed) (rs : List Reply) → IsRun v cs rs v' → AreRecords lines cs rs → HasNoLf part → LeadTo g Lost (lines ++ part) v v'
  lead-to-part v v' lines part cs rs run records no_lf =
      lead-by Lost v v' lines part cs rs [] part [] run records (record { whole = refl; each = All-nil HasNoLf; last = no_lf }) refl (inr (λ never. never refl))

  -- at most one command
  one-step : (there now : Vault) (cs : List Timed) (rs : List Reply) → length cs ≤ 1 → IsRun there cs rs now → (moment : Option ℕ) × AtMostOne moment there now
  one-step there now [] [] few h = (None, inl h)
  one-step there now [] (r ∷ rs) few h = absurd h
  one-step there now (c ∷ cs) [] few h = absurd h
  one-step there now (c ∷ []) (r ∷ []) few (mid, step, later) = (Some c.at, inr (c.at, c.who, c.command, r, refl, subst (λ w. IsStep there c.at c.who c.command r w) (sym later) step))
  one-step there now (c ∷ []) (r ∷ q ∷ rs) few (mid, step, later) = absurd later
  one-step there now (c ∷ d ∷ cs) (r ∷ rs) few h = absurd (omega (arith, few))

  lacking : (state : JournalState) (there now : Vault) (rest : List ℕ) (cs : List Timed) (rs : List Reply) → IsRest state rest cs → IsRun there cs rs now → Lacks state there now
  lacking Open there now rest [] [] ends h = h
  lacking Open there now rest [] (r ∷ rs) ends h = absurd h
  lacking Open there now rest (c ∷ cs) rs ends h = absurd cc
  lacking Ended there now rest cs rs ends h = one-step there now cs rs (omega (arith, ends.1)) h
  lacking Lost there now rest cs rs ends h = one-step there now cs rs ends.1 h

  lead-rest : (state : JournalState) (v v' : Vault) (lines rest : List ℕ) (cs unheard : List Timed) (rs : List Reply) → IsRun v cs rs v' → AreRecords lines cs rs → IsRest state rest unheard → LeadTo g state (lines ++ rest) v v'
  lead-rest Open v v' lines rest cs unheard rs run records (none, all) = subst (λ b. LeadTo g Open (lines ++ b) v v') (sym none) (lead-on Open v v' lines cs rs run records)
  lead-rest Ended v v' lines rest cs unheard rs run records (is, one) = subst (λ b. LeadTo g Ended (lines ++ b) v v') (sym is) (lead-to-end Ended v v' lines cs rs run records)
  lead-rest Lost v v' lines rest cs unheard rs run records (inl no_lf, few) = lead-to-part v v' lines rest cs rs run records no_lf
  lead-rest Lost v v' lines rest cs unheard rs run records (inr is, few) = subst (λ b. LeadTo g Lost (lines ++ b) v v') (sym is) (lead-to-end Lost v v' lines cs rs run records)

  lead-of : (state : JournalState) (bytes : List ℕ) (v v' : Vault) (cs : List Timed) (rs : List Reply) → IsRun v cs rs v' → IsJournal state bytes cs rs → (there : Vault) × Lacks state there v' × LeadTo g state bytes v there
  lead-of state bytes v v' cs rs run j =
      let parts = run-split j.n v v' cs rs run in (
        parts.0,
        lacking state parts.0 v' j.rest (drop j.n cs) (drop j.n rs) j.ends parts.2,
        subst (λ b. LeadTo g state b v parts.0) (sym j.whole) (lead-rest state v parts.0 j.lines j.rest (take j.n cs) (drop j.n cs) (take j.n rs) parts.1 j.records j.ends),
      )

  pub lead : {W : Type 0} (w : Writing W) → (j j' : Journal W) (v v' : Vault) (old new : List ℕ) → j.state ≡ Open → w.contents j.writer ≡ Some old → w.contents j'.writer ≡ Some new → HearsAll (λ h. is_open h.state) (Hears w) j j' v v'
      → (text : List ℕ) × (new ≡ old ++ text) × (there : Vault) × Lacks j'.state there v' × LeadTo g j'.state text v there
  lead w j j' v v' old new opened before after (cs, rs, run, heard) =
      let made = journal-of w cs rs j j' old new opened before after heard in
      let led = lead-of j'.state made.0 v v' cs rs run made.2 in
      (made.0, made.1, led.0, led.1, led.2)

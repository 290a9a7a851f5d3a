-- What is written of commands that a journal hears of, one after another.
use Rattle.std.proofs.Common.{◌≡◌, ℕ, zero, suc, Bool, true, false, true≢false, List, [], ◌∷◌, ◌++◌, length, refl, sym, ◌∙◌, ap, subst, inl, inr, append_assoc, append-nil, take, arith}
use Rattle.std.specs.Prelude.{◌||◌, ◌&&◌, Option, Some, None, ◌≢◌}
use Rattle.std.specs.Io.KnownBytes.{Appends, Keeps}
use Rattle.std.specs.declared.io.Write.{Ghosts as Writing}
use Rattle.std.proofs.lemmas.List.Elements.{All-from_recursion, All-nil}
use Rattle.vault_core_model.specs.declared.command.Timed.{Timed}
use Rattle.vault_core_model.specs.declared.reply.Reply.{Reply}
use Rattle.vault_core_model.specs.declared.reply.Reply.TheVariants.{Done, Refused, Stopped}
use Rattle.vault_core_model.specs.declared.reply.Stop.TheVariants.{Memory, Device, VaultFull}
use Rattle.vaultctl_replay.specs.Changes.{changing, is_change, is_cut, with_if}
use Rattle.vaultctl_replay.specs.Entries.{Hearing, IsEntry, IsRecord, Noted, end_line, is_open}
use Rattle.vault_core.specs.Hearing.{AreHeard}
use Rattle.vaultctl_replay.specs.Journal.{AreRecords, Hears, IsJournal, IsRest, Records}
use Rattle.vaultctl_replay.specs.declared.journal.Journal.{Journal}
use Rattle.vaultctl_replay.specs.declared.state.JournalState.{JournalState}
use Rattle.vaultctl_replay.specs.declared.state.JournalState.TheVariants.{Open, Ended, Lost}
use Rattle.vaultctl_replay.proofs.Parts.{part-of}
use Rattle.vaultctl_replay.specs.Lines.{HasNoLf}

-- ---- lines of a run with one command more in front

-- what changed nothing is no part of a run that was made
uncut : (r : Reply) → is_change r ≡ false → is_cut r ≡ false
uncut (Done a) e = refl
uncut (Refused x) e = refl
uncut (Stopped n Memory) e = e
uncut (Stopped n Device) e = e
uncut (Stopped n VaultFull) e = refl

neither : (a b : Bool) → a ≡ false → b ≡ false → a || b ≡ false
neither true b e f = absurd cc
neither false b e f = f

module _ (c : Timed) (r : Reply) (cs : List Timed) (rs : List Reply) where
  without : (bytes : List ℕ) → is_change r ≡ false → AreRecords bytes cs rs → AreRecords bytes (c ∷ cs) (r ∷ rs)
  without bytes e (records, whole) = (subst (λ b. Records bytes (with_if b c (changing cs rs))) (sym e) records, neither (is_cut r) _ (uncut r e) whole)

  with_line : (first bytes : List ℕ) → is_change r ≡ true → is_cut r ≡ false → IsRecord c first → AreRecords bytes cs rs → AreRecords (first ++ bytes) (c ∷ cs) (r ∷ rs)
  with_line first bytes e f record_is (records, whole) =
      (subst (λ b. Records (first ++ bytes) (with_if b c (changing cs rs))) (sym e) (first, bytes, record_is, refl, records), neither (is_cut r) _ f whole)

  -- a journal with one command more in front, and of it this
  longer : (state : JournalState) (first bytes : List ℕ) → ((lines : List ℕ) (heard : List Timed) (replies : List Reply) → AreRecords lines heard replies → AreRecords (first ++ lines) (c ∷ heard) (r ∷ replies))
      → IsJournal state bytes cs rs → IsJournal state (first ++ bytes) (c ∷ cs) (r ∷ rs)
  longer state first bytes more j = record {
    lines = first ++ j.lines;
    rest = j.rest;
    n = suc j.n;
    whole = ap (λ t. first ++ t) j.whole ∙ sym (append_assoc first j.lines j.rest);
    records = more j.lines (take j.n cs) (take j.n rs) j.records;
    ends = j.ends;
  }

  -- no line, and a rest
  pub unwritten : (state : JournalState) (bytes : List ℕ) → IsRest state bytes (c ∷ cs) → IsJournal state bytes (c ∷ cs) (r ∷ rs)
  unwritten state bytes ends = record { lines = []; rest = bytes; n = zero; whole = refl; records = (refl, refl); ends = ends }

  -- a line, and no rest
  pub written : (state : JournalState) (bytes : List ℕ) → is_change r ≡ true → is_cut r ≡ false → IsRecord c bytes → IsRest state [] cs → IsJournal state bytes (c ∷ cs) (r ∷ rs)
  written state bytes e f is ends = record {
    lines = bytes;
    rest = [];
    n = suc zero;
    whole = sym (append-nil bytes);
    records = (subst (λ b. Records bytes (with_if b c [])) (sym e) (bytes, [], is, sym (append-nil bytes), refl), neither (is_cut r) false f refl);
    ends = ends;
  }

nothing-yet : (state : JournalState) → state ≡ Open → IsJournal state [] [] []
nothing-yet state e = subst (λ s. IsJournal s [] [] []) (sym e) (record { lines = []; rest = []; n = zero; whole = refl; records = (refl, refl); ends = (refl, refl) })

-- ---- the line of a change

pub no-lf-at-the-end : HasNoLf end_line
no-lf-at-the-end = All-from_recursion (λ b. b ≢ 10) end_line (grind arith)

-- ---- what is heard

module _ {W : Type 0} (g : Writing W) where
  abbrev bytes_of : Journal W → Option (List ℕ)
  bytes_of j = g.contents j.writer

  abbrev Made : JournalState → List ℕ → List ℕ → List Timed → List Reply → Type 0
  Made state old new cs rs = (text : List ℕ) × (new ≡ old ++ text) × IsJournal state text cs rs

  abbrev pub Heard : Journal W → Journal W → List Timed → List Reply → Type 0
  Heard j j' cs rs = AreHeard (λ h. is_open h.state) (Hears g) j j' cs rs

  -- no command is carried out once a journal isn't open
  closed : (cs : List Timed) (rs : List Reply) (j j' : Journal W) → is_open j.state ≡ false → Heard j j' cs rs → (cs ≡ []) × (j' ≡ j)
  closed [] [] j j' e h = (refl, h)
  closed [] (r ∷ rs) j j' e h = absurd h
  closed (c ∷ cs) [] j j' e h = absurd h
  closed (c ∷ cs) (r ∷ rs) j j' e h = absurd (true≢false (sym h.0 ∙ e))

  known : (a b : List ℕ) → Some a ≡ Some b → a ≡ b
  known a b e = cc

  -- a command that is heard of while the journal is open, and those after it
  module _ (c : Timed) (r : Reply) (cs : List Timed) (rs : List Reply) (mid j' : Journal W) (old new : List ℕ) (after : bytes_of j' ≡ Some new) (later : Heard mid j' cs rs)
      (goes_on : (between : List ℕ) → mid.state ≡ Open → bytes_of mid ≡ Some between → Made j'.state between new cs rs) where
    stayed : (w : Option (List ℕ)) → bytes_of mid ≡ w → is_change r ≡ false → mid.state ≡ Open → Keeps (Some old) w → Made j'.state old new (c ∷ cs) (r ∷ rs)
    stayed None e no_change opened kept = absurd kept
    stayed (Some between) e no_change opened kept =
        let rest = goes_on between opened e in
        (rest.0, rest.1 ∙ ap (λ t. t ++ rest.0) kept, longer c r cs rs j'.state [] rest.0 (λ lines heard replies. without c r heard replies lines no_change) rest.2)

    recorded : (w : Option (List ℕ)) (text : List ℕ) → bytes_of mid ≡ w → is_change r ≡ true → mid.state ≡ Open → (is_cut r ≡ false) × IsRecord c text → Appends (Some old) w text → Made j'.state old new (c ∷ cs) (r ∷ rs)
    recorded None text e change opened is wrote = absurd wrote
    recorded (Some between) text e change opened (cut, is) wrote =
        let rest = goes_on between opened e in (
          text ++ rest.0,
          rest.1 ∙ ap (λ t. t ++ rest.0) wrote ∙ append_assoc old text rest.0,
          longer c r cs rs j'.state text rest.0 (λ lines heard replies. with_line c r heard replies text lines change cut is) rest.2,
        )

    -- no command is carried out after that
    last : (state : JournalState) (w : Option (List ℕ)) (text : List ℕ) → is_open state ≡ false → mid.state ≡ state → bytes_of mid ≡ w → Appends (Some old) w text → (cs ≡ [] → IsJournal state text (c ∷ cs) (r ∷ rs)) → Made j'.state old new (c ∷ cs) (r ∷ rs)
    last state None text shut is e wrote journal = absurd wrote
    last state (Some between) text shut is e wrote journal =
        let rest = closed cs rs mid j' (ap is_open is ∙ shut) later in
        let same : new ≡ between = known new between (sym after ∙ ap bytes_of rest.1 ∙ e) in
        let now : j'.state ≡ state = ap (λ x. x.state) rest.1 ∙ is in
        (text, same ∙ wrote, subst (λ s. IsJournal s text (c ∷ cs) (r ∷ rs)) (sym now) (journal rest.0))

    alone : cs ≡ [] → length (c ∷ cs) ≡ 1
    alone none = ap (λ l. length (c ∷ l)) none

    no-more : cs ≡ [] → length cs ≡ 0
    no-more none = ap length none

    begun : (is_last : Bool) (text sent unsent : List ℕ) → is_change r ≡ true → IsEntry is_last (is_cut r) c text → text ≡ sent ++ unsent → cs ≡ [] → IsJournal Lost sent (c ∷ cs) (r ∷ rs)
    begun true text sent unsent change (why, is) cut none =
        unwritten c r cs rs Lost sent (elim (part-of end_line sent unsent no-lf-at-the-end (sym is ∙ cut)) [ inl whole ↦ inr whole | inr part ↦ inl part ], omega (arith, alone none))
    begun false text sent unsent change (uncut_is, (line, no_lf, asks, is)) cut none =
        elim (part-of line sent unsent no_lf (sym is ∙ cut)) [
          | inl whole ↦ written c r cs rs Lost sent change uncut_is (line, no_lf, asks, whole) (inl (All-nil (λ b. b ≢ 10)), omega (arith, no-more none))
          | inr part ↦ unwritten c r cs rs Lost sent (inl part, omega (arith, alone none))
        ]

    lost : (w : Option (List ℕ)) → bytes_of mid ≡ w → is_change r ≡ true → mid.state ≡ Lost → Noted Lost (is_cut r) c (Some old) w → Made j'.state old new (c ∷ cs) (r ∷ rs)
    lost None e change is (inl kept) = absurd kept
    lost (Some between) e change is (inl kept) =
        last Lost (Some between) [] refl is e (kept ∙ sym (append-nil old)) (λ none. unwritten c r cs rs Lost [] (inl (All-nil (λ b. b ≢ 10)), omega (arith, alone none)))
    lost w e change is (inr (is_last, text, entry, (sent, unsent, cut, wrote))) = last Lost w sent refl is e wrote (begun is_last text sent unsent change entry cut)

    noted : (state : JournalState) → mid.state ≡ state → is_change r ≡ true → Noted state (is_cut r) c (Some old) (bytes_of mid) → Made j'.state old new (c ∷ cs) (r ∷ rs)
    noted Open is change (text, entry, wrote) = recorded (bytes_of mid) text refl change is entry wrote
    noted Ended is change (text, entry, wrote) = last Ended (bytes_of mid) text refl is refl wrote (λ none. unwritten c r cs rs Ended text (entry.1, alone none))
    noted Lost is change h = lost (bytes_of mid) refl change is h

    heard : (change : Bool) → is_change r ≡ change → Hearing change Open mid.state (is_cut r) c (Some old) (bytes_of mid) → Made j'.state old new (c ∷ cs) (r ∷ rs)
    heard true e h = noted mid.state refl e h
    heard false e (opened, kept) = stayed (bytes_of mid) refl e opened kept

  pub journal-of : (cs : List Timed) (rs : List Reply) (j j' : Journal W) (old new : List ℕ) → j.state ≡ Open → bytes_of j ≡ Some old → bytes_of j' ≡ Some new → Heard j j' cs rs → Made j'.state old new cs rs
  journal-of [] [] j j' old new opened before after h =
      ([], known new old (sym after ∙ ap bytes_of h ∙ before) ∙ sym (append-nil old), nothing-yet j'.state (ap (λ x. x.state) h ∙ opened))
  journal-of [] (r ∷ rs) j j' old new opened before after h = absurd h
  journal-of (c ∷ cs) [] j j' old new opened before after h = absurd h
  journal-of (c ∷ cs) (r ∷ rs) j j' old new opened before after (on, mid, h, later) =
      let is : Hearing (is_change r) Open mid.state (is_cut r) c (bytes_of j) (bytes_of mid) =
      subst (λ s. Hearing (is_open s && is_change r) s mid.state (is_cut r) c (bytes_of j) (bytes_of mid)) opened h in
      let known_is : Hearing (is_change r) Open mid.state (is_cut r) c (Some old) (bytes_of mid) = subst (λ w. Hearing (is_change r) Open mid.state (is_cut r) c w (bytes_of mid)) before is in
      heard c r cs rs mid j' old new after later (λ between on_still now. journal-of cs rs mid j' between new on_still now after later) (is_change r) refl known_is

-- Parts of the text of events, one after another.
use Rattle.std.proofs.Common.{◌≡◌, ℕ, suc, ◌+◌, ◌-◌, ◌<◌, List, ◌++◌, length, take, drop, refl, sym, ap, ◌∙◌, append_assoc, length-drop, arith}
use Rattle.std.specs.Prelude.{Option, Some, None}
use Rattle.vault_core_model.specs.declared.records.History.{History}
use Rattle.vault_core_model.specs.Vault.{Vault, history_of}
use Rattle.vault_core_model.specs.Sound.{Sound}
use Rattle.std.proofs.lemmas.List.Concat.{flat_map-append}
use Rattle.vault_core_evidence.proofs.ByIds.{get-drop}
use Rattle.vault_core_evidence.proofs.PartLemmas.{part-and-rest, part-is-rest}
use Rattle.vault_core_evidence.specs.Events.{events_asked_of}
use Rattle.vault_core_evidence.specs.Parts.{next_of, part}
use Rattle.vault_files_events.specs.EventsText.{asked_found, asked_in, event_rows}
use Rattle.vault_files_events.specs.Page.{rest_text}
use Rattle.vault_files_events.specs.Past.{asked_of_past, past_of}
use Rattle.vault_files_events.specs.declared.past.Past.{Past}
use Rattle.vault_files_events.proofs.Adding.{rows_append}
use Rattle.vault_files_events.proofs.Walking.{history_at, one_more}

-- ---- the records of one entry more

pub entry_after : (before : Option ℕ) (v : Vault) (after i id : ℕ) → Sound v → i < length v.histories - after → after + (i + 1) ≡ id
    → asked_in before (take (i + 1) (drop after v.histories)) ≡ asked_in before (take i (drop after v.histories)) ++ asked_found before (history_of v id)
entry_after before v after i id sound low same =
    let rest = drop after v.histories in
    let next : i + 1 ≡ suc i = omega arith in
    let number : 1 + (after + i) ≡ id = omega (arith, same) in
    let inside : i < length rest = omega (arith, low, length-drop after v.histories) in
    ap (λ n. asked_in before (take n rest)) next
    ∙ (one_more before rest i inside
    ∙ ap (λ (o : Option History). asked_in before (take i rest) ++ asked_found before o) (get-drop after i v.histories ∙ (sym (history_at v (after + i) sound) ∙ ap (history_of v) number)))

pub rows_more : (before : Option ℕ) (v : Vault) (after i id : ℕ) (start so_far now : List ℕ) → Sound v → i < length v.histories - after → after + (i + 1) ≡ id
    → so_far ≡ start ++ event_rows (asked_in before (take i (drop after v.histories))) → now ≡ so_far ++ event_rows (asked_found before (history_of v id))
    → now ≡ start ++ event_rows (asked_in before (take (i + 1) (drop after v.histories)))
rows_more before v after i id start so_far now sound low same first next =
    let front = asked_in before (take i (drop after v.histories)) in
    let back = asked_found before (history_of v id) in
    let whole = ap event_rows (entry_after before v after i id sound low same) ∙ rows_append front back in
    next
    ∙ (ap (λ l. l ++ event_rows back) first
    ∙ (append_assoc start (event_rows front) (event_rows back)
    ∙ ap (λ l. start ++ l) (sym whole)))

-- what is asked for of what was read
past_asked : (asked : Option ℕ) (o : Option History) → asked_of_past asked (past_of o) ≡ asked_found asked o
past_asked asked None = refl
past_asked None (Some h) = refl
past_asked (Some m) (Some h) = refl

pub rows_of_past : (asked : Option ℕ) (o : Option History) (past : Option Past) (so_far now : List ℕ) → past ≡ past_of o → now ≡ so_far ++ event_rows (asked_of_past asked past) → now ≡ so_far ++ event_rows (asked_found asked o)
rows_of_past asked o past so_far now is added = added ∙ ap (λ es. so_far ++ event_rows es) (ap (asked_of_past asked) is ∙ past_asked asked o)

-- ---- the parts are the whole

pub next-rest : (v : Vault) (m after next : ℕ) → next_of (length v.histories) after ≡ Some next → rest_text m after v ≡ event_rows (asked_in (Some m) (part after v)) ++ rest_text m next v
next-rest v m after next is =
    ap (λ (l : List History). event_rows (asked_in (Some m) l)) (part-and-rest v after next is)
    ∙ (ap event_rows (flat_map-append (events_asked_of (Some m)) (part after v) (drop next v.histories))
    ∙ rows_append (asked_in (Some m) (part after v)) (asked_in (Some m) (drop next v.histories)))

pub last-rest : (v : Vault) (m after : ℕ) → next_of (length v.histories) after ≡ None → rest_text m after v ≡ event_rows (asked_in (Some m) (part after v))
last-rest v m after is = ap (λ (l : List History). event_rows (asked_in (Some m) l)) (part-is-rest v after is)

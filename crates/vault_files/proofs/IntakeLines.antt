-- A line of an intake batch that is given again.
use Rattle.std.proofs.Common.{◌≡◌, ℕ, ◌+◌, ◌≤◌, ◌⊎◌, List, ◌∙◌, Bool, true, false, Option, Some, None, Result, Ok, Err, refl, sym, ap, subst, arith, inl, inr}
use Rattle.std.proofs.lemmas.Bool.{eq-eqb, le-leb, leb-true, lt-ltb, ltb-true, and_from, false_from_ne_true}
use Rattle.std.proofs.lemmas.Slice.Eq.{bytes_eq-Decides}
use Rattle.std.specs.Prelude.{◌||◌, not, is_ok, is_some, nat_le, nat_lt, ◌==◌, unwrap_or, if◌then◌else◌}
use Rattle.std.specs.Str.{bytes_eq}
use Rattle.vault_base.specs.declared.content.Content.{Content}
use Rattle.vault_base.specs.Content.{digest, is_external, size}
use Rattle.vault_base.specs.Days.{last_moment}
use Rattle.vault_base.specs.declared.refusal.Refusal.{Refusal}
use Rattle.vault_base.specs.declared.refusal.Refusal.TheVariants.{ClockBack, VaultFull, RetentionOutOfRange, QuotaExceeded, InvalidArgument, IntakeConflict}
use Rattle.vault_base.specs.Limits.{most_ids}
use Rattle.vault_lock.specs.declared.lock.Lock.{Lock}
use Rattle.vault_lock.specs.declared.retention.Mode.{Mode}
use Rattle.vault_lock.specs.declared.retention.Mode.TheVariants.{Governance, Compliance}
use Rattle.vault_lock.specs.declared.retention.Retention.{Retention}
use Rattle.vault_lock.specs.Retention.{is_mode, first_lock}
use Rattle.vault_core_model.specs.declared.access.Access.{Access}
use Rattle.vault_core_model.specs.declared.records.BucketConfig.{BucketConfig}
use Rattle.vault_core_model.specs.declared.records.Note.{Note}
use Rattle.vault_core_model.specs.declared.change.Change.TheVariants.{Admit}
use Rattle.vault_core_model.specs.declared.command.Intake.{Intake}
use Rattle.vault_core_model.specs.declared.command.Put.{Put}
use Rattle.vault_core_model.specs.declared.reply.Answer.{Answer}
use Rattle.vault_core_model.specs.declared.reply.Answer.TheVariants as answer
use Rattle.vault_core_model.specs.declared.reply.TakenIn.{TakenIn}
use Rattle.vault_core_model.specs.Change.{changed}
use Rattle.vault_core_model.specs.Checks.{◌>>=◌, check, found, has_place, small_enough, ends_later_if_given, lock_at_admission, within_quota, free_id}
use Rattle.vault_core_model.specs.EntryOutcomes.{access_to_put, new_version}
use Rattle.vault_core_model.specs.IntakeOutcome.{is_same_retention, is_same_hold, agrees, is_line, new_note, lock_to_take_in, take_in, intake_by, intake}
use Rattle.vault_core_model.specs.Totals.{admitted_bytes, received_bytes}
use Rattle.vault_core_model.specs.Vault.{Vault, note_of, next_id}
use Rattle.vault_files.proofs.Ends.{lock-before}
use Rattle.vault_files.proofs.Later.{IsLater, later-same, later-admitted, new_note-found, other_line}

-- the note of a command's line
abbrev pub note_for : Vault → Intake → Option Note
note_for v c = note_of v c.put.bucket c.batch c.line

-- ---- a new note agrees

same_retention : (r : Option Retention) → is_same_retention r r ≡ true
same_retention None = refl
same_retention (Some r) = and_from (is_mode r.mode r.mode) (r.until == r.until) (same_mode r.mode) (eq-eqb r.until r.until refl)
  where
    same_mode : (m : Mode) → is_mode m m ≡ true
    same_mode Governance = refl
    same_mode Compliance = refl

same_hold : (h : Option Bool) → is_same_hold h h ≡ true
same_hold None = refl
same_hold (Some true) = refl
same_hold (Some false) = refl

same_bytes : (a : List ℕ) → bytes_eq a a ≡ true
same_bytes a = (bytes_eq-Decides a a).1 refl

new_note-agrees : (id : ℕ) (c : Intake) → agrees (new_note id c) c.put ≡ true
new_note-agrees id c =
    and_from _ _ (same_bytes c.put.key)
    (and_from _ _ (eq-eqb (size c.put.content) (size c.put.content) refl)
    (and_from _ _ (same_bytes (digest c.put.content)) (and_from _ _ (same_retention c.put.retention) (same_hold c.put.hold))))

-- ---- who asks

-- of a vault with these callers and buckets the same caller is answered so, while the clock goes on
same_access : (v w : Vault) (t u : ℕ) (who : List ℕ) (c : Put) → nat_le v.last t ≡ true → nat_le w.last u ≡ true → w.callers ≡ v.callers → w.buckets ≡ v.buckets → access_to_put w u who c ≡ access_to_put v t who c
same_access v w t u who c early late callers buckets = rw (early, late, callers, buckets) refl

too_early : (v : Vault) (t : ℕ) (who : List ℕ) (c : Put) → nat_le v.last t ≡ false → access_to_put v t who c ≡ Err ClockBack
too_early v t who c back = rw back refl

in_time-ok : (v : Vault) (t : ℕ) (who : List ℕ) (c : Put) (a : Access) (b : Bool) → nat_le v.last t ≡ b → access_to_put v t who c ≡ Ok a → b ≡ true
in_time-ok v t who c a true is h = refl
in_time-ok v t who c a false is h = absurd (cc (too_early v t who c is))

-- ---- a line that was accepted

-- the caller may put, and the vault after it has a note of the line, which agrees and names that id
pub record IsAccepted (v : Vault) (t : ℕ) (who : List ℕ) (c : Intake) (id : ℕ) (after : Vault) : Type 0 where
  pub access : Access
  pub may : access_to_put v t who c.put ≡ Ok access
  pub note : Note
  pub noted : note_for after c ≡ Some note
  pub agreed : agrees note c.put ≡ true
  pub named : note.id ≡ id

-- what an accepted line does: its note was there and nothing is changed
record WasThere (v : Vault) (c : Intake) (x : Answer) (after : Vault) : Type 0 where
  note : Note
  there : note_for v c ≡ Some note
  agreed : agrees note c.put ≡ true
  stated : x ≡ answer.TakenIn (record { id = note.id; again = true })
  same : after ≡ v

-- or there was none, and it is admitted with one
record IsNew (v : Vault) (t : ℕ) (who : List ℕ) (c : Intake) (x : Answer) (after : Vault) : Type 0 where
  id : ℕ
  dept : List ℕ
  lock : Lock
  free : note_for v c ≡ None
  stated : x ≡ answer.TakenIn (record { id = id; again = false })
  made : after ≡ changed v t (Admit (record { history = new_version id t who dept c.put lock; note = Some (new_note id c) }))

-- either, of a caller who may put
record Does (v : Vault) (t : ℕ) (who : List ℕ) (c : Intake) (x : Answer) (after : Vault) : Type 0 where
  access : Access
  may : access_to_put v t who c.put ≡ Ok access
  does : WasThere v c x after ⊎ IsNew v t who c x after

-- an answer with the vault after it
abbrev answered : Answer → Vault → Result (Answer × Vault) Refusal
answered x v = Ok (x, v)

-- what the line of a note is reported, as the note agrees or not
abbrev stated_by : Bool → ℕ → Result TakenIn Refusal
stated_by b id = if b then Ok (record { id = id; again = true }) else Err IntakeConflict

same_pair : (x y : Answer) (v w : Vault) → answered x v ≡ answered y w → (y ≡ x) × (w ≡ v)
same_pair x y v w h =
    let e : (x, v) ≡ (y, w) = cc in
    (sym (ap (λ (p : Answer × Vault). p.0) e), sym (ap (λ (p : Answer × Vault). p.1) e))

by_agreement : (v : Vault) (c : Intake) (n : Note) (x : Answer) (after : Vault) (b : Bool) → agrees n c.put ≡ b
    → (stated_by b n.id >>= λ (taken : TakenIn). answered (answer.TakenIn taken) v) ≡ Ok (x, after)
    → (agrees n c.put ≡ true) × (x ≡ answer.TakenIn (record { id = n.id; again = true })) × (after ≡ v)
by_agreement v c n x after true is h =
    let same = same_pair (answer.TakenIn (record { id = n.id; again = true })) x v after h in
    (is, same.0, same.1)
by_agreement v c n x after false is h = absurd (cc h)

by_lock : (v : Vault) (t : ℕ) (who dept : List ℕ) (c : Intake) (x : Answer) (after : Vault) (lock : Result Lock Refusal) (id : Result ℕ Refusal)
    → note_for v c ≡ None
    → (lock >>= λ (l : Lock). id >>= λ (n : ℕ). answered (answer.TakenIn (record { id = n; again = false })) (changed v t (Admit (record { history = new_version n t who dept c.put l; note = Some (new_note n c) })))) ≡ Ok (x, after)
    → IsNew v t who c x after
by_lock v t who dept c x after (Err e) id free h = absurd (cc h)
by_lock v t who dept c x after (Ok l) (Err e) free h = absurd (cc h)
by_lock v t who dept c x after (Ok l) (Ok n) free h =
    let same = same_pair (answer.TakenIn (record { id = n; again = false })) x (changed v t (Admit (record { history = new_version n t who dept c.put l; note = Some (new_note n c) }))) after h in
    record { id = n; dept = dept; lock = l; free = free; stated = same.0; made = same.1 }

by_note : (v : Vault) (t : ℕ) (who : List ℕ) (c : Intake) (a : Access) (x : Answer) (after : Vault) (o : Option Note) → note_for v c ≡ o → intake_by v t who c a o ≡ Ok (x, after) → WasThere v c x after ⊎ IsNew v t who c x after
by_note v t who c a x after None is h = inr (by_lock v t who a.bucket.dept c x after (lock_to_take_in v t c a) (free_id v) is h)
by_note v t who c a x after (Some n) is h =
    let agreed = by_agreement v c n x after (agrees n c.put) refl h in
    inl (record { note = n; there = is; agreed = agreed.0; stated = agreed.1; same = agreed.2 })

by_access : (v : Vault) (t : ℕ) (who : List ℕ) (c : Intake) (x : Answer) (after : Vault) (r : Result Access Refusal) → access_to_put v t who c.put ≡ r → (r >>= λ a. intake_by v t who c a (note_for v c)) ≡ Ok (x, after) → Does v t who c x after
by_access v t who c x after (Err e) is h = absurd (cc h)
by_access v t who c x after (Ok a) is h = record { access = a; may = is; does = by_note v t who c a x after (note_for v c) refl h }

done-does : (v : Vault) (t : ℕ) (who : List ℕ) (c : Intake) (x : Answer) (after : Vault) → intake v t who c ≡ Ok (x, after) → Does v t who c x after
done-does v t who c x after h = by_access v t who c x after (access_to_put v t who c.put) refl h

-- what was accepted leaves a vault that goes on
pub done-later : (v : Vault) (t : ℕ) (who : List ℕ) (c : Intake) (x : Answer) (after : Vault) → intake v t who c ≡ Ok (x, after) → IsLater v after
done-later v t who c x after h = by_doing (done-does v t who c x after h).does
  where
    by_doing : WasThere v c x after ⊎ IsNew v t who c x after → IsLater v after
    by_doing (inl was) = later-same v after was.same
    by_doing (inr new) =
        let P : Vault → Type 0 = λ w. IsLater v w in
        subst P (sym new.made) (later-admitted v t (new_version new.id t who new.dept c.put new.lock) (new_note new.id c) new.free)

-- and the same note of every other line of the batch
pub done-other_lines : (v : Vault) (t : ℕ) (who : List ℕ) (c : Intake) (x : Answer) (after : Vault) (line : ℕ) → intake v t who c ≡ Ok (x, after) → (c.line ≡ line → ⊥) → note_of after c.put.bucket c.batch line ≡ note_of v c.put.bucket c.batch line
done-other_lines v t who c x after line h other = by_doing (done-does v t who c x after h).does
  where
    by_doing : WasThere v c x after ⊎ IsNew v t who c x after → note_of after c.put.bucket c.batch line ≡ note_of v c.put.bucket c.batch line
    by_doing (inl was) = rw (was.same) refl
    by_doing (inr new) = rw (new.made) (other_line v t (new_version new.id t who new.dept c.put new.lock) (new_note new.id c) c.put.bucket c.batch line other)

-- the last moment is the reading at most
pub done-last : (v : Vault) (t : ℕ) (who : List ℕ) (c : Intake) (x : Answer) (after : Vault) → intake v t who c ≡ Ok (x, after) → v.last ≤ t → after.last ≤ t
done-last v t who c x after h in_time = by_doing (done-does v t who c x after h).does
  where
    by_doing : WasThere v c x after ⊎ IsNew v t who c x after → after.last ≤ t
    by_doing (inl was) = rw (was.same) in_time
    by_doing (inr new) = rw (new.made) (omega arith)

-- what answers it is an id
pub done-taken : (v : Vault) (t : ℕ) (who : List ℕ) (c : Intake) (x : Answer) (after : Vault) → intake v t who c ≡ Ok (x, after) → (y : TakenIn) × (x ≡ answer.TakenIn y)
done-taken v t who c x after h = by_doing (done-does v t who c x after h).does
  where
    by_doing : WasThere v c x after ⊎ IsNew v t who c x after → (y : TakenIn) × (x ≡ answer.TakenIn y)
    by_doing (inl was) = (record { id = was.note.id; again = true }, was.stated)
    by_doing (inr new) = (record { id = new.id; again = false }, new.stated)

-- a line that is answered by an id was accepted
pub done-accepted : (v : Vault) (t : ℕ) (who : List ℕ) (c : Intake) (y : TakenIn) (after : Vault) → intake v t who c ≡ Ok (answer.TakenIn y, after) → IsAccepted v t who c y.id after
done-accepted v t who c y after h = by_doing (done-does v t who c (answer.TakenIn y) after h).does
  where
    may : Does v t who c (answer.TakenIn y) after
    may = done-does v t who c (answer.TakenIn y) after h

    by_doing : WasThere v c (answer.TakenIn y) after ⊎ IsNew v t who c (answer.TakenIn y) after → IsAccepted v t who c y.id after
    by_doing (inl was) = record {
      access = may.access;
      may = may.may;
      note = was.note;
      noted = rw (was.same) was.there;
      agreed = was.agreed;
      named = let stated : y ≡ record { id = was.note.id; again = true } = cc (was.stated) in sym (ap (λ (z : TakenIn). z.id) stated);
    }
    by_doing (inr new) = record {
      access = may.access;
      may = may.may;
      note = new_note new.id c;
      noted = rw (new.made) (new_note-found v t (new_version new.id t who new.dept c.put new.lock) (new_note new.id c) new.free);
      agreed = new_note-agrees new.id c;
      named = let stated : y ≡ record { id = new.id; again = false } = cc (new.stated) in sym (ap (λ (z : TakenIn). z.id) stated);
    }

-- ---- the same line again

-- it is answered by that id, and nothing is changed
pub accepted-again : (v after w : Vault) (t u : ℕ) (who : List ℕ) (c : Intake) (id : ℕ) → IsAccepted v t who c id after → w.callers ≡ v.callers → w.buckets ≡ v.buckets → IsLater after w → w.last ≤ u
    → intake w u who c ≡ Ok (answer.TakenIn (record { id = id; again = true }), w)
accepted-again v after w t u who c id was callers buckets later in_time =
    let early = in_time-ok v t who c.put was.access (nat_le v.last t) refl was.may in
    let may : access_to_put w u who c.put ≡ Ok was.access = same_access v w t u who c.put early (le-leb w.last u in_time) callers buckets ∙ was.may in
    let noted : note_for w c ≡ Some was.note = later.notes c.put.bucket c.batch c.line was.note was.noted in
    rw (may, noted, was.agreed, was.named) refl

-- ---- a line that was refused

passes-check : (b : Bool) (r : Refusal) → is_ok (check b r) ≡ b
passes-check true r = refl
passes-check false r = refl

-- where both tests pass that come first, the rest decides
bind_passes : {A B : Type 0} (r s : Result A Refusal) (f g : A → Result B Refusal) → (is_ok r ≡ true → is_ok s ≡ true) → ((x y : A) → is_ok (f x) ≡ true → is_ok (g y) ≡ true) → is_ok (r >>= f) ≡ true → is_ok (s >>= g) ≡ true
bind_passes (Ok x) (Ok y) f g first rest h = rest x y h
bind_passes (Ok x) (Err e) f g first rest h = absurd (cc (first refl))
bind_passes (Err e) s f g first rest h = absurd (cc h)

ends-before : (r : Option Retention) (t u : ℕ) → t ≤ u → is_ok (ends_later_if_given u r) ≡ true → is_ok (ends_later_if_given t r) ≡ true
ends-before None t u h later = refl
ends-before (Some r) t u h later =
    let ends = ltb-true u r.until (sym (passes-check (nat_lt u r.until) InvalidArgument) ∙ later) in
    passes-check (nat_lt t r.until) InvalidArgument ∙ lt-ltb t r.until (omega arith)

passes-found : {A : Type 0} (o : Option A) (r : Refusal) → is_ok (found o r) ≡ is_some o
passes-found None r = refl
passes-found (Some x) r = refl

lock-was : (b : BucketConfig) (r : Option Retention) (hold : Option Bool) (t u : ℕ) → t ≤ u → u ≤ last_moment → is_ok (lock_at_admission b r hold u) ≡ true → is_ok (lock_at_admission b r hold t) ≡ true
lock-was b r hold t u h top later =
    passes-found (first_lock b.default r (unwrap_or hold false) t) RetentionOutOfRange
    ∙ lock-before b.default r (unwrap_or hold false) t u h top (sym (passes-found (first_lock b.default r (unwrap_or hold false) u) RetentionOutOfRange) ∙ later)

quota-was : (v w : Vault) (dept : List ℕ) (size : ℕ) → IsLater v w → is_ok (within_quota w dept size) ≡ true → is_ok (within_quota v dept size) ≡ true
quota-was v w dept size later h =
    let before = admitted_bytes v dept + received_bytes v dept + size in
    let after = admitted_bytes w dept + received_bytes w dept + size in
    let fits = leb-true after 1000000000000 (sym (passes-check (nat_le after 1000000000000) QuotaExceeded) ∙ h) in
    passes-check (nat_le before 1000000000000) QuotaExceeded ∙ le-leb before 1000000000000 (omega (arith, later.got dept))

passes-id : (v : Vault) (b : Bool) → is_ok {T = ℕ} {E = Refusal} (if b then Ok (next_id v) else Err VaultFull) ≡ b
passes-id v true = refl
passes-id v false = refl

id-was : (v w : Vault) → IsLater v w → is_ok (free_id w) ≡ true → is_ok (free_id v) ≡ true
id-was v w later h =
    let free = leb-true (next_id w) most_ids (sym (passes-id w (nat_le (next_id w) most_ids)) ∙ h) in
    passes-id v (nat_le (next_id v) most_ids) ∙ le-leb (next_id v) most_ids (omega (arith, later.entries))

place-was : (v w : Vault) (content : Content) → w.external ≡ v.external → is_ok (has_place w content) ≡ true → is_ok (has_place v content) ≡ true
place-was v w content same passes =
    let P : Bool → Type 0 = λ external. is_ok (check (external || not (is_external content)) InvalidArgument) ≡ true in subst P same passes

-- a line that can be admitted later could have been admitted before
admitted-before : (v w : Vault) (t u : ℕ) (who : List ℕ) (c : Intake) (a : Access) → IsLater v w → t ≤ u → u ≤ last_moment → is_ok (take_in w u who c a) ≡ true → is_ok (take_in v t who c a) ≡ true
admitted-before v w t u who c a later h top =
    bind_passes (lock_to_take_in w u c a) (lock_to_take_in v t c a) _ _
    (bind_passes (check (is_line c.line) InvalidArgument) (check (is_line c.line) InvalidArgument) _ _ (λ same. same)
    (λ x y. bind_passes (has_place w c.put.content) (has_place v c.put.content) _ _ (place-was v w c.put.content later.external)
    (λ x y. bind_passes (small_enough c.put.content) (small_enough c.put.content) _ _ (λ same. same)
    (λ x y. bind_passes (ends_later_if_given u c.put.retention) (ends_later_if_given t c.put.retention) _ _ (ends-before c.put.retention t u h)
    (λ x y. bind_passes (lock_at_admission a.bucket c.put.retention c.put.hold u) (lock_at_admission a.bucket c.put.retention c.put.hold t) _ _ (lock-was a.bucket c.put.retention c.put.hold t u h top)
    (λ x y. bind_passes (within_quota w a.bucket.dept (size c.put.content)) (within_quota v a.bucket.dept (size c.put.content)) _ _ (quota-was v w a.bucket.dept (size c.put.content) later) (λ x y passed. refl)))))))
    (λ x y. bind_passes (free_id w) (free_id v) _ _ (id-was v w later) (λ i j passed. refl))

conflict-again : (v w : Vault) (c : Intake) (n : Note) (r : Refusal) (b : Bool) → agrees n c.put ≡ b
    → (stated_by b n.id >>= λ (taken : TakenIn). answered (answer.TakenIn taken) v) ≡ Err r
    → is_ok (stated_by b n.id >>= λ (taken : TakenIn). answered (answer.TakenIn taken) w) ≡ false
conflict-again v w c n r true is h = absurd (cc h)
conflict-again v w c n r false is h = refl

not_ok : {A : Type 0} (x : Result A Refusal) (r : Refusal) → x ≡ Err r → is_ok x ≡ false
not_ok x r h = rw h refl

refused-by_note : (v w : Vault) (t u : ℕ) (who : List ℕ) (c : Intake) (a : Access) (o : Option Note) (r : Refusal) → IsLater v w → t ≤ u → u ≤ last_moment → intake_by v t who c a o ≡ Err r → is_ok (intake_by w u who c a o) ≡ false
refused-by_note v w t u who c a None r later h top refused =
    false_from_ne_true (is_ok (take_in w u who c a)) (λ passes. absurd (cc (sym (not_ok (take_in v t who c a) r refused) ∙ admitted-before v w t u who c a later h top passes)))
refused-by_note v w t u who c a (Some n) r later h top refused = conflict-again v w c n r (agrees n c.put) refl refused

refused-by_access : (v w : Vault) (t u : ℕ) (who : List ℕ) (c : Intake) (r : Refusal) (x : Result Access Refusal) → IsLater v w → t ≤ u → u ≤ last_moment → (x >>= λ a. intake_by v t who c a (note_for v c)) ≡ Err r → is_ok (x >>= λ a. intake_by w u who c a (note_for v c)) ≡ false
refused-by_access v w t u who c r (Err e) later h top refused = refl
refused-by_access v w t u who c r (Ok a) later h top refused = refused-by_note v w t u who c a (note_for v c) r later h top refused

-- a line that was refused, but not for its clock, is refused again
pub refused-again : (v w : Vault) (t u : ℕ) (who : List ℕ) (c : Intake) (r : Refusal) → IsLater v w → t ≤ u → u ≤ last_moment → w.last ≤ u → note_for w c ≡ note_for v c → intake v t who c ≡ Err r → (r ≡ ClockBack → ⊥) → is_ok (intake w u who c) ≡ false
refused-again v w t u who c r later h top in_time same_note refused other = by_clock (nat_le v.last t) refl
  where
    by_clock : (b : Bool) → nat_le v.last t ≡ b → is_ok (intake w u who c) ≡ false
    by_clock false back =
        let back_too : intake v t who c ≡ Err ClockBack = rw (too_early v t who c.put back) refl in
        absurd (other (cc (sym refused ∙ back_too)))
    by_clock true early =
        rw (same_access v w t u who c.put early (le-leb w.last u in_time) later.callers later.buckets, same_note)
        (refused-by_access v w t u who c r (access_to_put v t who c.put) later h top refused)

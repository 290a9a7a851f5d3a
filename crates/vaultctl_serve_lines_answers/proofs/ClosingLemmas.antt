-- What is left of a line that was answered, or wasn't.
use Rattle.std.proofs.Common.{◌≡◌, ◌∙◌, ℕ, Bool, true, false, List, [], ◌∷◌, Option, None, Some, Result, Ok, Err, OnOk, OnErr, refl, sym, ap, subst, inl, inr}
use Rattle.std.specs.Prelude.{if◌then◌else◌, nat_lt, IfOk, IsOk}
use Rattle.std.proofs.KnownBytes.{Appends-nil}
use Rattle.vault_base.specs.declared.refusal.Refusal.{Refusal}
use Rattle.vault_base.specs.declared.refusal.Refusal.TheVariants.{InvalidArgument, Memory}
use Rattle.vault_core_model.specs.Checks.{◌>>=◌, administrator}
use Rattle.vault_core_model.specs.Leaves.{Standing}
use Rattle.vault_core_model.specs.Vault.{Vault}
use Rattle.vault_core_model.specs.declared.command.Timed.{Timed}
use Rattle.vault_core_model.specs.declared.kept.Kept.{Ghosts}
use Rattle.vault_core_model.specs.declared.records.Caller.{Caller}
use Rattle.vault_core_model.specs.declared.reply.Reply.{Reply}
use Rattle.vault_core.specs.Hearing.{HearsOnce}
use Rattle.vault_core.specs.Hearing.{AtMostOne}
use Rattle.vault_lines_read.specs.declared.read_line.Line.{Line}
use Rattle.vault_lines_read.specs.declared.read_line.Line.TheVariants as line
use Rattle.vault_lines_read.specs.Stamped.{closer_of}
use Rattle.vault_files_events.specs.Page.{page_of}
use Rattle.vault_files_events.specs.declared.page.TextPage.{TextPage}
use Rattle.vaultctl_serve_lines_answers.specs.Inquiry.{inquiry_of}
use Rattle.vaultctl_serve_lines_answers.specs.declared.inquiry.About.TheVariants as about
use Rattle.vaultctl_serve_lines_answers.specs.declared.inquiry.Inquiry.{Inquiry}
use Rattle.vaultctl_replay.proofs.RunLemmas.{kept}
use Rattle.vaultctl_replay.specs.Runs.{Sent}
use Rattle.vaultctl_replay.specs.declared.fault.ReplayFault.{ReplayFault}
use Rattle.vaultctl_serve_lines_answers.specs.Answered.{Answered, AnswersOne, DoorHeardBy, Left, LeavesOne, LineAnswered, LineHeardBy, LineLeft}
use Rattle.vaultctl_serve_lines_answers.specs.Asked.{about_or_refused, door_line_of, end_or_about, heard_of, is_malformed, unlike_command}
use Rattle.vaultctl_serve_lines_answers.specs.Asking.{found_of, is_end, judged, stated_text, StatedAs}
use Rattle.vaultctl_serve_lines_answers.specs.Closing.{closing, MayEnd}
use Rattle.vaultctl_serve_lines_answers.specs.declared.asked.DoorRequest.{DoorRequest}
use Rattle.vaultctl_serve_lines_answers.specs.declared.asked.DoorLine.{DoorLine}
use Rattle.vaultctl_serve_lines_answers.specs.declared.asked.DoorLine.TheVariants as door
use Rattle.vaultctl_serve_lines_answers.specs.declared.asked.Wanted.{Wanted}
use Rattle.vaultctl_serve_lines_answers.specs.declared.asked.Wanted.TheVariants as wanted
use Rattle.vaultctl_serve_lines_answers.specs.declared.asking.Found.{Found}
use Rattle.vaultctl_serve_lines_answers.specs.declared.asking.Found.TheVariants as found
use Rattle.vaultctl_serve_lines_answers.specs.declared.heard.Heard.{Heard}
use Rattle.vaultctl_serve_lines_answers.specs.declared.line.Next.{Next}
use Rattle.vaultctl_serve_lines_answers.specs.declared.service.Service.{Service}
use Rattle.vaultctl_serve_lines_answers.proofs.HeardLemmas.{began-once, finished-once, heard-at, line-heard}

-- nothing was done
left-none : (service : Service) (asked : DoorLine) (s : Standing) (w : Option (List ℕ)) → Left service s s w w asked
left-none service (door.Line asked) s w = kept s.is_honest s.vault s.vault s.count s.count w (asked ∷ []) refl refl
left-none service (door.Asked asked) s w = (refl, (Err Memory, λ h. inl refl, refl, ([], stated_text service.version.now (Err Memory), refl, Appends-nil w)))

pub line-left-none : (service : Service) (heard : Heard) (moment : Option ℕ) (s : Standing) (w : Option (List ℕ)) → LineLeft service s s w w moment heard
line-left-none service heard moment s w = left-none service _ s w

-- ---- what a line asks for that isn't the line of a command

same-asked : (a b : DoorRequest) → door.Asked a ≡ door.Asked b → a ≡ b
same-asked a b e = cc

no-inquiry : (asked : Result Inquiry Refusal) (t : Timed) → about_or_refused asked ≡ door.Line (line.Command t) → ⊥
no-inquiry (Ok asked) t e = cc
no-inquiry (Err r) t e = cc

no-command : (closer : Option (List ℕ)) (moment : Option ℕ) (bytes : List ℕ) (t : Timed) → end_or_about closer moment bytes ≡ door.Line (line.Command t) → ⊥
no-command (Some who) None bytes t e = cc
no-command (Some who) (Some at) bytes t e = cc
no-command None moment bytes t e = no-inquiry (inquiry_of moment bytes) t e

commands : (malformed : Bool) (asked : Line) (moment : Option ℕ) (bytes : List ℕ) (t : Timed) → (if malformed then unlike_command moment bytes else door.Line asked) ≡ door.Line (line.Command t) → asked ≡ line.Command t
commands true asked moment bytes t e = absurd (no-command (closer_of bytes) moment bytes t e)
commands false asked moment bytes t e = cc

-- the end is asked for by the line that does
no-end : (found : Result Inquiry Refusal) (asked : DoorRequest) → about_or_refused found ≡ door.Asked asked → asked.what ≡ wanted.End → ⊥
no-end (Ok inquiry) asked e what =
    let clash : wanted.About inquiry.about ≡ wanted.End = ap (λ (a : DoorRequest). a.what) (same-asked _ asked e) ∙ what in cc
no-end (Err r) asked e what = cc

ends : (closer : Option (List ℕ)) (moment : Option ℕ) (bytes : List ℕ) (asked : DoorRequest) → end_or_about closer moment bytes ≡ door.Asked asked → asked.what ≡ wanted.End → (closer ≡ Some asked.who) × (moment ≡ Some asked.at)
ends (Some who) None bytes asked e what = absurd cc
ends (Some who) (Some at) bytes asked e what =
    let same = same-asked _ asked e in (ap (λ (a : DoorRequest). Some a.who) same, ap (λ (a : DoorRequest). Some a.at) same)
ends None moment bytes asked e what = absurd (no-end (inquiry_of moment bytes) asked e what)

closes : (malformed : Bool) (line : Line) (moment : Option ℕ) (bytes : List ℕ) (asked : DoorRequest) → (if malformed then unlike_command moment bytes else door.Line line) ≡ door.Asked asked → asked.what ≡ wanted.End → (closer_of bytes ≡ Some asked.who) × (moment ≡ Some asked.at)
closes true line moment bytes asked e what = ends (closer_of bytes) moment bytes asked e what
closes false line moment bytes asked e what = absurd cc

-- ---- what is answered where the server ends

not-events : (early : Bool) (page : TextPage) → (let r : Result Found Refusal = if early then Err InvalidArgument else Ok (found.Page page) in r) ≡ Ok found.End → ⊥
not-events true page e = cc
not-events false page e = cc

ended-by : (v : Vault) (failures : ℕ) (since : Option ℕ) (who : Result Caller Refusal) (what : Wanted) → who >>= (λ c. found_of v failures since what) ≡ Ok found.End → (what ≡ wanted.End) × IsOk who
ended-by v failures since (Ok c) wanted.End e = (refl, refl)
ended-by v failures since (Ok c) (wanted.About about.Status) e = absurd cc
ended-by v failures since (Ok c) (wanted.About (about.Buckets after)) e = absurd cc
ended-by v failures since (Ok c) (wanted.About (about.Events part)) e = absurd (not-events (nat_lt v.last part.before) (page_of part.before part.after v) e)
ended-by v failures since (Ok c) (wanted.About (about.Register after)) e = absurd cc
ended-by v failures since (Ok c) (wanted.About (about.Lawful after)) e = absurd cc
ended-by v failures since (Err r) what e = absurd cc

pub ended : (v : Vault) (failures : ℕ) (since : Option ℕ) (asked : DoorRequest) (stated : Result Found Refusal) → is_end stated ≡ true → StatedAs stated (judged v failures since asked) → (asked.what ≡ wanted.End) × IsOk (administrator v asked.at asked.who)
ended v failures since asked (Ok found.End) e is = ended-by v failures since (administrator v asked.at asked.who) asked.what is
ended v failures since asked (Ok (found.Status status)) e is = absurd cc
ended v failures since asked (Ok (found.Buckets page)) e is = absurd cc
ended v failures since asked (Ok (found.Page page)) e is = absurd cc
ended v failures since asked (Ok (found.Judged part)) e is = absurd cc
ended v failures since asked (Err r) e is = absurd cc

-- what was asked for
module _ (heard : Heard) (moment : Option ℕ) where
  module _ (asked : DoorLine) (is : asked ≡ door_line_of heard.is_ended moment heard.bytes.items) (service : Service) (old new : Standing) (w w' : Option (List ℕ)) where
    pub line-answered : (after : Next) → Answered service after old new w w' asked → LineAnswered service after old new w w' moment heard
    line-answered after answered = let P : DoorLine → Type 0 = λ a. Answered service after old new w w' a in subst P is answered

    pub line-left : Left service old new w w' asked → LineLeft service old new w w' moment heard
    line-left left = let P : DoorLine → Type 0 = λ a. Left service old new w w' a in subst P is left

  -- a command is at the moment that the clock shows
  door-at : (asked : Line) → door.Line asked ≡ door_line_of heard.is_ended moment heard.bytes.items → (t : Timed) → asked ≡ line.Command t → moment ≡ Some t.at
  door-at asked is t e =
      let read = heard_of heard.is_ended moment heard.bytes.items in
      let made : door_line_of heard.is_ended moment heard.bytes.items ≡ door.Line (line.Command t) = sym is ∙ ap (λ (l : Line). door.Line l) e in
      heard-at heard.is_ended moment heard.bytes.items t (commands (is_malformed read) read moment heard.bytes.items t made)

  -- at most one step, at that moment
  pub asked-once : {T E : Type 0} (asked : Line) → door.Line asked ≡ door_line_of heard.is_ended moment heard.bytes.items → (old new : Standing) (w w' : Option (List ℕ)) (r : Result T E) → OnOk r (AnswersOne old new w w' asked) → OnErr r (LeavesOne old new w w' asked) → new.is_honest → AtMostOne moment old.vault new.vault
  asked-once asked is old new w w' (Ok t) ok err h = finished-once new.is_honest h moment asked (door-at asked is) old.vault new.vault old.count new.count w w' ok
  asked-once asked is old new w w' (Err e) ok err h = began-once new.is_honest h moment asked (door-at asked is) old.vault new.vault old.count new.count w w' err

  -- its command was heard of, at that moment
  module _ {K J : Type 0} (g : Ghosts K) (old new : K) (hears : J → Timed → Reply → J → Type 0) (before after : J) where
    asked-heard : (Writes : List ℕ → Type 0) (asked : DoorLine) → asked ≡ door_line_of heard.is_ended moment heard.bytes.items → DoorHeardBy g old new hears before after Writes asked → g.is_honest new → HearsOnce hears before after moment (g.vault old) (g.vault new)
    asked-heard Writes (door.Line asked) is d h = line-heard g old new hears before after Writes moment asked (door-at asked is) d h
    asked-heard Writes (door.Asked asked) is d h = inl d

    pub heard-once : {T : Type 0} (r : Result T ReplayFault) (w w' : Option (List ℕ)) → LineHeardBy g old new hears before after r w w' moment heard → g.is_honest new → HearsOnce hears before after moment (g.vault old) (g.vault new)
    heard-once r w w' line h = elim line [
      | inl none ↦ inl (none.1, none.2)
      | inr d ↦ asked-heard (Sent r w w') (door_line_of heard.is_ended moment heard.bytes.items) refl d h
    ]

    pub door-heard : {T : Type 0} (r : Result T ReplayFault) (w w' : Option (List ℕ)) (asked : DoorLine) → asked ≡ door_line_of heard.is_ended moment heard.bytes.items → DoorHeardBy g old new hears before after (Sent r w w') asked → LineHeardBy g old new hears before after r w w' moment heard
    door-heard r w w' asked is d = let P : DoorLine → Type 0 = λ a. DoorHeardBy g old new hears before after (Sent r w w') a in inr (subst P is d)

  -- who may end it is the caller of the line
  pub may-end : (asked : DoorRequest) (v : Vault) → door.Asked asked ≡ door_line_of heard.is_ended moment heard.bytes.items → (asked.what ≡ wanted.End) × IsOk (administrator v asked.at asked.who) → MayEnd v moment heard.bytes.items
  may-end asked v is end =
      let read = heard_of heard.is_ended moment heard.bytes.items in
      let both = closes (is_malformed read) read moment heard.bytes.items asked (sym is) end.0 in
      let P : Option ℕ → Type 0 = λ m. IsOk (closing v m asked.who) in
      (asked.who, both.0, subst P (sym both.1) end.1)

-- what only this door has leaves the vault
pub given-same : {T E : Type 0} (r : Result T E) (old new : Vault) (Q : T → Type 0) (P : Type 0) → IfOk r (λ t. (new ≡ old) × Q t) → OnErr r ((new ≡ old) × P) → new ≡ old
given-same (Ok t) old new Q P ok err = ok.0
given-same (Err e) old new Q P ok err = err.0

-- what holds after a line is said of each way to go on
pub each-ok : {T E P : Type 0} (r : Result T E) (Q : T → Type 0) → ((t : T) → P → Q t) → OnOk r P → IfOk r Q
each-ok (Ok t) Q f p = f t p
each-ok (Err e) Q f p = tt

-- Lemmas on lines that are carried out one after another.
use Rattle.std.proofs.Common.{◌≡◌, ℕ, List, [], ◌∷◌, ◌++◌, refl, ap, sym, ◌∙◌, append_assoc, append-nil, subst, take, Bool, true, false, Option, Some, None, Result, Ok, Err, IfErr, OnOk, OnErr, inl, inr, arith}
use Rattle.std.specs.Prelude.{◌||◌}
use Rattle.std.specs.List.{list_any}
use Rattle.std.specs.Io.KnownBytes.{Appends, Consumes, Keeps}
use Rattle.std.proofs.KnownBytes.{Appends-nil, Appends-trans}
use Rattle.std.proofs.lemmas.List.Concat.{flat_map-append}
use Rattle.std.proofs.lemmas.List.Folds.{list_any-append}
use Rattle.vault_core_model.specs.Halts.{is_device_reply}
use Rattle.vault_core_model.specs.Leaves.{count_after}
use Rattle.vault_core_model.specs.Step.{IsRun, Reached, IsStep}
use Rattle.vault_core_model.specs.Vault.{Vault}
use Rattle.vault_core_model.specs.declared.command.Timed.{Timed}
use Rattle.vault_core_model.specs.declared.kept.Kept.{Ghosts}
use Rattle.vault_core_model.specs.declared.reply.Reply.{Reply}
use Rattle.vault_core_model.specs.declared.reply.Reply.TheVariants as reply
use Rattle.vault_core_run_laws.proofs.Reached.{step-reached}
use Rattle.vault_lines_reply.specs.ReplyLine.{reply_text}
use Rattle.vault_lines_read.specs.declared.read_line.Line.TheVariants.{Command, Refused, Skip}
use Rattle.vault_lines_read.specs.declared.read_line.Line.{Line}
use Rattle.vault_io.specs.Begins.{Begins}
use Rattle.vaultctl_replay.specs.Lines.{advance, asked_in, last_of, AskSoFar}
use Rattle.vaultctl_replay.specs.Runs.{lines_of, Answers, Runs, Finished, Began, AnswersAll, AnswersEnded, AnswersSome, HeardBy, Sent, Steady}
use Rattle.vaultctl_replay.specs.declared.fault.ReplayFault.{ReplayFault}
use Rattle.vaultctl_replay.specs.declared.fault.ReplayFault.TheVariants as faults
use Rattle.vaultctl_replay.proofs.LineLemmas.{advance-append, asked_all, asked_ended, asked_in-append, most_kept}

-- ---- what is known where the device was honest later is known where it was honest before

Answers-for : (H G : Type 0) (v v' : Vault) (n n' : ℕ) (asked : Line) (out : List Reply) → (G → H) → Answers H v n asked out v' n' → Answers G v n asked out v' n'
Answers-for H G v v' n n' Skip out f a = a
Answers-for H G v v' n n' (Refused r) out f a = a
Answers-for H G v v' n n' (Command c) out f a = (a.0, λ h. a.1 (f h), a.2, a.3)

Runs-for : (H G : Type 0) (v v' : Vault) (n n' : ℕ) (asked : List Line) (out : List Reply) → (G → H) → Runs H v n asked out v' n' → Runs G v n asked out v' n'
Runs-for H G v v' n n' [] out f r = r
Runs-for H G v v' n n' (line ∷ asked) out f r = (r.0, r.1, r.2, r.3, Answers-for H G v r.0 n r.1 line r.2 f r.4, Runs-for H G r.0 v' r.1 n' asked r.3 f r.5, r.6)

Finished-for : (H G : Type 0) (a b : Vault) (i j : ℕ) (u v : Option (List ℕ)) (ls : List Line) → (G → H) → Finished H a i u ls b j v → Finished G a i u ls b j v
Finished-for H G a b i j u v ls f r = (r.0, Runs-for H G a b i j ls r.0 f r.1, r.2)

-- ---- one line

-- what is to be written of one reply
lines_of-one : (r : Reply) → reply_text r ≡ lines_of (r ∷ [])
lines_of-one r = sym (append-nil (reply_text r))

lines_of-append : (rs ss : List Reply) → lines_of (rs ++ ss) ≡ lines_of rs ++ lines_of ss
lines_of-append rs ss = flat_map-append reply_text rs ss

-- nothing was done
pub kept : (H : Type 0) (v v' : Vault) (n n' : ℕ) (w : Option (List ℕ)) (asked : List Line) → v' ≡ v → n' ≡ n → Began H v n w asked v' n' w
kept H v v' n n' w asked same still = ([], [], asked, refl, omega arith, v, n, [], [], [], [], (refl, refl, refl), (refl, same, still), refl, Appends-nil w)

-- one line was carried out
one_run : (H : Type 0) (v v' : Vault) (n n' : ℕ) (asked : Line) (replies : List Reply) → Answers H v n asked replies v' n' → Runs H v n (asked ∷ []) replies v' n'
one_run H v v' n n' asked replies s = (v', n', replies, [], s, (refl, refl, refl), sym (append-nil replies))

begun_with : (H : Type 0) (v v' : Vault) (n n' : ℕ) (w w' : Option (List ℕ)) (asked : Line) (replies : List Reply) (sent unsent : List ℕ) → Answers H v n asked replies v' n' → lines_of replies ≡ sent ++ unsent → Appends w w' sent → Began H v n w (asked ∷ []) v' n' w'
begun_with H v v' n n' w w' asked replies sent unsent s e a =
    ([], asked ∷ [], [], refl, omega arith, v, n, [], replies, sent, unsent, (refl, refl, refl), one_run H v v' n n' asked replies s, e, a)

-- a line that was carried out, and heard of
module _ {K : Type 0} (g : Ghosts K) (old new : K) {J : Type 0} (hears : J → Timed → Reply → J → Type 0) (j j' : J) where
  -- has these replies
  pub heard_answers : (Writes : List ℕ → Type 0) (asked : Line) → HeardBy g old new hears j j' Writes asked
      → (replies : List Reply) × Answers (g.is_honest new) (g.vault old) (g.count old) asked replies (g.vault new) (g.count new) × Writes (lines_of replies)
  heard_answers Writes Skip d = ([], (refl, d.0, d.1), d.3)
  heard_answers Writes (Refused r) d = (reply.Refused r ∷ [], (refl, d.0, d.1), subst Writes (lines_of-one (reply.Refused r)) d.3)
  heard_answers Writes (Command c) d = (d.0 ∷ [], (d.0, d.1, refl, d.2), subst Writes (lines_of-one d.0) d.4)

  module _ {T : Type 0} (w w' : Option (List ℕ)) (asked : Line) where
    pub heard_finished : (r : Result T ReplayFault) → HeardBy g old new hears j j' (Sent r w w') asked → OnOk r (Finished (g.is_honest new) (g.vault old) (g.count old) w (asked ∷ []) (g.vault new) (g.count new) w')
    heard_finished (Ok t) d =
        let a = heard_answers (Sent {T = T} (Ok t) w w') asked d in
        (a.0, one_run (g.is_honest new) (g.vault old) (g.vault new) (g.count old) (g.count new) asked a.0 a.1, a.2)
    heard_finished (Err e) d = tt

    pub heard_began : (r : Result T ReplayFault) → HeardBy g old new hears j j' (Sent r w w') asked → OnErr r (Began (g.is_honest new) (g.vault old) (g.count old) w (asked ∷ []) (g.vault new) (g.count new) w')
    heard_began (Ok t) d = tt
    heard_began (Err faults.Read) d = absurd (heard_answers (Sent {T = T} (Err faults.Read) w w') asked d).2
    heard_began (Err faults.Write) d =
        let a = heard_answers (Sent {T = T} (Err faults.Write) w w') asked d in
        begun_with (g.is_honest new) (g.vault old) (g.vault new) (g.count old) (g.count new) w w' asked a.0 a.2.0 a.2.1 a.1 a.2.2 a.2.3
    heard_began (Err faults.Memory) d =
        let a = heard_answers (Sent {T = T} (Err faults.Memory) w w') asked d in
        let P : Option (List ℕ) → Type 0 = λ x. Appends w x [] in
        begun_with (g.is_honest new) (g.vault old) (g.vault new) (g.count old) (g.count new) w w' asked a.0 [] (lines_of a.0) a.1 refl (subst P (sym a.2) (Appends-nil w))

  -- where it is said of what is to be written, that is said of what is equal to it
  pub heard_weaker : (Writes Wrote : List ℕ → Type 0) → ((out : List ℕ) → Writes out → Wrote out) → (asked : Line) → HeardBy g old new hears j j' Writes asked → HeardBy g old new hears j j' Wrote asked
  heard_weaker Writes Wrote each Skip d = (d.0, d.1, d.2, each [] d.3)
  heard_weaker Writes Wrote each (Refused r) d = (d.0, d.1, d.2, each (reply_text (reply.Refused r)) d.3)
  heard_weaker Writes Wrote each (Command c) d = (d.0, d.1, d.2, d.3, each (reply_text d.0) d.4)

-- the line of a reply was written, or a beginning of it
pub line_sent : {T : Type 0} (r : Result T ReplayFault) (w w' : Option (List ℕ)) (line out : List ℕ) → line ≡ out → OnOk r (Appends w w' line) → OnErr r (Begins w w' line) → IfErr r (λ e. e ≡ faults.Write) → Sent r w w' out
line_sent (Ok t) w w' line out same ok err write = subst (Appends w w') same ok
line_sent (Err faults.Read) w w' line out same ok err write = absurd (cc write)
line_sent (Err faults.Write) w w' line out same ok err write = subst (Begins w w') same err
line_sent (Err faults.Memory) w w' line out same ok err write = absurd (cc write)

-- a run may be joined to one that follows it
Runs-then : (H : Type 0) (a b c : Vault) (i j k : ℕ) (ls ms : List Line) (x y : List Reply) → Runs H a i ls x b j → Runs H b j ms y c k → Runs H a i (ls ++ ms) (x ++ y) c k
Runs-then H a b c i j k [] ms x y r s =
    let P : Vault → Type 0 = λ v. Runs H v i ms (x ++ y) c k in
    let Q : ℕ → Type 0 = λ n. Runs H b n ms (x ++ y) c k in
    subst P r.1 (subst Q r.2 (rw r.0 s))
Runs-then H a b c i j k (l ∷ ls) ms x y r s =
    (r.0, r.1, r.2, r.3 ++ y, r.4, Runs-then H r.0 b c r.1 j k ls ms r.3 y r.5 s, ap (λ (t : List Reply). t ++ y) r.6 ∙ append_assoc r.2 r.3 y)

pub Finished-then : (H : Type 0) (a b c : Vault) (i j k : ℕ) (u v w : Option (List ℕ)) (ls ms : List Line) → Finished H a i u ls b j v → Finished H b j v ms c k w → Finished H a i u (ls ++ ms) c k w
Finished-then H a b c i j k u v w ls ms r s = (
  r.0 ++ s.0,
  Runs-then H a b c i j k ls ms r.0 s.0 r.1 s.1,
  rw (lines_of-append r.0 s.0) (Appends-trans u v w (lines_of r.0) (lines_of s.0) r.2 s.2),
)

pub Finished-began : (H : Type 0) (a b c : Vault) (i j k : ℕ) (u v w : Option (List ℕ)) (ls ms : List Line) → Finished H a i u ls b j v → Began H b j v ms c k w → Began H a i u (ls ++ ms) c k w
Finished-began H a b c i j k u v w ls ms r s = (
  ls ++ s.0,
  s.1,
  s.2,
  ap (λ (t : List Line). ls ++ t) s.3 ∙ sym (append_assoc ls (s.0 ++ s.1) s.2) ∙ ap (λ (t : List Line). t ++ s.2) (sym (append_assoc ls s.0 s.1)),
  s.4,
  s.5,
  s.6,
  r.0 ++ s.7,
  s.8,
  s.9,
  s.10,
  Runs-then H a b s.5 i j s.6 ls s.0 r.0 s.7 r.1 s.11,
  s.12,
  s.13,
  rw (lines_of-append r.0 s.7, append_assoc (lines_of r.0) (lines_of s.7) s.9) (Appends-trans u v w (lines_of r.0) (lines_of s.7 ++ s.9) r.2 s.14),
)

-- more lines than were begun
pub Began-more : (H : Type 0) (a b : Vault) (i j : ℕ) (u v : Option (List ℕ)) (ls ms : List Line) → Began H a i u ls b j v → Began H a i u (ls ++ ms) b j v
Began-more H a b i j u v ls ms r = (r.0, r.1, r.2 ++ ms, ap (λ (t : List Line). t ++ ms) r.3 ∙ append_assoc (r.0 ++ r.1) r.2 ms, r.4, r.5, r.6, r.7, r.8, r.9, r.10, r.11, r.12, r.13, r.14)

-- what was finished was begun
pub begun : (H : Type 0) (a b : Vault) (i j : ℕ) (u v : Option (List ℕ)) (ls : List Line) → Finished H a i u ls b j v → Began H a i u ls b j v
begun H a b i j u v ls r = (ls, [], [], sym (append-nil (ls ++ []) ∙ append-nil ls), omega arith, b, j, r.0, [], [], [], r.1, (refl, refl, refl), refl, rw (append-nil (lines_of r.0)) r.2)

-- ---- lines after lines, where what an honest device kept later it kept before

module _ (H G : Type 0) (back : G → H) (a b c : Vault) (i j k : ℕ) (u v w : Option (List ℕ)) (ls ms : List Line) (r : Finished H a i u ls b j v) where
  first : Finished G a i u ls b j v
  first = Finished-for H G a b i j u v ls back r

  pub later_finished : Finished G b j v ms c k w → Finished G a i u (ls ++ ms) c k w
  later_finished s = Finished-then G a b c i j k u v w ls ms first s

  pub later_began : Began G b j v ms c k w → Began G a i u (ls ++ ms) c k w
  later_began s = Finished-began G a b c i j k u v w ls ms first s

-- ---- bytes after bytes

module _ (H G : Type 0) (back : G → H) (a b c : Vault) (i j k : ℕ) (u v w : Option (List ℕ)) (most : ℕ) (part now : List ℕ) (xs ys : List ℕ) where
  pub next_ok : Finished H a i u (asked_in most part xs) b j v → now ≡ (advance most part xs).1 → Finished G b j v (asked_in most now ys) c k w → Finished G a i u (asked_in most part (xs ++ ys)) c k w
  next_ok r e s = rw (asked_in-append most part xs ys, ← e) (later_finished H G back a b c i j k u v w (asked_in most part xs) (asked_in most now ys) r s)

  pub next_err : Finished H a i u (asked_in most part xs) b j v → now ≡ (advance most part xs).1 → Began G b j v (asked_in most now ys) c k w → Began G a i u (asked_in most part (xs ++ ys)) c k w
  next_err r e s = rw (asked_in-append most part xs ys, ← e) (later_began H G back a b c i j k u v w (asked_in most part xs) (asked_in most now ys) r s)

module _ (most : ℕ) (part xs ys : List ℕ) where
  pub next_part : (now later : List ℕ) → now ≡ (advance most part xs).1 → later ≡ (advance most now ys).1 → later ≡ (advance most part (xs ++ ys)).1
  next_part now later e s = rw (advance-append most part xs ys, ← e) s

  pub err_more : (H : Type 0) (a b : Vault) (i j : ℕ) (u v : Option (List ℕ)) → Began H a i u (asked_in most part xs) b j v → Began H a i u (asked_in most part (xs ++ ys)) b j v
  err_more H a b i j u v r = rw (asked_in-append most part xs ys) (Began-more H a b i j u v (asked_in most part xs) (asked_in most (advance most part xs).1 ys) r)

-- ---- a writer that keeps what it holds

Appends-keeps : (u v w : Option (List ℕ)) (out : List ℕ) → Appends u v out → Keeps v w → Appends u w out
Appends-keeps None v w out x y = tt
Appends-keeps (Some xs) None w out x y = absurd x
Appends-keeps (Some xs) (Some ys) None out x y = absurd y
Appends-keeps (Some xs) (Some ys) (Some zs) out x y = y ∙ x

pub Finished-keeps : (H : Type 0) (a b : Vault) (i j : ℕ) (u v w : Option (List ℕ)) (ls : List Line) → Finished H a i u ls b j v → Keeps v w → Finished H a i u ls b j w
Finished-keeps H a b i j u v w ls r k = (r.0, r.1, Appends-keeps u v w (lines_of r.0) r.2 k)

pub Began-keeps : (H : Type 0) (a b : Vault) (i j : ℕ) (u v w : Option (List ℕ)) (ls : List Line) → Finished H a i u ls b j v → Keeps v w → Began H a i u ls b j w
Began-keeps H a b i j u v w ls r k = begun H a b i j u w ls (Finished-keeps H a b i j u v w ls r k)

-- ---- the whole input

pub answers_ended : (H : Type 0) (a b : Vault) (i j : ℕ) (u v : Option (List ℕ)) (bytes : List ℕ) → Finished H a i u (asked_in most_kept [] bytes) b j v → AnswersEnded H a i u bytes b j v
answers_ended H a b i j u v bytes r = (asked_in most_kept [] bytes, asked_ended bytes, r)

pub answers_some : (H E : Type 0) (a b : Vault) (i j : ℕ) (u v : Option (List ℕ)) (bytes : List ℕ) → Began H a i u (asked_in most_kept [] bytes) b j v → AnswersSome H E a i u bytes b j v
answers_some H E a b i j u v bytes r = (asked_in most_kept [] bytes, inl (asked_ended bytes), r)

module _ (H G : Type 0) (back : G → H) (a b c : Vault) (i j k : ℕ) (u v w : Option (List ℕ)) (bytes part : List ℕ) (r : Finished H a i u (asked_in most_kept [] bytes) b j v) (e : part ≡ (advance most_kept [] bytes).1) where
  pub answers_all : Finished G b j v (last_of part) c k w → AnswersAll G a i u bytes c k w
  answers_all s =
      (asked_in most_kept [] bytes ++ last_of (advance most_kept [] bytes).1, asked_all bytes, rw (← e) (later_finished H G back a b c i j k u v w (asked_in most_kept [] bytes) (last_of part) r s))

  pub answers_some_last : (E : Type 0) → E → Began G b j v (last_of part) c k w → AnswersSome G E a i u bytes c k w
  answers_some_last E at_end s =
      (asked_in most_kept [] bytes ++ last_of (advance most_kept [] bytes).1, inr (at_end, asked_all bytes), rw (← e) (later_began H G back a b c i j k u v w (asked_in most_kept [] bytes) (last_of part) r s))

-- ---- what the replies say of the count of failures

neither : (b c : Bool) → (b || c) ≡ false → (b ≡ false) × (c ≡ false)
neither true c e = absurd (cc)
neither false c e = (refl, e)

-- what isn't reported leaves the count
still : (n n' : ℕ) (stated : Bool) → n' ≡ count_after n stated → (stated || false) ≡ false → n' ≡ n
still n n' true t e = absurd (cc)
still n n' false t e = t

stated_by : (n n' : ℕ) (r : Reply) (replies : List Reply) → replies ≡ r ∷ [] → n' ≡ count_after n (is_device_reply r) → list_any is_device_reply replies ≡ false → n' ≡ n
stated_by n n' r replies e t none = still n n' (is_device_reply r) t (subst (λ (rs : List Reply). list_any is_device_reply rs ≡ false) e none)

answer_steady : (H : Type 0) (v v' : Vault) (n n' : ℕ) (asked : Line) (replies : List Reply) → Answers H v n asked replies v' n' → list_any is_device_reply replies ≡ false → n' ≡ n
answer_steady H v v' n n' Skip replies a none = a.2
answer_steady H v v' n n' (Refused r) replies a none = a.2
answer_steady H v v' n n' (Command c) replies a none = stated_by n n' a.0 replies a.2 a.3 none

run_steady : (H : Type 0) (v v' : Vault) (n n' : ℕ) (asked : List Line) (replies : List Reply) → Runs H v n asked replies v' n' → list_any is_device_reply replies ≡ false → n' ≡ n
run_steady H v v' n n' [] replies r none = r.2
run_steady H v v' n n' (line ∷ asked) replies r none =
    let split = subst (λ (rs : List Reply). list_any is_device_reply rs ≡ false) r.6 none in
    let both = neither (list_any is_device_reply r.2) (list_any is_device_reply r.3) (sym (list_any-append is_device_reply r.2 r.3) ∙ split) in
    run_steady H r.0 v' r.1 n' asked r.3 r.5 both.1 ∙ answer_steady H v r.0 n r.1 line r.2 r.4 both.0

-- what is written is a beginning of all that is to be written
begins : (w w' : Option (List ℕ)) (rs ss : List Reply) (sent unsent : List ℕ) → lines_of ss ≡ sent ++ unsent → Appends w w' (lines_of rs ++ sent) → Begins w w' (lines_of (rs ++ ss))
begins w w' rs ss sent unsent e a = (lines_of rs ++ sent, unsent, lines_of-append rs ss ∙ ap (λ (t : List ℕ). lines_of rs ++ t) e ∙ sym (append_assoc (lines_of rs) sent unsent), a)

module _ (H E : Type 0) (a b : Vault) (i j : ℕ) (u v : Option (List ℕ)) (bytes : List ℕ) where
  pub some_steady : AnswersSome H E a i u bytes b j v → Steady H E a i u bytes b j v
  some_steady s =
      let r = s.2 in
      let made = Runs-then H a r.5 b i r.6 j r.0 r.1 r.7 r.8 r.11 r.12 in
      let P : List Line → Type 0 = λ ls. AskSoFar E bytes ls in
      (r.0 ++ r.1, r.2, r.7 ++ r.8, subst P r.3 s.1, made, begins u v r.7 r.8 r.9 r.10 r.13 r.14, run_steady H a b i j (r.0 ++ r.1) (r.7 ++ r.8) made)

-- lines that were finished, and the last ones, of which the rest was begun at least
pub either_steady : {T F : Type 0} (H G : Type 0) (back : G → H) (a b c : Vault) (i j k : ℕ) (u v w : Option (List ℕ)) (bytes part : List ℕ) (E : Type 0) (at_end : E) (r : Result T F)
    → Finished H a i u (asked_in most_kept [] bytes) b j v → part ≡ (advance most_kept [] bytes).1 → OnOk r (Finished G b j v (last_of part) c k w) → OnErr r (Began G b j v (last_of part) c k w) → Steady G E a i u bytes c k w
either_steady H G back a b c i j k u v w bytes part E at_end (Ok x) first e ok err =
    some_steady G E a c i k u w bytes (answers_some_last H G back a b c i j k u v w bytes part first e E at_end (begun G b c j k v w (last_of part) ok))
either_steady H G back a b c i j k u v w bytes part E at_end (Err x) first e ok err =
    some_steady G E a c i k u w bytes (answers_some_last H G back a b c i j k u v w bytes part first e E at_end err)

-- ---- vaults that runs lead to

module _ (H : Type 0) (h : H) where
  Answers-reached : (v v' : Vault) (n n' : ℕ) (asked : Line) (out : List Reply) → Answers H v n asked out v' n' → Reached v → Reached v'
  Answers-reached v v' n n' Skip out a q = subst Reached (sym a.1) q
  Answers-reached v v' n n' (Refused r) out a q = subst Reached (sym a.1) q
  Answers-reached v v' n n' (Command c) out a q =
      step-reached v v' c.at c.who c.command a.0 q (a.1 h)

  Runs-reached : (v v' : Vault) (n n' : ℕ) (asked : List Line) (out : List Reply) → Runs H v n asked out v' n' → Reached v → Reached v'
  Runs-reached v v' n n' [] out r q = subst Reached (sym r.1) q
  Runs-reached v v' n n' (line ∷ asked) out r q = Runs-reached r.0 v' r.1 n' asked r.3 r.5 (Answers-reached v r.0 n r.1 line r.2 r.4 q)

module _ (H : Type 0) (h : H) (a b : Vault) (i j : ℕ) (u v : Option (List ℕ)) (asked : List Line) where
  pub finished_reached : Finished H a i u asked b j v → Reached a → Reached b
  finished_reached r = Runs-reached H h a b i j asked r.0 r.1

  pub began_reached : Began H a i u asked b j v → Reached a → Reached b
  began_reached r q = Runs-reached H h r.5 b r.6 j r.1 r.8 r.12 (Runs-reached H h a r.5 i r.6 r.0 r.7 r.11 q)

  pub either_reached : {T E : Type 0} (r : Result T E) → OnOk r (Finished H a i u asked b j v) → OnErr r (Began H a i u asked b j v) → Reached a → Reached b
  either_reached (Ok x) ok err = finished_reached ok
  either_reached (Err e) ok err = began_reached err

-- ---- results and reads

pub on_err : {T E P : Type 0} (r : Result T E) → P → OnErr r P
on_err (Ok x) p = tt
on_err (Err e) p = p

-- a read of no byte
pub none_read : (u v : Option (List ℕ)) (n : ℕ) (buf : List ℕ) → n ≡ 0 → Consumes u v (take n buf) → Consumes u v []
none_read u v n buf e h = rw e at h

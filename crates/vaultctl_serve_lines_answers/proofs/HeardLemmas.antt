-- One line is at most one step, at the clock's reading.
use Rattle.std.proofs.Common.{◌≡◌, ◌∙◌, ◌≤◌, ℕ, Bool, true, false, List, [], ◌∷◌, ◌++◌, length, Option, Some, refl, ap, sym, subst, inl, inr, arith}
use Rattle.std.specs.Prelude.{if◌then◌else◌}
use Rattle.vault_base.specs.declared.refusal.Refusal.TheVariants.{MalformedBody}
use Rattle.vault_core_model.specs.Vault.{Vault}
use Rattle.vault_core_model.specs.declared.command.Timed.{Timed}
use Rattle.vault_core_model.specs.declared.kept.Kept.{Ghosts}
use Rattle.vault_core_model.specs.declared.reply.Reply.{Reply}
use Rattle.vault_core.specs.Hearing.{HearsOnce}
use Rattle.vault_core.specs.Hearing.{AtMostOne}
use Rattle.vault_lines_read.specs.declared.read_line.Line.{Line}
use Rattle.vault_lines_read.specs.declared.read_line.Line.TheVariants as line
use Rattle.vault_lines_read.specs.Stamped.{stamped_line_of}
use Rattle.vault_lines_read.proofs.StampedAt.{stamped-at}
use Rattle.vaultctl_replay.specs.Lines.{is_cr}
use Rattle.vaultctl_replay.specs.Runs.{Answers, Began, Finished, HeardBy, Runs}
use Rattle.vaultctl_serve_lines_answers.specs.Asked.{heard_of}

-- ---- the command of a line is at the reading

heard-cases : (ended cr : Bool) (moment : Option ℕ) (bytes : List ℕ) (t : Timed) → (if ended then stamped_line_of moment bytes else (if cr then line.Refused MalformedBody else stamped_line_of moment bytes)) ≡ line.Command t → stamped_line_of moment bytes ≡ line.Command t
heard-cases true cr moment bytes t e = e
heard-cases false true moment bytes t e = cc
heard-cases false false moment bytes t e = e

pub heard-at : (ended : Bool) (moment : Option ℕ) (bytes : List ℕ) (t : Timed) → heard_of ended moment bytes ≡ line.Command t → moment ≡ Some t.at
heard-at ended moment bytes t e = stamped-at moment bytes t (heard-cases ended (is_cr bytes) moment bytes t e)

-- ---- a run of one line

module _ (H : Type 0) (h : H) (moment : Option ℕ) where
  answered-once : (v v' : Vault) (n n' : ℕ) (asked : Line) (replies : List Reply) → ((t : Timed) → asked ≡ line.Command t → moment ≡ Some t.at) → Answers H v n asked replies v' n' → AtMostOne moment v v'
  answered-once v v' n n' line.Skip replies at a = inl a.1
  answered-once v v' n n' (line.Refused r) replies at a = inl a.1
  answered-once v v' n n' (line.Command t) replies at a = inr (t.at, t.who, t.command, a.0, at t refl, a.1 h)

  same-after : (u v w : Vault) → AtMostOne moment u v → w ≡ v → AtMostOne moment u w
  same-after u v w once same = let P : Vault → Type 0 = λ x. AtMostOne moment u x in subst P (sym same) once

  same-before : (u v w : Vault) → v ≡ u → AtMostOne moment v w → AtMostOne moment u w
  same-before u v w same once = let P : Vault → Type 0 = λ x. AtMostOne moment x w in subst P same once

  run-once : (v v' : Vault) (n n' : ℕ) (asked : List Line) (replies : List Reply) → length asked ≤ 1 → ((t : Timed) (others : List Line) → asked ≡ line.Command t ∷ others → moment ≡ Some t.at) → Runs H v n asked replies v' n' → AtMostOne moment v v'
  run-once v v' n n' [] replies short at r = inl r.1
  run-once v v' n n' (one ∷ []) replies short at r =
      same-after v r.0 v' (answered-once v r.0 n r.1 one r.2 (λ t e. at t [] (ap (λ (l : Line). l ∷ []) e)) r.4) r.5.1
  run-once v v' n n' (one ∷ two ∷ others) replies short at r = absurd (omega arith)

  module _ (one : Line) (at : (t : Timed) → one ≡ line.Command t → moment ≡ Some t.at) where
    pub finished-once : (v v' : Vault) (n n' : ℕ) (w w' : Option (List ℕ)) → Finished H v n w (one ∷ []) v' n' w' → AtMostOne moment v v'
    finished-once v v' n n' w w' f = run-once v v' n n' (one ∷ []) f.0 (omega arith) (λ t others e. at t cc) f.1

    began-cases : (answered begun later : List Line) (v mid v' : Vault) (n between n' : ℕ) (replies last : List Reply) → one ∷ [] ≡ answered ++ begun ++ later → Runs H v n answered replies mid between → Runs H mid between begun last v' n' → length begun ≤ 1 → AtMostOne moment v v'
    began-cases [] begun later v mid v' n between n' replies last whole first second short =
        same-before v mid v' first.1 (run-once mid v' between n' begun last short (λ t others e. at t (let same : one ∷ [] ≡ (line.Command t ∷ others) ++ later = whole ∙ ap (λ (l : List Line). l ++ later) e in cc)) second)
    began-cases (x ∷ []) [] later v mid v' n between n' replies last whole first second short =
        same-after v mid v' (run-once v mid n between (x ∷ []) replies (omega arith) (λ t others e. at t (let same : x ≡ line.Command t = cc in cc)) first) second.1
    began-cases (x ∷ []) (y ∷ begun) later v mid v' n between n' replies last whole first second short = absurd cc
    began-cases (x ∷ y ∷ answered) begun later v mid v' n between n' replies last whole first second short = absurd cc

    pub began-once : (v v' : Vault) (n n' : ℕ) (w w' : Option (List ℕ)) → Began H v n w (one ∷ []) v' n' w' → AtMostOne moment v v'
    began-once v v' n n' w w' b = began-cases b.0 b.1 b.2 v b.5 v' n b.6 n' b.7 b.8 b.3 b.11 b.12 b.4

-- ---- what is heard of a line

pub line-heard : {K J : Type 0} (g : Ghosts K) (old new : K) (hears : J → Timed → Reply → J → Type 0) (before after : J) (Writes : List ℕ → Type 0) (moment : Option ℕ) (asked : Line) → ((t : Timed) → asked ≡ line.Command t → moment ≡ Some t.at)
    → HeardBy g old new hears before after Writes asked → g.is_honest new → HearsOnce hears before after moment (g.vault old) (g.vault new)
line-heard g old new hears before after Writes moment line.Skip at d h = inl (d.0, d.2)
line-heard g old new hears before after Writes moment (line.Refused r) at d h = inl (d.0, d.2)
line-heard g old new hears before after Writes moment (line.Command t) at d h = inr (t, d.0, at t refl, d.1 h, d.3)

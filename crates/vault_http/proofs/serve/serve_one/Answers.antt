use Rattle.std.proofs.Common.{rules, ◌≡◌, ℕ, List, [], OnOk, Option, IfErr, subst}
use Rattle.std.proofs.lemmas.Result.{IfErr-weaker, on_ok_weaker}
use Rattle.vault_base.specs.Days.{moment_at}
use Rattle.vault_core.specs.declared.hearing.Nobody.{Nobody}
use Rattle.vault_core_model.specs.Vault.{Vault}
use Rattle.vault_http.specs.Calls.{Steps, StepsHeard}
use Rattle.vault_http.specs.Exchange.{Answered}
use Rattle.vault_http.specs.Left.{Taken, Unanswered}
use Rattle.vault_http.specs.Steady.{Steady}
use Rattle.vault_http.proofs.StateLemmas.{answered, unanswered}
use Rattle.vault_http.proofs.serve.serve_one.Goals as goal

-- no host was named, and nobody hears
pub returns-clause-ok : goal.returns-clause-ok
returns-clause-ok g c = λ h.
    let same : c.from_secs-moment.result ≡ moment_at c.args.reading = search rules in
    let before = c.args.keeper.now in
    let after = c.serve_for.new.keeper in
    let P : List (List ℕ) → Option ℕ → Type 0 = λ hosts m. OnOk c.serve_for.result (Answered hosts (Steps g.K.Kept before after) m (g.R.Read.remaining c.args.reader.now) (g.K.Kept.vault before) (g.K.Kept.vault after) (g.W.Write.contents c.args.writer.now) (g.W.Write.contents c.serve_for.new.writer)) in
    let alone = on_ok_weaker c.serve_for.result (answered {S = Vault × Nobody} {T = Vault} (λ s. s.0) (StepsHeard g.K.Kept before after {J = Nobody} (λ j t reply j'. Unit {0})) (Steps g.K.Kept before after) (λ s s' t reply d. d.0) _ _ _ c.from_secs-moment.result (g.R.Read.remaining c.args.reader.now) (g.W.Write.contents c.args.writer.now) (g.W.Write.contents c.serve_for.new.writer)) (c.serve_for.ensures.ok h) in
    subst (λ (m : Option ℕ). P [] m) same (subst (λ (hosts : List (List ℕ)). P hosts c.from_secs-moment.result) c.any-hosts.ensures alone)

pub returns-clause-err : goal.returns-clause-err
returns-clause-err g c = λ h.
    let same : c.from_secs-moment.result ≡ moment_at c.args.reading = search rules in
    let before = c.args.keeper.now in
    let after = c.serve_for.new.keeper in
    let P : List (List ℕ) → Option ℕ → Type 0 = λ hosts m. IfErr c.serve_for.result (λ e. Unanswered hosts (Steps g.K.Kept before after) e m (g.R.Read.remaining c.args.reader.now) (g.R.Read.remaining c.serve_for.new.reader) (g.K.Kept.vault before) (g.K.Kept.vault after) (g.W.Write.contents c.args.writer.now) (g.W.Write.contents c.serve_for.new.writer)) in
    let alone = IfErr-weaker c.serve_for.result _ _ (λ e. unanswered {S = Vault × Nobody} {T = Vault} (λ s. s.0) (StepsHeard g.K.Kept before after {J = Nobody} (λ j t reply j'. Unit {0})) (Steps g.K.Kept before after) (λ s s' t reply d. d.0) _ _ _ e c.from_secs-moment.result (g.R.Read.remaining c.args.reader.now) (g.R.Read.remaining c.serve_for.new.reader) (g.W.Write.contents c.args.writer.now) (g.W.Write.contents c.serve_for.new.writer)) (c.serve_for.ensures.err h) in
    subst (λ (m : Option ℕ). P [] m) same (subst (λ (hosts : List (List ℕ)). P hosts c.from_secs-moment.result) c.any-hosts.ensures alone)

pub returns-clause-taken : goal.returns-clause-taken
returns-clause-taken g c =
    let same : c.from_secs-moment.result ≡ moment_at c.args.reading = search rules in
    let P : List (List ℕ) → Option ℕ → Type 0 = λ hosts m. OnOk c.serve_for.result (Taken hosts m (g.R.Read.remaining c.args.reader.now) (g.R.Read.remaining c.serve_for.new.reader)) in
    subst (λ (m : Option ℕ). P [] m) same (subst (λ (hosts : List (List ℕ)). P hosts c.from_secs-moment.result) c.any-hosts.ensures c.serve_for.ensures.taken)

pub returns-clause-leaves : goal.returns-clause-leaves
returns-clause-leaves g c =
    let same : c.from_secs-moment.result ≡ moment_at c.args.reading = search rules in
    let before = c.args.keeper.now in
    let after = c.serve_for.new.keeper in
    record {
      honest = c.serve_for.ensures.leaves.honest;
      counted = c.serve_for.ensures.leaves.counted;
      steady = subst (λ (m : Option ℕ). Steady (g.K.Kept.is_honest after) c.serve_for.result m (g.K.Kept.vault before) (g.K.Kept.vault after) (g.K.Kept.count before) (g.K.Kept.count after) (g.W.Write.contents c.args.writer.now) (g.W.Write.contents c.serve_for.new.writer)) same c.serve_for.ensures.leaves.steady;
    }

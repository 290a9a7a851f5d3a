use Rattle.std.proofs.Common.{◌≡◌, ◌∙◌, ◌+◌, ℕ, Bool, List, ◌++◌, take, drop, refl, sym, ap, subst}
use Rattle.std.specs.List.{position}
use Rattle.std.specs.Prelude.{◌==◌}
use Rattle.vaultctl_replay.specs.Lines.{ended, HasNoLf}
use Rattle.vaultctl_serve_lines.proofs.HearingLemmas.{all-after, cuts-none, cuts-some}
use Rattle.vaultctl_serve_lines.proofs.hearing.take_line.Goals as goal

pub returns-in_default-clause-ok : goal.returns-in_default-clause-ok
returns-in_default-clause-ok c =
    let f : ℕ → Bool = λ b. b == 10 in
    (cuts-none c.args.part.now.items (ap (position f) (sym c.as_slice.ensures.value) ∙ sym c.first_lf.ensures ∙ c.in_default.is), refl)

pub returns-clause-ok : goal.returns-clause-ok
returns-clause-ok c =
    let f : ℕ → Bool = λ b. b == 10 in
    let items = c.args.part.now.items in
    let place = c.in-Some.place in
    let cut = cuts-some items place (ap (position f) (sym c.as_slice.ensures.value) ∙ sym c.first_lf.ensures ∙ c.in-Some.is) in
    let first : c.truncate.new.self.items ≡ take place items = rw (c.truncate.ensures.items, c.replace-bytes.ensures.value) refl in
    let rest : c.replace-bytes.new.dest.items ≡ drop (place + 1) items = rw (c.replace-bytes.ensures.after, c.in_ok-rest.ensures.items, c.as_slice-2.ensures.value) (all-after items (place + 1)) in
    let P : List ℕ → Type 0 = λ bytes. HasNoLf bytes in
    (subst P (sym first) cut.0, refl, cut.1 ∙ ap (λ (l : List ℕ). ended l ++ drop (place + 1) items) (sym first) ∙ ap (λ (l : List ℕ). ended c.truncate.new.self.items ++ l) (sym rest))

use Rattle.std.proofs.Common.{◌≡◌, ◌∙◌, inl, sym}
use Rattle.vaultctl_perform.proofs.StatusLemmas.{never_two}
use Rattle.vaultctl_perform.proofs.answer_words.Goals as goal

pub returns-in-Ok-clause-refused : goal.returns-in-Ok-clause-refused
returns-in-Ok-clause-refused g c = λ two. absurd (never_two c.perform.ensures.performed.0 (sym c.perform.ensures.performed.1 ∙ two))

pub returns-in-Ok-clause-performed : goal.returns-in-Ok-clause-performed
returns-in-Ok-clause-performed g c = λ job is.
    let same : job ≡ c.in-Ok.job = cc (c.in-Ok.ensures.ok) in
    inl (rw same c.perform.ensures.performed)

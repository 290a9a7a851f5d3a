use Rattle.std.proofs.Common.{◌∙◌, inl, inr}
use Rattle.std.proofs.lemmas.Result.{IfOk-weaker, on_err_weaker}
use Rattle.vaultctl_perform.proofs.DoneLemmas.{along, carries_from, found_still}
use Rattle.vaultctl_perform.proofs.vaults.open_watched.Goals as goal

pub returns-in-Ok-clause-found : goal.returns-in-Ok-clause-found
returns-in-Ok-clause-found g c = IfOk-weaker c.watch.result _ _ (λ it same. found_still _ it.keeper c.in-Ok.vault same c.in-Ok.ensures.found) c.watch.ensures.below

pub returns-in-Ok-clause-unseen : goal.returns-in-Ok-clause-unseen
returns-in-Ok-clause-unseen g c =
    on_err_weaker c.watch.result
    (λ it. inr (it.0 ∙ along c.in-Ok.ensures.counted (λ m. m.given), carries_from _ _ _ _ _ it.1 (along c.in-Ok.ensures.counted (λ m. m.closed.items))))
    c.watch.ensures.unseen

pub returns-in-Err-clause-unseen : goal.returns-in-Err-clause-unseen
returns-in-Err-clause-unseen g c =
    let same = c.in-Err.ensures.uncounted in
    inl (along same (λ m. m.given), along same (λ m. m.closed), along same (λ m. m.copies))

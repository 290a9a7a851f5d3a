use Rattle.matchit.proofs.OnLiterals.{matchit_on_literals}
use Rattle.vault_http_target.proofs.routes.routes.Goals as goal

pub returns : goal.returns
unfolding matchit_on_literals
returns c =
    let a = c.in_ok-insert.ensures in
    let b = c.in_ok-insert-2.ensures in
    let d = c.in_ok-insert-3.ensures in
    rw (b.1, a.1, c.new-router.ensures) at d.1

use Rattle.std.proofs.Common.{◌≡◌, Bool, [], ◌∷◌, ◌++◌, true, sym, ap, subst, ◌∙◌}
use Rattle.sqlite.specs.Held.{Held}
use Rattle.vault_store.specs.Opening.{IsKnown, noted_vault, noted_is}
use Rattle.vault_store.proofs.opening.remember.Goals as goal

pub returns : goal.returns
returns g c clean v is =
    let it : Held _ × Bool = (c.args.conn.now, true) in
    let items : c.and.result.items ≡ it ∷ [] = c.and.ensures ∙ ap (λ xs. xs ++ it ∷ []) c.new.ensures in
    subst (λ xs. (known : IsKnown g.S.Store xs) → noted_vault g.S.Store xs known ≡ v) (sym items) (λ known. noted_is g.S.Store it [] known clean v is) _

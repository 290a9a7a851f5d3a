use Rattle.std.proofs.Common.{◌≡◌, ◌+◌, ◌++◌, ◌∷◌, [], take, drop, refl, Option, subst, append_assoc}
use Rattle.std.specs.Prelude.{slice_get, ◌==◌}
use Rattle.std.specs.Option.{option_copied}
use Rattle.std.proofs.lemmas.List.{take_rest}
use Rattle.vault_tally.specs.Row.{IsRowOf, AreBounded}
use Rattle.vault_core_model.specs.declared.records.Tenure.{Tenure}
use Rattle.vault_core_model.specs.Totals.{items_by, shares_of}
use Rattle.vault_core_list.specs.Shares.{share_by}
use Rattle.vault_core_list.proofs.Rows.{bounded-shares, items_by-append}
use Rattle.vault_core_list.proofs.Shares.{shares-more, shares-whole}
use Rattle.vault_core_list.proofs.sums.count_tenures.Goals as goal

-- one more tenure
pub loop-place-preserved : goal.loop-place-preserved
loop-place-preserved c = λ items is bounded.
    let h = c.args.history.now in
    let dept = c.args.dept.now in
    let i = c.loop-place.place in
    let ss = shares_of h in
    let t = c.index-tenures-place.result in
    let own = share_by h.entry (i == 0) t (slice_get (drop (i + 1) h.tenures) 0) ∷ [] in
    let before = items ++ items_by dept (take i ss) in
    let one = shares-more h.entry h.tenures i t (rw c.as_slice-tenures.ensures at c.loop-place-test.true) (rw c.as_slice-tenures.ensures at c.index-tenures-place.is) in
    let more : items ++ items_by dept (take (i + 1) ss) ≡ before ++ items_by dept own = rw (one, items_by-append dept (take i ss) own, append_assoc items (items_by dept (take i ss)) (items_by dept own)) refl in
    let fits = bounded-shares items dept ss (i + 1) bounded in
    let so_far = c.loop-place.invariant items is bounded in
    let P : Option Tenure → Type 0 = λ next. AreBounded (before ++ items_by dept (share_by h.entry (i == 0) t next ∷ [])) → IsRowOf c.count_tenure.new.row (before ++ items_by dept (share_by h.entry (i == 0) t next ∷ [])) in
    let next : option_copied c.first-next.result ≡ slice_get (drop (i + 1) h.tenures) 0 = rw (c.as_slice-tenures.ensures, take_rest h.tenures (i + 1)) at c.first-next.ensures.value in
    let counted : P (slice_get (drop (i + 1) h.tenures) 0) = subst P next (c.count_tenure.ensures before so_far) in
    rw more (counted (rw more at fits))

pub returns : goal.returns
returns c = λ items is bounded.
    let past = rw c.as_slice-tenures.ensures at c.loop-place-test.false in
    rw (← shares-whole c.args.history.now.entry c.args.history.now.tenures c.loop-place.place past) (c.loop-place.invariant items is bounded)

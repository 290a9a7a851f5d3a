use Rattle.std.proofs.Common.{rules, ◌≡◌, true, false, Some, true≢false, refl, sym, subst, ◌∙◌}
use Rattle.vault_tally.specs.Row.{tenure_item}
use Rattle.vault_audit_tenures.specs.Totals.{item_of, IsTotal}
use Rattle.vault_audit_tenures.proofs.TotalLemmas.{above_now, bounded_with, counted_in}
use Rattle.vault_audit_tenures.proofs.sums.totals.with_tenure.Goals as goal

pub returns-then-not-fits : goal.returns-then-not-fits
returns-then-not-fits c items are dates =
    let some : c.args.total ≡ Some c.in_ok-sums.sums = search rules in
    let no : c.fits.result ≡ false = search rules in
    let total = subst (λ o. IsTotal o items) some are in
    above_now c.in_ok-sums.sums items (item_of c.args.span) total.0 (λ low. true≢false (sym (c.fits.ensures.1 low) ∙ no))

pub returns : goal.returns
returns c items are dates =
    let span = c.args.span in
    let some : c.args.total ≡ Some c.in_ok-sums.sums = search rules in
    let yes : c.fits.result ≡ true = search rules in
    let total = subst (λ o. IsTotal o items) some are in
    let bounded = bounded_with c.in_ok-sums.sums items (item_of span) total.0 total.1 dates (c.fits.ensures.0 yes) in
    let same : tenure_item span.size span.first c.day.result c.day_if.result span.last ≡ item_of span = rw (c.day.ensures, c.day_if.ensures) refl in
    (counted_in _ items _ _ same (c.count.ensures items total.0) bounded, bounded)

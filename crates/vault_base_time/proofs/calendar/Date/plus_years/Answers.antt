use Rattle.std.proofs.Common.{◌≡◌, ℕ, ◌+◌, ◌≤◌, nat_le, true, pos, Some, subst, sym, ap, arith, refl, w64, to_z-of_z, FitsSigned, ◌∙◌}
use Rattle.std.proofs.lemmas.Int.{ints}
use Rattle.std.proofs.lemmas.Grind.{common_steps}
use Rattle.jiff.specs.Words.{date_add, epoch_day}
use Rattle.jiff_core.specs.Span.{IsOnly}
use Rattle.jiff_core.specs.declared.unit.Unit.TheVariants.{Year}
use Rattle.jiff_core.proofs.SignedLemmas.{signed_arith}
use Rattle.vault_base_time.specs.Calendar.{date_years_later, last_year, IsDate}
use Rattle.vault_base_time.proofs.JiffDates.{can_add_years, later_date, years_added}
use Rattle.vault_base_time.proofs.YearsLater.{same_date}
use Rattle.vault_base_time.proofs.calendar.Date.plus_years.Goals as goal

small : (c : goal.After-checked_add-later) → c.args.self.year + c.args.years ≤ last_year
small c = omega (arith, c.if-year-gt-LAST_YEAR.false, c.from.ensures, c.from-2.ensures)

only : (c : goal.After-checked_add-later) → IsOnly Year (pos c.args.years) c.years.result
only c =
    let f : FitsSigned w64 c.from-3.result = omega (arith, signed_arith, c.from-3.type_inv) in
    rw (to_z-of_z f, c.from-3.ensures) at c.years.ensures

pub unwrap-requires : goal.unwrap-requires
unwrap-requires c =
    (c.checked_add-later.ensures.succeeds).1 (can_add_years c.to_civil.result c.args.self c.args.years c.years.result c.requires c.to_civil.ensures (small c) (only c))

pub of_civil-requires : goal.of_civil-requires
of_civil-requires c =
    let f : FitsSigned w64 c.from-3.result = omega (arith, signed_arith, c.from-3.type_inv) in
    let only : IsOnly Year (pos c.args.years) c.years.result = rw (to_z-of_z f, c.from-3.ensures) at c.years.ensures in
    let small : c.args.self.year + c.args.years ≤ last_year = omega (arith, c.if-year-gt-LAST_YEAR.false, c.from.ensures, c.from-2.ensures) in
    let added = rw c.unwrap.ensures at c.checked_add-later.ensures.value in
    let parts = years_added c.to_civil.result c.args.self c.args.years c.years.result c.requires c.to_civil.ensures small only c.unwrap.result added in
    omega (arith, ints, parts.0, c.requires.1)

same : (c : goal.After-of_civil) → (c.args.self.year + c.args.years ≤ last_year) × (c.of_civil.result ≡ date_years_later c.args.years c.args.self)
same c =
    let f : FitsSigned w64 c.from-3.result = omega (arith, signed_arith, c.from-3.type_inv) in
    let only : IsOnly Year (pos c.args.years) c.years.result = rw (to_z-of_z f, c.from-3.ensures) at c.years.ensures in
    let small : c.args.self.year + c.args.years ≤ last_year = omega (arith, c.if-year-gt-LAST_YEAR.false, c.from.ensures, c.from-2.ensures) in
    let added = rw c.unwrap.ensures at c.checked_add-later.ensures.value in
    let parts = years_added c.to_civil.result c.args.self c.args.years c.years.result c.requires c.to_civil.ensures small only c.unwrap.result added in
    let is = same_date c.of_civil.result (date_years_later c.args.years c.args.self) (c.of_civil.ensures.year ∙ parts.0, c.of_civil.ensures.month ∙ parts.1, c.of_civil.ensures.day ∙ parts.2) in
    (small, is)

pub returns-clause-value : goal.returns-clause-value
returns-clause-value c =
    let test : nat_le (c.args.self.year + c.args.years) last_year ≡ true = grind (arith, common_steps, (same c).0) in
    rw test (ap Some (same c).1)

pub returns-clause-date : goal.returns-clause-date
returns-clause-date c = subst IsDate (sym (same c).1) (later_date c.args.years c.args.self c.requires (same c).0)

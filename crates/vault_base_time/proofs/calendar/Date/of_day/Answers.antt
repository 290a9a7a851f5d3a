use Rattle.std.proofs.Common.{◌≡◌, pos, subst, sym, arith, ◌∙◌}
use Rattle.std.proofs.lemmas.Int.{ints}
use Rattle.vault_base_time.specs.Calendar.{date_of, IsDate}
use Rattle.vault_base_time.proofs.Dates.{date_of_is, date_of_only}
use Rattle.vault_base_time.proofs.YearsLater.{same_date}
use Rattle.vault_base_time.proofs.calendar.Date.of_day.Goals as goal

pub of_civil-requires : goal.of_civil-requires
of_civil-requires c =
    let same = date_of_only c.args.day c.date_of.result c.requires c.date_of.ensures in
    omega (arith, ints, same.0, (date_of_is c.args.day c.requires).is.1)

same : (c : goal.After-of_civil) → c.of_civil.result ≡ date_of c.args.day
same c =
    let s = date_of_only c.args.day c.date_of.result c.requires c.date_of.ensures in
    same_date c.of_civil.result (date_of c.args.day) (c.of_civil.ensures.year ∙ s.0, c.of_civil.ensures.month ∙ s.1, c.of_civil.ensures.day ∙ s.2)

pub returns-clause-value : goal.returns-clause-value
returns-clause-value c = same c

pub returns-clause-date : goal.returns-clause-date
returns-clause-date c = subst IsDate (sym (same c)) (date_of_is c.args.day c.requires).is

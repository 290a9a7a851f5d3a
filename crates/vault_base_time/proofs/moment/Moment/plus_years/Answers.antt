use Rattle.vault_base_time.proofs.YearsLater.{years_later_is}
use Rattle.vault_base_time.proofs.moment.Moment.plus_years.Goals as goal

pub returns-clause-date : goal.returns-clause-date
returns-clause-date c =
    rw (c.from.ensures, ← c.self.view_is) (years_later_is c.args.years c.self.inside.seconds c.in_ok-day.day c.self.invariant c.in_ok-day.ensures)

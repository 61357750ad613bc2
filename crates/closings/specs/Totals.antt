-- What a year adds to a line's totals, and totals that it can be added to: within the limits of the last year of all.
-- Assumes nothing: these are definitions.
use Rattle.std.specs.Prelude.{◌≤◌, nat_abs, Some}
use Rattle.reserve.specs.declared.year_end.YearEnd.{YearEnd}
use Rattle.line_limits.specs.declared.totals.Totals.{Totals}
use Rattle.line_limits.specs.Totals.{most_a_year, Within}

pub record OfAYear (end : YearEnd) : Type 0 where
  pub paid_limit : nat_abs end.paid ≤ most_a_year
  pub loss_limit : nat_abs end.loss ≤ most_a_year

pub record Growing (before : Totals) (end : YearEnd) : Type 0 where
  pub within : Within (Some 2099) before
  pub year : OfAYear end

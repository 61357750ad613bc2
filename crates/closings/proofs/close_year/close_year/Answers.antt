-- `closings::close_year::close_year` meets its contract: the goals that the check leaves. Assumes nothing.
use Rattle.ledger.proofs.Settling.{letter_refused, count_refused, limits_refused, goes_on}
use Rattle.closings.proofs.YearAsked.{year_sound}
use Rattle.closings.proofs.close_year.close_year.Goals as goal

pub returns-then-not-is_covered : goal.returns-then-not-is_covered
returns-then-not-is_covered c = search letter_refused

pub returns-then-not-has_lengths : goal.returns-then-not-has_lengths
returns-then-not-has_lengths c = search count_refused

pub returns-then-not-is_within_limits : goal.returns-then-not-is_within_limits
returns-then-not-is_within_limits c = search limits_refused

pub returns : goal.returns
returns c = search (goes_on, year_sound)

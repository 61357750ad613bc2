-- `reserve::year_end::year_end` meets its contract: the goals that the check leaves. Assumes nothing.
use Rattle.reserve.proofs.YearEnds.{letter_covered, letter_refused}
use Rattle.reserve.proofs.year_end.year_end.Goals as goal

pub returns-then-not-is_covered : goal.returns-then-not-is_covered
returns-then-not-is_covered c = search letter_refused

pub returns : goal.returns
returns c = search letter_covered

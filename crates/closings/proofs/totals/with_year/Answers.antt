-- `closings::totals::with_year` meets its contract: the goals that the check leaves. Assumes nothing.
use Rattle.closings.proofs.YearAdded.{paid_fits, losses_fit, year_added}
use Rattle.closings.proofs.totals.with_year.Goals as goal

pub overflow_add-result-2 : goal.overflow_add-result-2
overflow_add-result-2 c = search paid_fits

pub overflow_add-result-3 : goal.overflow_add-result-3
overflow_add-result-3 c = search losses_fit

pub returns : goal.returns
returns c = search year_added

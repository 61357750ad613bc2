-- `totals::totals` meets its contract: the goals that the check leaves. Assumes nothing.
use Rattle.totals.proofs.Summed.{uncovered, letter_on}
use Rattle.totals.proofs.totals.Goals as goal

pub returns-in-Some : goal.returns-in-Some
returns-in-Some c = search letter_on

pub returns-in-None : goal.returns-in-None
returns-in-None c = search uncovered

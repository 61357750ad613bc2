-- `totals::ask_declared` meets its contract: the goals that the check leaves. Assumes nothing.
use Rattle.totals.proofs.Summed.{undeclared, summed}
use Rattle.totals.proofs.ask_declared.Goals as goal

pub returns-then-is_none : goal.returns-then-is_none
returns-then-is_none c = search undeclared

pub returns : goal.returns
returns c = search summed

-- `closings::close_year::ask_declared` meets its contract: the goals that the check leaves. Assumes nothing.
use Rattle.closings.proofs.YearAsked.{undeclared, out_of_turn}
use Rattle.closings.proofs.close_year.ask_declared.Goals as goal

pub returns-then-is_none : goal.returns-then-is_none
returns-then-is_none c = search undeclared

pub returns-in_default : goal.returns-in_default
returns-in_default c = search out_of_turn

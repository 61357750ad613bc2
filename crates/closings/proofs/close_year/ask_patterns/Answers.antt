-- `closings::close_year::ask_patterns` meets its contract: the goals that the check leaves. Assumes nothing.
use Rattle.closings.proofs.YearAsked.{no_pattern}
use Rattle.closings.proofs.close_year.ask_patterns.Goals as goal

pub returns-then-not-have_patterns : goal.returns-then-not-have_patterns
returns-then-not-have_patterns c = search no_pattern

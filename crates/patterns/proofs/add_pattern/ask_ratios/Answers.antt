-- `patterns::add_pattern::ask_ratios` meets its contract: the goals that the check leaves. Assumes nothing.
use Rattle.patterns.proofs.PatternAdded.{pattern_added}
use Rattle.patterns.proofs.PatternAsked.{ratios_refused}
use Rattle.patterns.proofs.add_pattern.ask_ratios.Goals as goal

pub returns-in-Ok : goal.returns-in-Ok
returns-in-Ok c = search pattern_added

pub returns-in-Err : goal.returns-in-Err
returns-in-Err c = search ratios_refused

-- `patterns::add_pattern::add_pattern` meets its contract: the goals that the check leaves. Assumes nothing.
use Rattle.ledger.proofs.Settling.{letter_refused, count_refused, limits_refused, goes_on}
use Rattle.patterns.proofs.PatternAsked.{pattern_sound}
use Rattle.patterns.proofs.add_pattern.add_pattern.Goals as goal

pub returns-then-not-is_covered : goal.returns-then-not-is_covered
returns-then-not-is_covered c = search letter_refused

pub returns-then-not-has_lengths : goal.returns-then-not-has_lengths
returns-then-not-has_lengths c = search count_refused

pub returns-then-not-has_limits : goal.returns-then-not-has_limits
returns-then-not-has_limits c = search limits_refused

pub returns : goal.returns
returns c = search (goes_on, pattern_sound)

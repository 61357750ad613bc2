-- `patterns::add_pattern::ask_declared` meets its contract: the goals that the check leaves. Assumes nothing.
use Rattle.patterns.proofs.PatternAsked.{undeclared, unrated, out_of_turn}
use Rattle.patterns.proofs.add_pattern.ask_declared.Goals as goal

pub returns-then-is_none : goal.returns-then-is_none
returns-then-is_none c = search undeclared

pub returns-in_default : goal.returns-in_default
returns-in_default c = search unrated

pub returns-then-not-follows_last : goal.returns-then-not-follows_last
returns-then-not-follows_last c = search out_of_turn

-- `ledger::set_rate::ask_given` meets its contract: the goals that the check leaves. Assumes nothing.
use borrow.Author.Rules.{rules}
use Rattle.ledger.proofs.RateSet.{rate_given, rate_set}
use Rattle.ledger.proofs.set_rate.ask_given.Goals as goal

pub returns-in-Some : goal.returns-in-Some
returns-in-Some c = search rate_given

pub returns-in-None : goal.returns-in-None
returns-in-None c = search (rate_set, rules)

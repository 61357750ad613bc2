-- `ledger::declare::ask_given` meets its contract: the goals that the check leaves. Assumes nothing.
use Rattle.ledger.proofs.Declared.{given_refused, declared}
use Rattle.ledger.proofs.declare.ask_given.Goals as goal

pub returns-then-is_some : goal.returns-then-is_some
returns-then-is_some c = search given_refused

pub returns : goal.returns
returns c = search declared

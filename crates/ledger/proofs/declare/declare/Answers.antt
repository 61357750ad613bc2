-- `ledger::declare::declare` meets its contract: the goals that the check leaves. Assumes nothing.
use Rattle.ledger.proofs.Declared.{uncovered, opening_none, opening_on}
use Rattle.ledger.proofs.declare.declare.Goals as goal

pub returns-in_default : goal.returns-in_default
returns-in_default c = search uncovered

pub returns-in_default-new : goal.returns-in_default-new
returns-in_default-new c = search opening_none

pub returns : goal.returns
returns c = search opening_on

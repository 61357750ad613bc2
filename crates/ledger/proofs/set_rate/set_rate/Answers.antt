-- `ledger::set_rate::set_rate` meets its contract: the goals that the check leaves. Assumes nothing.
use Rattle.ledger.proofs.RateSet.{year_refused, months_refused, rate_on}
use Rattle.ledger.proofs.set_rate.set_rate.Goals as goal

pub returns-in-Ok : goal.returns-in-Ok
returns-in-Ok c = search rate_on

pub returns-in-Ok-2 : goal.returns-in-Ok-2
returns-in-Ok-2 c = search year_refused

pub returns-in-Err : goal.returns-in-Err
returns-in-Err c = search months_refused

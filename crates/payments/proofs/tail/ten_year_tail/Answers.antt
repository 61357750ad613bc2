-- `payments::tail::ten_year_tail` meets its contract: the goals that the check leaves. Assumes nothing.
use Rattle.payments.proofs.Tails.{on, end}
use Rattle.payments.proofs.tail.ten_year_tail.Goals as goal

pub loop-at-preserved : goal.loop-at-preserved
loop-at-preserved c = search on

pub returns : goal.returns
returns c = search end

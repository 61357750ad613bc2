-- `reserve::row::discounted` meets its contract: the goals that the check leaves. Assumes nothing.
use Rattle.reserve.proofs.Values.{discounted_is}
use Rattle.reserve.proofs.row.discounted.Goals as goal

pub returns : goal.returns
returns c = search discounted_is

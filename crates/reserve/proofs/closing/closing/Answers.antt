-- `reserve::closing::closing` meets its contract: the goals that the check leaves. Assumes nothing.
use Rattle.reserve.proofs.ClosingSum.{on, stop, end}
use Rattle.reserve.proofs.closing.closing.Goals as goal

pub returns-in_err-row : goal.returns-in_err-row
returns-in_err-row c =
    rw c.from_residual.ensures (stop _ _ _ _ _ c.requires c.loop-k.invariant c.loop-k-test.true _ c.discounted_row.ensures c.in_err-row.was)

pub loop-k-preserved : goal.loop-k-preserved
loop-k-preserved c =
    on _ _ _ _ _ c.requires c.loop-k.invariant c.loop-k-test.true _ c.discounted_row.ensures _ c.in_ok-row.was _ c.number-sum.ensures.value c.number-sum.ensures.within

pub returns : goal.returns
returns c = search end

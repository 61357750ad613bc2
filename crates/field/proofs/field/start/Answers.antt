-- `field::field::start` meets its contract: the goals that the check leaves. Assumes nothing.
use native.Mathlib.Omega.{arith}
use Rattle.field.proofs.Fields.{pass_start, pass_none, pass_on}
use Rattle.field.proofs.field.start.Goals as goal

pub loop-init : goal.loop-init
loop-init c = search pass_start

pub returns-in_err-at : goal.returns-in_err-at
returns-in_err-at c = pass_none _ _ _ _ c.loop.invariant (omega arith) c.in_err-at.ensures _ c.from_residual.ensures

pub loop-preserved : goal.loop-preserved
loop-preserved c = pass_on _ _ _ _ c.loop.invariant (omega arith) c.in_ok-at.field-0 c.in_ok-at.ensures

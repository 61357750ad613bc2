-- `numbers::number::below_zero` meets its contract: the goals that the check leaves. Assumes nothing.
use native.Mathlib.Omega.{arith}
use Rattle.numbers.proofs.Signs.{below_none, below_nought, below_is, number_long}
use Rattle.numbers.proofs.number.below_zero.Goals as goal

pub returns-in_err-number : goal.returns-in_err-number
returns-in_err-number c = below_none _ c.in_err-number.ensures _ c.from_residual.ensures

pub returns-then-number-eq0 : goal.returns-then-number-eq0
returns-then-number-eq0 c = below_nought _ c.in_ok-number.number c.in_ok-number.ensures c.if-number-eq0.true

pub overflow_add-result : goal.overflow_add-result
overflow_add-result c = omega (arith, c.well_formed, number_long c.args.rest.now c.in_ok-number.number c.in_ok-number.ensures)

pub returns : goal.returns
returns c = below_is _ c.in_ok-number.number c.in_ok-number.ensures c.if-number-eq0.false

-- `numbers::front::leading_digits` meets its contract: the goals that the check leaves. Assumes nothing.
use native.Mathlib.Omega.{arith}
use mathlib.Core.Path.{sym}
use Rattle.numbers.proofs.Digits.{told_start, told_on}
use Rattle.numbers.proofs.front.leading_digits.Goals as goal

pub loop-length-init : goal.loop-length-init
loop-length-init c = search told_start

pub loop-length-preserved : goal.loop-length-preserved
loop-length-preserved c = told_on _ _ _ c.loop-length.invariant (omega arith) (sym c.if-not-is_ascii_digit.ensures.value) _ c.longer-size.ensures

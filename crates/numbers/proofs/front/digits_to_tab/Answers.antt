-- `numbers::front::digits_to_tab` meets its contract: the goals that the check leaves. Assumes nothing.
use native.Mathlib.Omega.{arith}
use mathlib.Core.Path.{sym}
use Rattle.numbers.proofs.Digits.{early_start, front_on, front_stop}
use Rattle.numbers.proofs.front.digits_to_tab.Goals as goal

pub loop-length-init : goal.loop-length-init
loop-length-init c = search early_start

pub returns-then-not-is_ascii_digit : goal.returns-then-not-is_ascii_digit
returns-then-not-is_ascii_digit c = front_stop _ _ _ c.loop-length.invariant (omega arith) c.in_ok-front.ensures.cases.enough _ c.in_ok-front.ensures.cases.same (sym c.if-not-is_ascii_digit.ensures.value) _ c.then_some.ensures

pub loop-length-preserved : goal.loop-length-preserved
loop-length-preserved c = front_on _ _ _ c.loop-length.invariant (omega arith) c.in_ok-front.ensures.cases.enough _ c.in_ok-front.ensures.cases.same (sym c.if-not-is_ascii_digit.ensures.value) _ c.from.ensures

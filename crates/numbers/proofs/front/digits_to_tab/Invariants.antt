-- `numbers::front::digits_to_tab`: what its loop keeps. Assumes nothing.
use Rattle.numbers.proofs.Digits.{Early}
use Rattle.numbers.proofs.front.digits_to_tab.Given as goal

abbrev pub invariant-loop-length : goal.invariant-loop-length
invariant-loop-length l = Early l.rest l.size l.length

-- `numbers::front::leading_digits`: what its loop keeps. Assumes nothing.
use Rattle.numbers.specs.Number.{Told}
use Rattle.numbers.proofs.front.leading_digits.Given as goal

abbrev pub invariant-loop-length : goal.invariant-loop-length
invariant-loop-length l = Told l.rest l.size l.length

-- `payments::tail::ten_year_tail`: what its loop keeps. Assumes nothing.
use Rattle.payments.proofs.Tails.{Tailing}
use Rattle.payments.proofs.tail.ten_year_tail.Given as goal

abbrev pub invariant-loop-at : goal.invariant-loop-at
invariant-loop-at l = Tailing l.initial.paid l.cap l.unpaid l.paid l.left l.at

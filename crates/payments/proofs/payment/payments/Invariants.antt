-- `payments::payment::payments`: what its loop keeps. Assumes nothing.
use Rattle.payments.proofs.Ages.{Paying}
use Rattle.payments.proofs.payment.payments.Given as goal

abbrev pub invariant-loop-i : goal.invariant-loop-i
invariant-loop-i l = Paying l.paid l.incurred l.pay l.last l.i

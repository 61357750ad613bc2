-- `factor::composite::mean_factor`: what its loop keeps. Assumes nothing.
use Rattle.factor.proofs.Means.{Averaging}
use Rattle.factor.proofs.composite.mean_factor.Given as goal

abbrev pub invariant-loop-at : goal.invariant-loop-at
invariant-loop-at l = Averaging l.pay l.fn.half l.fn.rate l.unpaid l.weight l.weighted l.at

-- `reserve::closing::closing`: what its loop keeps. Assumes nothing.
use Rattle.reserve.proofs.ClosingSum.{Summed}
use Rattle.reserve.proofs.closing.closing.Given as goal

abbrev pub invariant-loop-k : goal.invariant-loop-k
invariant-loop-k l = Summed l.unpaid l.tabular l.factors l.sum l.k

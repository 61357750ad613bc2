-- `closings::rows::row_factors`: what its loop keeps. Assumes nothing.
use Rattle.closings.proofs.RowLoops.{Filled}
use Rattle.closings.proofs.rows.row_factors.Given as goal

abbrev pub invariant-loop-k : goal.invariant-loop-k
invariant-loop-k l = Filled l.store l.letter l.patterns l.factors l.k

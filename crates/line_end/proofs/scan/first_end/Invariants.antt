-- `line_end::scan::first_end`: what its loop keeps. Assumes nothing.
use Rattle.line_end.proofs.First.{Searched}
use Rattle.line_end.proofs.scan.first_end.Given as goal

abbrev pub invariant-loop-i : goal.invariant-loop-i
invariant-loop-i l = Searched l.bytes l.first l.i

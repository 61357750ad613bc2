-- `field::field::start`: what its loop keeps. Assumes nothing.
use Rattle.field.proofs.Fields.{Passing}
use Rattle.field.proofs.field.start.Given as goal

abbrev pub invariant-loop : goal.invariant-loop
invariant-loop l = Passing l.line l.place l.at l.counter

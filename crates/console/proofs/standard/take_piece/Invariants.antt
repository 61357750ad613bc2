-- The loop of `take_piece`: the front of the piece is taken, and what it is answered is written.
use Rattle.std.proofs.Common.{length}
use Rattle.console.proofs.Through.{Between}
use Rattle.console.proofs.standard.take_piece.Given as goal

abbrev pub invariant-loop-rest : goal.invariant-loop-rest
invariant-loop-rest g l = Between (g.W.Write.contents l.fn.output) (g.W.Write.contents l.output) l.fn.run l.fn.store l.piece l.rest l.last l.store

abbrev pub decreases-loop-rest : goal.decreases-loop-rest
decreases-loop-rest g l = length l.rest

-- `answer_whole_lines`: what its loop keeps, and what falls.
use Rattle.std.proofs.Common.{◌-◌, length}
use Rattle.pieces.proofs.Feeding.{Seeking}
use Rattle.pieces.proofs.answer_lines.answer_whole_lines.Given as goal

abbrev pub invariant-loop-store : goal.invariant-loop-store
invariant-loop-store l = Seeking l.initial.last l.initial.store l.piece l.start l.initial.out l.last l.at l.end l.store l.out

abbrev pub decreases-loop-store : goal.decreases-loop-store
decreases-loop-store l = length l.piece - l.end

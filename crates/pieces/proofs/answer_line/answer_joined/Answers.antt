-- `answer_joined`: the goals that the check leaves.
use Rattle.pieces.proofs.Answering.{answers_joined}
use Rattle.pieces.proofs.answer_line.answer_joined.Goals as goal

pub returns : goal.returns
returns c = answers_joined _ _ c.args.begun.now c.args.rest.now _ c.join-line.ensures _ _ _ _ _ (rw c.as_slice.ensures at c.answer_line.ensures)

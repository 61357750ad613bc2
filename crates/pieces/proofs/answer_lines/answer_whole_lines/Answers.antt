-- `answer_whole_lines`: the goals that the check leaves.
use Rattle.pieces.proofs.Feeding.{seek_on}
use Rattle.pieces.proofs.answer_lines.answer_whole_lines.Goals as goal

pub loop-store-preserved : goal.loop-store-preserved
loop-store-preserved c = search seek_on

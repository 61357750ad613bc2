-- `feed`: the goals that the check leaves.
use Rattle.pieces.proofs.FeedEnds.{feeds_room, feeds_full}
use Rattle.pieces.proofs.feed.feed.Goals as goal
use Rattle.pieces.proofs.feed.feed.Goals.{then-has_room, else-has_room}

pub returns : goal.returns
returns c =
    elim c.if-has_room.branch [
      | then-has_room all ↦ feeds_room _ _ _ _ _ c.as_slice-begun.ensures _ _ _ c.answer_lines-lines.ensures _ c.has_room.ensures all.if-has_room.true _ all.taken-is _ c.join-line.ensures
      | else-has_room part ↦ feeds_full _ _ _ _ _ c.as_slice-begun.ensures _ _ _ c.answer_lines-lines.ensures _ c.has_room.ensures part.if-has_room.false _ part.taken-is _ c.join-line.ensures
    ]

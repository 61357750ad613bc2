-- `close`: the goals that the check leaves.
use Rattle.std.proofs.Common.{rules}
use Rattle.pieces.proofs.FeedEnds.{closes_none, closes_line}
use Rattle.pieces.proofs.feed.close.Goals as goal

pub returns-then-is_empty : goal.returns-then-is_empty
returns-then-is_empty c = closes_none _ _ _ _ c.as_slice-line.ensures _ c.is_empty.ensures c.if-is_empty.true

pub returns : goal.returns
returns c = closes_line _ _ _ _ c.as_slice-line.ensures _ c.is_empty.ensures c.if-is_empty.false (search rules) _ _ _ c.answer_line.ensures

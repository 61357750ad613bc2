-- `answer_lines`: the goals that the check leaves.
use Rattle.std.proofs.Common.{rules}
use Rattle.pieces.proofs.FeedEnds.{none_begun, first_joined, none_joined}
use Rattle.pieces.proofs.answer_lines.answer_lines.Goals as goal

pub returns-then-is_empty : goal.returns-then-is_empty
returns-then-is_empty c = none_begun _ _ _ _ _ c.requires _ c.is_empty.ensures c.if-is_empty.true _ _ _ c.answer_whole_lines.ensures

pub returns-then-can_answer : goal.returns-then-can_answer
returns-then-can_answer c = search (first_joined, rules)

pub returns : goal.returns
returns c = search (none_joined, rules)

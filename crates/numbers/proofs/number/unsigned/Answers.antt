-- `numbers::number::unsigned` meets its contract: the goals that the check leaves. Assumes nothing.
use Rattle.numbers.proofs.Signs.{unsigned_is, unsigned_end, unsigned_none}
use Rattle.numbers.proofs.number.unsigned.Goals as goal
use Rattle.numbers.proofs.number.unsigned.Goals.{else-is_unpadded-via-then-is_unpadded+else-is_end, else-is_unpadded-via-else-is_unpadded}

pub returns-then-is_end : goal.returns-then-is_end
returns-then-is_end c = unsigned_is _ _ c.leading_digits-digits.ensures _ c.is_unpadded.ensures _ c.is_end.ensures c.if-is_unpadded.true c.if-is_end.true _ c.from.ensures

pub returns-else-is_unpadded : goal.returns-else-is_unpadded
returns-else-is_unpadded c =
    elim c.else-is_unpadded.branch [ else-is_unpadded-via-then-is_unpadded+else-is_end w ↦ unsigned_end _ _ c.leading_digits-digits.ensures _ c.is_unpadded.ensures _ w.is_end.ensures w.if-is_end.false | else-is_unpadded-via-else-is_unpadded w ↦ unsigned_none _ _ c.is_unpadded.ensures w.if-is_unpadded.false ]

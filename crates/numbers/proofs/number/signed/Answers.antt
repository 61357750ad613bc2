-- `numbers::number::signed` meets its contract: the goals that the check leaves. Assumes nothing.
use Rattle.numbers.proofs.Signs.{minus_signed, not_signed, not_allowed}
use Rattle.numbers.proofs.number.signed.Goals as goal
use Rattle.numbers.proofs.number.signed.Goals.{else-allowed-via-then-allowed+else-has_minus, else-allowed-via-else-allowed}

pub returns-then-has_minus : goal.returns-then-has_minus
returns-then-has_minus c = minus_signed _ _ _ c.if-allowed.true c.has_minus.ensures c.if-has_minus.true _ c.below_zero.ensures

pub returns-else-allowed : goal.returns-else-allowed
returns-else-allowed c =
    elim c.else-allowed.branch [ else-allowed-via-then-allowed+else-has_minus w ↦ not_signed _ _ _ w.has_minus.ensures w.if-has_minus.false _ c.unsigned.ensures | else-allowed-via-else-allowed w ↦ not_allowed _ _ w.if-allowed.false _ c.unsigned.ensures ]

-- `walk`: where no age is left, and one age back.
use Rattle.std.proofs.Common.{arith}
use Rattle.factor.proofs.Steps.{done, walkable_next, walked_back, weighable}
use Rattle.factor.proofs.walk.+walk.Goals as goal

pub returns-then-at-pay : goal.returns-then-at-pay
returns-then-at-pay t c = rw c.number.ensures.value (done _ _ _ _ _ c.requires c.if-at-pay.true)

pub walk-next-requires : goal.walk-next-requires
walk-next-requires t c = (omega arith, walkable_next _ _ _ c.requires (omega arith))

pub worked_back-requires : goal.worked_back-requires
worked_back-requires t c = weighable _ _ _ c.requires (omega arith) _ _ _ _ _ c.walk-next.ensures

pub returns : goal.returns
returns t c = rw c.worked_back.ensures (walked_back _ _ _ c.requires (omega arith) _ _ _ _ _ c.walk-next.ensures)

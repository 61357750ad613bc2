-- The walk ends: the number of ages still to come falls.
use Rattle.std.proofs.Common.{◌-◌, length}
use Rattle.factor.proofs.walk.+walk.Given as goal

abbrev pub decreases-walk : goal.decreases-walk
decreases-walk l = length l.pay.now - l.at

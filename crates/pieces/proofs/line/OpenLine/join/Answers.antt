-- `OpenLine::join`: the goals that the check leaves.
use Rattle.std.proofs.Common.{refl}
use Rattle.pieces.proofs.Joining.{two_parts}
use Rattle.pieces.proofs.line.OpenLine.join.Goals as goal

pub returns : goal.returns
returns c =
    two_parts _ _ _ _ c.put_some-first.ensures.count c.put_some-first.ensures.after _ _ _ refl c.put_some.ensures.count c.put_some.ensures.after

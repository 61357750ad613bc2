-- `take_piece`: the goals that the check leaves.
use Rattle.console.proofs.Taking.{take_failed, told_failed}
use Rattle.console.proofs.Through.{between_start, between_on}
use Rattle.console.proofs.standard.take_piece.Goals as goal

pub loop-rest-init : goal.loop-rest-init
loop-rest-init g c = search between_start

pub loop-rest-preserved : goal.loop-rest-preserved
loop-rest-preserved g c = between_on _ _ _ _ _ _ _ _ c.loop-rest.invariant _ _ _ c.in_ok-fed.ensures.takes c.in_ok-fed.ensures.written

pub returns-in_err-fed-clause-failed : goal.returns-in_err-fed-clause-failed
returns-in_err-fed-clause-failed g c =
    told_failed _ _ (take_failed _ _ _ _ _ c.loop-rest.invariant.parts _ _ c.loop-rest.invariant.takes _ c.in_err-fed.ensures.failed)

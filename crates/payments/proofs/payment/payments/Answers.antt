-- `payments::payment::payments` meets its contract: the goals that the check leaves. Assumes nothing.
use native.Mathlib.Omega.{arith}
use Rattle.payments.proofs.Ages.{sound_at, ratio_fits, stop, on, end}
use Rattle.payments.proofs.payment.payments.Goals as goal

pub cumulative_ratio-ratio-requires : goal.cumulative_ratio-ratio-requires
cumulative_ratio-ratio-requires c = search sound_at

pub returns-then-ratio-last : goal.returns-then-ratio-last
returns-then-ratio-last c = search stop

pub overflow_mul-pay : goal.overflow_mul-pay
overflow_mul-pay c =
    omega (arith, ratio_fits c.args.paid.now c.args.incurred.now c.loop-i.pay c.loop-i.last c.loop-i.i c.requires c.loop-i.invariant (omega arith) c.cumulative_ratio-ratio.result c.cumulative_ratio-ratio.ensures)

pub loop-i-preserved : goal.loop-i-preserved
loop-i-preserved c = search on

pub returns : goal.returns
returns c = search end

-- `closings::rows::row_factors` meets its contract: the goals that the check leaves. Assumes nothing.
use Rattle.closings.proofs.RowLoops.{fill_start}
use Rattle.closings.proofs.rows.row_factors.Goals as goal

pub loop-k-init : goal.loop-k-init
loop-k-init c = search fill_start

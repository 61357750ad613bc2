-- `closings::totals::add_year` meets its contract: the goals that the check leaves. Assumes nothing.
use Rattle.closings.proofs.YearAdded.{growing}
use Rattle.closings.proofs.totals.add_year.Goals as goal

pub with_year-requires : goal.with_year-requires
with_year-requires c =
    growing _ _ c.args.closed _ c.totals_of-before.ensures _ c.requires

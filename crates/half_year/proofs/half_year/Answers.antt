-- `half_year::half_year` meets its contract: the goals that the check leaves. Assumes nothing.
use Rattle.half_year.proofs.Entries.{of_rate}
use Rattle.half_year.proofs.half_year.Goals as goal

pub returns : goal.returns
returns c = search of_rate

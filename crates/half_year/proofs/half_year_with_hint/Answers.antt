-- `half_year::half_year_with_hint` meets its contract: the goals that the check leaves. Assumes nothing.
use Rattle.half_year.proofs.Entries.{passed}
use Rattle.half_year.proofs.half_year_with_hint.Goals as goal

pub returns-then-is_half_year : goal.returns-then-is_half_year
returns-then-is_half_year c = search passed

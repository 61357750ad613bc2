-- `closings::close_year::end_year` meets its contract: the goals that the check leaves. Assumes nothing.
use borrow.Author.Rules.{rules}
use Rattle.closings.proofs.YearClosed.{end_answered, figures_small, year_closed}
use Rattle.closings.proofs.close_year.end_year.Goals as goal

pub unwrap-end-requires : goal.unwrap-end-requires
unwrap-end-requires c =
    rw (c.year_end.ensures, end_answered _ _ _ _ _ _ _ _ c.requires _ c.row_factors-factors.ensures _ c.opening_of-opening.ensures)

pub add_year-requires : goal.add_year-requires
add_year-requires c =
    figures_small _ _ _ _ _ _ _ _ c.requires _ c.row_factors-factors.ensures _ c.opening_of-opening.ensures _ c.year_end.ensures _ c.unwrap-end.ensures

pub returns : goal.returns
returns c =
    year_closed _ _ _ _ _ _ _ _ c.requires _ c.row_factors-factors.ensures _ c.opening_of-opening.ensures _ c.year_end.ensures _ c.unwrap-end.ensures
    _ (search rules) _ c.add_year.ensures _ c.with_closing.ensures _ c.keep_line.ensures _ c.accept.ensures

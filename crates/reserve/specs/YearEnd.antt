-- A year end of the rows of a year, the kept factors of the rows in a list, and the opening.
-- Assumes nothing: these are definitions.
use Rattle.std.specs.Prelude.{Bool, ◌&&◌, List, [], ◌∷◌, ℕ, ℤ, Result}
use Rattle.model.specs.Call.{close_year}
use Rattle.model.specs.Letter.{covered}
use Rattle.model.specs.Question.{has_lengths, first_no}
use Rattle.model.specs.Row.{Row, rows_of}
use Rattle.model.specs.YearEnd.{paid_total, loss}
use Rattle.money.specs.Closing.{is_closing}
use Rattle.refusal.specs.Unless.{unless}
use Rattle.refusal.specs.declared.Refusal.{Refusal}
use Rattle.year_rows.specs.Limits.{has_limits}
use Rattle.reserve.specs.Closing.{are_factors, closing_at}
use Rattle.reserve.specs.declared.year_end.YearEnd.{YearEnd}

-- "4. Is the count of fields right?" "6. Is every number within its limits?"
abbrev pub questions : ℕ → List ℤ → List ℕ → List ℕ → List ℕ → ℕ → List (ℕ × Bool)
questions letter paid unpaid tabular factors opening =
    (4, has_lengths (close_year letter 0 paid unpaid tabular))
    ∷ (6, has_limits paid unpaid tabular && are_factors unpaid factors && is_closing opening)
    ∷ []

-- "Closing is the sum of discounted rows."; "Tax-basis loss is paid total plus closing less opening"
abbrev pub figures_of : List Row → List ℕ → ℕ → YearEnd
figures_of rows factors opening = record { paid = paid_total rows; closing = closing_at factors rows; loss = loss (paid_total rows) (closing_at factors rows) opening }

unfoldable pub rows_end : ℕ → List ℤ → List ℕ → List ℕ → List ℕ → ℕ → Result YearEnd Refusal
rows_end letter paid unpaid tabular factors opening =
    unless (first_no (questions letter paid unpaid tabular factors opening)) (figures_of (rows_of paid unpaid tabular) factors opening)

-- and question 3
unfoldable pub year_end : ℕ → List ℤ → List ℕ → List ℕ → List ℕ → ℕ → Result YearEnd Refusal
year_end letter paid unpaid tabular factors opening =
    unless (first_no ((3, covered letter) ∷ questions letter paid unpaid tabular factors opening)) (figures_of (rows_of paid unpaid tabular) factors opening)

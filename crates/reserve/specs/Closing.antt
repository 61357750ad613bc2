-- "Closing is the sum of discounted rows.", with the kept factors of the rows in a list.
-- Assumes nothing: these are definitions.
use Rattle.std.specs.Prelude.{Bool, ◌&&◌, List, [], ◌∷◌, ℕ, suc, length, take, get_or, Option, None, if◌then◌else◌}
use Rattle.model.specs.Basics.{sum}
use Rattle.std.specs.List.{list_all}
use Rattle.model.specs.Kind.{is_amount}
use Rattle.model.specs.Published.{published}
use Rattle.model.specs.Row.{Row, discounted, stated}
use Rattle.kinds.specs.Factor.{is_factor}
use Rattle.kinds.specs.Within.{within}
use Rattle.money.specs.Closing.{is_closing}
use Rattle.reserve.specs.Lists.{stated_rows}

-- the discounted rows, the first of them at place k
abbrev pub discounted_rows : List ℕ → ℕ → List Row → List ℕ
discounted_rows factors k [] = []
discounted_rows factors k (row ∷ rows) = discounted row (published (get_or factors k 0)) ∷ discounted_rows factors (suc k) rows

abbrev pub closing_at : List ℕ → List Row → ℕ
closing_at factors rows = sum (discounted_rows factors 0 rows)

-- "6. Is every number within its limits?", of the kept factors: those of the rows, and no others
abbrev pub are_factors : List ℕ → List ℕ → Bool
are_factors unpaid factors = list_all is_factor (take (length unpaid) factors)

-- a discounted row, where its numbers are within their limits
abbrev pub row_of : ℕ → ℕ → ℕ → Option ℕ
row_of unpaid tabular kept =
    if is_amount unpaid && is_amount tabular && is_factor kept then within is_amount (discounted (stated unpaid tabular) (published kept)) else None

-- the closing, where the numbers of the rows are within their limits
unfoldable pub closing_in : List ℕ → List ℕ → List ℕ → Option ℕ
closing_in unpaid tabular factors =
    if list_all is_amount unpaid && list_all is_amount tabular && are_factors unpaid factors then within is_closing (closing_at factors (stated_rows unpaid tabular)) else None

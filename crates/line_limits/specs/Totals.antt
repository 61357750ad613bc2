-- The totals of a line in three cells, each read through its limit: the count of closed years, all paid, all losses.
-- Assumes nothing: these are definitions.
use Rattle.std.specs.Prelude.{List, [], ◌∷◌, ℕ, ◌+◌, ◌-◌, ◌*◌, ◌≤◌, min, ℤ, pos, negsuc, nat_abs, ◌+ℤ◌, ◌-ℤ◌, get_or, if◌then◌else◌, Option, None, Some}
use Rattle.model.specs.Kind.{is_year}
use Rattle.model.specs.Book as model
use Rattle.model.specs.Step.{with_year}
use Rattle.line_limits.specs.declared.totals.Totals.{Totals}

-- the model's totals that these are, and these by the model's
abbrev pub totals_of : Totals → model.Totals
totals_of totals = record { years = totals.years; paid = totals.paid; losses = totals.losses }

abbrev pub totals_by : model.Totals → Totals
totals_by figures = record { years = figures.years; paid = figures.paid; losses = figures.losses }

-- the years from 1987 to the last closed one: none where none is closed
abbrev pub years_through : Option ℕ → ℕ
years_through None = 0
years_through (Some year) = if is_year year then year - 1987 + 1 else 0

-- what a year can lose at most, either sign; so a total is at most as much for each of these years
abbrev pub most_a_year : ℕ
most_a_year = 220000000000

unfoldable pub total_limit : Option ℕ → ℕ
total_limit closed = most_a_year * years_through closed

-- a cell has the distance of a total from the least one: what lies past the limit is read as the limit
unfoldable pub total_in : ℕ → ℕ → ℤ
total_in limit cell = pos (min cell (2 * limit)) -ℤ pos limit

-- a number, or 0 for one below 0
abbrev pub or_zero : ℤ → ℕ
or_zero (pos n) = n
or_zero (negsuc n) = 0

-- the cell of a total: what lies past the limit is kept as the limit
unfoldable pub total_cell : ℕ → ℤ → ℕ
total_cell limit total = min (or_zero (total +ℤ pos limit)) (2 * limit)

-- the totals in three cells, and their cells, by the last closed year
unfoldable pub totals_in : Option ℕ → List ℕ → Totals
totals_in closed cells =
    record {
      years = min (get_or cells 0 0) (years_through closed);
      paid = total_in (total_limit closed) (get_or cells 1 0);
      losses = total_in (total_limit closed) (get_or cells 2 0);
    }

unfoldable pub total_cells : Option ℕ → Totals → List ℕ
total_cells closed totals = totals.years ∷ total_cell (total_limit closed) totals.paid ∷ total_cell (total_limit closed) totals.losses ∷ []

-- totals within their limits
pub record Within (closed : Option ℕ) (totals : Totals) : Type 0 where
  pub years : totals.years ≤ years_through closed
  pub paid : nat_abs totals.paid ≤ total_limit closed
  pub losses : nat_abs totals.losses ≤ total_limit closed

-- the totals with one more year, as the model adds it
abbrev pub with_year_of : Totals → ℤ → ℤ → Totals
with_year_of totals paid loss = totals_by (with_year (totals_of totals) paid loss)

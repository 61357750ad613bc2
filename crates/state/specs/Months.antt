-- F-4: the register of monthly rates in the store, a cell for each month from January 1980 to December 2099.
-- Assumes nothing: these are definitions.
use Rattle.std.specs.Prelude.{Bool, ◌&&◌, List, [], ◌∷◌, ℕ, ◌+◌, ◌-◌, ◌*◌, eqb, get_or, if◌then◌else◌, Option, None}
use Rattle.model.specs.Kind.{is_register_year, is_month}
use Rattle.state.specs.Store.{written, months_start}
use Rattle.state.specs.Rates.{rate_in}

-- a month that has a cell
abbrev pub is_date : ℕ → ℕ → Bool
is_date year month = is_register_year year && is_month month

-- where the cells of a year start, and where that of a month stands
abbrev pub january_of : ℕ → ℕ
january_of year = months_start + (year - 1980) * 12

abbrev pub month_start : ℕ → ℕ → ℕ
month_start year month = january_of year + (month - 1)

-- what a cell holds: 0 is no rate, another number is one more than its rate, and a number above 2501 is none
abbrev pub month_in : ℕ → Option ℕ
month_in cell = if eqb cell 0 then None else rate_in (cell - 1)

-- the rate of each month
unfoldable pub register_of : List ℕ → ℕ → ℕ → Option ℕ
register_of store year month = if is_date year month then month_in (get_or store (month_start year month) 0) else None

-- the store with a month's rate: as it was, where the month has no cell
abbrev pub with_month_of : List ℕ → ℕ → ℕ → ℕ → List ℕ
with_month_of store year month rate = if is_date year month then written store (month_start year month) ((rate + 1) ∷ []) else store

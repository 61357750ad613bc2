-- "The book holds one rate place for each year from 1987 to 2099."
-- Assumes nothing: these are definitions.
use Rattle.std.specs.Prelude.{List, ℕ, ◌-◌, get_or, set, if◌then◌else◌, Option, None, Some}
use Rattle.model.specs.Kind.{is_rate, is_year}
use Rattle.state.specs.declared.book.Book.{Book}

-- what a rate place holds: what is no rate is the empty mark
abbrev pub rate_in : ℕ → Option ℕ
rate_in n = if is_rate n then Some n else None

-- each year's rate
unfoldable pub rates_of : List ℕ → ℕ → Option ℕ
rates_of places year = if is_year year then rate_in (get_or places (year - 1987) 0) else None

-- the book with a year's rate: as it was, where the year has no place
abbrev pub with_rate_of : Book → ℕ → ℕ → Book
with_rate_of book year rate =
    record { rates = if is_year year then set book.rates (year - 1987) rate else book.rates; accepted = book.accepted; refused = book.refused }

-- A month of the register.
-- Assumes nothing: this is a definition.
use Rattle.std.specs.Prelude.{ℕ, if◌then◌else◌, Option, Some, None}
use Rattle.state.specs.Months.{is_date}
use Rattle.register.specs.declared.date.Date.{Date}

-- the month that a year and a number of a month name, where it has a cell
abbrev pub date_of : ℕ → ℕ → Option Date
date_of year month = if is_date year month then Some (record { year = year; month = month }) else None

-- A date by the year and the month that it was asked for.
-- Assumes nothing.
use Rattle.std.specs.Prelude.{Option, None, Some}
use mathlib.Core.Bool.{Bool, true, false}
use mathlib.Core.Path.{◌≡◌}
use Prim.Native.Nat.{ℕ}
use Rattle.kinds.proofs.Taken.{taken, outside}
use Rattle.state.specs.Months.{is_date}
use Rattle.register.specs.declared.date.Date.{Date}
use Rattle.register.specs.Date.{date_of}

module _ (year month : ℕ) where
  abbrev named : Date
  named = record { year = year; month = month }

  abbrev has_cell : Date → Bool
  has_cell date = is_date year month

  pub found : (date : Date) → date_of year month ≡ Some date → (is_date year month ≡ true) × (date ≡ named)
  found date e = taken has_cell named date e

  pub none_found : date_of year month ≡ None → is_date year month ≡ false
  none_found e = outside has_cell named e

-- "TAX J 2015 50 0 43 93" and "TAX J 2016 40 43 8 5": the year ends of document 01's run; a loss below zero, and the refusals.
-- Assumes nothing.
use Rattle.std.specs.Prelude.{Ok, Err}
use mathlib.Core.List.{List, [], ◌∷◌}
use mathlib.Core.Path.{◌≡◌, refl}
use Prim.Native.Nat.{ℕ}
use lib.IntN.{pos, negsuc}
use Rattle.model.specs.Letter.{ten_year, two_year, ages}
use Rattle.model.specs.Row.{discounted}
use Rattle.model.specs.YearEnd.{paid_total}
use Rattle.reserve.specs.YearEnd.{year_end}
use Rattle.refusal.specs.Number.{refusal_of}
use Rattle.refusal.specs.declared.Refusal.TheVariants.{WrongCount, OutsideLimits}

-- the kept factors of the run's patterns
abbrev kept : List ℕ
kept = 8644963395 ∷ 8302028549 ∷ 9090909090 ∷ 0 ∷ 0 ∷ 0 ∷ 0 ∷ 0 ∷ 0 ∷ 0 ∷ 0 ∷ []

pub first_year : year_end 74 (pos 50 ∷ pos 0 ∷ pos 0 ∷ []) (50 ∷ 0 ∷ 0 ∷ []) (0 ∷ 0 ∷ 0 ∷ []) kept 0 ≡ Ok (record { paid = pos 50; closing = 43; loss = pos 93 })
unfolding year_end ages paid_total discounted ten_year two_year
first_year = refl

pub second_year_lem : year_end 74 (pos 0 ∷ pos 40 ∷ pos 0 ∷ []) (0 ∷ 10 ∷ 0 ∷ []) (0 ∷ 0 ∷ 0 ∷ []) kept 43 ≡ Ok (record { paid = pos 40; closing = 8; loss = pos 5 })
unfolding year_end ages paid_total discounted ten_year two_year
second_year_lem = refl

-- a loss below zero, and both refusals
pub below_zero : year_end 74 (negsuc 9 ∷ pos 0 ∷ pos 0 ∷ []) (0 ∷ 10 ∷ 0 ∷ []) (0 ∷ 0 ∷ 0 ∷ []) kept 43 ≡ Ok (record { paid = negsuc 9; closing = 8; loss = negsuc 44 })
unfolding year_end ages paid_total discounted ten_year two_year
below_zero = refl

pub short : year_end 74 (pos 0 ∷ pos 0 ∷ []) (0 ∷ 0 ∷ 0 ∷ []) (0 ∷ 0 ∷ 0 ∷ []) kept 0 ≡ Err WrongCount
unfolding year_end ages ten_year two_year refusal_of
short = refl

pub past_limit : year_end 74 (pos 0 ∷ pos 0 ∷ negsuc 10000000000 ∷ []) (0 ∷ 0 ∷ 0 ∷ []) (0 ∷ 0 ∷ 0 ∷ []) kept 0 ≡ Err OutsideLimits
unfolding year_end ages ten_year two_year refusal_of
past_limit = refl

-- a kept factor past 1, of a row and past the rows
pub past_one : year_end 74 (pos 0 ∷ pos 0 ∷ pos 0 ∷ []) (0 ∷ 0 ∷ 0 ∷ []) (0 ∷ 0 ∷ 0 ∷ []) (0 ∷ 0 ∷ 10000000001 ∷ []) 0 ≡ Err OutsideLimits
unfolding year_end ages ten_year two_year refusal_of
past_one = refl

pub past_rows : year_end 74 (pos 0 ∷ pos 0 ∷ pos 0 ∷ []) (0 ∷ 0 ∷ 0 ∷ []) (0 ∷ 0 ∷ 0 ∷ []) (0 ∷ 0 ∷ 0 ∷ 10000000001 ∷ []) 0 ≡ Ok (record { paid = pos 0; closing = 0; loss = pos 0 })
unfolding year_end ages paid_total discounted ten_year two_year
past_rows = refl

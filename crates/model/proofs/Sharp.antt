-- The bound of 29 is no luxury: a pattern that the book accepts whose first factor is 23 units of the tenth decimal or more below its exact ratio.
-- Assumes nothing.
use mathlib.Core.List.{List, [], ◌∷◌}
use Prim.Native.Nat.{ℕ, ◌+◌}
use Prim.Native.Char.{code}
use borrow.Author.Tests.{leb-true}
use mathlib.Core.Path.{◌≡◌, refl}
use mathlib.Core.Bool.{true, ◌&&◌}
use mathlib.Core.List.{map}
use lib.ListN.{get_or, replicate}
use Rattle.std.specs.List.{list_all}
use Rattle.model.specs.Letter.{ten_year, two_year}
use Rattle.model.specs.HalfYear.{with_digits, half_year}
use Rattle.model.specs.Pattern.{Age, ages_of, cumulative_ratio}
use Rattle.model.specs.Tail.{schedule}
use Rattle.model.specs.Factor.{factor, factors}
use Rattle.model.specs.Exact.{exact_ratio, AtMost}
use Rattle.model.specs.Question.{is_incurred, climbs_from}
use Rattle.model.specs.Demand.{exact_at}

abbrev given : List Age
given =
    ages_of
    (497103 ∷ 497127 ∷ 557349 ∷ 713162 ∷ 713165 ∷ 716095 ∷ 716115 ∷ 719116 ∷ 723333 ∷ 723346 ∷ [])
    (replicate 10 100000000)

abbrev pay : List ℕ
pay = schedule (code "A") given

pub taken : (list_all is_incurred given && climbs_from 0 (map cumulative_ratio given)) ≡ true
unfolding cumulative_ratio
taken = refl

pub loses_twenty_three : AtMost 15 (get_or (factors (half_year 15) 10015 pay) 0 0 + 23) 1 (exact_at 15 0 pay)
unfolding with_digits half_year cumulative_ratio schedule factor factors exact_ratio ten_year two_year
loses_twenty_three = leb-true _ _ refl

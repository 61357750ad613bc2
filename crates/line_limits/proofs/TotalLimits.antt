-- Totals in their cells: what is read is within its limits, what is within them is read back, and a year more stays within the limits of the later year.
-- Assumes nothing.
use Rattle.std.specs.Prelude.{Option, None, Some}
use mathlib.Core.Bool.{Bool, true, false}
use mathlib.Core.List.{List}
use mathlib.Core.Path.{◌≡◌, refl}
use Prim.Native.Nat.{ℕ, suc, ◌+◌, ◌*◌, ◌≤◌, ◌<◌, min}
use native.Mathlib.Omega.{arith}
use native.Mathlib.Nat.{min-zero}
use borrow.Author.Tests.{leb-true, ltb-true}
use lib.Dec.{leb, ltb}
use lib.IntN.{ℤ, pos, negsuc, nat_abs, ◌+ℤ◌, +ℤ-neg_ℤ_cancel}
use lib.ListN.{get_or}
use Rattle.model.specs.Book.{no_totals}
use Rattle.model.specs.Kind.{is_year}
use Rattle.model.proofs.Lists.{and_left, and_right}
use Rattle.money.proofs.Signed.{sum_size, less_size}
use Rattle.line_limits.specs.declared.totals.Totals.{Totals}
use Rattle.line_limits.specs.Totals.{totals_by, years_through, most_a_year, total_limit, total_in, or_zero, total_cell, totals_in, total_cells, Within, with_year_of}

-- a total read from a cell
total_within : (limit cell : ℕ) → nat_abs (total_in limit cell) ≤ limit
unfolding total_in
total_within limit cell = less_size (min cell (2 * limit)) limit limit (omega arith) (omega arith)

pub read_within : (closed : Option ℕ) (cells : List ℕ) → Within closed (totals_in closed cells)
unfolding totals_in
read_within closed cells =
    record {
      years = omega arith;
      paid = total_within (total_limit closed) (get_or cells 1 0);
      losses = total_within (total_limit closed) (get_or cells 2 0);
    }

-- a total kept in a cell
distance_is : (v : ℤ) (limit : ℕ) → nat_abs v ≤ limit → (pos (or_zero (v +ℤ pos limit)) ≡ v +ℤ pos limit) × (or_zero (v +ℤ pos limit) ≤ 2 * limit)
distance_is (pos n) limit le = (refl, omega arith)
distance_is (negsuc n) limit le = by_side (ltb limit (suc n)) refl
  where
    by_side : (t : Bool) → ltb limit (suc n) ≡ t → (pos (or_zero (negsuc n +ℤ pos limit)) ≡ negsuc n +ℤ pos limit) × (or_zero (negsuc n +ℤ pos limit) ≤ 2 * limit)
    by_side true e = absurd (omega (arith, ltb-true limit (suc n) e))
    by_side false e = rw e (refl, omega arith)

total_back : (limit : ℕ) (v : ℤ) → nat_abs v ≤ limit → total_in limit (total_cell limit v) ≡ v
unfolding total_in total_cell
total_back limit v le =
    let d = distance_is v limit le in
    let same : min (min (or_zero (v +ℤ pos limit)) (2 * limit)) (2 * limit) ≡ or_zero (v +ℤ pos limit) = omega (arith, d.1) in
    rw (same, d.0) (+ℤ-neg_ℤ_cancel v (pos limit))

pub kept_back_lem : (closed : Option ℕ) (totals : Totals) → Within closed totals → totals_in closed (total_cells closed totals) ≡ totals
unfolding totals_in total_cells
kept_back_lem closed totals w =
    let years : min totals.years (years_through closed) ≡ totals.years = omega (arith, w.years) in
    rw (years, total_back (total_limit closed) totals.paid w.paid, total_back (total_limit closed) totals.losses w.losses)

-- no totals at all
pub none_within : (closed : Option ℕ) → Within closed (totals_by no_totals)
none_within closed = record { years = omega arith; paid = omega arith; losses = omega arith }

-- where none is closed
pub none_closed : (cells : List ℕ) → totals_in None cells ≡ totals_by no_totals
unfolding totals_in total_in total_limit
none_closed cells = rw (min-zero (get_or cells 0 0), min-zero (get_or cells 1 0), min-zero (get_or cells 2 0))

-- the years through a later one
few_by : (closed : ℕ) (t : Bool) → is_year closed ≡ t → years_through (Some closed) ≤ 113
few_by closed true e =
    let most : closed ≤ 2099 = leb-true closed 2099 (and_right (leb 1987 closed) (leb closed 2099) e) in
    rw e (omega arith)
few_by closed false e = rw e (omega arith)

pub years_few : (closed : Option ℕ) → years_through closed ≤ 113
years_few None = omega arith
years_few (Some year) = few_by year (is_year year) refl

-- every total is far within an i64
pub limit_small : (closed : Option ℕ) → total_limit closed ≤ 113 * most_a_year
unfolding total_limit
limit_small closed = omega (arith, years_few closed)

-- what is within the limits of a year is within those of the last one
pub within_last : (closed : Option ℕ) (totals : Totals) → Within closed totals → Within (Some 2099) totals
unfolding total_limit
within_last closed totals w =
    record {
      years = omega (arith, w.years, years_few closed);
      paid = omega (arith, w.paid, years_few closed);
      losses = omega (arith, w.losses, years_few closed);
    }

module _ (closed : Option ℕ) (year : ℕ) (y : is_year year ≡ true) (later : (before : ℕ) → closed ≡ Some before → is_year before ≡ true → before < year) where
  first : 1987 ≤ year
  first = leb-true 1987 year (and_left (leb 1987 year) (leb year 2099) y)

  more_by : (before : ℕ) (t : Bool) → closed ≡ Some before → is_year before ≡ t → years_through (Some before) + 1 ≤ years_through (Some year)
  more_by before true c e = rw (y, e) (omega (arith, later before c e, first, leb-true 1987 before (and_left (leb 1987 before) (leb before 2099) e)))
  more_by before false c e = rw (y, e) (omega (arith, first))

  more_of : (last : Option ℕ) → closed ≡ last → years_through last + 1 ≤ years_through (Some year)
  more_of None c = rw y (omega (arith, first))
  more_of (Some before) c = more_by before (is_year before) c refl

  more : years_through closed + 1 ≤ years_through (Some year)
  more = more_of closed refl

  pub more_limit : total_limit closed + most_a_year ≤ total_limit (Some year)
  unfolding total_limit
  more_limit = omega (arith, more)

  pub year_within_lem : (totals : Totals) (paid loss : ℤ) → Within closed totals → nat_abs paid ≤ most_a_year → nat_abs loss ≤ most_a_year → Within (Some year) (with_year_of totals paid loss)
  year_within_lem totals paid loss w p l =
      record {
        years = omega (arith, w.years, more);
        paid = omega (arith, w.paid, p, more_limit, sum_size totals.paid paid);
        losses = omega (arith, w.losses, l, more_limit, sum_size totals.losses loss);
      }

-- The closing by a list of kept factors is the book's closing, where the list has each row's factor.
-- Assumes nothing.
use mathlib.Core.Bool.{true}
use mathlib.Core.List.{List, [], ◌∷◌}
use mathlib.Core.Path.{◌≡◌, refl, ap}
use Prim.Native.Nat.{ℕ, zero, suc, ◌+◌, ◌≤◌, ◌<◌}
use native.Mathlib.Omega.{arith}
use borrow.Author.Tests.{le-leb}
use lib.ListN.{length, take, get_or}
use Rattle.model.specs.Basics.{sum}
use Rattle.std.specs.List.{list_all}
use Rattle.model.specs.Book.{Line}
use Rattle.model.specs.Row.{Row}
use Rattle.model.specs.YearEnd as year_end_lem
use Rattle.model.specs.YearEnd.{row_factor, closing}
use Rattle.kinds.specs.Factor.{is_factor}
use Rattle.reserve.specs.Closing.{discounted_rows, closing_at}

-- what the list of factors has for n rows
pub record RowFactors (letter : ℕ) (line : Line) (year : ℕ) (factors : List ℕ) (n : ℕ) : Type 0 where
  pub same : (k : ℕ) → k < n → get_or factors k 0 ≡ row_factor letter line year k
  pub limit : (k : ℕ) → k < n → row_factor letter line year k ≤ 10000000000

all_factors : (factors : List ℕ) (n : ℕ) → ((k : ℕ) → k < n → get_or factors k 0 ≤ 10000000000) → list_all is_factor (take n factors) ≡ true
all_factors factors zero h = refl
all_factors [] (suc n) h = refl
all_factors (factor ∷ factors) (suc n) h = rw (le-leb factor 10000000000 (h 0 (omega arith)), all_factors factors n (λ k lt. h (suc k) (omega arith)))

module _ (letter : ℕ) (line : Line) (year : ℕ) (factors : List ℕ) where
  discounted_rows_lem : (n : ℕ) → RowFactors letter line year factors n → (k : ℕ) (rows : List Row) → k + length rows ≤ n
      → discounted_rows factors k rows ≡ year_end_lem.discounted_rows letter line year k rows
  discounted_rows_lem n f k [] le = refl
  discounted_rows_lem n f k (row ∷ rows) le = rw (f.same k (omega arith), discounted_rows_lem n f (suc k) rows (omega arith))

  pub closing_of_line : (rows : List Row) → RowFactors letter line year factors (length rows) → closing_at factors rows ≡ closing letter line year rows
  unfolding closing
  closing_of_line rows f = ap sum (discounted_rows_lem (length rows) f 0 rows (omega arith))

  pub factors_within : (n : ℕ) → RowFactors letter line year factors n → list_all is_factor (take n factors) ≡ true
  factors_within n f = all_factors factors n (λ k lt. omega (arith, f.same k lt, f.limit k lt))

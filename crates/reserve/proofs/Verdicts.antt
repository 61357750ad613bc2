-- For callers: a year end of lists that pass the questions, with the book's own closing, and how large that is.
-- Assumes nothing.
use Rattle.std.specs.Prelude.{Ok}
use mathlib.Core.Bool.{Bool, true, false, ◌&&◌}
use mathlib.Core.List.{List}
use mathlib.Core.Path.{◌≡◌, refl}
use Prim.Native.Nat.{ℕ, suc, ◌≤◌}
use borrow.Author.Tests.{le-leb}
use lib.IntN.{ℤ, nat_abs}
use Rattle.std.specs.List.{list_all}
use Rattle.model.specs.Book.{Line}
use Rattle.model.specs.Call.{close_year}
use Rattle.model.specs.Kind.{is_year, is_amount, is_paid}
use Rattle.model.specs.Letter.{covered, ages}
use Rattle.model.specs.Question.{has_lengths, is_within_limits}
use Rattle.model.specs.Row.{rows_of}
use Rattle.model.specs.YearEnd.{paid_total, closing, loss}
use Rattle.model.proofs.YearRows.{length_is, rows_count, paid_total_is}
use Rattle.reserve.specs.Closing.{closing_at}
use Rattle.year_rows.specs.Limits.{has_limits}
use Rattle.reserve.specs.YearEnd.{year_end}
use Rattle.reserve.proofs.Closings.{RowFactors, closing_of_line, factors_within}
use Rattle.reserve.proofs.Conjunctions.{three}
use Rattle.reserve.proofs.Lists.{closing_is, closing_small, paid_small}

regroup : (y a b c : Bool) → (y && a && b && c) ≡ (y && (a && b && c))
regroup true a b c = refl
regroup false a b c = refl

module _ (letter : ℕ) (paid : List ℤ) (unpaid tabular : List ℕ) where
  -- question 6 of a year: of the year itself, and of the lists
  pub limits_of_year : (year : ℕ) → is_within_limits (close_year letter year paid unpaid tabular) ≡ (is_year year && has_limits paid unpaid tabular)
  limits_of_year year = regroup (is_year year) (list_all is_paid paid) (list_all is_amount unpaid) (list_all is_amount tabular)

  module _ (lengths : has_lengths (close_year letter 0 paid unpaid tabular) ≡ true) (limits : has_limits paid unpaid tabular ≡ true) (factors : List ℕ) where
    -- what all rows together can be paid at most
    pub paid_limit : nat_abs (paid_total (rows_of paid unpaid tabular)) ≤ 110000000000
    paid_limit =
        rw (paid_total_is letter 0 paid unpaid tabular lengths)
        (paid_small letter paid unpaid tabular lengths (three (list_all is_paid paid) (list_all is_amount unpaid) (list_all is_amount tabular) limits).0)

    -- what a Closing holds
    pub closing_limit_lem : closing_at factors (rows_of paid unpaid tabular) ≤ 110000000000
    closing_limit_lem =
        rw (closing_is letter paid unpaid tabular lengths factors)
        (closing_small letter paid unpaid tabular lengths (three (list_all is_paid paid) (list_all is_amount unpaid) (list_all is_amount tabular) limits).1 factors)

    pub year_end_of_line : (line : Line) (year opening : ℕ) → covered letter ≡ true → opening ≤ 110000000000 → RowFactors letter line year factors (suc (ages letter)) →
        let rows = rows_of paid unpaid tabular in
        year_end letter paid unpaid tabular factors opening
        ≡ Ok (record { paid = paid_total rows; closing = closing letter line year rows; loss = loss (paid_total rows) (closing letter line year rows) opening })
    unfolding year_end
    year_end_of_line line year opening c le f =
        rw (
          c,
          lengths,
          limits,
          (length_is letter 0 paid unpaid tabular lengths).1,
          factors_within letter line year factors (suc (ages letter)) f,
          le-leb opening 110000000000 le,
          closing_of_line letter line year factors (rows_of paid unpaid tabular) (rw (rows_count letter 0 paid unpaid tabular lengths) f),
        )

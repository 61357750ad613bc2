-- What questions 4 and 6, answered yes, say of the lists of a year: what the helpers of a year end ask, and how large the figures are.
-- Assumes nothing.
use mathlib.Core.Bool.{true}
use mathlib.Core.List.{List, [], ◌∷◌}
use mathlib.Core.Path.{◌≡◌, refl, ap}
use Prim.Native.Nat.{ℕ, suc, ◌*◌, ◌≤◌}
use native.Mathlib.Omega.{arith}
use borrow.Author.Tests.{leb-true}
use lib.ListN.{length, get_or}
use lib.IntN.{ℤ, nat_abs}
use Rattle.model.specs.Basics.{sum}
use Rattle.std.specs.List.{list_all}
use Rattle.model.specs.Call.{close_year}
use Rattle.model.specs.Kind.{is_amount, is_paid}
use Rattle.model.specs.Letter.{ages}
use Rattle.model.specs.Published.{published}
use Rattle.model.specs.Question.{has_lengths}
use Rattle.model.specs.Row.{rows_of, discounted, stated}
use Rattle.model.proofs.Lists.{and_left, and_right}
use Rattle.model.proofs.Ages.{ages_small}
use Rattle.model.proofs.YearRows.{length_is}
use Rattle.money.proofs.Signed.{sum_size}
use Rattle.reserve.specs.Closing.{discounted_rows, closing_at}
use Rattle.reserve.specs.Lists.{PaidList, ReserveLists, paid_sum, stated_rows}
use Rattle.reserve.proofs.Values.{at_most_unpaid}

-- ten thousand million for each row
paid_size : (paid : List ℤ) → list_all is_paid paid ≡ true → nat_abs (paid_sum paid) ≤ 10000000000 * length paid
paid_size [] e = omega arith
paid_size (v ∷ paid) e =
    omega (
      arith,
      sum_size v (paid_sum paid),
      leb-true (nat_abs v) 10000000000 (and_left (is_paid v) (list_all is_paid paid) e),
      paid_size paid (and_right (is_paid v) (list_all is_paid paid) e),
    )

closing_size : (factors : List ℕ) (k : ℕ) (unpaid tabular : List ℕ) → list_all is_amount unpaid ≡ true → sum (discounted_rows factors k (stated_rows unpaid tabular)) ≤ 10000000000 * length unpaid
closing_size factors k [] tabular e = omega arith
closing_size factors k (u ∷ unpaid) [] e = omega arith
closing_size factors k (u ∷ unpaid) (t ∷ tabular) e =
    omega (
      arith,
      at_most_unpaid (stated u t) (published (get_or factors k 0)),
      leb-true u 10000000000 (and_left (is_amount u) (list_all is_amount unpaid) e),
      closing_size factors (suc k) unpaid tabular (and_right (is_amount u) (list_all is_amount unpaid) e),
    )

-- the same rows, but for what was paid
discounted_of_rows : (factors : List ℕ) (k : ℕ) (paid : List ℤ) (unpaid tabular : List ℕ) → length unpaid ≡ length paid
    → discounted_rows factors k (rows_of paid unpaid tabular) ≡ discounted_rows factors k (stated_rows unpaid tabular)
unfolding discounted
discounted_of_rows factors k [] [] tabular e = refl
discounted_of_rows factors k [] (u ∷ unpaid) tabular e = absurd (omega arith)
discounted_of_rows factors k (v ∷ paid) [] tabular e = absurd (omega arith)
discounted_of_rows factors k (v ∷ paid) (u ∷ unpaid) [] e = refl
discounted_of_rows factors k (v ∷ paid) (u ∷ unpaid) (t ∷ tabular) e = rw (discounted_of_rows factors (suc k) paid unpaid tabular (omega arith))

module _ (letter : ℕ) (paid : List ℤ) (unpaid tabular : List ℕ) (lengths : has_lengths (close_year letter 0 paid unpaid tabular) ≡ true) where
  lengths_are : (length paid ≡ suc (ages letter)) × (length unpaid ≡ suc (ages letter)) × (length tabular ≡ suc (ages letter))
  lengths_are = length_is letter 0 paid unpaid tabular lengths

  pub closing_is : (factors : List ℕ) → closing_at factors (rows_of paid unpaid tabular) ≡ closing_at factors (stated_rows unpaid tabular)
  closing_is factors = ap sum (discounted_of_rows factors 0 paid unpaid tabular (omega (arith, lengths_are)))

  pub reserve_lists : (factors : List ℕ) → length factors ≡ 11 → ReserveLists unpaid tabular factors
  reserve_lists factors e =
      record {
        few = omega (arith, lengths_are, ages_small letter);
        same = omega (arith, lengths_are);
        enough = omega (arith, lengths_are, ages_small letter);
      }

  pub closing_small : list_all is_amount unpaid ≡ true → (factors : List ℕ) → closing_at factors (stated_rows unpaid tabular) ≤ 110000000000
  closing_small limits factors = omega (arith, closing_size factors 0 unpaid tabular limits, lengths_are, ages_small letter)

  module _ (limits : list_all is_paid paid ≡ true) where
    pub paid_list : PaidList paid
    paid_list = record { few = omega (arith, lengths_are, ages_small letter); limits = limits }

    pub paid_small : nat_abs (paid_sum paid) ≤ 110000000000
    paid_small = omega (arith, paid_size paid limits, lengths_are, ages_small letter)

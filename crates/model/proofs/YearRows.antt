-- The rows of a YEAR whose three lists have their length: one for each number of a list, so that nothing that a list says is left out.
-- Assumes nothing.
use mathlib.Core.Path.{◌≡◌, refl, ap}
use mathlib.Core.Bool.{Bool, true, ◌&&◌}
use mathlib.Core.List.{List, [], ◌∷◌}
use Prim.Native.Nat.{ℕ, suc}
use native.Mathlib.Omega.{arith}
use borrow.Author.Tests.{eqb-true}
use lib.Dec.{eqb}
use lib.ListN.{length}
use lib.IntN.{ℤ, ◌+ℤ◌}
use Rattle.model.specs.Basics.{total}
use Rattle.model.specs.Letter.{ages}
use Rattle.model.specs.Row.{rows_of}
use Rattle.model.specs.YearEnd.{paid_total}
use Rattle.model.specs.Call.{close_year}
use Rattle.model.specs.Question.{has_lengths}
use Rattle.model.proofs.Lists.{and_left, and_right}

paid_of_rows : (paid : List ℤ) (unpaid tabular : List ℕ) → length unpaid ≡ length paid → length tabular ≡ length paid → paid_total (rows_of paid unpaid tabular) ≡ total (λ v. v) paid
unfolding paid_total
paid_of_rows [] unpaid tabular eu et = refl
paid_of_rows (v ∷ paid) [] tabular eu et = absurd (omega arith)
paid_of_rows (v ∷ paid) (u ∷ unpaid) [] eu et = absurd (omega arith)
paid_of_rows (v ∷ paid) (u ∷ unpaid) (t ∷ tabular) eu et = ap (λ (x : ℤ). v +ℤ x) (paid_of_rows paid unpaid tabular (omega arith) (omega arith))

count_of_rows : (paid : List ℤ) (unpaid tabular : List ℕ) → length unpaid ≡ length paid → length tabular ≡ length paid → length (rows_of paid unpaid tabular) ≡ length paid
count_of_rows [] unpaid tabular eu et = refl
count_of_rows (v ∷ paid) [] tabular eu et = absurd (omega arith)
count_of_rows (v ∷ paid) (u ∷ unpaid) [] eu et = absurd (omega arith)
count_of_rows (v ∷ paid) (u ∷ unpaid) (t ∷ tabular) eu et = ap suc (count_of_rows paid unpaid tabular (omega arith) (omega arith))

module _ (letter year : ℕ) (paid : List ℤ) (unpaid tabular : List ℕ) (lengths : has_lengths (close_year letter year paid unpaid tabular) ≡ true) where
  -- a row for each age, and the prior row
  pub length_is : (length paid ≡ suc (ages letter)) × (length unpaid ≡ suc (ages letter)) × (length tabular ≡ suc (ages letter))
  length_is =
      let n = suc (ages letter) in
      let p : Bool = eqb (length paid) n in
      let u : Bool = eqb (length unpaid) n in
      let t : Bool = eqb (length tabular) n in
      let pu : p && u ≡ true = and_left (p && u) t lengths in
      (eqb-true (length paid) n (and_left p u pu), eqb-true (length unpaid) n (and_right p u pu), eqb-true (length tabular) n (and_right (p && u) t lengths))

  pub rows_count : length (rows_of paid unpaid tabular) ≡ suc (ages letter)
  rows_count = omega (arith, length_is, count_of_rows paid unpaid tabular (omega (arith, length_is)) (omega (arith, length_is)))

  pub paid_total_is : paid_total (rows_of paid unpaid tabular) ≡ total (λ v. v) paid
  paid_total_is = paid_of_rows paid unpaid tabular (omega (arith, length_is)) (omega (arith, length_is))

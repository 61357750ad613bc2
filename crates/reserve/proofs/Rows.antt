-- A discounted row, by the answers of its constructors.
-- Assumes nothing.
use Rattle.std.specs.Prelude.{Bool, true, false, ◌&&◌, Some, None, ℕ}
use mathlib.Core.Path.{◌≡◌, refl, sym, ◌∙◌}
use native.Mathlib.Omega.{arith}
use borrow.Author.Tests.{le-leb, leb-true}
use Rattle.model.specs.Kind.{is_amount}
use Rattle.model.specs.Published.{published}
use Rattle.model.specs.Row.{discounted, stated}
use Rattle.kinds.specs.Factor.{is_factor}
use Rattle.kinds.specs.Within.{within}
use Rattle.kinds.proofs.Taken.{taken, outside, allowed}
use Rattle.reserve.specs.Closing.{row_of}
use Rattle.reserve.proofs.Conjunctions.{three}
use Rattle.reserve.proofs.Values.{at_most_unpaid}

module _ (u t k : ℕ) where
  abbrev value : ℕ
  value = discounted (stated u t) (published k)

  abbrev all_within : Bool
  all_within = is_amount u && is_amount t && is_factor k

  -- as a caller learns it: a row that is within its limits is its discounted value
  small : all_within ≡ true → is_amount value ≡ true
  small p = le-leb value 10000000000 (omega (arith, leb-true u 10000000000 (three (is_amount u) (is_amount t) (is_factor k) p).0, at_most_unpaid (stated u t) (published k)))

  row_is : row_of u t k ≡ within (λ n. all_within) value
  row_is = by all_within refl
    where
      by : (p : Bool) → all_within ≡ p → row_of u t k ≡ within (λ n. all_within) value
      by true e = rw e (allowed is_amount value (small e))
      by false e = rw e

  pub row_in : (v : ℕ) → row_of u t k ≡ Some v → (all_within ≡ true) × (v ≡ value)
  row_in v e = taken (λ n. all_within) value v (sym row_is ∙ e)

  pub row_out : row_of u t k ≡ None → all_within ≡ false
  row_out e = outside (λ n. all_within) value (sym row_is ∙ e)

-- What the walk over the ages asks and gives.
-- Assumes nothing: these are definitions.
use Rattle.std.specs.Prelude.{◌≡◌, List, ◌++◌, ℕ, ◌+◌, ◌≤◌, length, take, drop}
use Rattle.model.specs.Pattern.{unpaid}
use Rattle.model.specs.Factor.{factor, factors}

-- what one age is worked back from: the payment at the next age, what is unpaid after it, the next age's factor
pub record Weighable (payment later next half : ℕ) : Type 0 where
  pub part : payment + later ≤ 200000000
  pub small_next : next ≤ half

-- what the walk asks at place `at` of the payments
pub record Walkable (pay : List ℕ) (at : ℕ) (out : List ℕ) : Type 0 where
  pub inside : at ≤ length pay
  pub same : length out ≡ length pay
  pub part : unpaid (drop at pay) ≤ 200000000

-- what it gives: the unpaid and the factor of the age before that place, and in `out` the factor of every age from there on
pub record Walked (pay : List ℕ) (at half rate : ℕ) (before after : List ℕ) (u f : ℕ) : Type 0 where
  pub left : u ≡ unpaid (drop at pay)
  pub here : f ≡ factor half (10000 + rate) (drop at pay)
  pub all : after ≡ take at before ++ factors half (10000 + rate) (drop at pay)

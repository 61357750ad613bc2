-- What the composite asks.
-- Assumes nothing: these are definitions.
use Rattle.std.specs.Prelude.{◌≡◌, List, ℕ, ◌+◌, ◌≤◌, length, take, replicate, ◌++◌, ◌-◌}
use Rattle.model.specs.Pattern.{unpaid}
use Rattle.model.specs.Factor.{factors}
use Rattle.payments.specs.Schedule.{all_ages}

-- the payments at 16 ages, which are no more than a whole together, and the factors of these ages
pub record Averaged (pay fs : List ℕ) (half rate : ℕ) : Type 0 where
  pub count : length pay ≡ 16
  pub whole : unpaid pay ≤ 200000000
  pub are : fs ≡ factors half (10000 + rate) pay

-- the payments at a line's ages, in their places, and the factors of these ages, which stand first
pub record Composed (letter : ℕ) (pay fs : List ℕ) (half rate : ℕ) : Type 0 where
  pub count : length pay ≡ 16
  pub whole : unpaid pay ≤ 200000000
  pub are : fs ≡ factors half (10000 + rate) (take (all_ages letter) pay) ++ replicate (16 - all_ages letter) 0

-- The figures of a year end, as large as eleven rows make them.
-- Assumes nothing: these are definitions.
use Rattle.std.specs.Prelude.{ℕ, ◌≤◌, ℤ, nat_abs}

pub record Figures (paid : ℤ) (closing opening : ℕ) : Type 0 where
  pub paid_limit : nat_abs paid ≤ 110000000000
  pub closing_limit : closing ≤ 110000000000
  pub opening_limit : opening ≤ 110000000000

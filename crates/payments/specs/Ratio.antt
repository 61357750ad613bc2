-- What a cumulative ratio is of.
-- Assumes nothing: these are definitions.
use Rattle.std.specs.Prelude.{ℕ, ◌≤◌, ◌<◌}

-- an age whose ratio is worked out: its incurred is an amount above 0, and its paid no more
pub record Sound (paid incurred : ℕ) : Type 0 where
  pub some : 0 < incurred
  pub covers : paid ≤ incurred
  pub small : incurred ≤ 10000000000

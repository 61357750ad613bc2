-- The next byte 10, and the block that it is in.
-- Assumes nothing: these are definitions.
use Rattle.std.specs.Prelude.{List, ◌≡◌, ℕ, ◌+◌, ◌-◌, ◌≤◌, length, take, drop}
use Rattle.line_end.specs.Index.{index_of}

-- the next byte 10 from place `start` on is at `end`, or there is none and `end` is the input's end
pub record EndsAt (input : List ℕ) (start end : ℕ) : Type 0 where
  pub place : end ≡ start + index_of 10 (drop start input)
  pub within : end ≤ start + (length input - start)

-- no byte from place `start` to before place `at` is 10, and the line ends within or right after the block that starts there: sixteen bytes, or all that are left
pub record EndsIn (input : List ℕ) (start at : ℕ) : Type 0 where
  pub after_start : start ≤ at
  pub inside : at ≤ length input
  pub place : index_of 10 (drop start input) ≡ (at - start) + index_of 10 (take 16 (drop at input))

-- What a year closes or opens with: at most eleven rows of 10,000,000,000.
-- Assumes nothing: these are definitions.
use Rattle.std.specs.Prelude.{Bool, ℕ, leb}

abbrev pub is_closing : ℕ → Bool
is_closing n = leb n 110000000000

-- "Factors are kept in units of the tenth decimal, so 1 is 10,000,000,000."
-- Assumes nothing: these are definitions.
use Rattle.std.specs.Prelude.{Bool, ℕ, leb}

-- a kept factor is at most 1
abbrev pub is_factor : ℕ → Bool
is_factor n = leb n 10000000000

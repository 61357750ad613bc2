-- "For rate R, H is the largest whole number with H × H × (10000 + R) at most 10 to the 24th.": the rule as a test, of a number and of the table.
-- Assumes nothing: these are definitions.
use Rattle.std.specs.Prelude.{Bool, true, ◌&&◌, List, [], ◌∷◌, ℕ, suc, ◌+◌, ◌*◌, leb, ltb}
use Rattle.model.specs.HalfYear.{square_limit}

-- the largest: H is not too large, and the next number is
abbrev pub is_half_year : ℕ → ℕ → Bool
is_half_year R H = leb (H * H * (10000 + R)) square_limit && ltb square_limit ((H + 1) * (H + 1) * (10000 + R))

-- each entry, where the first is that of the rate R
abbrev pub are_half_years : ℕ → List ℕ → Bool
are_half_years R [] = true
are_half_years R (H ∷ Hs) = is_half_year R H && are_half_years (suc R) Hs

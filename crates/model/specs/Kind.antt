-- "The limits belong to their kind: a rate, a year, an amount."
-- Assumes nothing: these are definitions.
use Rattle.std.specs.Prelude.{Bool, ◌&&◌, ℕ, leb, ℤ, nat_abs}

-- "A rate is a whole number of hundredths of a percent, 0 to 2500."
abbrev pub is_rate : ℕ → Bool
is_rate n = leb n 2500

-- "Years are 1987 to 2099."
abbrev pub is_year : ℕ → Bool
is_year n = leb 1987 n && leb n 2099

-- F-4: "A record MIDT with year (1980 to 2099), month (1 to 12) and rate"
abbrev pub is_register_year : ℕ → Bool
is_register_year n = leb 1980 n && leb n 2099

abbrev pub is_month : ℕ → Bool
is_month n = leb 1 n && leb n 12

-- "LINE, letter, opening (0 to 100,000,000,000)."
abbrev pub is_opening : ℕ → Bool
is_opening n = leb n 100000000000

-- "Other money is 0 to 10,000,000,000"
abbrev pub is_amount : ℕ → Bool
is_amount n = leb n 10000000000

-- "and paid in YEAR also down to -10,000,000,000."
abbrev pub is_paid : ℤ → Bool
is_paid v = is_amount (nat_abs v)

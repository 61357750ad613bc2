-- Document 01, "Pattern": ratios, payments and what is unpaid, in half units.
-- Assumes nothing: these are definitions.
use Rattle.std.specs.Prelude.{List, [], ◌∷◌, ℕ, ◌+◌, ◌-◌, ◌*◌, ◌/◌}
use Rattle.model.specs.Basics.{sum}

-- "A pattern record gives cumulative paid and incurred for each age, youngest age first."
pub record Age : Type 0 where
  pub paid : ℕ
  pub incurred : ℕ

abbrev pub age : ℕ → ℕ → Age
age paid incurred = record { paid = paid; incurred = incurred }

-- the ages of a list of paid and a list of incurred
abbrev pub ages_of : List ℕ → List ℕ → List Age
ages_of [] incurred = []
ages_of (p ∷ paid) [] = []
ages_of (p ∷ paid) (i ∷ incurred) = age p i ∷ ages_of paid incurred

-- "The cumulative ratio is paid × 100,000,000 / incurred, rounded half up."
unfoldable pub cumulative_ratio : Age → ℕ
cumulative_ratio age = (2 * (age.paid * 100000000) + age.incurred) / (2 * age.incurred)

-- "so a whole is 200,000,000"
abbrev pub whole : ℕ
whole = 200000000

-- "Twice that ratio is kept, in half units"
abbrev pub cumulative : Age → ℕ
cumulative age = 2 * cumulative_ratio age

-- "The payment at an age is its cumulative less the one before (at age 1, the cumulative)."
abbrev pub payments : ℕ → List ℕ → List ℕ
payments before [] = []
payments before (c ∷ cumulatives) = (c - before) ∷ payments c cumulatives

-- "The unpaid at an age is the whole less its cumulative.": the payments at the later ages together (proofs/Unpaid.antt: that is the whole less the cumulative)
abbrev pub unpaid : List ℕ → ℕ
unpaid later_payments = sum later_payments

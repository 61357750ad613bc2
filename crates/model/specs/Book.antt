-- The book: what document 01 has it hold.
-- Assumes nothing: these are definitions.
use Rattle.std.specs.Prelude.{List, [], ◌∷◌, ℕ, eqb, ℤ, pos, if◌then◌else◌, Option, None, Some}

-- a kept pattern: its accident year, its kept factors from age 1 on, its composite
pub record Kept : Type 0 where
  pub year : ℕ
  pub factors : List ℕ
  pub composite : ℕ

-- a closed year and its closing
pub record Closed : Type 0 where
  pub year : ℕ
  pub closing : ℕ

-- F-2, "a line's figures since its first closing": "the count of closed years, all paid, and all tax-basis losses"
pub record Totals : Type 0 where
  pub years : ℕ
  pub paid : ℤ
  pub losses : ℤ

-- a line: its declared opening (none: not declared), its last closed year, its kept patterns, the latest first, its totals
pub record Line : Type 0 where
  pub opening : Option ℕ
  pub closed : Option Closed
  pub kept : List Kept
  pub totals : Totals

-- the book: each year's rate ("one rate place for each year from 1987 to 2099": no other year passes question 6), each letter's line, and the counts of accepted and refused records.
-- F-4, "a register of monthly rates": the federal mid-term rate of each year and month
pub record Book : Type 0 where
  pub rates : ℕ → Option ℕ
  pub register : ℕ → ℕ → Option ℕ
  pub lines : ℕ → Line
  pub accepted : ℕ
  pub refused : ℕ

-- F-2: "A line with no closed year prints zeros."
abbrev pub no_totals : Totals
no_totals = record { years = 0; paid = pos 0; losses = pos 0 }

-- "An empty book has no line, rate, pattern or closing, and both counts are 0."; nor a month in the register
abbrev pub empty : Book
empty =
    record {
      rates = λ year. None;
      register = λ year month. None;
      lines = λ letter. record { opening = None; closed = None; kept = []; totals = no_totals };
      accepted = 0;
      refused = 0;
    }

-- the last pattern
abbrev pub latest : List Kept → Option Kept
latest [] = None
latest (p ∷ kept) = Some p

-- the kept pattern of an accident year
abbrev pub find : ℕ → List Kept → Option Kept
find year [] = None
find year (p ∷ kept) = if eqb year p.year then Some p else find year kept

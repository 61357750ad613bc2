-- Demand 3 of document 01: "a single claim about the whole list, not one for each record"; and F-2's totals and F-4's register, over the same list.
-- Throughout, h is the accepted records of the list, in order, and age k + 1 is at place k.
-- Assumes nothing: these are definitions.
use Rattle.std.specs.Prelude.{◌≡◌, List, [], ◌∷◌, map, reverse, ℕ, suc, ◌+◌, ◌-◌, ◌<◌, ltb, length, take, drop, get_or, pos, ◌+ℤ◌, ◌-ℤ◌, if◌then◌else◌, None, Some}
use Rattle.model.specs.Basics.{sum, Every, EveryAt}
use Rattle.model.specs.Letter.{ages}
use Rattle.model.specs.Rate.{rate_of, sixty_months}
use Rattle.model.specs.HalfYear.{half_year}
use Rattle.model.specs.Pattern.{unpaid}
use Rattle.model.specs.Factor.{factors}
use Rattle.model.specs.Exact.{Fraction, exact_ratio, exact_composite, composite_unpaid}
use Rattle.model.specs.Row.{Row, rows_of, gross}
use Rattle.model.specs.Book.{Book, Totals, no_totals, Line, Kept, Closed, empty, latest}
use Rattle.model.specs.YearEnd.{discounted_row, discounted_rows}
use Rattle.model.specs.Call.{Call, declare, set_rate, add_pattern, close_year, totals, register_month, set_rate_from_register}
use Rattle.model.specs.Answer.{Answer, rated}
use Rattle.model.specs.Step.{Request}
use Rattle.model.specs.Run.{after}
use Rattle.model.specs.Near.{FactorNear, RowNear}
use Rattle.model.specs.History.{Entry, accepted, listed, months_in, rates_in, payments_in, kept_in, openings_in, years_in, paid_in, paid_answered_in, losses_in, closed_in, closed_from}

-- "A pattern and its exact ratios come from the PATT of that letter and accident year, with the rate from that year's RATE.": h has one of each, which give the payments and the rate
-- (the rate of a RATE with a year alone is that of its accepted MIDTs, of which `RateHolds` says that there is one for each month)
pub record Given (h : List Entry) (letter year rate : ℕ) (pay : List ℕ) : Type 0 where
  pub from_rate : rates_in h year ≡ rate ∷ []
  pub from_pattern : payments_in h letter year ≡ pay ∷ []

-- what is unpaid at the age at place k, and its exact ratio
abbrev pub unpaid_at : ℕ → List ℕ → ℕ
unpaid_at k pay = unpaid (drop (suc k) pay)

abbrev pub exact_at : ℕ → ℕ → List ℕ → Fraction
exact_at rate k pay = exact_ratio rate (drop (suc k) pay)

-- (i) A pattern that a book keeps: its factors and its composite are at most the exact ratio and less than 29 units of the tenth decimal below it, each where something is unpaid.
-- "A kept factor is compared with its exact ratio × 10,000,000,000, a composite with its exact value × 10,000,000,000."
pub record KeptNear (h : List Entry) (letter : ℕ) (pattern : Kept) : Type 0 where
  pub rate : ℕ
  pub pay : List ℕ
  pub source : Given h letter pattern.year rate pay
  pub count : length pattern.factors ≡ ages letter
  pub kept_near : (k : ℕ) → k < ages letter → 0 < unpaid_at k pay → FactorNear rate (exact_at rate k pay) (get_or pattern.factors k 0)
  -- the factors of all ages, those of the tail too, of which the composite is the mean
  pub worked_near : (k : ℕ) → 0 < unpaid_at k pay → FactorNear rate (exact_at rate k pay) (get_or (factors (half_year rate) (10000 + rate) pay) k 0)
  pub composite_near : 0 < composite_unpaid letter pay → FactorNear rate (exact_composite letter rate pay) pattern.composite

-- an accepted PATT: the line that it left keeps the pattern of its year as the last one
pub record PatternHolds (h : List Entry) (line : Line) (letter year : ℕ) : Type 0 where
  pub pattern : Kept
  pub keeps : latest line.kept ≡ Some pattern
  pub of_year : pattern.year ≡ year
  pub near : KeptNear h letter pattern

-- the accident year of the row at place k, what is unpaid in the pattern there, and the exact ratio of its factor: an age's, or the composite's for the prior row
abbrev pub row_year : ℕ → ℕ → ℕ → ℕ
row_year letter year k = if ltb k (ages letter) then year - k else year

abbrev pub row_unpaid : ℕ → ℕ → List ℕ → ℕ
row_unpaid letter k pay = if ltb k (ages letter) then unpaid_at k pay else composite_unpaid letter pay

abbrev pub row_exact : ℕ → ℕ → ℕ → List ℕ → Fraction
row_exact letter rate k pay = if ltb k (ages letter) then exact_at rate k pay else exact_composite letter rate pay

-- (ii) The row at place k of an accepted YEAR, discounted to d: with gross it has a pattern, without it is 0, and it is near where its factor has something unpaid.
pub record RowHolds (h : List Entry) (letter year k : ℕ) (row : Row) (d : ℕ) : Type 0 where
  pub has : 0 < gross row → (rate : ℕ) × (pay : List ℕ) × Given h letter (row_year letter year k) rate pay
  pub nothing : gross row ≡ 0 → d ≡ 0
  pub near : (rate : ℕ) (pay : List ℕ) → Given h letter (row_year letter year k) rate pay → 0 < row_unpaid letter k pay → RowNear rate (row_exact letter rate k pay) row d

-- "The discounted rows are those summed in the closings": those of the line as the record found it
pub record YearHolds (h : List Entry) (line : Line) (answer : Answer) (letter year : ℕ) (rows : List Row) : Type 0 where
  -- "paid, unpaid, tabular for each age, prior row last": none is left out
  pub whole : length rows ≡ suc (ages letter)
  pub answered : closed_from letter answer ≡ Some (record { year = year; closing = sum (discounted_rows letter line year 0 rows) })
  pub each : EveryAt (λ k row. RowHolds h letter year k row (discounted_row letter line year k row)) 0 rows

-- F-4, an accepted RATE with a year alone: h has one MIDT for each of its sixty months, and the rate that it answers is theirs
pub record RateHolds (h : List Entry) (answer : Answer) (year : ℕ) : Type 0 where
  pub months : List ℕ
  pub from_months : sixty_months (months_in h) year ≡ map (λ rate. rate ∷ []) months
  pub answered : answer ≡ rated year (rate_of months)

-- an accepted record: a PATT's factors, a YEAR's rows, the months of a RATE with a year alone
abbrev pub EntryHolds : List Entry → Book → Answer → Book → Call → Type 0
EntryHolds h before answer later (declare letter opening) = Unit {0}
EntryHolds h before answer later (set_rate year months) = Unit {0}
EntryHolds h before answer later (add_pattern letter year paid incurred) = PatternHolds h (later.lines letter) letter year
EntryHolds h before answer later (close_year letter year paid unpaid tabular) =
    YearHolds h (before.lines letter) answer letter year (rows_of paid unpaid tabular)
EntryHolds h before answer later (totals letter) = Unit {0}
EntryHolds h before answer later (register_month year month rate) = Unit {0}
EntryHolds h before answer later (set_rate_from_register year) = RateHolds h answer year

-- (iii) "a line's losses sum to its payments plus last closing less declared opening"
pub record LossesAddUp (h : List Entry) (letter last_closing : ℕ) : Type 0 where
  pub declared : ℕ
  pub from_line : openings_in h letter ≡ declared ∷ []
  pub add_up : losses_in h letter ≡ paid_in h letter +ℤ pos last_closing -ℤ pos declared

-- F-2: "once a year is closed, losses less paid are the last closing less the declared opening"
pub record Reconciles (h : List Entry) (letter last_closing : ℕ) (figures : Totals) : Type 0 where
  pub declared : ℕ
  pub from_line : openings_in h letter ≡ declared ∷ []
  pub less_paid : figures.losses -ℤ figures.paid ≡ pos last_closing -ℤ pos declared

-- F-2: "The figures equal the sums over the accepted YEAR records of that line"
pub record Sums (h : List Entry) (letter : ℕ) (figures : Totals) : Type 0 where
  pub years : figures.years ≡ length (years_in h letter)
  -- every paid in these records, and the same as answered
  pub paid : figures.paid ≡ paid_in h letter
  pub paid_answered : figures.paid ≡ paid_answered_in h letter
  pub losses : figures.losses ≡ losses_in h letter

-- the totals of a line
pub record TotalsHold (h : List Entry) (letter : ℕ) (figures : Totals) : Type 0 where
  pub sums : Sums h letter figures
  pub reconciles : (last : Closed) → closed_in h letter ≡ Some last → Reconciles h letter last.closing figures
  -- "A line with no closed year prints zeros."
  pub zeros : closed_in h letter ≡ None → figures ≡ no_totals

-- all of it, b being the book after the list
pub record Holds (h : List Entry) (b : Book) : Type 0 where
  -- every accepted PATT, YEAR and RATE with a year alone
  pub entries : Every (λ e. EntryHolds h e.before e.answer e.later e.call) h
  -- every pattern that the book keeps
  pub patterns : (letter : ℕ) → Every (KeptNear h letter) (b.lines letter).kept
  -- "A line keeps its latest ten patterns (two-year: two).": exactly those of its latest accepted PATTs
  pub kept : (letter : ℕ) → (b.lines letter).kept ≡ take (ages letter) (reverse (kept_in h letter))
  -- every line with a closed year
  pub losses : (letter : ℕ) (last : Closed) → closed_in h letter ≡ Some last → LossesAddUp h letter last.closing
  -- the closing that the book holds is the last one answered
  pub closed : (letter : ℕ) → (b.lines letter).closed ≡ closed_in h letter
  -- every rate that the book holds is that of its year's RATE
  pub rates : (year : ℕ) → rates_in h year ≡ listed (b.rates year)
  -- F-4: MIDT "stores one federal mid-term rate, once": every month of the register is that of its MIDT
  pub register : (year month : ℕ) → months_in h year month ≡ listed (b.register year month)
  -- every line's totals
  pub totals : (letter : ℕ) → TotalsHold h letter (b.lines letter).totals

-- of every list, from the empty book
abbrev pub Demand : List Request → Type 0
Demand requests = Holds (accepted empty requests) (after empty requests)

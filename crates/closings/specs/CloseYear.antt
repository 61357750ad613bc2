-- What YEAR's questions ask of the code's line.
-- Assumes nothing: these are definitions.
use Rattle.std.specs.Prelude.{Bool, true, not, ◌&&◌, List, ◌≡◌, ℕ, eqb, ℤ, if◌then◌else◌, Option, None, Some, is_some, unwrap_or}
use Rattle.model.specs.Letter.{ages}
use Rattle.model.specs.Call.{close_year}
use Rattle.model.specs.Question.{Sound}
use Rattle.line_limits.specs.declared.line.Line.{Line}
use Rattle.line_limits.specs.declared.line.Patterns.{Patterns}
use Rattle.line_limits.specs.Line.{declared_opening, kept_patterns}
use Rattle.state.specs.Lines.{line_at}
use Rattle.closings.specs.Rows.{have_patterns}

-- question 10: "not yet closed?"
abbrev pub is_open : Option ℕ → ℕ → Bool
is_open None year = true
is_open (Some closed) year = not (eqb closed year)

-- "is it the year of the last pattern": the patterns then, where the year is open
abbrev pub due_of : Option Patterns → Option ℕ → ℕ → Option Patterns
due_of None closed year = None
due_of (Some patterns) closed year = if eqb year patterns.last && is_open closed year then Some patterns else None

-- the patterns of a line's year that is due
unfoldable pub due : Line → ℕ → Option Patterns
due line year = due_of (kept_patterns line) line.closed year

-- "Opening is the last closing, or the declared opening."
abbrev pub opening_of : Line → ℕ
opening_of line = if is_some line.closed then line.closing else unwrap_or (declared_opening line) 0

-- a YEAR that questions 3 to 10 let through
pub record Turned (store : List ℕ) (line : Line) (patterns : Patterns) (letter year : ℕ) (paid : List ℤ) (unpaid tabular : List ℕ) : Type 0 where
  pub sound : Sound (close_year letter year paid unpaid tabular)
  pub here : line ≡ line_at store letter
  pub declared : is_some (declared_opening line) ≡ true
  pub is_due : due line year ≡ Some patterns

-- and question 13
pub record Passed (store : List ℕ) (line : Line) (patterns : Patterns) (letter year : ℕ) (paid : List ℤ) (unpaid tabular : List ℕ) : Type 0 where
  pub turned : Turned store line patterns letter year paid unpaid tabular
  pub all_kept : have_patterns patterns.count (ages letter) unpaid tabular ≡ true

-- What PATT's questions ask of the code's line.
-- Assumes nothing: these are definitions.
use Rattle.std.specs.Prelude.{Bool, true, ◌&&◌, List, ◌≡◌, ℕ, ◌+◌, eqb, Option, None, Some, is_some}
use Rattle.model.specs.Call.{add_pattern}
use Rattle.model.specs.Question.{Sound}
use Rattle.state.specs.declared.book.Book.{Book}
use Rattle.line_limits.specs.declared.line.Line.{Line}
use Rattle.line_limits.specs.declared.line.Patterns.{Patterns}
use Rattle.line_limits.specs.Line.{declared_opening, kept_patterns}
use Rattle.state.specs.Rates.{rates_of}
use Rattle.state.specs.Lines.{line_at}

-- question 10: "that last one closed if any year is closed"
abbrev pub last_is_closed : Option ℕ → ℕ → Bool
last_is_closed None last = true
last_is_closed (Some closed) last = eqb closed last

-- "is it the line's first pattern, or the year after its last one"
abbrev pub follows : Option Patterns → Option ℕ → ℕ → Bool
follows None closed year = true
follows (Some patterns) closed year = eqb year (patterns.last + 1) && last_is_closed closed patterns.last

-- and both of a line
unfoldable pub follows_last : Line → ℕ → Bool
follows_last line year = follows (kept_patterns line) line.closed year

-- a PATT that questions 3 to 10 let through
pub record Turned (book : Book) (store : List ℕ) (line : Line) (letter year rate : ℕ) (paid incurred : List ℕ) : Type 0 where
  pub sound : Sound (add_pattern letter year paid incurred)
  pub here : line ≡ line_at store letter
  pub declared : is_some (declared_opening line) ≡ true
  pub rated : rates_of book.rates year ≡ Some rate
  pub turn : follows_last line year ≡ true

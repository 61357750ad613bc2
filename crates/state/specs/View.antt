-- The model's book that the code's book and the lent store are. The view is total: every cell is read through its limits, so that every store is some book's.
-- Assumes nothing: these are definitions.
use Rattle.std.specs.Prelude.{List, [], ℕ, replicate, Option, None, Some}
use Rattle.model.specs.Book as model
use Rattle.state.specs.declared.book.Book.{Book}
use Rattle.line_limits.specs.declared.line.Line.{Line}
use Rattle.line_limits.specs.declared.line.Patterns.{Patterns}
use Rattle.line_limits.specs.Line.{declared_opening, kept_patterns}
use Rattle.line_limits.specs.Totals.{totals_of}
use Rattle.state.specs.Store.{size}
use Rattle.state.specs.Rates.{rates_of}
use Rattle.state.specs.Months.{register_of}
use Rattle.state.specs.Lines.{line_at}
use Rattle.state.specs.Patterns.{kept_back}
use Rattle.state.specs.Totals.{totals_at}

-- the model's closed year
abbrev pub closed_of : Option ℕ → ℕ → Option model.Closed
closed_of None closing = None
closed_of (Some year) closing = Some (record { year = year; closing = closing })

-- the kept patterns, by their slots
abbrev pub kept_of : List ℕ → ℕ → Option Patterns → List model.Kept
kept_of store letter None = []
kept_of store letter (Some patterns) = kept_back store letter patterns.count patterns.last

unfoldable pub line_of : List ℕ → ℕ → Line → model.Line
line_of store letter line =
    record {
      opening = declared_opening line;
      closed = closed_of line.closed line.closing;
      kept = kept_of store letter (kept_patterns line);
      totals = totals_of (totals_at store letter line.closed);
    }

unfoldable pub lines_of : List ℕ → ℕ → model.Line
lines_of store letter = line_of store letter (line_at store letter)

abbrev pub view : Book → List ℕ → model.Book
view book store = record { rates = rates_of book.rates; register = register_of store; lines = lines_of store; accepted = book.accepted; refused = book.refused }

-- "An empty book has no line, rate, pattern or closing, and both counts are 0.": no number of a rate place is a rate, and all cells are 0
abbrev pub empty_book : Book
empty_book = record { rates = replicate 113 65535; accepted = 0; refused = 0 }

abbrev pub empty_store : List ℕ
empty_store = replicate size 0

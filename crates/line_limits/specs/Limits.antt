-- The figures of a line, each read through its limit.
-- Assumes nothing: these are definitions.
use Rattle.std.specs.Prelude.{◌&&◌, List, ℕ, min, leb, ltb, get_or, if◌then◌else◌, Option, None, Some}
use Rattle.model.specs.Kind.{is_year}
use Rattle.model.specs.Letter.{ages}
use Rattle.line_limits.specs.declared.line.Line.{Line}
use Rattle.line_limits.specs.declared.line.Patterns.{Patterns}

-- what lies past its limit is read as the limit
abbrev pub opening_in : ℕ → ℕ
opening_in cell = min cell 100000000000

abbrev pub closing_in : ℕ → ℕ
closing_in cell = min cell 110000000000

-- how many patterns are kept: none where the year of the last one is no year, and at most ten, or two
abbrev pub kept_in : ℕ → ℕ → ℕ → ℕ
kept_in letter last cell = if is_year last then min cell (ages letter) else 0

abbrev pub patterns_in : ℕ → Patterns → Patterns
patterns_in letter patterns = record { last = patterns.last; count = kept_in letter patterns.last patterns.count }

-- the last closed year: it is read only where a pattern is kept, and not after that pattern's year
abbrev pub closed_in : Patterns → Option ℕ → Option ℕ
closed_in patterns None = None
closed_in patterns (Some year) = if is_year year && ltb 0 patterns.count && leb year patterns.last then Some year else None

-- a line as it is read: each figure through its limit
unfoldable pub limited_of : ℕ → Line → Line
limited_of letter line =
    let patterns = patterns_in letter line.patterns in
    record {
      declared = line.declared;
      opening = opening_in line.opening;
      closed = closed_in patterns line.closed;
      closing = closing_in line.closing;
      patterns = patterns;
    }

-- a line by its six cells, as they are
abbrev pub line_by : List ℕ → Line
line_by cells =
    record {
      declared = ltb 0 (get_or cells 0 0);
      opening = get_or cells 1 0;
      closed = Some (get_or cells 2 0);
      closing = get_or cells 3 0;
      patterns = record { last = get_or cells 4 0; count = get_or cells 5 0 };
    }

-- the line in six cells, each read through its limit
abbrev pub line_in : ℕ → List ℕ → Line
line_in letter cells = limited_of letter (line_by cells)

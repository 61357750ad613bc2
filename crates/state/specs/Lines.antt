-- The lines of the covered letters in the store, each at its place, and each cell read through its limit.
-- Assumes nothing: these are definitions.
use Rattle.std.specs.Prelude.{true, false, List, [], ◌∷◌, ◌≡◌, ℕ, ◌+◌, ◌-◌, ◌*◌, min, leb, if◌then◌else◌, None, Some, unwrap_or}
use Rattle.model.specs.Letter.{covered, ages}
use Rattle.line_limits.specs.declared.line.Line.{Line}
use Rattle.line_limits.specs.Limits.{limited_of, line_in}
use Rattle.state.specs.Store.{piece, written}

-- A to L (76) have the first twelve places, and R to T the next three
abbrev pub place_of : ℕ → ℕ
place_of letter = if leb letter 76 then letter - 65 else letter - 70

-- where the six cells of a line start
abbrev pub line_start : ℕ → ℕ
line_start letter = place_of letter * 6

-- an undeclared line
abbrev pub no_line : Line
no_line = record { declared = false; opening = 0; closed = None; closing = 0; patterns = record { last = 0; count = 0 } }

-- the cells of a line: the mark of a declared one is 1, and 0 is written where no year is closed
abbrev pub cells_of : Line → List ℕ
cells_of line = (if line.declared then 1 else 0) ∷ line.opening ∷ unwrap_or line.closed 0 ∷ line.closing ∷ line.patterns.last ∷ line.patterns.count ∷ []

-- a line within its limits is read as it is
abbrev pub Limited : ℕ → Line → Type 0
Limited letter line = limited_of letter line ≡ line

-- a letter's line: a letter that is not covered has an undeclared one
unfoldable pub line_at : List ℕ → ℕ → Line
line_at store letter = if covered letter then line_in letter (piece store (line_start letter) 6) else no_line

-- the store with a line anew: as it was, where the letter is not covered
abbrev pub with_line_of : List ℕ → ℕ → Line → List ℕ
with_line_of store letter line = if covered letter then written store (line_start letter) (cells_of line) else store

-- the line that LINE declares
abbrev pub new_line : ℕ → Line
new_line opening = record { declared = true; opening = opening; closed = None; closing = 0; patterns = record { last = 0; count = 0 } }

-- a line with one pattern more: "A line keeps its latest ten patterns (two-year: two)."
abbrev pub with_pattern_of : ℕ → Line → ℕ → Line
with_pattern_of letter line year =
    record { declared = line.declared; opening = line.opening; closed = line.closed; closing = line.closing; patterns = record { last = year; count = min (line.patterns.count + 1) (ages letter) } }

-- a line with one more year closed
abbrev pub with_closing_of : Line → ℕ → ℕ → Line
with_closing_of line year closing =
    record { declared = line.declared; opening = line.opening; closed = Some year; closing = closing; patterns = line.patterns }

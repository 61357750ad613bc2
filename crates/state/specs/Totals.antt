-- The totals of the covered letters in the store, three cells each, read by the line's last closed year.
-- Assumes nothing: these are definitions.
use Rattle.std.specs.Prelude.{List, ℕ, ◌+◌, ◌*◌, if◌then◌else◌, Option}
use Rattle.model.specs.Book.{no_totals}
use Rattle.model.specs.Letter.{covered}
use Rattle.line_limits.specs.declared.totals.Totals.{Totals}
use Rattle.line_limits.specs.Totals.{totals_by, totals_in, total_cells}
use Rattle.state.specs.Store.{piece, written, totals_start}
use Rattle.state.specs.Lines.{place_of}

-- where the totals of a letter start
abbrev pub total_start : ℕ → ℕ
total_start letter = totals_start + place_of letter * 3

-- the totals of a letter, by its last closed year: a letter that is not covered has zeros
unfoldable pub totals_at : List ℕ → ℕ → Option ℕ → Totals
totals_at store letter closed = if covered letter then totals_in closed (piece store (total_start letter) 3) else totals_by no_totals

-- the store with the totals of a letter anew: as it was, where the letter is not covered
abbrev pub with_totals_of : List ℕ → ℕ → Option ℕ → Totals → List ℕ
with_totals_of store letter closed totals = if covered letter then written store (total_start letter) (total_cells closed totals) else store

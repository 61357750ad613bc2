-- A letter that the book covers.
-- Assumes nothing: this is a definition.
use Rattle.std.specs.Prelude.{ℕ, Option, None, Some, if◌then◌else◌}
use Rattle.model.specs.Letter.{covered}

-- a byte that is a covered letter
abbrev pub covered_letter : ℕ → Option ℕ
covered_letter l = if covered l then Some l else None

-- The store: a piece of it, and the store with a piece written. These two serve all its regions.
-- Assumes nothing: these are definitions.
use Rattle.std.specs.Prelude.{List, ◌++◌, ℕ, ◌+◌, length, take, drop}

-- n cells from a place on
unfoldable pub piece : List ℕ → ℕ → ℕ → List ℕ
piece store at n = take n (drop at store)

-- the store with cells written from a place on
unfoldable pub written : List ℕ → ℕ → List ℕ → List ℕ
written store at cells = take at store ++ (cells ++ drop (at + length cells) store)

-- where the regions start: fifteen lines of six cells from 0 on, ten slots of eleven cells for each, 113 hints, three cells of totals for each line, twelve months for each of 120 years
abbrev pub slots_start : ℕ
slots_start = 90

abbrev pub hints_start : ℕ
hints_start = 1740

abbrev pub totals_start : ℕ
totals_start = 1853

abbrev pub months_start : ℕ
months_start = 1898

-- how many cells there are
abbrev pub size : ℕ
size = 3338

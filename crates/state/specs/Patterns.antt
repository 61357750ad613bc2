-- The kept patterns in the store: a slot of eleven cells, ten factors and a composite, for each of the ten patterns that a line may keep.
-- Assumes nothing: these are definitions.
use Rattle.std.specs.Prelude.{List, [], ◌∷◌, ◌++◌, map, ℕ, zero, suc, ◌+◌, ◌-◌, ◌*◌, ◌%◌, min, take, get_or, replicate, if◌then◌else◌}
use Rattle.model.specs.Letter.{covered, ages}
use Rattle.model.specs.Book.{Kept}
use Rattle.state.specs.Store.{piece, written, slots_start}
use Rattle.state.specs.Lines.{place_of}

-- where the slot of a letter and an accident year starts
abbrev pub slot_start : ℕ → ℕ → ℕ
slot_start letter year = slots_start + (place_of letter * 10 + year % 10) * 11

-- its cells: a letter that is not covered has none, and zeros are read
unfoldable pub slot_at : List ℕ → ℕ → ℕ → List ℕ
slot_at store letter year = if covered letter then piece store (slot_start letter year) 11 else replicate 11 0

-- a factor is at most 1: what lies past it is read as 1
abbrev pub factor_in : ℕ → ℕ
factor_in cell = min cell 10000000000

-- a factor in the slot of a letter and an accident year, or its composite at place 10
abbrev pub factor_at : List ℕ → ℕ → ℕ → ℕ → ℕ
factor_at store letter year place = factor_in (get_or (slot_at store letter year) place 0)

-- the pattern of a letter and an accident year
abbrev pub pattern_at : List ℕ → ℕ → ℕ → Kept
pattern_at store letter year =
    record { year = year; factors = map factor_in (take (ages letter) (slot_at store letter year)); composite = factor_at store letter year 10 }

-- the patterns of n years, the given one and those before it
unfoldable pub kept_back : List ℕ → ℕ → ℕ → ℕ → List Kept
kept_back store letter zero year = []
kept_back store letter (suc n) year = pattern_at store letter year ∷ kept_back store letter n (year - 1)

-- the cells of a pattern: its factors, zeros up to ten, and its composite
abbrev pub slot_of : ℕ → Kept → List ℕ
slot_of letter pattern = pattern.factors ++ (replicate (10 - ages letter) 0 ++ (pattern.composite ∷ []))

-- the store with the slot of a letter and an accident year anew: as it was, where the letter is not covered
abbrev pub with_slot_of : List ℕ → ℕ → ℕ → List ℕ → List ℕ
with_slot_of store letter year cells = if covered letter then written store (slot_start letter year) cells else store

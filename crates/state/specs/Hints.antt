-- The half-year factors that are kept as hints, one for each year from 1987 to 2099. The view does not read them.
-- Assumes nothing: these are definitions.
use Rattle.std.specs.Prelude.{List, [], ◌∷◌, ℕ, ◌+◌, ◌-◌, get_or, if◌then◌else◌}
use Rattle.model.specs.Kind.{is_year}
use Rattle.state.specs.Store.{written, hints_start}

-- where the hint of a year stands
abbrev pub hint_start : ℕ → ℕ
hint_start year = hints_start + (year - 1987)

abbrev pub hint_at : List ℕ → ℕ → ℕ
hint_at store year = if is_year year then get_or store (hint_start year) 0 else 0

-- the store with a year's hint: as it was, where the year has no place
abbrev pub with_hint_of : List ℕ → ℕ → ℕ → List ℕ
with_hint_of store year hint = if is_year year then written store (hint_start year) (hint ∷ []) else store

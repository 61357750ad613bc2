-- The sixty months of an accident year, as the store has them.
-- Assumes nothing: these are definitions.
use Rattle.std.specs.Prelude.{Bool, ◌&&◌, List, map, ℕ, ◌-◌, replicate, if◌then◌else◌, Option, Some, None, is_some, unwrap_or}
use Rattle.std.specs.List.{list_all}
use Rattle.model.specs.Kind.{is_year}
use Rattle.model.specs.Rate.{sixty_months}
use Rattle.state.specs.Store.{piece}
use Rattle.state.specs.Months.{month_start, month_in, register_of}

-- their cells, from that of January five years before on
abbrev pub sixty_cells : List ℕ → ℕ → List ℕ
sixty_cells store year = piece store (month_start (year - 5) 1) 60

-- whether a cell holds a rate, and which
abbrev pub cell_given : ℕ → Bool
cell_given cell = is_some (month_in cell)

abbrev pub cell_rate : ℕ → ℕ
cell_rate cell = unwrap_or (month_in cell) 0

-- is each of the sixty given? A year that is none from 1987 to 2099 has none
abbrev pub has_sixty : List ℕ → ℕ → Bool
has_sixty store year = is_year year && list_all is_some (sixty_months (register_of store) year)

-- their rates, 0 for one that is not given
abbrev pub rates_taken : List ℕ → ℕ → List ℕ
rates_taken store year = if is_year year then map (λ month. unwrap_or month 0) (sixty_months (register_of store) year) else replicate 60 0

-- the rates of the sixty, or none where one of them is not given
abbrev pub given_sixty : List ℕ → ℕ → Option (List ℕ)
given_sixty store year = if has_sixty store year then Some (rates_taken store year) else None

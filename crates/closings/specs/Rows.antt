-- The patterns that the rows of a year take, by those that the line keeps. The year is that of the last pattern.
-- Assumes nothing: these are definitions.
use Rattle.std.specs.Prelude.{Bool, List, ◌≡◌, ℕ, suc, ◌-◌, ◌<◌, eqb, ltb, drop, take, get_or, if◌then◌else◌}
use Rattle.std.specs.List.{list_all}
use Rattle.model.specs.Letter.{ages}
use Rattle.model.specs.Row.{gross}
use Rattle.reserve.specs.Lists.{stated_rows}
use Rattle.line_limits.specs.declared.line.Patterns.{Patterns}
use Rattle.state.specs.Patterns.{factor_at}

-- question 13: no age row past the patterns has gross
unfoldable pub have_patterns : ℕ → ℕ → List ℕ → List ℕ → Bool
have_patterns kept n unpaid tabular = list_all (λ row. eqb (gross row) 0) (drop kept (take n (stated_rows unpaid tabular)))

-- the factor of the row at place k: of a pattern that is kept, or 0; the prior row's is a composite
abbrev pub row_factor_of : List ℕ → ℕ → Patterns → ℕ → ℕ
row_factor_of store letter patterns k =
    if ltb k (ages letter)
    then (if ltb k patterns.count then factor_at store letter (patterns.last - k) k else 0)
    else factor_at store letter patterns.last 10

pub record FactorsOf (store : List ℕ) (letter : ℕ) (patterns : Patterns) (factors : List ℕ) : Type 0 where
  pub each : (k : ℕ) → k < suc (ages letter) → get_or factors k 0 ≡ row_factor_of store letter patterns k

-- The limits of a year's lists.
-- Assumes nothing: these are definitions.
use Rattle.std.specs.Prelude.{Bool, ◌&&◌, List, ℕ, ℤ}
use Rattle.std.specs.List.{list_all}
use Rattle.model.specs.Kind.{is_amount, is_paid}

-- "6. Is every number within its limits?", but for the year
abbrev pub has_limits : List ℤ → List ℕ → List ℕ → Bool
has_limits paid unpaid tabular = list_all is_paid paid && list_all is_amount unpaid && list_all is_amount tabular

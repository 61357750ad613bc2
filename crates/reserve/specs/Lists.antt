-- The lists of a YEAR, as the helpers of a year end ask for them.
-- Assumes nothing: these are definitions.
use Rattle.std.specs.Prelude.{true, List, [], ◌∷◌, ◌≡◌, ℕ, ◌≤◌, length, ℤ}
use Rattle.model.specs.Basics.{total}
use Rattle.std.specs.List.{list_all}
use Rattle.model.specs.Kind.{is_paid}
use Rattle.model.specs.Row.{Row, stated}

pub record PaidList (paid : List ℤ) : Type 0 where
  pub few : length paid ≤ 11
  pub limits : list_all is_paid paid ≡ true

pub record ReserveLists (unpaid tabular factors : List ℕ) : Type 0 where
  pub few : length unpaid ≤ 11
  pub same : length tabular ≡ length unpaid
  pub enough : length unpaid ≤ length factors

abbrev pub paid_sum : List ℤ → ℤ
paid_sum paid = total (λ v. v) paid

-- the rows of a list of unpaid and a list of tabular, of which nothing was paid
abbrev pub stated_rows : List ℕ → List ℕ → List Row
stated_rows [] tabular = []
stated_rows (u ∷ unpaid) [] = []
stated_rows (u ∷ unpaid) (t ∷ tabular) = stated u t ∷ stated_rows unpaid tabular

-- What the payments of a pattern record ask.
-- Assumes nothing: these are definitions.
use Rattle.std.specs.Prelude.{◌≡◌, true, List, ℕ, ◌≤◌, length}
use Rattle.std.specs.List.{list_all}
use Rattle.model.specs.Kind.{is_amount}
use Rattle.model.specs.Pattern.{ages_of}
use Rattle.model.specs.Question.{is_incurred}

-- as many paid as incurred, and at most ten
pub record Paired (paid incurred : List ℕ) : Type 0 where
  pub same : length incurred ≡ length paid
  pub few : length paid ≤ 10

-- and each age has a ratio
pub record Payable (paid incurred : List ℕ) : Type 0 where
  pub pairs : Paired paid incurred
  pub amounts : list_all is_amount incurred ≡ true
  pub sound : list_all is_incurred (ages_of paid incurred) ≡ true

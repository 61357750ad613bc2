-- What the payments of a pattern record give.
-- Assumes nothing: these are definitions.
use Rattle.std.specs.Prelude.{◌≡◌, true, false, List, map, Option, Some, None, ℕ, ◌*◌, ◌≤◌, length, take}
use Rattle.model.specs.Basics.{last_or}
use Rattle.model.specs.Pattern.{ages_of, cumulative_ratio, cumulative, payments}
use Rattle.model.specs.Question.{climbs_from}
use Rattle.payments.specs.declared.payment.ByAge.{ByAge}

-- no ratio falls; the payments by age and the last ratio
pub record Paid (paid incurred pay : List ℕ) (last : ℕ) : Type 0 where
  pub climbs : climbs_from 0 (map cumulative_ratio (ages_of paid incurred)) ≡ true
  pub by_age : take (length paid) pay ≡ payments 0 (map cumulative (ages_of paid incurred))
  pub in_all : 2 * last ≡ last_or 0 (map cumulative (ages_of paid incurred))
  pub small : last ≤ 100000000
  pub places : length pay ≡ 16

-- or none, where one falls
abbrev pub PaidByAge : List ℕ → List ℕ → Option ByAge → Type 0
PaidByAge paid incurred None = climbs_from 0 (map cumulative_ratio (ages_of paid incurred)) ≡ false
PaidByAge paid incurred (Some given) = Paid paid incurred given.pay given.last

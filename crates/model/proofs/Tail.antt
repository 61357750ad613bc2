-- Document 02, F-1: where the tail is document 01's; caps and the payments of a pattern, computed.
-- Assumes nothing.
use mathlib.Core.Path.{◌≡◌, refl}
use mathlib.Core.Bool.{Bool, true, false}
use mathlib.Core.List.{[], ◌∷◌, map}
use Prim.Native.Char.{code}
use Prim.Native.Nat.{ℕ, ◌+◌, ◌/◌, ◌<◌}
use native.Mathlib.Omega.{arith}
use borrow.Author.Tests.{eqb-true}
use lib.Dec.{eqb}
use lib.ListN.{drop, replicate}
use Rattle.model.specs.Letter.{ten_year, two_year}
use Rattle.model.specs.Pattern.{ages_of, cumulative_ratio}
use Rattle.model.specs.Tail.{capped, tail_cap, ten_year_tail, schedule}

module _ (eighth ninth tenth left : ℕ) where
  -- the tail is that of document 01, whose cap is the payment at age 10
  abbrev OldTail : Type 0
  OldTail = ten_year_tail eighth ninth tenth left ≡ capped 5 tenth left

  cap_is : (t : Bool) → eqb tenth 0 ≡ t → (tenth ≡ 0 → (eighth + ninth + tenth) / 3 ≡ 0) → tail_cap eighth ninth tenth ≡ tenth
  cap_is true e h = let z : tenth ≡ 0 = eqb-true tenth 0 e in rw e (omega (arith, h z))
  cap_is false e h = rw e

  old_tail : (tenth ≡ 0 → (eighth + ninth + tenth) / 3 ≡ 0) → OldTail
  old_tail h = rw (cap_is (eqb tenth 0) refl h)

  -- "where the payment at age 10 is 0": where it is above 0 nothing changes
  pub old_tail_where_paid : 0 < tenth → OldTail
  old_tail_where_paid p = old_tail (λ z. absurd (omega arith))

  -- "If that is 0 as well, the old tail holds.": a sum of less than 3 half units has a mean of 0
  pub old_tail_where_little : eighth + ninth + tenth < 3 → OldTail
  old_tail_where_little s = old_tail (λ z. omega arith)

-- nothing was paid at ages 9 and 10, and 0, 2, 4, 6 and 8 half units at age 8
pub caps : map (λ (eighth : ℕ). tail_cap eighth 0 0) (0 ∷ 2 ∷ 4 ∷ 6 ∷ 8 ∷ []) ≡ 0 ∷ 0 ∷ 1 ∷ 2 ∷ 2 ∷ []
caps = refl

-- 6, 4, 3 and 0 percent are paid at ages 7 to 10, and 17 are left: the payments from age 7 on
pub tail_of_a_mean : drop 6 (schedule (code "B") (ages_of (10 ∷ 25 ∷ 40 ∷ 52 ∷ 62 ∷ 70 ∷ 76 ∷ 80 ∷ 83 ∷ 83 ∷ []) (replicate 10 100)))
    ≡ 12000000 ∷ 8000000 ∷ 6000000 ∷ 0 ∷ 4666666 ∷ 4666666 ∷ 4666666 ∷ 4666666 ∷ 4666666 ∷ 10666670 ∷ []
unfolding schedule cumulative_ratio ten_year two_year
tail_of_a_mean = refl

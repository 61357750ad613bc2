-- What passes the test of the square rule is the half-year factor: a number, and so each entry of a table that passes it.
-- Assumes nothing.
use mathlib.Core.Path.{◌≡◌, refl}
use mathlib.Core.Bool.{Bool, true, ◌&&◌}
use mathlib.Core.List.{List, [], ◌∷◌}
use Prim.Native.Nat.{ℕ, zero, suc, ◌+◌, ◌*◌, ◌<◌}
use native.Mathlib.Nat.{zero-add, add-zero, add-suc, suc-add, le_of_suc-le-suc, not-suc-le-zero}
use native.Mathlib.Omega.{arith}
use borrow.Author.Tests.{leb-true, ltb-true}
use lib.Dec.{leb, ltb}
use lib.ListN.{length, get_or}
use Rattle.model.specs.HalfYear.{square_limit, half_year}
use Rattle.model.specs.Kind.{is_rate}
use Rattle.model.proofs.HalfYear.{largest_of, half_year_is, half_year_unique}
use Rattle.model.proofs.Lists.{and_left, and_right}
use Rattle.half_year.specs.SquareRule.{is_half_year, are_half_years}

-- t is what the test answered
pub passed : (t : Bool) (R H : ℕ) → t ≡ is_half_year R H → t ≡ true → H ≡ half_year R
passed t R H e y =
    let D : ℕ = 10000 + R in
    let low : Bool = leb (H * H * D) square_limit in
    let high : Bool = ltb square_limit ((H + 1) * (H + 1) * D) in
    let both : low && high ≡ true = rw e at y in
    half_year_unique D H (half_year R) (largest_of D H (leb-true _ _ (and_left low high both)) (ltb-true _ _ (and_right low high both))) (half_year_is R)

-- the entry k places after that of the rate R
from : (R : ℕ) (Hs : List ℕ) (k : ℕ) → are_half_years R Hs ≡ true → k < length Hs → get_or Hs k 0 ≡ half_year (R + k)
from R [] k t h = absurd (not-suc-le-zero h)
from R (H ∷ Hs) zero t h = rw (add-zero R) (passed (is_half_year R H) R H refl (and_left _ (are_half_years (suc R) Hs) t))
from R (H ∷ Hs) (suc k) t h = rw (add-suc R k) (rw (suc-add R k) at (from (suc R) Hs k (and_right (is_half_year R H) _ t) (le_of_suc-le-suc h)))

-- the entry at the number n of a rate
pub of_rate : (Hs : List ℕ) (n rate : ℕ) → are_half_years 0 Hs ≡ true → length Hs ≡ 2501 → n ≡ rate → is_rate n ≡ true → get_or Hs n 0 ≡ half_year rate
of_rate Hs n rate t l e r = rw (← e) (rw (zero-add n) at (from 0 Hs n t (omega (arith, l, leb-true n 2500 r))))

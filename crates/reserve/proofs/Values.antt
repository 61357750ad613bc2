-- A row's discounted value: the products fit, it is at most what is unpaid, and the code's smaller of two is the definition's.
-- Assumes nothing.
use mathlib.Core.Path.{◌≡◌}
use Prim.Native.Nat.{ℕ, ◌+◌, ◌*◌, ◌/◌, ◌≤◌, min}
use native.Mathlib.Omega.{arith}
use native.Mathlib.Nat.{mul-le-mul}
use Rattle.model.specs.Published.{published}
use Rattle.model.specs.Row.{Row, discounted, stated}

pub product : (g p : ℕ) → g ≤ 20000000000 → p ≤ 1000000 → g * p ≤ 20000000000000000
product g p hg hp = mul-le-mul hg hp

-- with the code's g for gross, p for the published factor of n, and m for unpaid
module _ (u t k n g p m : ℕ) (eg : g ≡ u + t) (en : n ≡ k) (ep : p ≡ published n) (em : m ≡ u) where
  pub discounted_is : (r : ℕ) → r ≡ min ((g * p + 500000) / 1000000) m → r ≡ discounted (stated u t) (published k)
  unfolding discounted
  discounted_is r er = rw (← eg, ← en, ← ep, ← em) (omega (arith, er))

pub at_most_unpaid : (row : Row) (q : ℕ) → discounted row q ≤ row.unpaid
unfolding discounted
at_most_unpaid row q = omega arith

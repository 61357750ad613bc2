-- A total put into its cell.
-- Assumes nothing.
use mathlib.Core.Path.{◌≡◌, refl}
use native.Mathlib.Omega.{arith}
use Prim.Native.Nat.{ℕ}
use lib.IntN.{ℤ, pos, negsuc, ◌+ℤ◌, ◌-ℤ◌, nat_abs}
use Rattle.std.specs.Int.{int_max, int_min}
use Rattle.std.proofs.lemmas.Int.{ints, clamps}
use Rattle.line_limits.specs.Totals.{or_zero, total_cell}

-- the part above 0
or_zero_is : (v : ℤ) → pos (or_zero v) ≡ int_max v (pos 0)
or_zero_is (pos n) = omega (arith, ints, clamps)
or_zero_is (negsuc n) = refl

-- the distance of a total that is kept within its limit
pub cell_is : (limit : ℕ) (total d : ℤ) → d ≡ int_max (pos 0 -ℤ pos limit) (int_min total (pos limit)) → nat_abs (d +ℤ pos limit) ≡ total_cell limit total
unfolding total_cell
cell_is limit total d e = omega (arith, ints, clamps, or_zero_is (total +ℤ pos limit))

-- A signed number by its size: how sums grow, and when it fits.
-- Assumes nothing.
use mathlib.Core.Bool.{Bool, true, false, cond}
use mathlib.Core.Path.{◌≡◌, refl}
use Prim.Native.Nat.{ℕ, zero, suc, ◌+◌, ◌-◌, ◌≤◌, ◌<◌, ◌^◌}
use native.Mathlib.Omega.{arith}
use borrow.Author.Tests.{ltb-true}
use lib.Dec.{ltb}
use lib.IntN.{ℤ, pos, negsuc, nat_abs, neg_ℤ, ◌+ℤ◌, ◌-ℤ◌}
use mir.Syntax.{w64}
use mir.Val.{SFits, to_z, of_z}
use mir.Facts.{to_z-of_z}

-- sums and differences by their sizes
difference_size : (a b : ℕ) (t : Bool) → ltb a b ≡ t → nat_abs (cond t (negsuc (b - suc a)) (pos (a - b))) ≤ a + b
difference_size a b true e = let lt : a < b = ltb-true a b e in omega arith
difference_size a b false e = omega arith

pub sum_size : (a b : ℤ) → nat_abs (a +ℤ b) ≤ nat_abs a + nat_abs b
sum_size (pos a) (pos b) = omega arith
sum_size (pos a) (negsuc b) = difference_size a (suc b) (ltb a (suc b)) refl
sum_size (negsuc a) (pos b) = let h = difference_size b (suc a) (ltb b (suc a)) refl in omega arith
sum_size (negsuc a) (negsuc b) = omega arith

-- two numbers that are at most m apart
apart_by : (a b m : ℕ) (t : Bool) → ltb a b ≡ t → a ≤ m + b → b ≤ m + a → nat_abs (cond t (negsuc (b - suc a)) (pos (a - b))) ≤ m
apart_by a b m true e above below = let lt : a < b = ltb-true a b e in omega arith
apart_by a b m false e above below = omega arith

pub less_size : (a b m : ℕ) → a ≤ m + b → b ≤ m + a → nat_abs (pos a -ℤ pos b) ≤ m
less_size a zero m above below = omega arith
less_size a (suc b) m above below = apart_by a (suc b) m (ltb a (suc b)) refl above below

pub negative_size : (v : ℤ) → nat_abs (neg_ℤ v) ≡ nat_abs v
negative_size (pos zero) = refl
negative_size (pos (suc n)) = refl
negative_size (negsuc n) = refl

-- a number of a small size fits, and is read back from its bits
pub size_fits : (v : ℤ) → nat_abs v < 2 ^ 63 → SFits w64 v
size_fits (pos n) h = record { sfits = h }
size_fits (negsuc n) h = record { sfits = omega arith }

pub read_back : (v : ℤ) → nat_abs v < 2 ^ 63 → to_z w64 (of_z w64 v) ≡ v
read_back v h = to_z-of_z (size_fits v h)

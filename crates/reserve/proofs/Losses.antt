-- Paid total plus closing less opening, as the code has it in the bits of an i64: each step fits, and the result is the loss.
-- Assumes nothing.
use Prim.Native.Nat.{ℕ, ◌≤◌, ◌<◌, ◌^◌}
use native.Mathlib.Omega.{arith}
use lib.IntN.{ℤ, pos, nat_abs, neg_ℤ, ◌+ℤ◌, ◌-ℤ◌, +ℤ_assoc}
use Rattle.model.specs.YearEnd.{loss}
use Rattle.money.proofs.Signed.{sum_size, less_size, negative_size}
use Rattle.reserve.specs.Figures.{Figures}

-- what a year can add to a line's losses
pub loss_limit : (paid : ℤ) (closing opening : ℕ) → Figures paid closing opening → nat_abs (loss paid closing opening) ≤ 220000000000
loss_limit paid closing opening f =
    rw (+ℤ_assoc paid (pos closing) (neg_ℤ (pos opening)))
    (omega (arith, f.paid_limit, sum_size paid (pos closing -ℤ pos opening), less_size closing opening 110000000000 (omega (arith, f.closing_limit)) (omega (arith, f.opening_limit))))

module _ (paid : ℤ) (closing opening : ℕ) (f : Figures paid closing opening) where
  pub loss_small : nat_abs (loss paid closing opening) < 2 ^ 63
  loss_small =
      omega (arith, sum_size paid (pos closing), sum_size (paid +ℤ pos closing) (neg_ℤ (pos opening)), negative_size (pos opening))

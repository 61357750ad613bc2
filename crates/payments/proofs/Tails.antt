-- The cap, and the tails' stores: the loop over ages 11 to 15, and the last ages.
-- Assumes nothing.
use mathlib.Core.Path.{◌≡◌, refl}
use mathlib.Core.List.{List, [], ◌∷◌, ◌++◌}
use Prim.Native.Nat.{ℕ, zero, suc, ◌+◌, ◌-◌, min, ◌≤◌, ◌<◌}
use native.Mathlib.Omega.{arith}
use native.Mathlib.Numerals.{add-one}
use lib.ListN.{length, take, drop, get_or, set, length-set, drop_of_length-le}
use lib.Seq.{take-suc-set, append_snoc, set_split, get_or-take}
use Rattle.model.specs.Basics.{sum}
use Rattle.model.specs.Tail.{capped, tail_cap, ten_year_tail, payment_at}

-- the ages before place `at` are paid, and the rest is to come
pub record Tailing (pay : List ℕ) (cap unpaid : ℕ) (paid : List ℕ) (left at : ℕ) : Type 0 where
  pub low : 10 ≤ at
  pub high : at ≤ 15
  pub places : length paid ≡ 16
  pub all : take at paid ++ capped (15 - at) cap left ≡ take 10 pay ++ capped 5 cap unpaid

pub start : (pay : List ℕ) (cap unpaid : ℕ) → length pay ≡ 16 → Tailing pay cap unpaid pay unpaid 10
start pay cap unpaid n = record { low = omega arith; high = omega arith; places = n; all = refl }

pub on : (pay : List ℕ) (cap unpaid : ℕ) (paid : List ℕ) (left at payment : ℕ) → Tailing pay cap unpaid paid left at → at < 15 → payment ≡ min cap left → Tailing pay cap unpaid (set paid at payment) (left - payment) (at + 1)
on pay cap unpaid paid left at payment t lt e =
    let n : 15 - at ≡ suc (15 - (at + 1)) = omega arith in
    let all : take at paid ++ (payment ∷ capped (15 - (at + 1)) cap (left - payment)) ≡ take 10 pay ++ capped 5 cap unpaid = rw e (rw n at t.all) in
    record {
      low = omega (arith, t.low);
      high = omega arith;
      places = rw length-set t.places;
      all = rw (add-one at, take-suc-set paid at payment (omega (arith, t.places)), append_snoc, ← add-one at) all;
    }

pub end : (pay : List ℕ) (cap unpaid : ℕ) (paid : List ℕ) (left at : ℕ) → Tailing pay cap unpaid paid left at → 15 ≤ at → cap ≡ tail_cap (payment_at 8 pay) (payment_at 9 pay) (payment_at 10 pay)
    → set paid 15 left ≡ take 10 pay ++ ten_year_tail (payment_at 8 pay) (payment_at 9 pay) (payment_at 10 pay) unpaid
end pay cap unpaid paid left at t le e =
    let n : at ≡ 15 = omega (arith, t.high) in
    let all : take 15 paid ++ (left ∷ []) ≡ take 10 pay ++ capped 5 cap unpaid = rw n at t.all in
    let d : drop 16 paid ≡ [] = drop_of_length-le paid {i = 16} (omega (arith, t.places)) in
    rw (set_split paid 15 left (omega (arith, t.places)), d, ← e) all

-- three payments one after the other come to no more than all of them
three_of : (pay : List ℕ) (k : ℕ) → get_or pay k 0 + get_or pay (suc k) 0 + get_or pay (suc (suc k)) 0 ≤ sum pay
three_of [] k = omega arith
three_of (x ∷ []) zero = omega arith
three_of (x ∷ y ∷ []) zero = omega arith
three_of (x ∷ y ∷ z ∷ pay) zero = omega arith
three_of (x ∷ pay) (suc k) = omega (arith, three_of pay k)

pub last_three : (pay : List ℕ) → sum (take 10 pay) ≤ 200000000 → payment_at 8 pay + payment_at 9 pay + payment_at 10 pay ≤ 200000000
last_three pay le =
    omega (arith, three_of (take 10 pay) 7, get_or-take 10 pay 7 0 (omega arith), get_or-take 10 pay 8 0 (omega arith), get_or-take 10 pay 9 0 (omega arith))

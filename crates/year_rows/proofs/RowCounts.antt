-- How many rows a list has: one for each age, and the prior row.
-- Assumes nothing.
use mathlib.Core.Bool.{true, false}
use mathlib.Core.Path.{◌≡◌}
use Prim.Native.Nat.{ℕ, suc, ◌+◌}
use native.Mathlib.Omega.{arith}
use borrow.Author.Tests.{eq-eqb, ne_eqb}
use lib.Dec.{eqb}

-- a length is the number n of ages and one
pub is_rows : (length n ages : ℕ) → n ≡ ages → length ≡ n + 1 → eqb length (suc ages) ≡ true
is_rows length n ages e h = eq-eqb length (suc ages) (omega arith)

pub not_rows : (length n ages : ℕ) → n ≡ ages → (length ≡ n + 1 → ⊥) → eqb length (suc ages) ≡ false
not_rows length n ages e h = ne_eqb length (suc ages) (λ z. h (omega arith))

pub rows_test : (length n ages : ℕ) → n ≡ ages → eqb length (n + 1) ≡ eqb length (suc ages)
rows_test length n ages e = let s : n + 1 ≡ suc ages = omega arith in rw s

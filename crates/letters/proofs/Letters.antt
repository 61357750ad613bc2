-- The letters by their ranges and by document 01's lists: two tests that agree on every byte, by one test that is computed.
-- Assumes nothing.
use Rattle.std.specs.Prelude.{if◌then◌else◌}
use mathlib.Core.Path.{◌≡◌, refl}
use mathlib.Core.Bool.{Bool, true, false, ◌&&◌, ◌||◌}
use mathlib.Core.Logic.{⊎_elim}
use Prim.Native.Nat.{ℕ, zero, suc, ◌<◌}
use native.Mathlib.Omega.{arith}
use native.Mathlib.Nat.{eq-or-lt_of_le, le_of_suc-le-suc}
use lib.Dec.{eqb, leb}
use Rattle.model.proofs.Lists.{and_left, and_right}
use Rattle.model.specs.Letter.{ten_year, two_year, covered}

-- the same answer
abbrev agrees : Bool → Bool → Bool
agrees true b = b
agrees false b = if b then false else true

same : (a b : Bool) → agrees a b ≡ true → a ≡ b
same true true e = refl
same true false e = cc
same false true e = cc
same false false e = refl

-- below n
agree_below : (ℕ → Bool) → (ℕ → Bool) → ℕ → Bool
agree_below f g zero = true
agree_below f g (suc n) = agrees (f n) (g n) && agree_below f g n

agree : (f g : ℕ → Bool) (n : ℕ) → agree_below f g n ≡ true → (b : ℕ) → b < n → f b ≡ g b
unfolding agree_below
agree f g zero e b lt = absurd (omega arith)
agree f g (suc n) e b lt =
    ⊎_elim
    (λ (z : b ≡ n). rw z (same (f n) (g n) (and_left (agrees (f n) (g n)) (agree_below f g n) e)))
    (λ (l : b < n). agree f g n (and_right (agrees (f n) (g n)) (agree_below f g n) e) b l)
    (eq-or-lt_of_le (le_of_suc-le-suc lt))

-- from A to H, or R
pub ten_year_lem : (b : ℕ) → b < 256 → ten_year b ≡ (leb 65 b && leb b 72 || eqb b 82)
unfolding agree_below ten_year
ten_year_lem b lt = agree ten_year (λ x. leb 65 x && leb x 72 || eqb x 82) 256 refl b lt

-- from A to L, or from R to T
pub covered_lem : (b : ℕ) → b < 256 → covered b ≡ (leb 65 b && leb b 76 || leb 82 b && leb b 84)
unfolding agree_below ten_year two_year
covered_lem b lt = agree covered (λ x. leb 65 x && leb x 76 || leb 82 x && leb x 84) 256 refl b lt

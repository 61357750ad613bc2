-- The composite's sums over the m last ages of a pattern: one age back, how large they are, and the mean of a single age.
-- Assumes nothing.
use mathlib.Core.Path.{◌≡◌, refl, ap}
use mathlib.Core.Logic.{⊎_elim}
use mathlib.Core.List.{List, [], ◌∷◌}
use Prim.Native.Nat.{ℕ, zero, suc, ◌+◌, ◌*◌, ◌≤◌, ◌<◌}
use native.Mathlib.Omega.{arith}
use native.Mathlib.Nat.{eq-zero-or-pos, mul-le-mul, div-eq_of_eq-mul_right}
use borrow.Author.Tests.{eq-eqb, ne_eqb}
use lib.ListN.{length}
use Rattle.model.specs.Pattern.{unpaid}
use Rattle.model.specs.Factor.{factor}
use Rattle.model.specs.Composite.{weight, weighted, mean}
use Rattle.model.proofs.FactorBounds.{factor_at_most}

-- what is unpaid at an age times its factor
abbrev pub product : ℕ → ℕ → List ℕ → ℕ
product H D later = unpaid later * factor H D later

module _ (H D : ℕ) where
  -- where no more than m ages are left, room for one more adds nothing to either sum
  room : (m : ℕ) (later : List ℕ) → length later ≤ m → (weight (suc m) later ≡ weight m later) × (weighted H D (suc m) later ≡ weighted H D m later)
  unfolding weighted
  room zero [] h = (refl, refl)
  room (suc m) [] h = (refl, refl)
  room zero (p ∷ later) h = absurd (omega arith)
  room (suc m) (p ∷ later) h =
      let same = room m later (omega arith) in
      (ap (λ (x : ℕ). unpaid (p ∷ later) + x) same.0, ap (λ (x : ℕ). product H D (p ∷ later) + x) same.1)

  -- without a later payment both sums are 0
  pub sums_none : (m : ℕ) → (weight m [] ≡ 0) × (weighted H D m [] ≡ 0)
  unfolding weighted
  sums_none zero = (refl, refl)
  sums_none (suc m) = (refl, refl)

  -- one age back among the last m
  pub sums_back : (m p : ℕ) (later : List ℕ) → length (p ∷ later) ≤ m
      → (weight m (p ∷ later) ≡ unpaid (p ∷ later) + weight m later) × (weighted H D m (p ∷ later) ≡ product H D (p ∷ later) + weighted H D m later)
  unfolding weighted
  sums_back zero p later h = absurd (omega arith)
  sums_back (suc m) p later h = let same = room m later (omega arith) in (rw same.0, rw same.1)

-- the mean of one age is its factor: so a two-year line's composite is a mean too
pub mean_of_one : (H D : ℕ) (later : List ℕ) → mean H D 1 later ≡ factor H D later
unfolding mean weighted factor
mean_of_one H D [] = refl
mean_of_one H D (p ∷ later) =
    ⊎_elim
    (λ (z : p + unpaid later ≡ 0). rw (eq-eqb (p + unpaid later + 0) 0 (omega arith), eq-eqb (p + unpaid later) 0 z))
    (λ (h : 0 < p + unpaid later). rw (ne_eqb (p + unpaid later + 0) 0 (omega arith)) (div-eq_of_eq-mul_right (omega arith) (omega arith)))
    (eq-zero-or-pos (p + unpaid later))

-- no age has more unpaid than a whole, 200,000,000, nor a factor above 10,000,000,000: over m ages the sums are at most m times as much
pub weight_small : (m : ℕ) (later : List ℕ) → unpaid later ≤ 200000000 → weight m later ≤ m * 200000000
weight_small zero later u = omega arith
weight_small (suc m) [] u = omega arith
weight_small (suc m) (p ∷ later) u = omega (arith, weight_small m later (omega arith))

module _ (H D : ℕ) (large : 10000 ≤ D) (small : H ≤ 10000000000) where
  pub product_small : (later : List ℕ) → unpaid later ≤ 200000000 → product H D later ≤ 2000000000000000000
  product_small later u =
      let f : factor H D later ≤ 10000000000 = omega (arith, factor_at_most H D large later) in
      omega (arith, mul-le-mul u f)

  pub weighted_small : (m : ℕ) (later : List ℕ) → unpaid later ≤ 200000000 → weighted H D m later ≤ m * 2000000000000000000
  unfolding weighted
  weighted_small zero later u = omega arith
  weighted_small (suc m) [] u = omega arith
  weighted_small (suc m) (p ∷ later) u = omega (arith, product_small (p ∷ later) u, weighted_small m later (omega arith))

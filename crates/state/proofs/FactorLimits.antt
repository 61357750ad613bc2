-- Kept factors and composites are at most 1, so that the view reads them as they are.
-- Assumes nothing.
use Rattle.std.specs.Prelude.{if◌then◌else◌}
use mathlib.Core.Bool.{Bool, true, false}
use mathlib.Core.List.{List, [], ◌∷◌, map}
use mathlib.Core.Logic.{⊎_elim}
use mathlib.Core.Path.{◌≡◌, refl}
use Prim.Native.Nat.{ℕ, zero, suc, ◌+◌, ◌*◌, ◌≤◌, ◌<◌}
use native.Mathlib.Omega.{arith}
use native.Mathlib.Nat.{eq-zero-or-pos, div-le_of_le-mul, mul-le-mul_left}
use borrow.Author.Tests.{eq-eqb, ne_eqb}
use lib.ListN.{take, drop}
use Rattle.model.specs.Letter.{ages, ten_year}
use Rattle.model.specs.HalfYear.{half_year}
use Rattle.model.specs.Pattern.{unpaid}
use Rattle.model.specs.Factor.{factor, factors, kept_factors}
use Rattle.model.specs.Composite.{weight, weighted, mean, composite}
use Rattle.model.proofs.FactorBounds.{factor_at_most}
use Rattle.model.proofs.HalfYear.{half_year_small}
use Rattle.state.specs.Patterns.{factor_in}

module _ (H D : ℕ) (d : 10000 ≤ D) where
  -- a mean is at most the half-year factor
  weighted_at_most : (m : ℕ) (later : List ℕ) → weighted H D m later ≤ weight m later * H
  unfolding weighted
  weighted_at_most zero later = omega arith
  weighted_at_most (suc m) [] = omega arith
  weighted_at_most (suc m) (p ∷ later) = omega (arith, mul-le-mul_left (unpaid (p ∷ later)) (factor_at_most H D d (p ∷ later)), weighted_at_most m later)

  mean_at_most : (m : ℕ) (later : List ℕ) → mean H D m later ≤ H
  unfolding mean
  mean_at_most m later =
      ⊎_elim
      (λ (z : weight m later ≡ 0). rw (eq-eqb (weight m later) 0 z) (omega arith))
      (λ (h : 0 < weight m later). rw (ne_eqb (weight m later) 0 (omega arith)) (div-le_of_le-mul (weight m later) {m = weighted H D m later} {n = H} (weighted_at_most m later)))
      (eq-zero-or-pos (weight m later))

  module _ (h : H ≤ 10000000000) where
    factor_limited : (later : List ℕ) → factor_in (factor H D later) ≡ factor H D later
    factor_limited later = omega (arith, factor_at_most H D d later)

    first_limited : (n : ℕ) (pay : List ℕ) → map factor_in (take n (factors H D pay)) ≡ take n (factors H D pay)
    unfolding factors
    first_limited zero pay = refl
    first_limited (suc n) [] = refl
    first_limited (suc n) (p ∷ later) = rw (factor_limited later, first_limited n later)

    either_limited : (t : Bool) (late later : List ℕ) → factor_in (if t then mean H D 5 late else factor H D later) ≡ (if t then mean H D 5 late else factor H D later)
    either_limited true late later = omega (arith, mean_at_most 5 late)
    either_limited false late later = factor_limited later

pub factors_limited : (letter rate : ℕ) (pay : List ℕ) → map factor_in (kept_factors letter rate pay) ≡ kept_factors letter rate pay
unfolding kept_factors
factors_limited letter rate pay = first_limited (half_year rate) (10000 + rate) (omega arith) (half_year_small rate) (ages letter) pay

pub composite_limited : (letter rate : ℕ) (pay : List ℕ) → factor_in (composite letter rate pay) ≡ composite letter rate pay
unfolding composite
composite_limited letter rate pay = either_limited (half_year rate) (10000 + rate) (omega arith) (half_year_small rate) (ten_year letter) (drop 11 pay) (drop 3 pay)

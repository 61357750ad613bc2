-- The loop over the composite's ages, from the last one back.
-- Assumes nothing.
use mathlib.Core.Path.{◌≡◌, refl, ap, ◌∙◌, sym}
use mathlib.Core.Bool.{true}
use mathlib.Core.List.{List, [], ◌∷◌}
use Prim.Native.Nat.{ℕ, suc, ◌+◌, ◌-◌, ◌*◌, ◌/◌, ◌≤◌}
use native.Mathlib.Omega.{arith}
use native.Mathlib.Nat.{mul-le-mul}
use borrow.Author.Tests.{eq-eqb, ne_eqb, leb-true}
use lib.ListN.{length, drop, get_or, drop_of_length-le}
use Rattle.model.specs.Pattern.{unpaid}
use Rattle.model.specs.Factor.{factor}
use Rattle.model.specs.Composite.{weight, weighted, mean}
use Rattle.model.proofs.Lists.{drop_next, sum_drop}
use Rattle.model.proofs.FactorBounds.{factor_at_most}
use Rattle.model.proofs.Ages.{at_age}
use Rattle.kinds.specs.Factor.{is_factor}
use Rattle.factor.specs.Composite.{Averaged}

-- the ages from place `at` on are added up
pub record Averaging (pay : List ℕ) (half rate left total products at : ℕ) : Type 0 where
  pub low : 11 ≤ at
  pub high : at ≤ 16
  pub left_is : left ≡ unpaid (drop at pay)
  pub total_is : total ≡ weight (16 - at) (drop at pay)
  pub products_are : products ≡ weighted half (10000 + rate) (16 - at) (drop at pay)
  pub total_small : total ≤ (16 - at) * 200000000
  pub products_small : products ≤ (16 - at) * 2000000000000000000
  pub small_half : half ≤ 10000000000

pub start : (pay : List ℕ) (half rate : ℕ) → length pay ≡ 16 → is_factor half ≡ true → Averaging pay half rate 0 0 0 16
unfolding weighted
start pay half rate n h =
    let e : drop 16 pay ≡ [] = drop_of_length-le pay {i = 16} (omega arith) in
    record { low = omega arith; high = omega arith; left_is = rw e; total_is = refl; products_are = refl; total_small = omega arith; products_small = omega arith; small_half = leb-true half 10000000000 h }

-- one age further back, at place k
module _ (pay fs : List ℕ) (half rate : ℕ) (g : Averaged pay fs half rate) (left total products at k : ℕ) (a : Averaging pay half rate left total products at) (e : at ≡ k + 1) (lt : 11 ≤ k) where
  abbrev payment : ℕ
  payment = get_or pay k 0

  abbrev age_factor : ℕ
  age_factor = get_or fs (k - 1) 0

  split : drop k pay ≡ payment ∷ drop at pay
  split = rw e (drop_next pay k 0 (omega (arith, a.high, g.count)))

  pub left_small : left + payment ≤ 200000000
  left_small = omega (arith, a.left_is, ap unpaid split, sum_drop k pay, g.whole)

  factor_is : age_factor ≡ factor half (10000 + rate) (drop k pay)
  factor_is =
      let s : suc (k - 1) ≡ k = omega arith in
      ap (λ (l : List ℕ). get_or l (k - 1) 0) g.are ∙ at_age half (10000 + rate) pay (k - 1) (omega (arith, a.high, g.count)) ∙ ap (λ (j : ℕ). factor half (10000 + rate) (drop j pay)) s

  pub product_small : (left + payment) * age_factor ≤ 2000000000000000000
  product_small =
      let b : age_factor ≤ 10000000000 = omega (arith, factor_is, factor_at_most half (10000 + rate) (omega arith) (drop k pay), a.small_half) in
      omega (arith, mul-le-mul left_small b)

  count : 16 - k ≡ suc (16 - at)
  count = omega (arith, a.high)

  left_next : left + payment ≡ unpaid (drop k pay)
  left_next = omega (arith, a.left_is, ap unpaid split)

  total_next : total + (left + payment) ≡ weight (16 - k) (drop k pay)
  total_next = rw (count, split) (omega (arith, a.total_is, a.left_is))

  products_next : products + (left + payment) * age_factor ≡ weighted half (10000 + rate) (16 - k) (drop k pay)
  unfolding weighted
  products_next =
      let f : age_factor ≡ factor half (10000 + rate) (payment ∷ drop at pay) = rw split at factor_is in
      let u : left + payment ≡ payment + unpaid (drop at pay) = omega (arith, a.left_is) in
      rw (count, split) (omega (arith, a.products_are, ap (λ (x : ℕ). x * age_factor) u, ap (λ (x : ℕ). (payment + unpaid (drop at pay)) * x) f))

  pub on : Averaging pay half rate (left + payment) (total + (left + payment)) (products + (left + payment) * age_factor) k
  on =
      record {
        low = lt;
        high = omega (arith, a.high);
        left_is = left_next;
        total_is = total_next;
        products_are = products_next;
        total_small = omega (arith, a.total_small, a.high, left_small);
        products_small = omega (arith, a.products_small, a.high, product_small);
        small_half = a.small_half;
      }

-- the mean, once age 11 is reached
at_end_lem : (pay : List ℕ) (half rate left total products at : ℕ) → Averaging pay half rate left total products at → at ≤ 11 → Averaging pay half rate left total products 11
at_end_lem pay half rate left total products at a le = let e : at ≡ 11 = omega (arith, a.low) in rw e at a

pub end_none : (pay : List ℕ) (half rate left total products at : ℕ) → Averaging pay half rate left total products at → at ≤ 11 → total ≡ 0 → half ≡ mean half (10000 + rate) 5 (drop 11 pay)
unfolding mean
end_none pay half rate left total products at a le z =
    let b = at_end_lem pay half rate left total products at a le in
    rw (eq-eqb (weight 5 (drop 11 pay)) 0 (omega (arith, b.total_is)))

pub end_some : (pay : List ℕ) (half rate left total products at : ℕ) → Averaging pay half rate left total products at → at ≤ 11 → (total ≡ 0 → ⊥) → products / total ≡ mean half (10000 + rate) 5 (drop 11 pay)
unfolding mean
end_some pay half rate left total products at a le n =
    let b = at_end_lem pay half rate left total products at a le in
    let w : weight 5 (drop 11 pay) ≡ total = omega (arith, b.total_is) in
    rw (ne_eqb (weight 5 (drop 11 pay)) 0 (λ z. n (sym w ∙ z)), b.total_is, b.products_are)

-- The steps from the payments at all ages to the kept pattern.
-- Assumes nothing.
use mathlib.Core.Path.{◌≡◌, refl, ap, ◌∙◌, sym}
use borrow.Author.Tests.{le-leb}
use mathlib.Core.Bool.{Bool, true, false}
use mathlib.Core.List.{List, [], ◌++◌, append-nil}
use Rattle.std.specs.Prelude.{if◌then◌else◌, Some}
use Rattle.kinds.specs.Factor.{is_factor}
use Rattle.kinds.specs.Within.{within}
use Rattle.kinds.proofs.Taken.{taken, allowed}
use Prim.Native.Nat.{ℕ, ◌+◌, ◌-◌, ◌≤◌}
use native.Mathlib.Omega.{arith}
use lib.ListN.{length, take, drop, get_or, replicate, take-append-drop, get_or-append}
use lib.Seq.{take_all, take-append-le, length-take-le}
use Rattle.model.specs.Basics.{sum}
use Rattle.model.specs.Letter.{ten_year, ages}
use Rattle.model.specs.HalfYear.{half_year}
use Rattle.model.specs.Pattern.{unpaid}
use Rattle.model.specs.Factor.{factor, factors, kept_factors}
use Rattle.model.specs.Composite.{mean, composite}
use Rattle.model.proofs.Lists.{sum_append}
use Rattle.model.proofs.HalfYear.{half_year_small}
use Rattle.model.proofs.Ages.{at_age, length_factors}
use Rattle.payments.specs.Schedule.{all_ages}
use Rattle.factor.specs.Composite.{Averaged, Composed}
use Rattle.factor.specs.Walk.{Walkable, Walked}
use Rattle.factor.specs.Pattern.{kept_of}

-- the half-year factor is a kept factor
pub half_is_factor : (rate : ℕ) → within is_factor (half_year rate) ≡ Some (half_year rate)
half_is_factor rate = allowed is_factor (half_year rate) (le-leb (half_year rate) 10000000000 (half_year_small rate))

pub half_is : (rate half : ℕ) → within is_factor (half_year rate) ≡ Some half → half ≡ half_year rate
half_is rate half e = (taken is_factor (half_year rate) half e).1

-- a line has at most sixteen ages
pub count_small : (letter : ℕ) → all_ages letter ≤ 16
count_small letter = by (ten_year letter)
  where
    by : (t : Bool) → (if t then 16 else 4) ≤ 16
    by true = omega arith
    by false = omega arith

pub part_small : (n : ℕ) (pay : List ℕ) → unpaid (take n pay) ≤ unpaid pay
part_small n pay = omega (arith, sum_append (take n pay) (drop n pay), ap sum (take-append-drop n pay))

-- what the walk and the mean are given
pub walkable : (letter : ℕ) (pay : List ℕ) → length pay ≡ 16 → unpaid pay ≤ 200000000
    → Walkable (take (all_ages letter) pay) 0 (take (all_ages letter) (replicate 16 0))
walkable letter pay n part =
    let s = count_small letter in
    record {
      inside = omega arith;
      same = length-take-le (all_ages letter) (replicate 16 0) (omega arith) ∙ sym (length-take-le (all_ages letter) pay (omega arith));
      part = omega (arith, part_small (all_ages letter) pay);
    }

-- the places after a line's ages are zeros
pub zeros_after : (letter : ℕ) → drop {A = ℕ} (all_ages letter) (replicate 16 0) ≡ replicate (16 - all_ages letter) 0
zeros_after letter = by (ten_year letter)
  where
    by : (t : Bool) → drop {A = ℕ} (if t then 16 else 4) (replicate 16 0) ≡ replicate (16 - (if t then 16 else 4)) 0
    by true = refl
    by false = refl

-- the composite is given the walk's factors, in their places
pub composed : (letter half rate : ℕ) (pay out fs all : List ℕ) (u f : ℕ) → length pay ≡ 16 → unpaid pay ≤ 200000000 → Walked (take (all_ages letter) pay) 0 half rate out fs u f
    → all ≡ fs ++ drop {A = ℕ} (all_ages letter) (replicate 16 0) → Composed letter pay all half rate
composed letter half rate pay out fs all u f n part w e = record { count = n; whole = part; are = rw (← zeros_after letter) (e ∙ ap (λ (x : List ℕ). x ++ drop {A = ℕ} (all_ages letter) (replicate 16 0)) w.all) }

-- of a ten-year line, the mean is given all of them
pub averaged : (letter half rate : ℕ) (pay fs : List ℕ) → ten_year letter ≡ true → Composed letter pay fs half rate → Averaged pay fs half rate
averaged letter half rate pay fs t g =
    let all : fs ≡ factors half (10000 + rate) (take 16 pay) ++ [] = rw t at g.are in
    record { count = g.count; whole = g.whole; are = all ∙ append-nil (factors half (10000 + rate) (take 16 pay)) ∙ ap (factors half (10000 + rate)) (take_all 16 pay (omega (arith, g.count))) }

-- and of a two-year line, the composite is the factor of age 3
pub age_three : (letter half rate : ℕ) (pay fs : List ℕ) → ten_year letter ≡ false → Composed letter pay fs half rate → get_or fs 2 0 ≡ factor half (10000 + rate) (drop 3 (take 4 pay))
age_three letter half rate pay fs t g =
    let D : ℕ = 10000 + rate in
    let ages : List ℕ = take 4 pay in
    let n : length ages ≡ 4 = length-take-le 4 pay (omega (arith, g.count)) in
    let all : fs ≡ factors half D ages ++ replicate 12 0 = rw t at g.are in
    rw (all, get_or-append (factors half D ages) (replicate 12 0) 0 2 (omega (arith, length_factors half D ages, n))) (at_age half D ages 2 (omega (arith, n)))

-- what is kept of the walk's factors
module _ (letter rate half : ℕ) (pay out fs all first : List ℕ) (u f mixed : ℕ) (eh : half ≡ half_year rate) (n : length pay ≡ 16) (w : Walked (take (all_ages letter) pay) 0 half rate out fs u f) (ea : all ≡ fs ++ drop {A = ℕ} (all_ages letter) (replicate 16 0))
    (ef : first ≡ take (ages letter) all ++ replicate (10 - ages letter) 0) (em : mixed ≡ (if ten_year letter then mean half (10000 + rate) 5 (drop 11 pay) else factor half (10000 + rate) (drop 3 (take 4 pay)))) where
  by_kind : (t : Bool) → ten_year letter ≡ t → record { factors = first; composite = mixed } ≡ kept_of letter rate (take (all_ages letter) pay)
  unfolding kept_factors composite ages
  by_kind true t =
      let p : take 16 pay ≡ pay = take_all 16 pay (omega arith) in
      let in_places : all ≡ fs ++ [] = rw t at ea in
      let firsts : first ≡ take 10 all ++ replicate 0 0 = rw t at ef in
      let mean_is : mixed ≡ mean half (10000 + rate) 5 (drop 11 pay) = rw t at em in
      let walked : fs ≡ factors half (10000 + rate) (take 16 pay) = rw t at w.all in
      rw (t, firsts, in_places, append-nil fs, walked, p, mean_is, eh)
  by_kind false t =
      let in_places : all ≡ fs ++ replicate 12 0 = rw t at ea in
      let firsts : first ≡ take 2 all ++ replicate 8 0 = rw t at ef in
      let age_three_is : mixed ≡ factor half (10000 + rate) (drop 3 (take 4 pay)) = rw t at em in
      let walked : fs ≡ factors half (10000 + rate) (take 4 pay) = rw t at w.all in
      let l : length fs ≡ 4 = ap length walked ∙ length_factors half (10000 + rate) (take 4 pay) ∙ length-take-le 4 pay (omega arith) in
      let k : take 2 all ≡ take 2 fs = rw in_places (take-append-le 2 fs (replicate 12 0) (omega arith)) in
      rw (t, firsts, k, walked, age_three_is, eh)

  pub kept : record { factors = first; composite = mixed } ≡ kept_of letter rate (take (all_ages letter) pay)
  kept = by_kind (ten_year letter) refl

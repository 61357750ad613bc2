-- How many payments a pattern has, and that its factors are near, age by age.
-- Assumes nothing.
use Rattle.std.specs.Prelude.{if◌then◌else◌}
use mathlib.Core.Path.{◌≡◌, refl, ap, ◌∙◌}
use mathlib.Core.Bool.{Bool, true, false}
use mathlib.Core.List.{List, [], ◌∷◌, map}
use Prim.Native.Nat.{ℕ, zero, suc, ◌+◌, ◌-◌, ◌≤◌, ◌<◌}
use native.Mathlib.Omega.{arith, by_contra}
use native.Mathlib.Nat.{not-suc-le-zero}
use lib.ListN.{length, drop, get_or, length-append, length-take, length-drop, length-map, drop_of_length-le}
use lib.Seq.{get_or-take}
use Rattle.model.specs.Basics.{last_or}
use Rattle.model.specs.Letter.{ages, ten_year}
use Rattle.model.specs.HalfYear.{half_year}
use Rattle.model.specs.Pattern.{Age, ages_of, cumulative, payments, whole}
use Rattle.model.specs.Tail.{ten_year_tail, two_year_tail, payment_at, schedule}
use Rattle.model.specs.Factor.{factor, factors, kept_factors}
use Rattle.model.specs.Near.{FactorNear}
use Rattle.model.specs.Demand.{unpaid_at, exact_at}
use Rattle.model.proofs.Near.{factor_near}

-- the factor of the age at place k is that of the payments after it
pub at_age : (H D : ℕ) (pay : List ℕ) (k : ℕ) → k < length pay → get_or (factors H D pay) k 0 ≡ factor H D (drop (suc k) pay)
unfolding factors
at_age H D [] k h = absurd (not-suc-le-zero h)
at_age H D (p ∷ later) zero h = refl
at_age H D (p ∷ later) (suc k) h = at_age H D later k (omega arith)

pub length_factors : (H D : ℕ) (pay : List ℕ) → length (factors H D pay) ≡ length pay
unfolding factors
length_factors H D [] = refl
length_factors H D (p ∷ later) = ap suc (length_factors H D later)

pub length_payments : (before : ℕ) (cumulatives : List ℕ) → length (payments before cumulatives) ≡ length cumulatives
length_payments before [] = refl
length_payments before (c ∷ cumulatives) = ap suc (length_payments c cumulatives)

pub length_ages_of : (n : ℕ) (paid incurred : List ℕ) → length paid ≡ n → length incurred ≡ n → length (ages_of paid incurred) ≡ n
length_ages_of n [] incurred e f = e
length_ages_of n (p ∷ paid) [] e f = absurd (omega arith)
length_ages_of zero (p ∷ paid) (i ∷ incurred) e f = absurd (omega arith)
length_ages_of (suc n) (p ∷ paid) (i ∷ incurred) e f = ap suc (length_ages_of n paid incurred (omega arith) (omega arith))

pub ages_positive : (letter : ℕ) → 0 < ages letter
unfolding ages
ages_positive letter = by_kind (ten_year letter)
  where
    by_kind : (t : Bool) → 0 < (if t then 10 else 2)
    by_kind true = omega arith
    by_kind false = omega arith

pub ages_small : (letter : ℕ) → ages letter ≤ 10
unfolding ages
ages_small letter = by_kind (ten_year letter)
  where
    by_kind : (t : Bool) → (if t then 10 else 2) ≤ 10
    by_kind true = omega arith
    by_kind false = omega arith

-- a pattern's payments: those of its ages and of its tail, 16 at most
pub record Sized (letter : ℕ) (pay : List ℕ) : Type 0 where
  pub long : ages letter ≤ length pay
  pub short : length pay ≤ 16

pub schedule_sized : (letter : ℕ) (given : List Age) → length given ≡ ages letter → Sized letter (schedule letter given)
unfolding schedule ages
schedule_sized letter given e =
    let cumulatives : List ℕ = map cumulative given in
    let paid : List ℕ = payments 0 cumulatives in
    let n : length paid ≡ length given = length_payments 0 cumulatives ∙ length-map given cumulative in
    record { long = rw length-append (omega arith); short = rw length-append (by_kind (ten_year letter) (length paid) (payment_at 8 paid) (payment_at 9 paid) (payment_at 10 paid) (whole - last_or 0 cumulatives) (n ∙ e)) }
  where
    by_kind : (t : Bool) (n eighth ninth tenth left : ℕ) → n ≡ (if t then 10 else 2) → n + length (if t then ten_year_tail eighth ninth tenth left else two_year_tail left) ≤ 16
    by_kind true n eighth ninth tenth left e = omega arith
    by_kind false n eighth ninth tenth left e = omega arith

-- an age with something unpaid is one of the pattern's
is_age : (pay : List ℕ) (k : ℕ) → 0 < unpaid_at k pay → k < length pay
is_age pay k u =
    by_contra (suc k) (length pay)
    (λ (l : length pay < suc k). let z : unpaid_at k pay ≡ 0 = rw (drop_of_length-le pay {i = suc k} (omega arith)) in omega arith)

pub worked_near : (R : ℕ) (pay : List ℕ) → length pay ≤ 16 → (k : ℕ) → 0 < unpaid_at k pay → FactorNear R (exact_at R k pay) (get_or (factors (half_year R) (10000 + R) pay) k 0)
worked_near R pay n k u =
    rw (at_age (half_year R) (10000 + R) pay k (is_age pay k u)) (factor_near R (drop (suc k) pay) (omega (arith, length-drop (suc k) pay)) u)

pub kept_count : (letter R : ℕ) (pay : List ℕ) → Sized letter pay → length (kept_factors letter R pay) ≡ ages letter
unfolding kept_factors
kept_count letter R pay s = simp (length-take, length_factors) (omega arith)

pub kept_near : (letter R : ℕ) (pay : List ℕ) → Sized letter pay → (k : ℕ) → k < ages letter → 0 < unpaid_at k pay → FactorNear R (exact_at R k pay) (get_or (kept_factors letter R pay) k 0)
unfolding kept_factors
kept_near letter R pay s k h u = rw (get_or-take (ages letter) (factors (half_year R) (10000 + R) pay) k 0 h) (worked_near R pay s.short k u)

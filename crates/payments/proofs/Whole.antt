-- For callers: the schedule that is answered is document 01's of the lists, in its places, and its payments are a whole together.
-- Assumes nothing.
use Rattle.std.specs.Prelude.{Ok, if◌then◌else◌}
use mathlib.Core.Path.{◌≡◌, refl, ◌∙◌}
use mathlib.Core.Bool.{Bool, true, false, ◌&&◌}
use mathlib.Core.List.{List, [], ◌∷◌, map}
use Prim.Native.Nat.{ℕ, zero, suc, ◌+◌, ◌-◌}
use native.Mathlib.Omega.{arith}
use borrow.Author.Tests.{eqb-true}
use lib.Dec.{eqb}
use lib.ListN.{length, take, replicate, length-append, length-map}
use lib.Seq.{take_at}
use Rattle.model.specs.Basics.{last_or, sum}
use Rattle.std.specs.List.{list_all}
use Rattle.model.specs.Kind.{is_amount}
use Rattle.model.specs.Letter.{covered, ten_year, ages}
use Rattle.model.specs.Pattern.{Age, ages_of, cumulative, payments, whole}
use Rattle.model.specs.Tail.{ten_year_tail, two_year_tail, payment_at, schedule}
use Rattle.model.specs.Call.{add_pattern}
use Rattle.model.specs.Question.{has_lengths, has_incurred, climbs, first_no}
use Rattle.model.proofs.Lists.{and_left, and_right, sum_append}
use Rattle.model.proofs.Ages.{length_ages_of, length_payments}
use Rattle.model.proofs.Unpaid.{payments_are_whole}
use Rattle.refusal.specs.Unless.{unless}
use Rattle.payments.specs.Schedule.{schedule_of, all_ages, placed}

-- a schedule has a payment for each of its ages
length_schedule : (letter : ℕ) (given : List Age) → length given ≡ ages letter → length (schedule letter given) ≡ all_ages letter
unfolding schedule ages
length_schedule letter given e =
    let cumulatives : List ℕ = map cumulative given in
    let paid : List ℕ = payments 0 cumulatives in
    rw length-append (by_kind (ten_year letter) _ (payment_at 8 paid) (payment_at 9 paid) (payment_at 10 paid) (whole - last_or 0 cumulatives) (length_payments 0 cumulatives ∙ length-map given cumulative ∙ e))
  where
    by_kind : (t : Bool) (n eighth ninth tenth left : ℕ) → n ≡ (if t then 10 else 2) → n + length (if t then ten_year_tail eighth ninth tenth left else two_year_tail left) ≡ (if t then 16 else 4)
    by_kind true n eighth ninth tenth left e = omega arith
    by_kind false n eighth ninth tenth left e = omega arith

sum_zeros : (n : ℕ) → sum (replicate n 0) ≡ 0
sum_zeros zero = refl
sum_zeros (suc n) = omega (arith, sum_zeros n)

-- what is answered has passed every question
record Passed (l a b c d : Bool) : Type 0 where
  letter : l ≡ true
  lengths : a ≡ true
  limits : b ≡ true
  incurred : c ≡ true
  climbing : d ≡ true

fine_passes : {A : Type 0} (l a b c d : Bool) (x y : A) → unless (first_no ((3, l) ∷ (4, a) ∷ (6, b) ∷ (11, c) ∷ (12, d) ∷ [])) x ≡ Ok y → Passed l a b c d × (x ≡ y)
fine_passes true true true true true x y e = (record { letter = refl; lengths = refl; limits = refl; incurred = refl; climbing = refl }, cc e)
fine_passes true true true true false x y e = let z : ◌≡◌ {A = ℕ} 0 1 = cc in absurd (omega arith)
fine_passes true true true false d x y e = let z : ◌≡◌ {A = ℕ} 0 1 = cc in absurd (omega arith)
fine_passes true true false c d x y e = let z : ◌≡◌ {A = ℕ} 0 1 = cc in absurd (omega arith)
fine_passes true false b c d x y e = let z : ◌≡◌ {A = ℕ} 0 1 = cc in absurd (omega arith)
fine_passes false a b c d x y e = let z : ◌≡◌ {A = ℕ} 0 1 = cc in absurd (omega arith)

module _ (letter : ℕ) (paid incurred pay : List ℕ) (fine : schedule_of letter paid incurred ≡ Ok pay) where
  abbrev given : List Age
  given = ages_of paid incurred

  all_passed : Passed (covered letter) (has_lengths (add_pattern letter 0 paid incurred)) (list_all is_amount paid && list_all is_amount incurred) (has_incurred (add_pattern letter 0 paid incurred)) (climbs (add_pattern letter 0 paid incurred))
      × (placed letter paid incurred ≡ pay)
  all_passed =
      fine_passes (covered letter) (has_lengths (add_pattern letter 0 paid incurred)) (list_all is_amount paid && list_all is_amount incurred) (has_incurred (add_pattern letter 0 paid incurred)) (climbs (add_pattern letter 0 paid incurred)) (placed letter paid incurred) pay fine

  pub fine_lengths : has_lengths (add_pattern letter 0 paid incurred) ≡ true
  fine_lengths = all_passed.0.lengths

  -- its first places are the payments at all ages
  pub fine_pays : take (all_ages letter) pay ≡ schedule letter given
  fine_pays =
      let n : Bool = eqb (length paid) (ages letter) in
      let m : Bool = eqb (length incurred) (ages letter) in
      let l = length_ages_of (ages letter) paid incurred (eqb-true _ _ (and_left n m fine_lengths)) (eqb-true _ _ (and_right n m fine_lengths)) in
      rw (← all_passed.1) (take_at (schedule letter given) (replicate (16 - all_ages letter) 0) (all_ages letter) (length_schedule letter given l))

  -- "so a whole is 200,000,000"
  pub fine_is_whole : sum pay ≡ whole
  fine_is_whole =
      rw (← all_passed.1)
      (omega (arith, sum_append (schedule letter given) (replicate (16 - all_ages letter) 0), sum_zeros (16 - all_ages letter), payments_are_whole letter given all_passed.0.incurred all_passed.0.climbing))

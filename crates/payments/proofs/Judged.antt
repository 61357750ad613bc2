-- The questions that a pattern's lists are asked, in order, and the schedule that is left.
-- Assumes nothing.
use Rattle.std.specs.Prelude.{Result, Ok, Err, None, if◌then◌else◌}
use mathlib.Core.Path.{◌≡◌, sym, ◌∙◌}
use mathlib.Core.Bool.{Bool, true, false}
use mathlib.Core.List.{List, ◌++◌, map, append-nil}
use Prim.Native.Nat.{ℕ, ◌-◌, ◌*◌, ◌≤◌}
use native.Mathlib.Omega.{arith}
use borrow.Author.Tests.{eq-eqb, ne_eqb}
use lib.ListN.{length, take, replicate}
use lib.Seq.{get_or-take}
use Rattle.model.specs.Basics.{last_or, sum}
use Rattle.std.specs.List.{list_all}
use Rattle.model.specs.Kind.{is_amount}
use Rattle.model.specs.Letter.{covered, ten_year, ages}
use Rattle.model.specs.Pattern.{ages_of, cumulative, payments}
use Rattle.model.specs.Tail.{ten_year_tail, two_year_tail, payment_at, schedule}
use Rattle.model.specs.Question.{is_incurred}
use Rattle.model.proofs.Ages.{ages_small}
use Rattle.model.proofs.Unpaid.{payments_from_lem}
use Rattle.refusal.specs.declared.Refusal.{Refusal}
use Rattle.refusal.specs.Number.{refusal_of}
use Rattle.refusal.specs.declared.Refusal.TheVariants.{UncoveredLetter, WrongCount, OutsideLimits, IncurredTooSmall, RatioFalls}
use Rattle.payments.specs.Payment.{Paired, Payable}
use Rattle.payments.specs.PaidByAge.{Paid, PaidByAge}
use Rattle.payments.specs.Schedule.{judged_of, listed_of, schedule_of, Listed, in_places, tailed}

-- what the loop over the ages is given
paired : (letter : ℕ) (paid incurred : List ℕ) → Listed letter paid incurred → Paired paid incurred
paired letter paid incurred g = record { same = omega (arith, g.paid_length, g.incurred_length); few = omega (arith, g.paid_length, ages_small letter) }

pub payable : (letter : ℕ) (paid incurred : List ℕ) → Listed letter paid incurred → list_all is_incurred (ages_of paid incurred) ≡ true → Payable paid incurred
payable letter paid incurred g q = record { pairs = paired letter paid incurred g; amounts = g.incurred_amounts; sound = q }

-- the payments of the ages and their tail are document 01's schedule
module _ (letter : ℕ) (paid incurred pay : List ℕ) (last : ℕ) (g : Listed letter paid incurred) (s : Paid paid incurred pay last) where
  abbrev cumulatives : List ℕ
  cumulatives = map cumulative (ages_of paid incurred)

  abbrev given : List ℕ
  given = payments 0 cumulatives

  by_kind : (ten : Bool) → length paid ≡ (if ten then 10 else 2)
      → (if ten then take 10 pay ++ ten_year_tail (payment_at 8 pay) (payment_at 9 pay) (payment_at 10 pay) (200000000 - 2 * last) else (take 2 pay ++ two_year_tail (200000000 - 2 * last)))
      ≡ given ++ (if ten then ten_year_tail (payment_at 8 given) (payment_at 9 given) (payment_at 10 given) (200000000 - last_or 0 cumulatives) else two_year_tail (200000000 - last_or 0 cumulatives))
  by_kind true e =
      let p : take 10 pay ≡ given = rw e at s.by_age in
      rw (← s.in_all, ← p, get_or-take 10 pay 7 0 (omega arith), get_or-take 10 pay 8 0 (omega arith), get_or-take 10 pay 9 0 (omega arith))
  by_kind false e =
      let p : take 2 pay ≡ given = rw e at s.by_age in
      rw (← s.in_all, ← p)

  -- the payments at the given ages are at most a whole
  pub given_small : sum (take (ages letter) pay) ≤ 200000000
  given_small =
      let p : take (ages letter) pay ≡ given = rw g.paid_length at s.by_age in
      rw p (omega (arith, payments_from_lem 0 (ages_of paid incurred) s.climbs, s.in_all, s.small))

  pub schedule_is : tailed letter pay (200000000 - 2 * last) ≡ schedule letter (ages_of paid incurred)
  unfolding schedule ages
  schedule_is = by_kind (ten_year letter) g.paid_length

-- a ten-year line has ten ages
pub ten_small : (letter : ℕ) (pay : List ℕ) (t : Bool) → t ≡ ten_year letter → t ≡ true → sum (take (ages letter) pay) ≤ 200000000 → sum (take 10 pay) ≤ 200000000
unfolding ages
ten_small letter pay t et e le = rw (sym et ∙ e) at le

-- the payments with their tail, in their places
pub ten_tailed : (letter : ℕ) (pay r : List ℕ) (u : ℕ) → ten_year letter ≡ true → r ≡ take 10 pay ++ ten_year_tail (payment_at 8 pay) (payment_at 9 pay) (payment_at 10 pay) u → r ≡ in_places letter (tailed letter pay u)
ten_tailed letter pay r u t e = rw t (e ∙ sym (append-nil (take 10 pay ++ ten_year_tail (payment_at 8 pay) (payment_at 9 pay) (payment_at 10 pay) u)))

pub two_tailed : (letter : ℕ) (pay r : List ℕ) (u : ℕ) → ten_year letter ≡ false → r ≡ take 2 pay ++ two_year_tail u ++ replicate 12 0 → r ≡ in_places letter (tailed letter pay u)
two_tailed letter pay r u t e = rw t e

-- the schedule, from questions 11 and 12 on
module _ (letter : ℕ) (paid incurred : List ℕ) where
  pub judged_fine : (pay all_pay : List ℕ) (last : ℕ) → Listed letter paid incurred → Paid paid incurred pay last → list_all is_incurred (ages_of paid incurred) ≡ true
      → all_pay ≡ in_places letter (tailed letter pay (200000000 - 2 * last)) → Ok all_pay ≡ judged_of letter paid incurred
  judged_fine pay all_pay last g s q11 e = rw (q11, s.climbs, e, schedule_is letter paid incurred pay last g s)

  pub judged_falls : PaidByAge paid incurred None → list_all is_incurred (ages_of paid incurred) ≡ true → Err RatioFalls ≡ judged_of letter paid incurred
  unfolding refusal_of
  judged_falls s q11 = rw (q11, s)

  pub judged_incurred : list_all is_incurred (ages_of paid incurred) ≡ false → Err IncurredTooSmall ≡ judged_of letter paid incurred
  unfolding refusal_of
  judged_incurred q11 = rw q11

  -- and questions 4 and 6
  pub length_paid : (length paid ≡ ages letter → ⊥) → Err WrongCount ≡ listed_of letter paid incurred
  unfolding refusal_of
  length_paid n = rw (ne_eqb (length paid) (ages letter) n)

  pub length_incurred : length paid ≡ ages letter → (length incurred ≡ ages letter → ⊥) → Err WrongCount ≡ listed_of letter paid incurred
  unfolding refusal_of
  length_incurred e n = rw (eq-eqb (length paid) (ages letter) e, ne_eqb (length incurred) (ages letter) n)

  pub limits_paid : length paid ≡ ages letter → length incurred ≡ ages letter → list_all is_amount paid ≡ false → Err OutsideLimits ≡ listed_of letter paid incurred
  unfolding refusal_of
  limits_paid e n a = rw (eq-eqb (length paid) (ages letter) e, eq-eqb (length incurred) (ages letter) n, a)

  pub limits_incurred : length paid ≡ ages letter → length incurred ≡ ages letter → list_all is_amount paid ≡ true → list_all is_amount incurred ≡ false → Err OutsideLimits ≡ listed_of letter paid incurred
  unfolding refusal_of
  limits_incurred e n a b = rw (eq-eqb (length paid) (ages letter) e, eq-eqb (length incurred) (ages letter) n, a, b)

  pub judged : (r : Result (List ℕ) Refusal) → length paid ≡ ages letter → length incurred ≡ ages letter → list_all is_amount paid ≡ true → list_all is_amount incurred ≡ true → r ≡ judged_of letter paid incurred → r ≡ listed_of letter paid incurred
  judged r e n a b k = rw (eq-eqb (length paid) (ages letter) e, eq-eqb (length incurred) (ages letter) n, a, b) k

  -- and question 3
  module _ (t : Bool) (et : t ≡ covered letter) where
    pub letter_covered : (r : Result (List ℕ) Refusal) → t ≡ true → r ≡ listed_of letter paid incurred → r ≡ schedule_of letter paid incurred
    letter_covered r e k = rw (← et, e) k

    pub letter_refused : t ≡ false → Err UncoveredLetter ≡ schedule_of letter paid incurred
    unfolding refusal_of
    letter_refused e = rw (← et, e)

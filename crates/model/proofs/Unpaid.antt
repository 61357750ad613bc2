-- The payments of a pattern are of a whole, and "The unpaid at an age is the whole less its cumulative."
-- Assumes nothing.
use Rattle.std.specs.Prelude.{if◌then◌else◌}
use mathlib.Core.Path.{◌≡◌, refl, ap}
use mathlib.Core.Bool.{Bool, true, false}
use mathlib.Core.List.{List, [], ◌∷◌, ◌++◌, map}
use Prim.Native.Nat.{ℕ, zero, suc, ◌+◌, ◌-◌, ◌*◌, ◌/◌, min, ◌≤◌, ◌<◌}
use native.Mathlib.Omega.{arith}
use native.Mathlib.Nat.{not-suc-le-zero, div-mul-le_self, lt_of_mul-lt-mul_right}
use borrow.Author.Tests.{leb-true, ltb-true}
use lib.Dec.{leb, ltb}
use lib.ListN.{length, take, drop, get_or, take-append-drop}
use Rattle.model.specs.Basics.{last_or, sum}
use Rattle.std.specs.List.{list_all}
use Rattle.model.specs.Letter.{ten_year}
use Rattle.model.specs.Pattern.{Age, cumulative_ratio, cumulative, payments, whole}
use Rattle.model.specs.Tail.{capped, tail_cap, ten_year_tail, two_year_tail, payment_at, schedule}
use Rattle.model.specs.Question.{is_incurred, climbs_from}
use Rattle.model.specs.Demand.{unpaid_at}
use Rattle.model.proofs.Lists.{and_left, and_right, sum_append}

-- a tail pays what is left
capped_all : (n cap left : ℕ) → sum (capped n cap left) ≡ left
capped_all zero cap left = omega arith
capped_all (suc n) cap left = omega (arith, capped_all n cap (left - min cap left))

tail_all : (t : Bool) (eighth ninth tenth k : ℕ) → sum (if t then ten_year_tail eighth ninth tenth (2 * k) else two_year_tail (2 * k)) ≡ 2 * k
tail_all true eighth ninth tenth k = capped_all 5 (tail_cap eighth ninth tenth) (2 * k)
tail_all false eighth ninth tenth k = omega arith

-- the payments of some ages and the cumulative before them add up to the last cumulative
pub payments_from_lem : (b : ℕ) (given : List Age) → climbs_from b (map cumulative_ratio given) ≡ true → sum (payments (2 * b) (map cumulative given)) + 2 * b ≡ last_or (2 * b) (map cumulative given)
payments_from_lem b [] q = omega arith
payments_from_lem b (a ∷ given) q =
    let rest : Bool = climbs_from (cumulative_ratio a) (map cumulative_ratio given) in
    let le : b ≤ cumulative_ratio a = leb-true _ _ (and_left (leb b (cumulative_ratio a)) rest q) in
    joined b (cumulative_ratio a) _ _ le (payments_from_lem (cumulative_ratio a) given (and_right (leb b (cumulative_ratio a)) rest q))
  where
    joined : (b c s l : ℕ) → b ≤ c → s + 2 * c ≡ l → 2 * c - 2 * b + s + 2 * b ≡ l
    joined b c s l le h = omega arith

-- what is paid after the age at place k, the tail t included, and the cumulative there
after_age : (b : ℕ) (given : List Age) (t : List ℕ) (k : ℕ) (d : Age) → k < length given → climbs_from b (map cumulative_ratio given) ≡ true
    → sum (drop (suc k) (payments (2 * b) (map cumulative given) ++ t)) + cumulative (get_or given k d) ≡ last_or (2 * b) (map cumulative given) + sum t
after_age b [] t k d lt q = absurd (not-suc-le-zero lt)
after_age b (a ∷ given) t zero d lt q =
    let rest : Bool = climbs_from (cumulative_ratio a) (map cumulative_ratio given) in
    omega (arith, sum_append (payments (cumulative a) (map cumulative given)) t, payments_from_lem (cumulative_ratio a) given (and_right (leb b (cumulative_ratio a)) rest q))
after_age b (a ∷ given) t (suc k) d lt q =
    let rest : Bool = climbs_from (cumulative_ratio a) (map cumulative_ratio given) in
    after_age (cumulative_ratio a) given t k d (omega arith) (and_right (leb b (cumulative_ratio a)) rest q)

-- a ratio is at most a whole
pub ratio_small : (a : Age) → is_incurred a ≡ true → cumulative_ratio a ≤ 100000000
unfolding cumulative_ratio
ratio_small a q =
    let i : 0 < a.incurred = ltb-true _ _ (and_left (ltb 0 a.incurred) (leb a.paid a.incurred) q) in
    let p : a.paid ≤ a.incurred = leb-true _ _ (and_right (ltb 0 a.incurred) (leb a.paid a.incurred) q) in
    let l : (2 * (a.paid * 100000000) + a.incurred) / (2 * a.incurred) * a.incurred < 100000001 * a.incurred
    = omega (arith, div-mul-le_self (2 * (a.paid * 100000000) + a.incurred) (2 * a.incurred)) in
    omega (arith, lt_of_mul-lt-mul_right a.incurred l)

-- the last cumulative is even, and at most a whole
record Half (n : ℕ) : Type 0 where
  half : ℕ
  is : n ≡ 2 * half
  small : half ≤ 100000000

last_half : (b : ℕ) (given : List Age) → b ≤ 100000000 → list_all is_incurred given ≡ true → Half (last_or (2 * b) (map cumulative given))
last_half b [] le q = record { half = b; is = refl; small = le }
last_half b (a ∷ given) le q =
    last_half (cumulative_ratio a) given (ratio_small a (and_left (is_incurred a) (list_all is_incurred given) q)) (and_right (is_incurred a) (list_all is_incurred given) q)

module _ (letter : ℕ) (given : List Age) (q11 : list_all is_incurred given ≡ true) (q12 : climbs_from 0 (map cumulative_ratio given) ≡ true) where
  abbrev cumulatives : List ℕ
  cumulatives = map cumulative given

  abbrev tail : List ℕ
  tail =
      let paid = payments 0 cumulatives in
      let left = whole - last_or 0 cumulatives in
      if ten_year letter then ten_year_tail (payment_at 8 paid) (payment_at 9 paid) (payment_at 10 paid) left else two_year_tail left

  tail_is : sum tail + last_or 0 cumulatives ≡ whole
  tail_is =
      let h = last_half 0 given (omega arith) q11 in
      let left : whole - last_or 0 cumulatives ≡ 2 * (100000000 - h.half) = omega arith in
      let paid : List ℕ = payments 0 cumulatives in
      omega (arith, rw (← left) at (tail_all (ten_year letter) (payment_at 8 paid) (payment_at 9 paid) (payment_at 10 paid) (100000000 - h.half)))

  -- the payments of a pattern are a whole together
  pub payments_are_whole : sum (schedule letter given) ≡ whole
  unfolding schedule
  payments_are_whole = omega (arith, sum_append (payments 0 cumulatives) tail, payments_from_lem 0 given q12, tail_is)

  -- the unpaid at a given age is the whole less its cumulative
  pub unpaid_is : (k : ℕ) (d : Age) → k < length given → unpaid_at k (schedule letter given) ≡ whole - cumulative (get_or given k d)
  unfolding schedule
  unpaid_is k d lt = omega (arith, after_age 0 given tail k d lt q12, tail_is)

  -- and at any age, the tail's too, the whole less all that is paid by then
  pub unpaid_is_rest : (k : ℕ) → unpaid_at k (schedule letter given) ≡ whole - sum (take (suc k) (schedule letter given))
  unpaid_is_rest k =
      omega (arith, payments_are_whole, sum_append (take (suc k) (schedule letter given)) (drop (suc k) (schedule letter given)), ap sum (take-append-drop (suc k) (schedule letter given)))

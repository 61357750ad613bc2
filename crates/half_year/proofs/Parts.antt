-- The square rule of a number in two parts: the products fit into 64 bits, and the comparisons decide the rule.
-- Assumes nothing.
use mathlib.Core.Path.{◌≡◌, sym}
use mathlib.Core.Bool.{Bool, true, false}
use Prim.Native.Nat.{ℕ, ◌+◌, ◌-◌, ◌*◌, ◌/◌, ◌%◌, ◌<◌, ◌≤◌}
use native.Mathlib.Nat.{mul-le-mul, mul-le-mul_right}
use native.Mathlib.Omega.{arith}
use borrow.Author.Tests.{leb-true, ltb-true, ltb-false, lt-ltb, le-ltb, le-leb, lt-leb}
use lib.Dec.{ltb}
use mir.Syntax.{w64}
use mir.Val.{Fits}
use Rattle.model.specs.HalfYear.{square_limit}
use Rattle.model.specs.Kind.{is_rate}
use Rattle.half_year.specs.SquareRule.{is_half_year}

-- the constants of the code: 2 to the 16th and to the 32nd, and 10 to the 24th in its two parts
abbrev part : ℕ
part = 65536

abbrev part_squared : ℕ
part_squared = part * part

abbrev limit_high : ℕ
limit_high = 232830643653869

abbrev limit_low : ℕ
limit_low = 2701131776

-- a number with one side of the rule only
too_large : (R h : ℕ) → square_limit < h * h * (10000 + R) → false ≡ is_half_year R h
too_large R h l = rw (lt-leb (h * h * (10000 + R)) square_limit l)

too_small : (R h : ℕ) → (h + 1) * (h + 1) * (10000 + R) ≤ square_limit → false ≡ is_half_year R h
too_small R h l =
    let fits : h * h * (10000 + R) ≤ square_limit = omega arith in
    rw (le-leb (h * h * (10000 + R)) square_limit fits, le-ltb square_limit ((h + 1) * (h + 1) * (10000 + R)) l)

pub above_one : (R h : ℕ) → 10000000000 < h → false ≡ is_half_year R h
above_one R h l =
    let d : 10000 ≤ 10000 + R = omega arith in
    too_large R h (omega (arith, mul-le-mul (mul-le-mul l l) d))

-- n is the number of the rate R, and h is asked
module _ (n R h : ℕ) (e : n ≡ R) (rate : is_rate n ≡ true) where
  abbrev D : ℕ
  D = 10000 + n

  abbrev high : ℕ
  high = h / part

  abbrev low : ℕ
  low = h % part

  abbrev high_product : ℕ
  high_product = high * high * D

  abbrev low_product : ℕ
  low_product = low * (h + h - low) * D

  abbrev left_high : ℕ
  left_high = limit_high - high_product

  abbrev left : ℕ
  left = left_high * part_squared + limit_low

  abbrev step : ℕ
  step = (h + h + 1) * D

  -- the square times D, in its two parts
  products : h * h * D ≡ high_product * part_squared + low_product
  products = of_parts h high low (h + h - low) (omega arith) (omega arith)
    where
      of_parts : (h a b x : ℕ) → h ≡ a * part + b → x ≡ 2 * (a * part) + b → h * h * D ≡ a * a * D * part_squared + b * x * D
      of_parts h a b x p q = rw p (rw q (omega arith))

  -- the products fit
  divisor_most : D ≤ 12500
  divisor_most = omega (arith, leb-true n 2500 rate)

  low_most : low ≤ 65535
  low_most = omega arith

  high_most : h ≤ 10000000000 → high ≤ 152587
  high_most s = omega arith

  twice_most : h ≤ 10000000000 → h + h - low ≤ 20000000000
  twice_most s = omega arith

  pub high_fits : h ≤ 10000000000 → Fits w64 (high * high)
  high_fits s = record { fits = omega (arith, mul-le-mul (high_most s) (high_most s)) }

  pub high_product_fits : h ≤ 10000000000 → Fits w64 high_product
  high_product_fits s = record { fits = omega (arith, mul-le-mul (mul-le-mul (high_most s) (high_most s)) divisor_most) }

  pub low_fits : h ≤ 10000000000 → Fits w64 (low * (h + h - low))
  low_fits s = record { fits = omega (arith, mul-le-mul low_most (twice_most s)) }

  pub low_product_fits : h ≤ 10000000000 → Fits w64 low_product
  low_product_fits s = record { fits = omega (arith, mul-le-mul (mul-le-mul low_most (twice_most s)) divisor_most) }

  pub step_fits : h ≤ 10000000000 → Fits w64 step
  step_fits s =
      let t : h + h + 1 ≤ 20000000001 = omega arith in
      record { fits = omega (arith, mul-le-mul t divisor_most) }

  -- each comparison decides
  pub high_too_large : limit_high < high_product → false ≡ is_half_year R h
  high_too_large l = rw (← e) (too_large n h (omega (arith, products)))

  pub high_too_small : h ≤ 10000000000 → part_squared ≤ left_high → false ≡ is_half_year R h
  high_too_small s l =
      let p : h + 1 ≤ (high + 1) * part = omega arith in
      rw (← e) (too_small n h (omega (arith, mul-le-mul_right D (mul-le-mul p p), mul-le-mul (high_most s) divisor_most, divisor_most)))

  pub low_too_large : high_product ≤ limit_high → left < low_product → false ≡ is_half_year R h
  low_too_large s l = rw (← e) (too_large n h (omega (arith, products)))

  pub step_decides : (t : Bool) → high_product ≤ limit_high → low_product ≤ left → t ≡ ltb (left - low_product) step → t ≡ is_half_year R h
  step_decides true s l q =
      let m : left - low_product < step = ltb-true (left - low_product) step (sym q) in
      let fits : h * h * D ≤ square_limit = omega (arith, products) in
      let next : square_limit < (h + 1) * (h + 1) * D = omega (arith, products) in
      rw (← e, le-leb (h * h * D) square_limit fits, lt-ltb square_limit ((h + 1) * (h + 1) * D) next)
  step_decides false s l q =
      let m : step ≤ left - low_product = ltb-false (left - low_product) step (sym q) in
      rw (← e) (too_small n h (omega (arith, products)))

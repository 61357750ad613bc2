-- F-4: the sixty months that RATE with a year alone takes follow each other, and MIDT may give each of them.
-- Assumes nothing.
use Rattle.std.specs.Prelude.{if◌then◌else◌}
use mathlib.Core.Bool.{true, ◌&&◌}
use mathlib.Core.Path.{◌≡◌, refl}
use mathlib.Core.List.{List, [], ◌∷◌}
use Prim.Native.Nat.{ℕ, zero, suc, ◌-◌, ◌≤◌}
use native.Mathlib.Omega.{arith}
use borrow.Author.Tests.{leb-true, le-leb}
use lib.Dec.{eqb, leb}
use lib.ListN.{drop}
use Rattle.std.specs.List.{list_all}
use Rattle.model.specs.Kind.{is_year, is_register_year, is_month}
use Rattle.model.proofs.Lists.{and_left, and_right}
use Rattle.model.proofs.Months.{dates}

-- the month after one, and n months in turn
abbrev next : ℕ × ℕ → ℕ × ℕ
next date = if eqb date.1 12 then (suc date.0, 1) else (date.0, suc date.1)

abbrev in_turn : ℕ → ℕ × ℕ → List (ℕ × ℕ)
in_turn zero date = []
in_turn (suc n) date = date ∷ in_turn n (next date)

-- "the sixty months from January five years before to December of the year before": they begin there, follow each other, and January of the year itself would be next
pub record Window (year : ℕ) : Type 0 where
  pub months : dates year ≡ in_turn 60 (year - 5, 1)
  pub ends : next (year - 1, 12) ≡ (year, 1)
  pub last : drop 59 (dates year) ≡ (year - 1, 12) ∷ []

pub window : (year : ℕ) → 5 ≤ year → Window year
window year le =
    let fourth : year - 4 ≡ suc (year - 5) = omega arith in
    let third : year - 3 ≡ suc (suc (year - 5)) = omega arith in
    let second : year - 2 ≡ suc (suc (suc (year - 5))) = omega arith in
    let first : year - 1 ≡ suc (suc (suc (suc (year - 5)))) = omega arith in
    let this : suc (year - 1) ≡ year = omega arith in
    record { months = rw (fourth, third, second, first); ends = rw this; last = refl }

-- each of them is a month that MIDT may give, so that a RATE of any year can be accepted
pub window_can_be_given : (year : ℕ) → is_year year ≡ true → list_all (λ date. is_register_year date.0 && is_month date.1) (dates year) ≡ true
window_can_be_given year y =
    let first : 1987 ≤ year = leb-true 1987 year (and_left (leb 1987 year) (leb year 2099) y) in
    let last : year ≤ 2099 = leb-true year 2099 (and_right (leb 1987 year) (leb year 2099) y) in
    rw (
      within (year - 5) (omega arith) (omega arith),
      within (year - 4) (omega arith) (omega arith),
      within (year - 3) (omega arith) (omega arith),
      within (year - 2) (omega arith) (omega arith),
      within (year - 1) (omega arith) (omega arith),
    )
  where
    within : (n : ℕ) → 1980 ≤ n → n ≤ 2099 → is_register_year n ≡ true
    within n from upto = rw (le-leb 1980 n from, le-leb n 2099 upto)

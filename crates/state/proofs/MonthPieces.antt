-- A month of the register written: it is read back, every other month is as it was, and so are the lines, the slots and the totals.
-- Assumes nothing.
use Rattle.std.specs.Prelude.{Option, if◌then◌else◌, Option, None, Some}
use mathlib.Core.Bool.{Bool, true, false}
use mathlib.Core.List.{List, [], ◌∷◌}
use mathlib.Core.Path.{◌≡◌, refl, fun_ext}
use Prim.Native.Nat.{ℕ, ◌+◌, ◌-◌, ◌≤◌, ◌<◌}
use native.Mathlib.Omega.{arith}
use borrow.Author.Tests.{eqb-false, leb-true, le-leb, ne_eqb}
use lib.Dec.{eqb, leb}
use lib.ListN.{length, get_or, set}
use lib.Seq.{get_or-set_same, get_or-set_other}
use Rattle.model.specs.Basics.{put}
use Rattle.std.specs.List.{list_all}
use Rattle.model.specs.Kind.{is_rate, is_register_year, is_month}
use Rattle.model.specs.History.{listed}
use Rattle.model.proofs.Lists.{and_left, and_right, put_all}
use Rattle.state.specs.Store.{size}
use Rattle.state.specs.Lines.{line_at}
use Rattle.state.specs.Patterns.{slot_at}
use Rattle.state.specs.Totals.{totals_at}
use Rattle.state.specs.Months.{is_date, month_start, month_in, register_of, with_month_of}
use Rattle.state.proofs.Pieces.{one_cell}
use Rattle.state.proofs.Regions.{lines_before, slots_before, totals_before}

-- a month that has a cell, and where that is
pub record Dated (year month : ℕ) : Type 0 where
  pub first_year : 1980 ≤ year
  pub last_year : year ≤ 2099
  pub first_month : 1 ≤ month
  pub last_month : month ≤ 12

pub dated : (year month : ℕ) → is_date year month ≡ true → Dated year month
dated year month d =
    let y = and_left (is_register_year year) (is_month month) d in
    let m = and_right (is_register_year year) (is_month month) d in
    record {
      first_year = leb-true 1980 year (and_left (leb 1980 year) (leb year 2099) y);
      last_year = leb-true year 2099 (and_right (leb 1980 year) (leb year 2099) y);
      first_month = leb-true 1 month (and_left (leb 1 month) (leb month 12) m);
      last_month = leb-true month 12 (and_right (leb 1 month) (leb month 12) m);
    }

pub month_inside : (year month : ℕ) → is_date year month ≡ true → month_start year month < size
month_inside year month d = let b = dated year month d in omega (arith, b.first_year, b.last_year, b.first_month, b.last_month)

-- no two months have the same cell
same_month : (year month y m : ℕ) → is_date year month ≡ true → is_date y m ≡ true → month_start y m ≡ month_start year month → (y ≡ year) × (m ≡ month)
same_month year month y m d e s =
    let a = dated year month d in
    let b = dated y m e in
    (omega (arith, a.first_year, a.first_month, a.last_month, b.first_year, b.first_month, b.last_month), omega (arith, a.first_year, a.first_month, a.last_month, b.first_year, b.first_month, b.last_month))

-- whatever a cell holds is a rate or none
either : (t : Bool) (a b : Option ℕ) → list_all is_rate (listed a) ≡ true → list_all is_rate (listed b) ≡ true → list_all is_rate (listed (if t then a else b)) ≡ true
either true a b ea eb = ea
either false a b ea eb = eb

rate_by : (n : ℕ) (t : Bool) → is_rate n ≡ t → list_all is_rate (listed (if t then Some n else None)) ≡ true
rate_by n true e = rw e
rate_by n false e = refl

cell_within : (cell : ℕ) → list_all is_rate (listed (month_in cell)) ≡ true
cell_within cell = either (eqb cell 0) _ _ refl (rate_by (cell - 1) (is_rate (cell - 1)) refl)

pub register_within : (store : List ℕ) (year month : ℕ) → list_all is_rate (listed (register_of store year month)) ≡ true
unfolding register_of
register_within store year month = either (is_date year month) _ _ (cell_within (get_or store (month_start year month) 0)) refl

module _ (store : List ℕ) (year month rate : ℕ) (d : is_date year month ≡ true) (n : length store ≡ size) (le : rate ≤ 2500) where
  abbrev later : List ℕ
  later = with_month_of store year month rate

  abbrev at : ℕ
  at = month_start year month

  room : at + 1 ≤ length store
  room = omega (arith, month_inside year month d)

  kept : month_in (rate + 1) ≡ Some rate
  kept =
      let back : rate + 1 - 1 ≡ rate = omega arith in
      let more : (rate + 1 ≡ 0 → ⊥) = λ e. omega arith in
      rw (ne_eqb (rate + 1) 0 more, back, le-leb rate 2500 le)

  as_set : later ≡ set store at (rate + 1)
  as_set = rw (d, one_cell store at (rate + 1) (omega (arith, room)))

  here : register_of later year month ≡ Some rate
  unfolding register_of
  here = rw (as_set, d, get_or-set_same store at (rate + 1) 0 (omega (arith, room))) kept

  apart_by : (y m : ℕ) → ((y ≡ year) × (m ≡ month) → ⊥) → (t : Bool) → is_date y m ≡ t → register_of later y m ≡ register_of store y m
  unfolding register_of
  apart_by y m differ true e = rw (as_set, e, get_or-set_other store at (month_start y m) (rate + 1) 0 (λ s. differ (same_month year month y m d e s)))
  apart_by y m differ false e = rw e

  apart : (y m : ℕ) → ((y ≡ year) × (m ≡ month) → ⊥) → register_of later y m ≡ register_of store y m
  apart y m differ = apart_by y m differ (is_date y m) refl

  -- the view's register after a MIDT
  pub register_put : register_of later ≡ put (register_of store) year (put (register_of store year) month (Some rate))
  register_put =
      fun_ext (put_all (λ y months. register_of later y ≡ months) (register_of store) year (put (register_of store year) month (Some rate))
      (fun_ext (put_all (λ m o. register_of later year m ≡ o) (register_of store year) month (Some rate) here (λ m f. apart year m (λ s. eqb-false m month f s.1))))
      (λ y f. fun_ext (λ m. apart y m (λ s. eqb-false y year f s.0))))

  -- the other regions stand before it
  pub lines_same : (letter : ℕ) → line_at later letter ≡ line_at store letter
  lines_same letter = rw d (lines_before store ((rate + 1) ∷ []) at room (omega arith) letter)

  pub slots_same : (letter accident : ℕ) → slot_at later letter accident ≡ slot_at store letter accident
  slots_same letter accident = rw d (slots_before store ((rate + 1) ∷ []) at room (omega arith) letter accident)

  pub totals_same : (letter : ℕ) (closed : Option ℕ) → totals_at later letter closed ≡ totals_at store letter closed
  totals_same letter closed = rw d (totals_before store ((rate + 1) ∷ []) at room (omega arith) letter closed)

-- A year end by its cases: the figures of lists that pass questions 4 and 6, and a refusal of the others.
-- Assumes nothing.
use mathlib.Core.Bool.{Bool, true, false, ◌&&◌, and-false}
use mathlib.Core.List.{List}
use mathlib.Core.Path.{◌≡◌, refl, sym, ◌∙◌}
use Prim.Native.Nat.{ℕ, ◌≤◌}
use native.Mathlib.Omega.{arith}
use borrow.Author.Tests.{le-leb, leb-true}
use Rattle.std.specs.Prelude.{Result, Ok, Err, Option, Some, None, if◌then◌else◌}
use lib.IntN.{ℤ, nat_abs}
use lib.ListN.{length}
use mir.Syntax.{w64}
use mir.Val.{to_z, of_z}
use Rattle.std.specs.List.{list_all}
use Rattle.model.specs.Call.{close_year}
use Rattle.model.specs.Kind.{is_amount, is_paid}
use Rattle.model.specs.Letter.{covered}
use Rattle.model.specs.Question.{has_lengths}
use Rattle.model.specs.YearEnd.{loss}
use Rattle.model.proofs.YearRows.{paid_total_is}
use Rattle.kinds.proofs.Taken.{taken, outside, allowed}
use Rattle.kinds.specs.Within.{within}
use Rattle.money.specs.Closing.{is_closing}
use Rattle.money.proofs.Signed.{read_back}
use Rattle.refusal.specs.Number.{refusal_of}
use Rattle.refusal.specs.declared.Refusal.TheVariants.{UncoveredLetter, WrongCount, OutsideLimits}
use Rattle.refusal.specs.declared.Refusal.{Refusal}
use Rattle.reserve.specs.Closing.{are_factors, closing_at, closing_in}
use Rattle.reserve.specs.Figures.{Figures}
use Rattle.reserve.specs.Lists.{PaidList, ReserveLists, paid_sum, stated_rows}
use Rattle.year_rows.specs.Limits.{has_limits}
use Rattle.reserve.specs.YearEnd.{rows_end, year_end}
use Rattle.reserve.specs.declared.year_end.YearEnd.{YearEnd}
use Rattle.reserve.proofs.Conjunctions.{three}
use Rattle.reserve.proofs.Lists.{closing_is, reserve_lists, closing_small, paid_list, paid_small}
use Rattle.reserve.proofs.Losses.{loss_small}

-- question 3
module _ (letter : ℕ) (paid : List ℤ) (unpaid tabular factors : List ℕ) (opening : ℕ) (t : Bool) (et : t ≡ covered letter) where
  pub letter_covered : (r : Result YearEnd Refusal) → t ≡ true → r ≡ rows_end letter paid unpaid tabular factors opening → r ≡ year_end letter paid unpaid tabular factors opening
  unfolding year_end rows_end
  letter_covered r e k = rw (← et, e) k

  pub letter_refused : t ≡ false → Err UncoveredLetter ≡ year_end letter paid unpaid tabular factors opening
  unfolding year_end refusal_of
  letter_refused e = rw (← et, e)

-- questions 4 and 6
module _ (letter : ℕ) (paid : List ℤ) (unpaid tabular factors : List ℕ) (opening : ℕ) (l : Bool) (el : l ≡ has_lengths (close_year letter 0 paid unpaid tabular)) where
  abbrev end : Result YearEnd Refusal
  end = rows_end letter paid unpaid tabular factors opening

  pub length_refused : l ≡ false → Err WrongCount ≡ end
  unfolding rows_end refusal_of
  length_refused n = rw (← el, n)

  -- m is whether the paid are within their limits, and o what the opening is
  module _ (lengths : l ≡ true) (m : Bool) (em : m ≡ list_all is_paid paid) where
    limits_refused : has_limits paid unpaid tabular && are_factors unpaid factors && is_closing opening ≡ false → Err OutsideLimits ≡ end
    unfolding rows_end refusal_of
    limits_refused n = rw (← el, lengths, n)

    pub paid_refused : m ≡ false → Err OutsideLimits ≡ end
    paid_refused n = limits_refused (rw (← em, n))

    module _ (limits : m ≡ true) (o : Option ℕ) (eo : o ≡ within is_closing opening) where
      pub opening_refused : o ≡ None → Err OutsideLimits ≡ end
      opening_refused e = limits_refused (rw (outside is_closing opening (sym eo ∙ e), and-false (has_limits paid unpaid tabular && are_factors unpaid factors)))

      pub asks_paid_list : PaidList paid
      asks_paid_list = paid_list letter paid unpaid tabular (sym el ∙ lengths) (sym em ∙ limits)

      pub asks_reserve_lists : length factors ≡ 11 → ReserveLists unpaid tabular factors
      asks_reserve_lists = reserve_lists letter paid unpaid tabular (sym el ∙ lengths) factors

      -- the code's payments p, and the numbers of two closings, are as large as the loss asks
      module _ (p : ℤ) (ep : p ≡ paid_sum paid) where
        paid_figure : nat_abs p ≤ 110000000000
        paid_figure = rw ep (paid_small letter paid unpaid tabular (sym el ∙ lengths) (sym em ∙ limits))

        read : to_z w64 (of_z w64 p) ≡ p
        read = read_back p (omega (arith, paid_figure))

        pub asks_figures : (s n : ℕ) → is_closing s ≡ true → is_closing n ≡ true → Figures (to_z w64 (of_z w64 p)) s n
        asks_figures s n ls ln = rw read record { paid_limit = paid_figure; closing_limit = leb-true s 110000000000 ls; opening_limit = leb-true n 110000000000 ln }

      -- c is what the closing is
      module _ (before : ℕ) (eb : o ≡ Some before) (c : Option ℕ) (ec : c ≡ closing_in unpaid tabular factors) where
        abbrev rows : Bool
        rows = list_all is_amount unpaid && list_all is_amount tabular && are_factors unpaid factors

        abbrev amount : ℕ
        amount = closing_at factors (stated_rows unpaid tabular)

        closing_is_small : rows ≡ true → is_closing amount ≡ true
        closing_is_small t =
            le-leb amount 110000000000
            (closing_small letter paid unpaid tabular (sym el ∙ lengths) (three (list_all is_amount unpaid) (list_all is_amount tabular) (are_factors unpaid factors) t).0 factors)

        closing_in_is : closing_in unpaid tabular factors ≡ within (λ n. rows) amount
        unfolding closing_in
        closing_in_is = by rows refl
          where
            by : (p : Bool) → rows ≡ p → (if p then within is_closing amount else None) ≡ (if p then Some amount else None)
            by true e = allowed is_closing amount (closing_is_small e)
            by false e = refl

        pub closing_refused : c ≡ None → Err OutsideLimits ≡ end
        closing_refused e = limits_refused (rw (← em, limits, outside (λ n. rows) amount (sym closing_in_is ∙ sym ec ∙ e)))

        -- the code's payments p, closing s, opening n and loss z, the signed ones read from their bits
        module _ (after : ℕ) (ea : c ≡ Some after) (p : ℤ) (ep : p ≡ paid_sum paid) (s : ℕ) (es : s ≡ after) (ls : is_closing s ≡ true) (n : ℕ) (en : n ≡ before) (ln : is_closing n ≡ true) where
          found : (rows ≡ true) × (after ≡ amount)
          found = taken (λ n. rows) amount after (sym closing_in_is ∙ sym ec ∙ ea)

          pub fine_is : (z : ℤ) → z ≡ loss (to_z w64 (of_z w64 p)) s n → Ok (record { paid = to_z w64 (of_z w64 p); closing = s; loss = to_z w64 (of_z w64 z) }) ≡ end
          unfolding rows_end
          fine_is z ez =
              let opened = taken is_closing opening before (sym eo ∙ eb) in
              let total = paid_total_is letter 0 paid unpaid tabular (sym el ∙ lengths) ∙ sym ep in
              let sum = closing_is letter paid unpaid tabular (sym el ∙ lengths) factors ∙ sym (es ∙ found.1) in
              let small = loss_small p s n (rw (read p ep) at (asks_figures p ep s n ls ln)) in
              rw (← el, lengths, ← em, limits, found.0, opened.0, total, sum, ← (en ∙ opened.1), ez, read p ep, read_back (loss p s n) small)

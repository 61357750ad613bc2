-- YEAR: what an accepted one leaves.
-- Assumes nothing.
use Rattle.std.specs.Prelude.{if◌then◌else◌, Option, None, Some, is_some, unwrap_or, Result, Ok}
use mathlib.Core.Bool.{Bool, true, false, ◌&&◌}
use mathlib.Core.List.{List}
use mathlib.Core.Path.{◌≡◌, refl, sym, ap, ◌∙◌}
use Prim.Native.Nat.{ℕ, suc, ◌≤◌, ◌<◌}
use native.Mathlib.Omega.{arith}
use borrow.Author.Tests.{eq-eqb}
use lib.IntN.{ℤ, nat_abs}
use lib.ListN.{length}
use Rattle.model.specs.Kind.{is_year}
use Rattle.model.specs.Letter.{ages}
use Rattle.model.specs.Row.{Row, rows_of}
use Rattle.model.specs.Book as model
use Rattle.model.specs.YearEnd as model_end
use Rattle.model.specs.YearEnd.{closing, opening, paid_total, loss}
use Rattle.model.specs.Call.{close_year}
use Rattle.model.specs.Step.{accept}
use Rattle.model.proofs.Lists.{and_left, and_right, true≢false}
use Rattle.year_rows.specs.Limits.{has_limits}
use Rattle.reserve.specs.YearEnd.{year_end}
use Rattle.reserve.specs.declared.year_end.YearEnd.{YearEnd}
use Rattle.refusal.specs.declared.Refusal.{Refusal}
use Rattle.reserve.proofs.Closings.{RowFactors, closing_of_line}
use Rattle.model.proofs.YearRows.{rows_count}
use Rattle.reserve.proofs.Losses.{loss_limit}
use Rattle.reserve.proofs.Verdicts.{limits_of_year, paid_limit, closing_limit_lem, year_end_of_line}
use Rattle.state.specs.declared.book.Book.{Book}
use Rattle.line_limits.specs.declared.line.Line.{Line}
use Rattle.line_limits.specs.declared.line.Patterns.{Patterns}
use Rattle.line_limits.specs.Line.{declared_opening, kept_patterns}
use Rattle.line_limits.specs.declared.totals.Totals.{Totals}
use Rattle.line_limits.specs.Totals.{Within, with_year_of}
use Rattle.line_limits.proofs.TotalLimits.{year_within_lem}
use Rattle.ledger.specs.declared.answer.Answer.TheVariants as answer
use Rattle.ledger.specs.declared.answer.Outcome.{Outcome}
use Rattle.state.specs.Store.{size}
use Rattle.state.specs.Lines.{Limited, with_line_of, with_closing_of}
use Rattle.closings.specs.Rows.{FactorsOf}
use Rattle.state.specs.Totals.{totals_at, with_totals_of}
use Rattle.state.specs.View.{closed_of, line_of}
use Rattle.ledger.specs.Answer.{accepted_of}
use Rattle.ledger.specs.Does.{book_settled, store_settled, Settled}
use Rattle.closings.specs.CloseYear.{is_open, opening_of, Passed}
use Rattle.closings.specs.Totals.{OfAYear}
use Rattle.state.proofs.Limited.{keeps, opening_small, closing_small, closed_kept, line_limited, closing_limited}
use Rattle.state.proofs.Views.{line_is}
use Rattle.state.proofs.ClosedYears.{year_put, year_register}
use Rattle.state.proofs.TotalPieces.{totals_within}
use Rattle.closings.proofs.RowPatterns.{row_factors_are}
use Rattle.closings.proofs.YearAsked.{passes}
use Rattle.closings.proofs.Turns.{due_kept, due_last, due_open}

-- "Opening is the last closing, or the declared opening."
from_same : (closed : Option ℕ) (closing declared : ℕ) → model_end.opening_from (closed_of closed closing) declared ≡ (if is_some closed then closing else declared)
from_same None closing declared = refl
from_same (Some year) closing declared = refl

opening_is : (store : List ℕ) (letter : ℕ) (line : Line) → opening (line_of store letter line) ≡ opening_of line
unfolding line_of
opening_is store letter line = from_same line.closed line.closing (unwrap_or (declared_opening line) 0)

module _ (letter : ℕ) (line : Line) (l : Limited letter line) where
  declared_small : (t : Bool) → unwrap_or (if t then Some line.opening else None) 0 ≤ 100000000000
  declared_small true = opening_small letter line l
  declared_small false = omega arith

  from_small : (t : Bool) → (if t then line.closing else unwrap_or (declared_opening line) 0) ≤ 110000000000
  from_small true = closing_small letter line l
  from_small false = omega (arith, declared_small line.declared)

module _ (store : List ℕ) (line : Line) (patterns : Patterns) (letter year : ℕ) (paid : List ℤ) (unpaid tabular : List ℕ) (pre : Passed store line patterns letter year paid unpaid tabular) where
  abbrev rows : List Row
  rows = rows_of paid unpaid tabular

  limits : (is_year year && has_limits paid unpaid tabular) ≡ true
  limits = sym (limits_of_year letter paid unpaid tabular year) ∙ pre.turned.sound.limits

  is_year_lem : is_year year ≡ true
  is_year_lem = and_left (is_year year) (has_limits paid unpaid tabular) limits

  has_limits_lem : has_limits paid unpaid tabular ≡ true
  has_limits_lem = and_right (is_year year) (has_limits paid unpaid tabular) limits

  limited : Limited letter line
  limited = line_limited store letter line pre.turned.here

  kept : kept_patterns line ≡ Some patterns
  kept = due_kept year line patterns pre.turned.is_due

  some_kept : 0 < line.patterns.count
  some_kept = (keeps line patterns kept).0

  last : year ≡ patterns.last
  last = due_last year line patterns pre.turned.is_due

  last_kept : year ≡ line.patterns.last
  last_kept = last ∙ ap (λ (p : Patterns). p.last) (sym (keeps line patterns kept).1)

  opening_limit_lem : opening_of line ≤ 110000000000
  opening_limit_lem = from_small letter line limited (is_some line.closed)

  module _ (factors : List ℕ) (are : FactorsOf store letter patterns factors) where
    abbrev shown : model.Line
    shown = line_of store letter line

    abbrev amount : ℕ
    amount = closing letter shown year rows

    row_factors : RowFactors letter shown year factors (suc (ages letter))
    row_factors = rw last (row_factors_are store letter line limited patterns kept factors are)

    amount_small : amount ≤ 110000000000
    amount_small =
        rw (← (closing_of_line letter shown year factors rows (rw (rows_count letter year paid unpaid tabular pre.turned.sound.lengths) row_factors)))
        (closing_limit_lem letter paid unpaid tabular pre.turned.sound.lengths has_limits_lem factors)

    abbrev tax_loss : ℤ
    tax_loss = loss (paid_total rows) amount (opening_of line)

    abbrev figures : YearEnd
    figures = record { paid = paid_total rows; closing = amount; loss = tax_loss }

    end_is : year_end letter paid unpaid tabular factors (opening_of line) ≡ Ok figures
    end_is = year_end_of_line letter paid unpaid tabular pre.turned.sound.lengths has_limits_lem factors shown year (opening_of line) pre.turned.sound.letter opening_limit_lem row_factors

    closed_limited : Limited letter (with_closing_of line year amount)
    closed_limited = closing_limited letter line limited year is_year_lem amount some_kept last_kept amount_small

    of_a_year : OfAYear figures
    of_a_year =
        let paid_small : nat_abs (paid_total rows) ≤ 110000000000 = paid_limit letter paid unpaid tabular pre.turned.sound.lengths has_limits_lem factors in
        record {
          paid_limit = omega (arith, paid_small);
          loss_limit = loss_limit (paid_total rows) amount (opening_of line) (record { paid_limit = paid_small; closing_limit = amount_small; opening_limit = opening_limit_lem });
        }

    -- as code has the figures
    pub end_answered : (o : ℕ) → o ≡ opening_of line → year_end letter paid unpaid tabular factors o ≡ Ok figures
    end_answered o eo = rw eo end_is

    module _ (o : ℕ) (eo : o ≡ opening_of line) (answered : Result YearEnd Refusal) (ea : answered ≡ year_end letter paid unpaid tabular factors o) (end : YearEnd) (ee : answered ≡ Ok end) where
      figures_are : end ≡ figures
      figures_are = sym (cc (sym (ea ∙ end_answered o eo) ∙ ee))

      pub figures_small : OfAYear end
      figures_small = rw figures_are of_a_year

      is_later : (before : ℕ) → line.closed ≡ Some before → before < year
      is_later before e =
          let still_open : is_open (Some before) year ≡ true = rw e at (due_open year line patterns pre.turned.is_due) in
          let other : before ≡ year → ⊥ = λ q. true≢false (sym still_open ∙ rw (eq-eqb before year q)) in
          omega (arith, other, last_kept, (closed_kept letter line limited before e).2)

      abbrev totals : Totals
      totals = with_year_of (totals_at store letter line.closed) (paid_total rows) tax_loss

      within_year : Within (Some year) totals
      within_year = year_within_lem line.closed year is_year_lem (λ before e y. is_later before e) (totals_at store letter line.closed) (paid_total rows) tax_loss (totals_within store letter line.closed) of_a_year.paid_limit of_a_year.loss_limit

      pub year_closed : (book : Book) → length store ≡ size → (middle : List ℕ) → middle ≡ with_totals_of store letter (Some year) (with_year_of (totals_at store letter line.closed) end.paid end.loss)
          → (closed : Line) → closed ≡ with_closing_of line year end.closing → (later : List ℕ) → later ≡ with_line_of middle letter closed
          → (r : Outcome) → r ≡ accepted_of book (answer.Tax letter year o end) → Settled book (close_year letter year paid unpaid tabular) store r later
      unfolding accept book_settled store_settled line_of
      year_closed book n middle em closed ec later el r er =
          rw (passes store line patterns letter year paid unpaid tabular pre book, er, el, em, ec, figures_are, eo)
          record {
            outcome = rw (year_register store letter year amount line totals pre.turned.sound.letter n closed_limited within_year, year_put store letter year amount line totals pre.turned.sound.letter n closed_limited within_year, line_is store letter line pre.turned.here, opening_is store letter line);
            own = refl;
            lent = rw (line_is store letter line pre.turned.here, opening_is store letter line, ← pre.turned.here);
          }

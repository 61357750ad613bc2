-- F-2: the questions that SUM meets; what it prints and changes, whatever the list before it; and document 01's run with a SUM after it, computed.
-- Assumes nothing.
use Rattle.std.specs.Prelude.{if◌then◌else◌, Option, None, Some, is_some}
use mathlib.Core.Bool.{Bool, true, false}
use mathlib.Core.Path.{◌≡◌, refl}
use mathlib.Core.List.{List, [], ◌∷◌}
use Prim.Native.Nat.{ℕ}
use native.Mathlib.Omega.{arith}
use borrow.Author.Tests.{eqb-true}
use lib.Dec.{eqb}
use lib.ListN.{length, drop, drop_of_length-le}
use lib.IntN.{pos}
use Rattle.model.specs.Basics.{bytes}
use Rattle.model.specs.Letter.{ten_year, two_year, covered, ages}
use Rattle.model.specs.HalfYear.{with_digits, half_year}
use Rattle.model.specs.Pattern.{cumulative_ratio}
use Rattle.model.specs.Tail.{schedule}
use Rattle.model.specs.Factor.{factor, factors, kept_factors}
use Rattle.model.specs.Composite.{weighted, mean, composite}
use Rattle.model.specs.Row.{discounted}
use Rattle.model.specs.YearEnd.{row_factor, closing, paid_total}
use Rattle.model.specs.Input.{lines_of}
use Rattle.model.specs.Field.{fields, field, letter_in}
use Rattle.model.specs.Number.{natural, is_plain, is_written, integer, digits_before, decimal}
use Rattle.model.specs.Record.{SUM, word_of, all_written, call_from}
use Rattle.model.specs.Sample.{sample_input}
use Rattle.model.specs.Book.{Book, empty}
use Rattle.model.specs.Call.{totals}
use Rattle.model.specs.Question.{is_short, line_questions, call_questions, book_questions, first_no}
use Rattle.model.specs.Answer.{Answer, summed, text}
use Rattle.model.specs.Step.{Request, as_bytes, as_numbers, asked, questions, counted, refuse, accept, step}
use Rattle.model.specs.Run.{after, records_of}
use Rattle.model.specs.History.{accepted, years_in, paid_in, losses_in, closed_in}
use Rattle.model.proofs.Steps.{step_is}
use Rattle.model.proofs.Demand.{demand}

-- two fields have no number that could be badly written
none_written : (fs : List (List ℕ)) (t : Bool) → eqb (length fs) 2 ≡ t → (later : Option ℕ) → (if t then (if all_written SUM 2 (drop 2 fs) then later else Some 5) else Some 4) ≡ (if t then later else Some 4)
unfolding all_written
none_written fs true e later = rw (drop_of_length-le fs {i = 2} (omega (arith, eqb-true (length fs) 2 e)))
none_written fs false e later = refl

-- "SUM has two fields and meets questions 1 to 4 and 8.": of a line with that word, so that question 2 is answered yes
pub sum_meets : (book : Book) (line : List ℕ) → word_of (field 0 (fields line)) ≡ SUM
    → let letter = letter_in (fields line) in first_no (questions book (as_bytes line)) ≡ first_no ((1, is_short line) ∷ (3, covered letter) ∷ (4, eqb (length (fields line)) 2) ∷ (8, is_some (book.lines letter).opening) ∷ [])
unfolding questions line_questions book_questions call_from
sum_meets book line w =
    let declared = is_some (book.lines (letter_in (fields line))).opening in
    rw (w, none_written (fields line) (eqb (length (fields line)) 2) refl (if declared then None else Some 8))

-- and of the call with a letter
pub sum_call_meets : (book : Book) (letter : ℕ) → first_no (questions book (as_numbers (totals letter))) ≡ first_no ((3, covered letter) ∷ (8, is_some (book.lines letter).opening) ∷ [])
unfolding questions call_questions book_questions
sum_call_meets book letter = refl

module _ (requests : List Request) (request : Request) (letter : ℕ) where
  abbrev before : Book
  before = after empty requests

  abbrev sums : Answer
  sums =
      let h = accepted empty requests in
      summed letter (length (years_in h letter)) (paid_in h letter) (losses_in h letter)

  -- "prints SUM, the letter, the count of closed years, all paid, and all tax-basis losses": the sums over the accepted YEARs of the list. Of the book it changes the accepted count alone.
  pub sum_prints : asked request ≡ totals letter → first_no (questions before request) ≡ None → step before request ≡ record { book = counted before; answer = sums }
  unfolding accept
  sum_prints e passed =
      let t = ((demand requests).totals letter).sums in
      rw (step_is before request None passed, e, t.years, t.paid, t.losses)

  -- "A line with no closed year prints zeros."
  pub none_closed_prints_zeros : asked request ≡ totals letter → first_no (questions before request) ≡ None → closed_in (accepted empty requests) letter ≡ None → (step before request).answer ≡ summed letter 0 (pos 0) (pos 0)
  unfolding accept
  none_closed_prints_zeros e passed c = rw (step_is before request None passed, e, ((demand requests).totals letter).zeros c)

-- document 01's run, and then SUM: two years closed with 50 and 40 paid, the last with 8
pub sum_of_sample : text (step (after empty (records_of sample_input)) (as_bytes (bytes "SUM\tJ"))).answer ≡ bytes "SUM\tJ\t2\t90\t98\n"
unfolding after step questions refuse accept line_questions book_questions word_of all_written call_from natural is_plain is_written integer digits_before decimal fields lines_of text row_factor closing paid_total discounted weighted mean composite factor factors kept_factors schedule cumulative_ratio with_digits half_year ages ten_year two_year
sum_of_sample = refl

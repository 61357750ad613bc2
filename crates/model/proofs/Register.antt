-- F-4: the questions that MIDT and both forms of RATE meet; what an accepted MIDT does; and that a RATE with a year alone does what the RATE of its sixty months does.
-- Assumes nothing.
use Rattle.std.specs.Prelude.{None, is_some}
use mathlib.Core.Bool.{true, not, ◌&&◌}
use mathlib.Core.Path.{◌≡◌, refl, sym, ap, ◌∙◌}
use mathlib.Core.List.{List, [], ◌∷◌, map}
use Prim.Native.Nat.{ℕ}
use borrow.Author.Tests.{ne_eqb}
use lib.Dec.{eqb}
use lib.ListN.{length}
use Rattle.std.specs.List.{list_all}
use Rattle.model.specs.Kind.{is_rate, is_year, is_register_year, is_month}
use Rattle.model.specs.Rate.{rate_of, sixty_months}
use Rattle.model.specs.Field.{fields, field, column}
use Rattle.model.specs.Number.{natural}
use Rattle.model.specs.Record.{RATE, RATE_ALONE, MIDT, word_of, call_from}
use Rattle.model.specs.Book.{Book, empty}
use Rattle.model.specs.Call.{set_rate, register_month, set_rate_from_register}
use Rattle.model.specs.Question.{is_short, is_well_written, line_questions, call_questions, book_questions, first_no}
use Rattle.model.specs.Answer.{rated, registered}
use Rattle.model.specs.Step.{Request, as_bytes, as_numbers, asked, questions, with_rate, with_month, months_taken, accept, step}
use Rattle.model.specs.Run.{after}
use Rattle.model.specs.History.{Entry, listed, accepted, months_in, taken_in}
use Rattle.model.proofs.Months.{one, dates, all_pass}
use Rattle.model.proofs.Steps.{step_is}
use Rattle.model.proofs.Passed.{Passed, passed}
use Rattle.model.proofs.AcceptRate.{sixty_given, all_taken}
use Rattle.model.proofs.Demand.{stands}

module _ (book : Book) (line : List ℕ) where
  abbrev fs : List (List ℕ)
  fs = fields line

  -- "MIDT meets questions 1, 2 and 4 to 7.": of a line with that word, so that question 2 is answered yes
  pub month_meets : word_of (field 0 (fields line)) ≡ MIDT
      → let year = natural (field 1 fs) in
      let month = natural (field 2 fs) in
      first_no (questions book (as_bytes line)) ≡ first_no ((1, is_short line) ∷ (4, eqb (length fs) 4) ∷ (5, is_well_written MIDT fs) ∷ (6, is_register_year year && is_month month && is_rate (natural (field 3 fs))) ∷ (7, not (is_some (book.register year month))) ∷ [])
  unfolding questions line_questions book_questions call_from
  month_meets w = rw w

  -- RATE of two fields meets 1, 2, 5, 6, 7 and then 14
  pub rate_alone_meets : word_of (field 0 (fields line)) ≡ RATE → length (fields line) ≡ 2
      → let year = natural (field 1 fs) in first_no (questions book (as_bytes line)) ≡ first_no ((1, is_short line) ∷ (5, is_well_written RATE_ALONE fs) ∷ (6, is_year year) ∷ (7, not (is_some (book.rates year))) ∷ (14, list_all is_some (sixty_months book.register year)) ∷ [])
  unfolding questions line_questions book_questions call_from
  rate_alone_meets w n = rw (w, n)

  -- "The long RATE still works.": of any other count of fields RATE meets 1, 2 and 4 to 7, and 62 is right
  pub rate_meets : word_of (field 0 (fields line)) ≡ RATE → (length (fields line) ≡ 2 → ⊥)
      → let year = natural (field 1 fs) in
      first_no (questions book (as_bytes line)) ≡ first_no ((1, is_short line) ∷ (4, eqb (length fs) 62) ∷ (5, is_well_written RATE fs) ∷ (6, is_year year && list_all is_rate (map natural (column 60 1 2 fs))) ∷ (7, not (is_some (book.rates year))) ∷ [])
  unfolding questions line_questions book_questions call_from
  rate_meets w n = rw (w, ne_eqb (length (fields line)) 2 n)

-- and of the calls with numbers
pub month_call_meets : (book : Book) (year month rate : ℕ) → first_no (questions book (as_numbers (register_month year month rate))) ≡ first_no ((6, is_register_year year && is_month month && is_rate rate) ∷ (7, not (is_some (book.register year month))) ∷ [])
unfolding questions call_questions book_questions
month_call_meets book year month rate = refl

pub rate_call_meets : (book : Book) (year : ℕ) → first_no (questions book (as_numbers (set_rate_from_register year))) ≡ first_no ((6, is_year year) ∷ (7, not (is_some (book.rates year))) ∷ (14, list_all is_some (sixty_months book.register year)) ∷ [])
unfolding questions call_questions book_questions
rate_call_meets book year = refl

-- "MIDT prints its own fields back.": an accepted one, and of the book it changes that month and the accepted count alone
pub month_prints : (book : Book) (request : Request) (year month rate : ℕ) → asked request ≡ register_month year month rate → first_no (questions book request) ≡ None → step book request ≡ record { book = with_month book year month rate; answer = registered year month rate }
unfolding accept
month_prints book request year month rate e passes = rw (step_is book request None passes, e)

-- the RATE of the months that the register holds: it is not refused where these are rates and questions 6 and 7 are answered yes
pub long_passes : (book : Book) (year : ℕ) → ((y m : ℕ) → list_all is_rate (listed (book.register y m)) ≡ true) → is_year year ≡ true → not (is_some (book.rates year)) ≡ true → first_no (questions book (as_numbers (set_rate year (months_taken book year)))) ≡ None
unfolding questions call_questions book_questions
long_passes book year rates q6 q7 = rw (q6, q7, all_pass is_rate refl (λ date. book.register date.0 date.1) (λ date. rates date.0 date.1) (dates year))

-- an accepted RATE with a year alone, after any list: h is the accepted records of the list
module _ (requests : List Request) (request : Request) (year : ℕ) (alone : asked request ≡ set_rate_from_register year) (passes : first_no (questions (after empty requests) request) ≡ None) where
  abbrev h : List Entry
  h = accepted empty requests

  abbrev before : Book
  before = after empty requests

  meets : Passed before (set_rate_from_register year)
  meets = rw alone at (passed before request passes)

  taken : taken_in h year ≡ months_taken before year
  taken = all_taken h before year (stands requests).months meets.months

  -- each of its sixty months has one accepted MIDT
  pub one_of_each : sixty_months (months_in h) year ≡ map one (taken_in h year)
  one_of_each = sixty_given h before year (stands requests).months meets.months ∙ ap (map one) (sym taken)

  -- the RATE of these sixty is not refused
  pub long_is_accepted : first_no (questions before (as_numbers (set_rate year (taken_in h year)))) ≡ None
  long_is_accepted = rw taken (long_passes before year (stands requests).months_within meets.limits meets.to_be_given)

  -- and leaves the same book and gives the same answer
  pub as_the_long : (long : Request) → asked long ≡ set_rate year (taken_in h year) → first_no (questions before long) ≡ None → step before request ≡ step before long
  unfolding accept
  as_the_long long e long_passed =
      rw (step_is before request None passes, step_is before long None long_passed, alone, e, taken)

  -- it gives the rate of these sixty, and of the book it changes that year's rate and the accepted count alone
  pub rate_prints : step before request ≡ record { book = with_rate before year (rate_of (taken_in h year)); answer = rated year (rate_of (taken_in h year)) }
  unfolding accept
  rate_prints = rw (step_is before request None passes, alone, taken)

-- What every public call promises: the model's outcome, and the code's own later book and the whole later store.
-- Assumes nothing: these are definitions.
use Rattle.std.specs.Prelude.{List, ◌≡◌, ℕ, Option, None, Some, unwrap_or}
use Rattle.model.specs.HalfYear.{half_year}
use Rattle.model.specs.Pattern.{ages_of}
use Rattle.model.specs.Rate.{rate_of}
use Rattle.model.specs.Row.{rows_of}
use Rattle.model.specs.Tail.{schedule}
use Rattle.model.specs.YearEnd.{closing, opening, paid_total, loss}
use Rattle.model.specs.Book as model
use Rattle.model.specs.Call.{Call, declare, set_rate, add_pattern, close_year, totals, register_month, set_rate_from_register}
use Rattle.model.specs.Question.{book_questions, first_no}
use Rattle.model.specs.Step.{Request, asked, questions, months_taken, kept_pattern, settle, step}
use Rattle.line_limits.specs.Totals.{with_year_of}
use Rattle.state.specs.declared.book.Book.{Book}
use Rattle.state.specs.Hints.{with_hint_of}
use Rattle.state.specs.Lines.{line_at, with_line_of, new_line, with_pattern_of, with_closing_of}
use Rattle.state.specs.Months.{with_month_of}
use Rattle.state.specs.Patterns.{slot_of, with_slot_of}
use Rattle.state.specs.Rates.{with_rate_of}
use Rattle.state.specs.Totals.{totals_at, with_totals_of}
use Rattle.state.specs.View.{view}
use Rattle.ledger.specs.declared.answer.Outcome.{Outcome}
use Rattle.ledger.specs.Answer.{outcome_of, one_more_refused, one_more_accepted}

-- the code's own book after a call of which `first` is the first question answered no, if any, where `book` is the model's book before it
-- a refusal changes the refused count alone, and RATE its year's place besides the count
unfoldable pub book_settled : Option ℕ → model.Book → Call → Book → Book
book_settled (Some question) book call own = one_more_refused own
book_settled None book (declare letter opening) own = one_more_accepted own
book_settled None book (set_rate year months) own = one_more_accepted (with_rate_of own year (rate_of months))
book_settled None book (add_pattern letter year paid incurred) own = one_more_accepted own
book_settled None book (close_year letter year paid unpaid tabular) own = one_more_accepted own
book_settled None book (totals letter) own = one_more_accepted own
book_settled None book (register_month year month rate) own = one_more_accepted own
book_settled None book (set_rate_from_register year) own = one_more_accepted (with_rate_of own year (rate_of (months_taken book year)))

-- the store after it: as it was after a refusal or SUM. LINE writes its line, RATE its year's hint, PATT its slot and its line, YEAR its totals and its line, MIDT its month
unfoldable pub store_settled : Option ℕ → model.Book → Call → List ℕ → List ℕ
store_settled (Some question) book call store = store
store_settled None book (declare letter opening) store = with_line_of store letter (new_line opening)
store_settled None book (set_rate year months) store = with_hint_of store year (half_year (rate_of months))
store_settled None book (add_pattern letter year paid incurred) store =
    let pattern = kept_pattern letter year (unwrap_or (book.rates year) 0) (schedule letter (ages_of paid incurred)) in
    with_line_of (with_slot_of store letter year (slot_of letter pattern)) letter (with_pattern_of letter (line_at store letter) year)
store_settled None book (close_year letter year paid unpaid tabular) store =
    let rows = rows_of paid unpaid tabular in
    let line = line_at store letter in
    let amount = closing letter (book.lines letter) year rows in
    let tax_loss = loss (paid_total rows) amount (opening (book.lines letter)) in
    let later = with_year_of (totals_at store letter line.closed) (paid_total rows) tax_loss in
    with_line_of (with_totals_of store letter (Some year) later) letter (with_closing_of line year amount)
store_settled None book (totals letter) store = store
store_settled None book (register_month year month rate) store = with_month_of store year month rate
store_settled None book (set_rate_from_register year) store = with_hint_of store year (half_year (rate_of (months_taken book year)))

-- a call of which `first` is the first question answered no, if any
pub record Settles (first : Option ℕ) (book : Book) (call : Call) (store : List ℕ) (r : Outcome) (later : List ℕ) : Type 0 where
  pub outcome : outcome_of r later ≡ settle first (view book store) call
  pub own : r.book ≡ book_settled first (view book store) call book
  pub lent : later ≡ store_settled first (view book store) call store

-- a call that questions 3, 4 and 6 let through: 7 to 14 are asked
abbrev pub Settled : Book → Call → List ℕ → Outcome → List ℕ → Type 0
Settled book call store = Settles (first_no (book_questions (view book store) call)) book call store

-- the code's own book and the store after a request, where `book` is the model's book before it
abbrev pub book_after : model.Book → Request → Book → Book
book_after book request own = book_settled (first_no (questions book request)) book (asked request) own

abbrev pub store_after : model.Book → Request → List ℕ → List ℕ
store_after book request store = store_settled (first_no (questions book request)) book (asked request) store

-- a request
pub record Does (book : Book) (request : Request) (store : List ℕ) (r : Outcome) (later : List ℕ) : Type 0 where
  pub outcome : outcome_of r later ≡ step (view book store) request
  pub own : r.book ≡ book_after (view book store) request book
  pub lent : later ≡ store_after (view book store) request store

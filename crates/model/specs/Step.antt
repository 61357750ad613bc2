-- What a record does to the book, and what it is answered.
-- Assumes nothing: these are definitions.
use Rattle.std.specs.Prelude.{Bool, List, [], ◌∷◌, ◌++◌, map, ℕ, ◌+◌, min, take, ℤ, ◌+ℤ◌, Option, None, Some, unwrap_or}
use Rattle.model.specs.Basics.{put}
use Rattle.model.specs.Letter.{ages}
use Rattle.model.specs.Rate.{rate_of, sixty_months}
use Rattle.model.specs.Pattern.{ages_of}
use Rattle.model.specs.Tail.{schedule}
use Rattle.model.specs.Factor.{kept_factors}
use Rattle.model.specs.Composite.{composite}
use Rattle.model.specs.Published.{published}
use Rattle.model.specs.Row.{rows_of}
use Rattle.model.specs.Book.{Book, Totals, no_totals, Line, Kept}
use Rattle.model.specs.YearEnd.{closing, opening, paid_total, loss}
use Rattle.model.specs.Call.{Call, declare, set_rate, add_pattern, close_year, totals, register_month, set_rate_from_register}
use Rattle.model.specs.Field.{fields}
use Rattle.model.specs.Record.{record_of, call_from}
use Rattle.model.specs.Question.{line_questions, call_questions, book_questions, first_no}
use Rattle.model.specs.Answer.{Answer, declared, rated, fact, tax, summed, registered, refusal}

-- a record, by the bytes of its line; or a call with numbers
pub data Request : Type 0 where
  as_bytes : (line : List ℕ) → Request
  as_numbers : (call : Call) → Request

-- the call that a line makes
abbrev pub call_of : List ℕ → Call
call_of line =
    let fs = fields line in
    call_from (record_of fs) fs

abbrev pub asked : Request → Call
asked (as_bytes line) = call_of line
asked (as_numbers call) = call

-- "Questions put to a record, in this order"
unfoldable pub questions : Book → Request → List (ℕ × Bool)
questions book (as_bytes line) = line_questions line ++ book_questions book (call_of line)
questions book (as_numbers call) = call_questions call ++ book_questions book call

-- "Either count stops at 2^64 - 1."
abbrev pub one_more : ℕ → ℕ
one_more n = min (n + 1) 18446744073709551615

-- the later book, and the answer
pub record Outcome : Type 0 where
  pub book : Book
  pub answer : Answer

-- "Lines, rates, patterns, closings and the accepted count are then as before, and the refused count is one higher.": the register too (F-4)
unfoldable pub refuse : Book → ℕ → Outcome
refuse book question =
    record {
      book = record { rates = book.rates; register = book.register; lines = book.lines; accepted = book.accepted; refused = one_more book.refused };
      answer = refusal question;
    }

-- "Without a "no" the record is accepted and the accepted count is one higher."
abbrev pub with_line : Book → ℕ → Line → Book
with_line book letter line =
    record { rates = book.rates; register = book.register; lines = put book.lines letter line; accepted = one_more book.accepted; refused = book.refused }

abbrev pub with_rate : Book → ℕ → ℕ → Book
with_rate book year rate =
    record { rates = put book.rates year (Some rate); register = book.register; lines = book.lines; accepted = one_more book.accepted; refused = book.refused }

-- F-4: MIDT "stores one federal mid-term rate, once"
abbrev pub with_month : Book → ℕ → ℕ → ℕ → Book
with_month book year month rate =
    record { rates = book.rates; register = put book.register year (put (book.register year) month (Some rate)); lines = book.lines; accepted = one_more book.accepted; refused = book.refused }

-- F-4: the sixty rates that RATE with a year alone "takes" from the register (question 14 asks that each is given)
abbrev pub months_taken : Book → ℕ → List ℕ
months_taken book year = map (λ month. unwrap_or month 0) (sixty_months book.register year)

-- the book that SUM leaves (F-2): only the accepted count is another
abbrev pub counted : Book → Book
counted book = record { rates = book.rates; register = book.register; lines = book.lines; accepted = one_more book.accepted; refused = book.refused }

-- the line that LINE declares
abbrev pub declared_line : ℕ → Line
declared_line amount = record { opening = Some amount; closed = None; kept = []; totals = no_totals }

-- the pattern that PATT has kept
abbrev pub kept_pattern : ℕ → ℕ → ℕ → List ℕ → Kept
kept_pattern letter year rate pay = record { year = year; factors = kept_factors letter rate pay; composite = composite letter rate pay }

-- "A line keeps its latest ten patterns (two-year: two)."
abbrev pub with_pattern : ℕ → Line → Kept → Line
with_pattern letter line pattern = record { opening = line.opening; closed = line.closed; kept = take (ages letter) (pattern ∷ line.kept); totals = line.totals }

-- F-2: "The figures equal the sums over the accepted YEAR records of that line": the totals with one more
abbrev pub with_year : Totals → ℤ → ℤ → Totals
with_year before paid loss = record { years = before.years + 1; paid = before.paid +ℤ paid; losses = before.losses +ℤ loss }

-- the line with one more year closed
abbrev pub with_closing : Line → ℕ → ℕ → Totals → Line
with_closing line year amount figures =
    record { opening = line.opening; closed = Some (record { year = year; closing = amount }); kept = line.kept; totals = figures }

unfoldable pub accept : Book → Call → Outcome
accept book (declare letter amount) = record { book = with_line book letter (declared_line amount); answer = declared letter amount }
accept book (set_rate year months) =
    let rate = rate_of months in
    record { book = with_rate book year rate; answer = rated year rate }
accept book (add_pattern letter year paid incurred) =
    let pattern = kept_pattern letter year (unwrap_or (book.rates year) 0) (schedule letter (ages_of paid incurred)) in
    record {
      book = with_line book letter (with_pattern letter (book.lines letter) pattern);
      answer = fact letter year (map published pattern.factors) (published pattern.composite);
    }
accept book (close_year letter year paid unpaid tabular) =
    let line = book.lines letter in
    let rows = rows_of paid unpaid tabular in
    let amount = closing letter line year rows in
    let before = opening line in
    let tax_loss = loss (paid_total rows) amount before in
    record {
      book = with_line book letter (with_closing line year amount (with_year line.totals (paid_total rows) tax_loss));
      answer = tax letter year (paid_total rows) before amount tax_loss;
    }
accept book (totals letter) =
    let figures = (book.lines letter).totals in
    record { book = counted book; answer = summed letter figures.years figures.paid figures.losses }
accept book (register_month year month rate) = record { book = with_month book year month rate; answer = registered year month rate }
accept book (set_rate_from_register year) =
    let rate = rate_of (months_taken book year) in
    record { book = with_rate book year rate; answer = rated year rate }

-- "A "no" refuses with that question's number."
abbrev pub settle : Option ℕ → Book → Call → Outcome
settle None book call = accept book call
settle (Some question) book call = refuse book question

unfoldable pub step : Book → Request → Outcome
step book request = settle (first_no (questions book request)) book (asked request)

-- What an accepted request has passed: a record as much as a call with numbers. And what that means for a pattern's payments.
-- Assumes nothing.
use Rattle.std.specs.Prelude.{None}
use mathlib.Core.Path.{◌≡◌}
use mathlib.Core.Bool.{Bool, true}
use mathlib.Core.List.{List, ◌++◌}
use Prim.Native.Nat.{ℕ}
use Rattle.model.specs.Basics.{sum, Every}
use Rattle.model.specs.Pattern.{ages_of, whole}
use Rattle.model.specs.Tail.{schedule}
use Rattle.model.specs.Book.{Book}
use Rattle.model.specs.Call.{Call, add_pattern}
use Rattle.model.specs.Field.{fields}
use Rattle.model.specs.Record.{record_of}
use Rattle.model.specs.Question.{has_letter, has_lengths, is_within_limits, is_to_be_given, has_months, is_declared, has_rate, is_in_turn, has_incurred, climbs, has_patterns, line_questions, call_questions, book_questions, first_no}
use Rattle.model.specs.Step.{Request, as_bytes, as_numbers, asked, call_of, questions}
use Rattle.model.proofs.Lists.{all_yes, every_right}
use Rattle.model.proofs.Lengths.{lengths_right}
use Rattle.model.proofs.Unpaid.{payments_are_whole}

pub record Passed (book : Book) (call : Call) : Type 0 where
  pub letter : has_letter call ≡ true
  pub lengths : has_lengths call ≡ true
  pub limits : is_within_limits call ≡ true
  pub to_be_given : is_to_be_given book call ≡ true
  pub months : has_months book call ≡ true
  pub declared : is_declared book call ≡ true
  pub rate : has_rate book call ≡ true
  pub turn : is_in_turn book call ≡ true
  pub incurred : has_incurred call ≡ true
  pub climbing : climbs call ≡ true
  pub patterns : has_patterns book call ≡ true

abbrev AllYes : List (ℕ × Bool) → Type 0
AllYes qs = Every (λ q. q.1 ≡ true) qs

from_book : (book : Book) (call : Call) → has_letter call ≡ true → has_lengths call ≡ true → is_within_limits call ≡ true → AllYes (book_questions book call) → Passed book call
unfolding book_questions
from_book book call q3 q4 q6 y =
    record {
      letter = q3;
      lengths = q4;
      limits = q6;
      to_be_given = y.0;
      months = y.1.0;
      declared = y.1.1.0;
      rate = y.1.1.1.0;
      turn = y.1.1.1.1.0;
      incurred = y.1.1.1.1.1.0;
      climbing = y.1.1.1.1.1.1.0;
      patterns = y.1.1.1.1.1.1.1.0;
    }

of_line : (book : Book) (line : List ℕ) → AllYes (line_questions line ++ book_questions book (call_of line)) → Passed book (call_of line)
unfolding line_questions
of_line book line y =
    let fs : List (List ℕ) = fields line in
    from_book book (call_of line) y.1.1.0 (lengths_right (record_of fs) fs) y.1.1.1.1.1.0 (every_right (λ q. q.1 ≡ true) (line_questions line) (book_questions book (call_of line)) y)

of_call : (book : Book) (call : Call) → AllYes (call_questions call ++ book_questions book call) → Passed book call
unfolding call_questions
of_call book call y = from_book book call y.0 y.1.0 y.1.1.0 (every_right (λ q. q.1 ≡ true) (call_questions call) (book_questions book call) y)

by_request : (book : Book) (request : Request) → AllYes (questions book request) → Passed book (asked request)
unfolding questions
by_request book (as_bytes line) y = of_line book line y
by_request book (as_numbers call) y = of_call book call y

pub passed : (book : Book) (request : Request) → first_no (questions book request) ≡ None → Passed book (asked request)
passed book request e = by_request book request (all_yes (questions book request) e)

-- the payments of every accepted pattern are a whole together
pub accepted_is_whole : (book : Book) (letter year : ℕ) (paid given : List ℕ) → Passed book (add_pattern letter year paid given) → sum (schedule letter (ages_of paid given)) ≡ whole
accepted_is_whole book letter year paid given p = payments_are_whole letter (ages_of paid given) p.incurred p.climbing

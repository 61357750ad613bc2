-- Which of questions 7 to 14 LINE, PATT and YEAR meet, whatever the book: those that document 01 puts to them, and no other.
-- Assumes nothing.
use Rattle.std.specs.Prelude.{is_some}
use mathlib.Core.Bool.{not}
use mathlib.Core.Path.{◌≡◌, refl}
use mathlib.Core.List.{List, [], ◌∷◌}
use Prim.Native.Nat.{ℕ}
use lib.IntN.{ℤ}
use Rattle.model.specs.Book.{Book}
use Rattle.model.specs.Call.{declare, add_pattern, close_year}
use Rattle.model.specs.Question.{is_in_turn, has_incurred, climbs, has_patterns, book_questions, first_no}

pub line_meets : (book : Book) (letter opening : ℕ) → first_no (book_questions book (declare letter opening)) ≡ first_no ((7, not (is_some (book.lines letter).opening)) ∷ [])
unfolding book_questions
line_meets book letter opening = refl

pub pattern_meets : (book : Book) (letter year : ℕ) (paid incurred : List ℕ) → let call = add_pattern letter year paid incurred in
    first_no (book_questions book call) ≡ first_no ((8, is_some (book.lines letter).opening) ∷ (9, is_some (book.rates year)) ∷ (10, is_in_turn book call) ∷ (11, has_incurred call) ∷ (12, climbs call) ∷ [])
unfolding book_questions
pattern_meets book letter year paid incurred = refl

pub year_meets : (book : Book) (letter year : ℕ) (paid : List ℤ) (unpaid tabular : List ℕ) → let call = close_year letter year paid unpaid tabular in
    first_no (book_questions book call) ≡ first_no ((8, is_some (book.lines letter).opening) ∷ (10, is_in_turn book call) ∷ (13, has_patterns book call) ∷ [])
unfolding book_questions
year_meets book letter year paid unpaid tabular = refl

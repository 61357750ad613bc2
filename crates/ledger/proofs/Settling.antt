-- From a question's answer to what a call promises: refusals, and a call that goes on to questions 7 to 13.
-- Assumes nothing.
use Rattle.std.specs.Prelude.{Option, None, Some}
use mathlib.Core.Bool.{Bool, true, false}
use mathlib.Core.List.{List}
use mathlib.Core.Path.{◌≡◌, refl, sym, ◌∙◌}
use Prim.Native.Nat.{ℕ}
use Rattle.model.specs.Book as model
use Rattle.model.specs.Call.{Call}
use Rattle.model.specs.Letter.{covered}
use Rattle.model.specs.Question.{Sound, has_letter, has_lengths, is_within_limits, call_questions, book_questions, first_no}
use Rattle.model.specs.Step.{Request, as_numbers, asked, questions, refuse, step}
use Rattle.kinds.proofs.Taken.{taken, outside}
use Rattle.letters.specs.Covered.{covered_letter}
use Rattle.state.specs.declared.book.Book.{Book}
use Rattle.refusal.specs.declared.Refusal.{Refusal}
use Rattle.refusal.specs.declared.Refusal.TheVariants.{UncoveredLetter, WrongCount, OutsideLimits}
use Rattle.ledger.specs.declared.answer.Outcome.{Outcome}
use Rattle.state.specs.View.{view}
use Rattle.ledger.specs.Answer.{refused_of}
use Rattle.refusal.specs.Number.{number_of}
use Rattle.ledger.specs.Does.{book_settled, store_settled, Settles, Settled, Does}

-- a request by its first question answered no
pub does : (book : Book) (request : Request) (store : List ℕ) (r : Outcome) (later : List ℕ) (first : Option ℕ) → first_no (questions (view book store) request) ≡ first → Settles first book (asked request) store r later → Does book request store r later
unfolding step
does book request store r later first e s = record { outcome = rw e s.outcome; own = rw e s.own; lent = rw e s.lent }

-- a refusal leaves the book but for its count, and the store
pub refused : (book : Book) (question : Refusal) (first : Option ℕ) (call : Call) (store : List ℕ) (r : Outcome) → first ≡ Some (number_of question) → r ≡ refused_of book question → Settles first book call store r store
unfolding refuse book_settled store_settled
refused book question first call store r e er = rw (e, er) record { outcome = refl; own = refl; lent = refl }

-- questions 3, 4 and 6 of a call with numbers
module _ (book : model.Book) (call : Call) where
  letter_no : has_letter call ≡ false → first_no (questions book (as_numbers call)) ≡ Some 3
  unfolding questions call_questions
  letter_no e = rw e

  count_no : has_letter call ≡ true → has_lengths call ≡ false → first_no (questions book (as_numbers call)) ≡ Some 4
  unfolding questions call_questions
  count_no l e = rw (l, e)

  limits_no : has_letter call ≡ true → has_lengths call ≡ true → is_within_limits call ≡ false → first_no (questions book (as_numbers call)) ≡ Some 6
  unfolding questions call_questions
  limits_no l n e = rw (l, n, e)

  pub sound_on : Sound call → first_no (questions book (as_numbers call)) ≡ first_no (book_questions book call)
  unfolding questions call_questions
  sound_on s = rw (s.letter, s.lengths, s.limits)

-- a field as a covered letter
module _ (letter : ℕ) (l : Option ℕ) (el : l ≡ covered_letter letter) where
  pub letter_none : l ≡ None → covered letter ≡ false
  letter_none e = outside covered letter (sym el ∙ e)

  pub letter_taken : (k : ℕ) → l ≡ Some k → (covered letter ≡ true) × (k ≡ letter)
  letter_taken k ek = taken covered letter k (sym el ∙ ek)

module _ (book : Book) (call : Call) (store : List ℕ) (r : Outcome) where
  module _ (lettered : Bool) (el : lettered ≡ has_letter call) where
    pub letter_refused : lettered ≡ false → r ≡ refused_of book UncoveredLetter → Does book (as_numbers call) store r store
    letter_refused l er = does book (as_numbers call) store r store (Some 3) (letter_no (view book store) call (sym el ∙ l)) (refused book UncoveredLetter (Some 3) call store r refl er)

    module _ (l : lettered ≡ true) (counted : Bool) (en : counted ≡ has_lengths call) where
      pub count_refused : counted ≡ false → r ≡ refused_of book WrongCount → Does book (as_numbers call) store r store
      count_refused n er = does book (as_numbers call) store r store (Some 4) (count_no (view book store) call (sym el ∙ l) (sym en ∙ n)) (refused book WrongCount (Some 4) call store r refl er)

      pub limits_refused : counted ≡ true → (limited : Bool) → limited ≡ is_within_limits call → limited ≡ false → r ≡ refused_of book OutsideLimits → Does book (as_numbers call) store r store
      limits_refused n limited em m er =
          does book (as_numbers call) store r store (Some 6) (limits_no (view book store) call (sym el ∙ l) (sym en ∙ n) (sym em ∙ m)) (refused book OutsideLimits (Some 6) call store r refl er)

  pub goes_on : Sound call → (later : List ℕ) → Settled book call store r later → Does book (as_numbers call) store r later
  goes_on s later h = does book (as_numbers call) store r later (first_no (book_questions (view book store) call)) (sound_on (view book store) call s) h

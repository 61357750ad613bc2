-- SUM.
-- Assumes nothing.
use Rattle.std.specs.Prelude.{if◌then◌else◌, Option, None, Some, is_some}
use mathlib.Core.Bool.{Bool, true, false, not}
use mathlib.Core.List.{List}
use mathlib.Core.Path.{◌≡◌, refl, sym, ap, ◌∙◌}
use Prim.Native.Nat.{ℕ}
use Rattle.model.specs.Call.{totals}
use Rattle.model.specs.Question.{book_questions, first_no}
use Rattle.model.specs.Step.{as_numbers, accept}
use Rattle.letters.specs.Covered.{covered_letter}
use Rattle.line_limits.specs.declared.line.Line.{Line}
use Rattle.line_limits.specs.Line.{declared_opening}
use Rattle.line_limits.specs.declared.totals.Totals.{Totals}
use Rattle.refusal.specs.declared.Refusal.TheVariants as refusal
use Rattle.state.specs.declared.book.Book.{Book}
use Rattle.state.specs.Lines.{line_at}
use Rattle.state.specs.Totals.{totals_at}
use Rattle.state.specs.View.{line_of, view}
use Rattle.state.proofs.Views.{line_is}
use Rattle.ledger.specs.declared.answer.Answer.TheVariants as answer
use Rattle.ledger.specs.declared.answer.Outcome.{Outcome}
use Rattle.ledger.specs.Answer.{refused_of, accepted_of}
use Rattle.ledger.specs.Does.{book_settled, store_settled, Settled, Does}
use Rattle.ledger.proofs.Settling.{refused, letter_none, letter_taken, letter_refused, goes_on}

-- question 3
module _ (letter : ℕ) (l : Option ℕ) (el : l ≡ covered_letter letter) (book : Book) (store : List ℕ) (r : Outcome) where
  pub uncovered : l ≡ None → r ≡ refused_of book refusal.UncoveredLetter → Does book (as_numbers (totals letter)) store r store
  uncovered e er = letter_refused book (totals letter) store r false (sym (letter_none letter l el e)) refl er

  pub letter_on : (k : ℕ) → l ≡ Some k → Settled book (totals k) store r store → Does book (as_numbers (totals letter)) store r store
  letter_on k ek h =
      let t = letter_taken letter l el k ek in
      goes_on book (totals letter) store r (record { letter = t.0; lengths = refl; limits = refl }) store (rw t.1 at h)

-- question 8: k is the letter
module _ (book : Book) (letter : ℕ) (store : List ℕ) (k : ℕ) (ek : k ≡ letter) (line : Line) (ei : line ≡ line_at store k) (r : Outcome) where
  here : line ≡ line_at store letter
  here = rw (← ek) ei

  first_is : (t : Bool) → is_some (declared_opening line) ≡ t → first_no (book_questions (view book store) (totals letter)) ≡ (if t then None else Some 8)
  unfolding book_questions line_of
  first_is true e = rw (line_is store letter line here, e)
  first_is false e = rw (line_is store letter line here, e)

  module _ (o : Option ℕ) (eo : o ≡ declared_opening line) (missing : Bool) (em : is_some o ≡ not missing) where
    missing_is : is_some (declared_opening line) ≡ not missing
    missing_is = ap (λ (x : Option ℕ). is_some x) (sym eo) ∙ em

    pub undeclared : missing ≡ true → r ≡ refused_of book refusal.NotDeclared → Settled book (totals letter) store r store
    undeclared m er = refused book refusal.NotDeclared (first_no (book_questions (view book store) (totals letter))) (totals letter) store r (first_is false (missing_is ∙ ap not m)) er

    -- the figures, as code has them
    pub summed : missing ≡ false → (figures : Totals) → figures ≡ totals_at store k line.closed
        → r ≡ accepted_of book (answer.Sum k figures) → Settled book (totals letter) store r store
    unfolding accept book_settled store_settled line_of
    summed m figures ef er =
        rw (first_is true (missing_is ∙ ap not m), er, ef, ek)
        record {
          outcome = rw (line_is store letter line here);
          own = refl;
          lent = refl;
        }

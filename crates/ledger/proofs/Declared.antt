-- LINE.
-- Assumes nothing.
use Rattle.std.specs.Prelude.{if◌then◌else◌, Option, None, Some, is_some}
use mathlib.Core.Bool.{Bool, true, false}
use mathlib.Core.List.{List}
use mathlib.Core.Path.{◌≡◌, refl, sym, ap, ◌∙◌}
use Prim.Native.Nat.{ℕ}
use borrow.Author.Tests.{leb-true}
use lib.ListN.{length}
use Rattle.model.specs.Kind.{is_opening}
use Rattle.model.specs.Letter.{covered}
use Rattle.model.specs.Call.{declare}
use Rattle.model.specs.Question.{book_questions, first_no}
use Rattle.model.specs.Step.{as_numbers, accept}
use Rattle.kinds.specs.Within.{within}
use Rattle.kinds.proofs.Taken.{taken, outside}
use Rattle.letters.specs.Covered.{covered_letter}
use Rattle.state.specs.declared.book.Book.{Book}
use Rattle.line_limits.specs.declared.line.Line.{Line}
use Rattle.line_limits.specs.declared.line.Patterns.{Patterns}
use Rattle.line_limits.specs.Line.{declared_opening}
use Rattle.refusal.specs.declared.Refusal.TheVariants as refusal
use Rattle.ledger.specs.declared.answer.Answer.TheVariants as answer
use Rattle.ledger.specs.declared.answer.Outcome.{Outcome}
use Rattle.state.specs.Store.{size}
use Rattle.state.specs.Lines.{line_at, new_line, with_line_of}
use Rattle.state.specs.Patterns.{kept_back}
use Rattle.state.specs.View.{line_of, view}
use Rattle.ledger.specs.Answer.{refused_of, accepted_of}
use Rattle.ledger.specs.Does.{book_settled, store_settled, Settled, Does}
use Rattle.ledger.proofs.Settling.{refused, letter_none, letter_taken, letter_refused, limits_refused, goes_on}
use Rattle.state.proofs.Limited.{new_limited}
use Rattle.state.proofs.LinePieces.{register_same}
use Rattle.state.proofs.TotalPieces.{zeros_where_none_closed}
use Rattle.state.proofs.Views.{lines_put, line_is}

-- questions 3 and 6
module _ (letter opening : ℕ) (l : Option ℕ) (el : l ≡ covered_letter letter) (book : Book) (store : List ℕ) (r : Outcome) where
  pub uncovered : l ≡ None → r ≡ refused_of book refusal.UncoveredLetter → Does book (as_numbers (declare letter opening)) store r store
  uncovered e er = letter_refused book (declare letter opening) store r false (sym (letter_none letter l el e)) refl er

  module _ (k : ℕ) (ek : l ≡ Some k) (o : Option ℕ) (eo : o ≡ within is_opening opening) where
    pub opening_none : o ≡ None → r ≡ refused_of book refusal.OutsideLimits → Does book (as_numbers (declare letter opening)) store r store
    opening_none e er =
        let t = letter_taken letter l el k ek in
        limits_refused book (declare letter opening) store r true (sym t.0) refl true refl refl false (sym (outside is_opening opening (sym eo ∙ e))) refl er

    pub opening_on : (n : ℕ) → o ≡ Some n → (later : List ℕ) → Settled book (declare k n) store r later → Does book (as_numbers (declare letter opening)) store r later
    opening_on n en later h =
        let t = letter_taken letter l el k ek in
        let i = taken is_opening opening n (sym eo ∙ en) in
        goes_on book (declare letter opening) store r (record { letter = t.0; lengths = refl; limits = i.0 }) later (rw (t.1, i.1) at h)

-- question 7: k is the letter
module _ (book : Book) (letter opening : ℕ) (store : List ℕ) (k : ℕ) (ek : k ≡ letter) (line : Line) (ei : line ≡ line_at store k) (r : Outcome) where
  here : line ≡ line_at store letter
  here = rw (← ek) ei

  first_is : (t : Bool) → is_some (declared_opening line) ≡ t → first_no (book_questions (view book store) (declare letter opening)) ≡ (if t then Some 7 else None)
  unfolding book_questions line_of
  first_is true e = rw (line_is store letter line here, e)
  first_is false e = rw (line_is store letter line here, e)

  module _ (o : Option ℕ) (eo : o ≡ declared_opening line) (given : Bool) (eg : given ≡ is_some o) where
    given_is : is_some (declared_opening line) ≡ given
    given_is = ap (λ (x : Option ℕ). is_some x) (sym eo) ∙ sym eg

    pub given_refused : given ≡ true → r ≡ refused_of book refusal.AlreadyGiven → Settled book (declare letter opening) store r store
    given_refused d er = refused book refusal.AlreadyGiven (first_no (book_questions (view book store) (declare letter opening))) (declare letter opening) store r (first_is true (given_is ∙ d)) er

    -- n is the opening, and the rest of the line is as its default
    pub declared : given ≡ false → (n : ℕ) → r ≡ accepted_of book (answer.Line k n) → n ≡ opening → length store ≡ size → covered k ≡ true → is_opening n ≡ true
        → (later : List ℕ) (closed : Option ℕ) (closing : ℕ) (patterns : Patterns) → later ≡ with_line_of store k (record { declared = true; opening = n; closed = closed; closing = closing; patterns = patterns }) → closed ≡ None → closing ≡ 0 → patterns.last ≡ 0 → patterns.count ≡ 0 → Settled book (declare letter opening) store r later
    unfolding accept book_settled store_settled line_of kept_back
    declared d n er en long c within later closed closing patterns el ec es ep ecount =
        let ck : covered letter ≡ true = rw (← ek) c in
        let oo : is_opening opening ≡ true = rw (← en) within in
        let none_kept : patterns ≡ record { last = 0; count = 0 } = λ i. record { last = ep i; count = ecount i } in
        rw (first_is false (given_is ∙ d), er, el, ec, es, none_kept, ek, en)
        record {
          outcome = rw (register_same store letter (new_line opening) ck long, lines_put store letter (new_line opening) ck long (new_limited letter opening (leb-true opening 100000000000 oo)), zeros_where_none_closed store letter);
          own = refl;
          lent = refl;
        }

-- YEAR: its questions.
-- Assumes nothing.
use Rattle.std.specs.Prelude.{if◌then◌else◌, Option, None, Some, is_some}
use mathlib.Core.Bool.{Bool, true, false, not, ◌&&◌}
use mathlib.Core.List.{List}
use mathlib.Core.Path.{◌≡◌, sym, ap, ◌∙◌}
use Prim.Native.Nat.{ℕ, suc}
use borrow.Author.Tests.{eqb-true}
use lib.Dec.{eqb}
use lib.IntN.{ℤ}
use lib.ListN.{length, take}
use Rattle.model.specs.Letter.{covered, ages}
use Rattle.model.specs.Row.{rows_of}
use Rattle.model.specs.Call.{Call, close_year}
use Rattle.model.specs.Question.{Sound, has_lengths, is_within_limits, have_kept, book_questions, first_no}
use Rattle.model.proofs.Lists.{and_left, and_right}
use Rattle.state.specs.declared.book.Book.{Book}
use Rattle.line_limits.specs.declared.line.Line.{Line}
use Rattle.line_limits.specs.declared.line.Patterns.{Patterns}
use Rattle.line_limits.specs.Line.{declared_opening}
use Rattle.refusal.specs.declared.Refusal.TheVariants as refusal
use Rattle.ledger.specs.declared.answer.Outcome.{Outcome}
use Rattle.state.specs.Lines.{line_at}
use Rattle.closings.specs.Rows.{have_patterns}
use Rattle.state.specs.View.{line_of, view}
use Rattle.ledger.specs.Answer.{refused_of}
use Rattle.ledger.specs.Does.{Settled}
use Rattle.closings.specs.CloseYear.{due, Turned, Passed}
use Rattle.ledger.proofs.Settling.{refused}
use Rattle.state.proofs.Limited.{line_limited}
use Rattle.state.proofs.Views.{line_is}
use Rattle.closings.proofs.Turns.{due_is, due_kept, due_last}
use Rattle.closings.proofs.RowPatterns.{have_patterns_is}

-- questions 3, 4 and 6
pub year_sound : (letter year : ℕ) (paid : List ℤ) (unpaid tabular : List ℕ) (lettered : Bool) → lettered ≡ covered letter → lettered ≡ true
    → (counted : Bool) → counted ≡ has_lengths (close_year letter 0 paid unpaid tabular) → counted ≡ true
    → (limited : Bool) → limited ≡ is_within_limits (close_year 0 year paid unpaid tabular) → limited ≡ true → Sound (close_year letter year paid unpaid tabular)
year_sound letter year paid unpaid tabular lettered el l counted ec n limited em m = record { letter = sym el ∙ l; lengths = sym ec ∙ n; limits = sym em ∙ m }

-- the rows of a sound YEAR
module _ (letter year : ℕ) (paid : List ℤ) (unpaid tabular : List ℕ) (sound : Sound (close_year letter year paid unpaid tabular)) where
  abbrev rows : ℕ
  rows = suc (ages letter)

  paid_rows : length paid ≡ rows
  paid_rows = eqb-true (length paid) rows (and_left (eqb (length paid) rows) (eqb (length unpaid) rows) (and_left (eqb (length paid) rows && eqb (length unpaid) rows) (eqb (length tabular) rows) sound.lengths))

  unpaid_rows : length unpaid ≡ rows
  unpaid_rows = eqb-true (length unpaid) rows (and_right (eqb (length paid) rows) (eqb (length unpaid) rows) (and_left (eqb (length paid) rows && eqb (length unpaid) rows) (eqb (length tabular) rows) sound.lengths))

  tabular_rows : length tabular ≡ rows
  tabular_rows = eqb-true (length tabular) rows (and_right (eqb (length paid) rows && eqb (length unpaid) rows) (eqb (length tabular) rows) sound.lengths)

-- questions 8, 10 and 13, by the code's line
module _ (book : Book) (store : List ℕ) (letter year : ℕ) (paid : List ℤ) (unpaid tabular : List ℕ) (sound : Sound (close_year letter year paid unpaid tabular)) (line : Line) (here : line ≡ line_at store letter) where
  abbrev call : Call
  call = close_year letter year paid unpaid tabular

  first_is : first_no (book_questions (view book store) call)
      ≡ (if is_some (declared_opening line) then (if is_some (due line year) then (if have_kept (line_of store letter line).kept year 0 (take (ages letter) (rows_of paid unpaid tabular)) then None else Some 13) else Some 10) else Some 8)
  unfolding book_questions line_of
  first_is = rw (line_is store letter line here, due_is store letter line year)

  patterns_are : (p : Patterns) → due line year ≡ Some p → have_kept (line_of store letter line).kept year 0 (take (ages letter) (rows_of paid unpaid tabular)) ≡ have_patterns p.count (ages letter) unpaid tabular
  patterns_are p is_due =
      rw (due_last year line p is_due)
      (sym (have_patterns_is store letter line (line_limited store letter line here) p (due_kept year line p is_due) paid unpaid tabular (paid_rows letter year paid unpaid tabular sound) (unpaid_rows letter year paid unpaid tabular sound) (tabular_rows letter year paid unpaid tabular sound)))

  module _ (o : Option ℕ) (eo : o ≡ declared_opening line) (missing : Bool) (em : is_some o ≡ not missing) where
    missing_is : is_some (declared_opening line) ≡ not missing
    missing_is = ap (λ (x : Option ℕ). is_some x) (sym eo) ∙ em

    module _ (found : Option Patterns) (ef : found ≡ due line year) (m : missing ≡ false) where
      pub turned : (p : Patterns) → found ≡ Some p → Turned store line p letter year paid unpaid tabular
      turned p ep = record { sound = sound; here = here; declared = missing_is ∙ ap not m; is_due = sym ef ∙ ep }

      pub out_of_turn : found ≡ None → (r : Outcome) → r ≡ refused_of book refusal.OutOfTurn → Settled book call store r store
      out_of_turn en r er = refused book refusal.OutOfTurn (first_no (book_questions (view book store) call)) call store r (first_is ∙ rw (← ef, en, missing_is, m)) er

    pub undeclared : missing ≡ true → (r : Outcome) → r ≡ refused_of book refusal.NotDeclared → Settled book call store r store
    undeclared m r er = refused book refusal.NotDeclared (first_no (book_questions (view book store) call)) call store r (first_is ∙ rw (missing_is, m)) er

module _ (store : List ℕ) (line : Line) (p : Patterns) (letter year : ℕ) (paid : List ℤ) (unpaid tabular : List ℕ) (pre : Turned store line p letter year paid unpaid tabular) where
  by_patterns : (book : Book) (has : Bool) → has ≡ have_patterns p.count (ages letter) unpaid tabular → first_no (book_questions (view book store) (close_year letter year paid unpaid tabular)) ≡ (if has then None else Some 13)
  by_patterns book has eh =
      first_is book store letter year paid unpaid tabular pre.sound line pre.here
      ∙ rw (patterns_are book store letter year paid unpaid tabular pre.sound line pre.here p pre.is_due, ← eh, pre.is_due, pre.declared)

  module _ (has : Bool) (eh : has ≡ have_patterns p.count (ages letter) unpaid tabular) where
    pub no_pattern : has ≡ false → (book : Book) (r : Outcome) → r ≡ refused_of book refusal.NoPattern → Settled book (close_year letter year paid unpaid tabular) store r store
    no_pattern h book r er =
        refused book refusal.NoPattern (first_no (book_questions (view book store) (close_year letter year paid unpaid tabular))) (close_year letter year paid unpaid tabular) store r (by_patterns book has eh ∙ rw h) er

    pub all_passed : has ≡ true → Passed store line p letter year paid unpaid tabular
    all_passed h = record { turned = pre; all_kept = sym eh ∙ h }

pub passes : (store : List ℕ) (line : Line) (p : Patterns) (letter year : ℕ) (paid : List ℤ) (unpaid tabular : List ℕ) → Passed store line p letter year paid unpaid tabular → (book : Book)
    → first_no (book_questions (view book store) (close_year letter year paid unpaid tabular)) ≡ None
passes store line p letter year paid unpaid tabular pre book = by_patterns store line p letter year paid unpaid tabular pre.turned book true (sym pre.all_kept)

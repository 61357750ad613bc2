-- MIDT.
-- Assumes nothing.
use Rattle.std.specs.Prelude.{if◌then◌else◌, Option, None, Some, is_some}
use mathlib.Core.Bool.{Bool, true, false, ◌&&◌}
use mathlib.Core.List.{List}
use mathlib.Core.Path.{◌≡◌, refl, sym, ◌∙◌}
use Prim.Native.Nat.{ℕ}
use native.Mathlib.Omega.{arith}
use borrow.Author.Tests.{leb-true}
use lib.ListN.{length}
use Rattle.model.specs.Kind.{is_rate}
use Rattle.model.specs.Call.{register_month}
use Rattle.model.specs.Question.{is_within_limits, book_questions, first_no}
use Rattle.model.specs.Step.{as_numbers, accept}
use Rattle.kinds.specs.Within.{within}
use Rattle.kinds.proofs.Taken.{taken, outside}
use Rattle.refusal.specs.declared.Refusal.TheVariants as refusal
use Rattle.state.specs.declared.book.Book.{Book}
use Rattle.state.specs.Store.{size}
use Rattle.state.specs.Months.{is_date, register_of, with_month_of}
use Rattle.state.specs.View.{view}
use Rattle.state.proofs.MonthPieces.{register_put}
use Rattle.state.proofs.Views.{month_unseen}
use Rattle.ledger.specs.declared.answer.Answer.TheVariants as answer
use Rattle.ledger.specs.declared.answer.Outcome.{Outcome}
use Rattle.ledger.specs.Answer.{refused_of, accepted_of}
use Rattle.ledger.specs.Does.{book_settled, store_settled, Settled, Does}
use Rattle.ledger.proofs.Settling.{refused, limits_refused, goes_on}

-- question 6
module _ (year month n : ℕ) (x : Option ℕ) (ex : x ≡ within is_rate n) (book : Book) (store : List ℕ) (r : Outcome) where
  module _ (t : Bool) (et : t ≡ is_date year month) where
    pub month_on : (v : ℕ) → x ≡ Some v → t ≡ true → (later : List ℕ) → Settled book (register_month year month v) store r later → Does book (as_numbers (register_month year month n)) store r later
    month_on v ev e later h =
        let d : is_date year month ≡ true = sym et ∙ e in
        let k = taken is_rate n v (sym ex ∙ ev) in
        goes_on book (register_month year month n) store r (record { letter = refl; lengths = refl; limits = rw (d, k.0) }) later (rw k.1 at h)

    pub date_refused : t ≡ false → r ≡ refused_of book refusal.OutsideLimits → Does book (as_numbers (register_month year month n)) store r store
    date_refused e er =
        let d : is_date year month ≡ false = sym et ∙ e in
        limits_refused book (register_month year month n) store r true refl refl true refl refl (is_within_limits (register_month year month n)) refl (rw d) er

  pub rate_refused : x ≡ None → r ≡ refused_of book refusal.OutsideLimits → Does book (as_numbers (register_month year month n)) store r store
  rate_refused eo er = limits_refused book (register_month year month n) store r true refl refl true refl refl (is_within_limits (register_month year month n)) refl (and_false (is_date year month) (is_rate n) (outside is_rate n (sym ex ∙ eo))) er
    where
      and_false : (a b : Bool) → b ≡ false → (a && b) ≡ false
      and_false true b e = e
      and_false false b e = refl

-- question 7
module _ (book : Book) (year month n : ℕ) (store : List ℕ) (before : Option ℕ) (eb : before ≡ register_of store year month) (r : Outcome) where
  first_is : (o : Option ℕ) → register_of store year month ≡ o → first_no (book_questions (view book store) (register_month year month n)) ≡ (if is_some o then Some 7 else None)
  unfolding book_questions
  first_is None e = rw e
  first_is (Some old) e = rw e

  pub month_given : (old : ℕ) → before ≡ Some old → r ≡ refused_of book refusal.AlreadyGiven → Settled book (register_month year month n) store r store
  month_given old e er =
      refused book refusal.AlreadyGiven (first_no (book_questions (view book store) (register_month year month n))) (register_month year month n) store r (first_is (Some old) (sym eb ∙ e)) er

  pub month_registered : is_date year month ≡ true → before ≡ None → length store ≡ size → (later : List ℕ) → later ≡ with_month_of store year month n → (k : ℕ) → k ≡ n → is_rate k ≡ true → r ≡ accepted_of book (answer.MidTerm year month k) → Settled book (register_month year month n) store r later
  unfolding accept book_settled store_settled
  month_registered d e cells later el k ek small er =
      rw (first_is None (sym eb ∙ e), er, el, ek)
      record {
        outcome = rw (register_put store year month n d cells (omega (arith, ek, leb-true k 2500 small)), month_unseen store year month n d cells (omega (arith, ek, leb-true k 2500 small)));
        own = refl;
        lent = refl;
      }

-- A record's bytes: questions 1 to 5 by the reader, and then those of the call with numbers.
-- Assumes nothing.
use Rattle.std.specs.Prelude.{if◌then◌else◌, Option, None, Some}
use mathlib.Core.Bool.{Bool, true, false}
use mathlib.Core.List.{List, [], ◌∷◌, ◌++◌}
use mathlib.Core.Path.{◌≡◌, refl, sym, ap, ◌∙◌}
use Prim.Native.Nat.{ℕ}
use Rattle.model.specs.Book as model
use Rattle.model.specs.Call.{Call}
use Rattle.model.specs.Question.{line_questions, call_questions, book_questions, first_no}
use Rattle.model.specs.History.{or_else}
use Rattle.model.specs.Step.{Request, as_bytes, as_numbers, asked, questions, call_of, step}
use Rattle.record.specs.Asks.{Asks}
use Rattle.state.specs.declared.book.Book.{Book}
use Rattle.state.specs.View.{view}
use Rattle.refusal.specs.declared.Refusal.{Refusal}
use Rattle.ledger.specs.declared.answer.Outcome.{Outcome}
use Rattle.ledger.specs.Answer.{refused_of}
use Rattle.refusal.specs.Number.{number_of}
use Rattle.ledger.specs.Does.{book_settled, store_settled, Settles, Does}
use Rattle.ledger.proofs.Settling.{does, refused}

-- a refusal does not look at the call
same_settles : (first : Option ℕ) (book : Book) (call other : Call) (store : List ℕ) (r : Outcome) (later : List ℕ) → (first ≡ None → call ≡ other) → Settles first book call store r later → Settles first book other store r later
unfolding book_settled store_settled
same_settles None book call other store r later e s = rw (e refl) at s
same_settles (Some question) book call other store r later e s = record { outcome = s.outcome; own = s.own; lent = s.lent }

-- two requests with the same question answered no, and with the same call where none is
same_does : (book : Book) (request other : Request) (store : List ℕ) (r : Outcome) (later : List ℕ) → first_no (questions (view book store) request) ≡ first_no (questions (view book store) other) → (first_no (questions (view book store) other) ≡ None → asked request ≡ asked other)
    → Does book request store r later → Does book other store r later
unfolding step
same_does book request other store r later e a h =
    let first : Option ℕ = first_no (questions (view book store) other) in
    let s : Settles first book (asked request) store r later = rw (← e) record { outcome = h.outcome; own = h.own; lent = h.lent } in
    does book other store r later first refl (same_settles first book (asked request) (asked other) store r later a s)

-- the first no of two tables, one after the other
either : (t : Bool) (n : ℕ) (a b c : Option ℕ) → a ≡ or_else b c → (if t then a else Some n) ≡ or_else (if t then b else Some n) c
either true n a b c e = e
either false n a b c e = refl

first_of_both : (qs more : List (ℕ × Bool)) → first_no (qs ++ more) ≡ or_else (first_no qs) (first_no more)
first_of_both [] more = refl
first_of_both (q ∷ qs) more = either q.1 q.0 (first_no (qs ++ more)) (first_no qs) (first_no more) (first_of_both qs more)

first_none : (a b : Option ℕ) → or_else a b ≡ None → a ≡ None
first_none None b e = refl
first_none (Some n) b e = e

or_same : (a b c : Option ℕ) → (a ≡ None → b ≡ c) → or_else a b ≡ or_else a c
or_same None b c e = e refl
or_same (Some n) b c e = refl

module _ (line : List ℕ) (book : Book) (store : List ℕ) (r : Outcome) where
  pub line_refused : (refusal : Refusal) → first_no (line_questions line) ≡ Some (number_of refusal) → r ≡ refused_of book refusal → Does book (as_bytes line) store r store
  unfolding questions
  line_refused refusal e er =
      does book (as_bytes line) store r store (Some (number_of refusal))
      (rw (first_of_both (line_questions line) (book_questions (view book store) (call_of line)), e))
      (refused book refusal (Some (number_of refusal)) (call_of line) store r refl er)

  module _ (call : Call) (a : Asks line call) where
    abbrev shown : model.Book
    shown = view book store

    line_first : first_no (questions shown (as_bytes line)) ≡ or_else (first_no (line_questions line)) (first_no (book_questions shown (call_of line)))
    unfolding questions
    line_first = first_of_both (line_questions line) (book_questions shown (call_of line))

    call_first : first_no (questions shown (as_numbers call)) ≡ or_else (first_no (line_questions line)) (first_no (book_questions shown call))
    unfolding questions
    call_first = rw a.first (first_of_both (call_questions call) (book_questions shown call))

    pub line_asks : (later : List ℕ) → Does book (as_numbers call) store r later → Does book (as_bytes line) store r later
    line_asks later h =
        same_does book (as_numbers call) (as_bytes line) store r later
        (call_first ∙ or_same (first_no (line_questions line)) (first_no (book_questions shown call)) (first_no (book_questions shown (call_of line))) (λ e. ap (λ (c : Call). first_no (book_questions shown c)) (a.same e)) ∙ sym line_first)
        (λ e. a.same (first_none (first_no (line_questions line)) (first_no (book_questions shown (call_of line))) (sym line_first ∙ e)))
        h

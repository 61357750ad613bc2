-- F-3: with any limit of 418 bytes or more the same lines are accepted, and only the number of a longer line's refusal differs.
-- Assumes nothing.
use Rattle.std.specs.Prelude.{if◌then◌else◌, Option, None, Some, is_some}
use mathlib.Core.Path.{◌≡◌, refl, sym, ap, ◌∙◌}
use mathlib.Core.Bool.{Bool, true, false}
use mathlib.Core.List.{List, [], ◌∷◌, ◌++◌}
use mathlib.Core.Logic.{⊎_elim}
use Prim.Native.Nat.{ℕ, ◌-◌, ◌≤◌, ◌<◌}
use native.Mathlib.Omega.{arith}
use native.Mathlib.Nat.{eq-zero-or-pos}
use borrow.Author.Tests.{le-leb, lt-leb, ltb-true}
use lib.Dec.{ltb}
use lib.ListN.{length, drop}
use Rattle.std.specs.List.{list_all}
use Rattle.model.specs.Book.{Book}
use Rattle.model.specs.Call.{Call}
use Rattle.model.specs.Question.{longest, line_questions, book_questions, first_no}
use Rattle.model.specs.Step.{Request, as_bytes, as_numbers, call_of, questions, refuse, accept, settle, step}
use Rattle.model.specs.Run.{after}
use Rattle.model.specs.Limit.{questions_within, step_within, after_within}
use Rattle.model.proofs.Lists.{true≢false, Some≢None, and_left, and_right, is_given}
use Rattle.model.proofs.Steps.{step_is, first_is_length, long_line}
use Rattle.model.proofs.Longest.{at_most_longest}

by_size : {P : Type 0} (n limit : ℕ) → (n ≤ limit → P) → (limit < n → P) → P
by_size n limit short long =
    ⊎_elim
    (λ (z : n - limit ≡ 0). short (omega arith))
    (λ (p : 0 < n - limit). long (omega arith))
    (eq-zero-or-pos (n - limit))

-- where no question has a no, none of the first ones has
none_before : (qs more : List (ℕ × Bool)) → first_no (qs ++ more) ≡ None → first_no qs ≡ None
none_before [] more e = refl
none_before (q ∷ qs) more e = by_answer q.1 e (none_before qs more)
  where
    by_answer : (t : Bool) → (if t then first_no (qs ++ more) else Some q.0) ≡ None → (first_no (qs ++ more) ≡ None → first_no qs ≡ None) → (if t then first_no qs else Some q.0) ≡ None
    by_answer true h rest = rest h
    by_answer false h rest = h

-- where every question's number is past 1, so is that of the first no
abbrev is_later : (ℕ × Bool) → Bool
is_later q = ltb 1 q.0

later_no : (qs : List (ℕ × Bool)) → list_all is_later qs ≡ true → (n : ℕ) → first_no qs ≡ Some n → 1 < n
later_no [] h n e = absurd (Some≢None n (sym e))
later_no (q ∷ qs) h n e = by_answer q.1 e (later_no qs (and_right (is_later q) (list_all is_later qs) h) n)
  where
    by_answer : (t : Bool) → (if t then first_no qs else Some q.0) ≡ Some n → (first_no qs ≡ Some n → 1 < n) → 1 < n
    by_answer true g rest = rest g
    by_answer false g rest = let same : q.0 ≡ n = cc in omega (arith, same, ltb-true 1 q.0 (and_left (is_later q) (list_all is_later qs) h))

-- some or none, the same: none, where the other is none
both_none : (o p : Option ℕ) → is_some o ≡ is_some p → o ≡ None → p ≡ None
both_none o None e n = refl
both_none o (Some q) e n = absurd (true≢false (sym e ∙ ap is_some n))

not_none : (o : Option ℕ) → (o ≡ None → ⊥) → is_some o ≡ true
not_none None h = absurd (h refl)
not_none (Some q) h = refl

-- a refusal leaves the same book, whatever its number
same_refusals : (book : Book) (call : Call) (o : Option ℕ) → is_some o ≡ true → (settle o book call).book ≡ (refuse book 1).book
unfolding refuse
same_refusals book call None e = absurd (true≢false (sym e))
same_refusals book call (Some q) e = refl

module _ (limit : ℕ) (book : Book) (line : List ℕ) where
  -- the limit is in question 1 alone: up to it the later questions decide, and past it the answer is 1
  pub up_to_limit : length line ≤ limit → first_no (questions_within limit book line) ≡ first_no (drop 1 (questions book (as_bytes line)))
  up_to_limit short = rw (le-leb (length line) limit short)

  pub past_limit : limit < length line → first_no (questions_within limit book line) ≡ Some 1
  past_limit long = rw (lt-leb (length line) limit long)

  -- a line of more than 418 bytes is refused, whatever the limit and the book
  pub longer_is_refused : longest < length line → is_some (first_no (questions_within limit book line)) ≡ true
  unfolding questions line_questions
  longer_is_refused long =
      by_size (length line) limit
      (λ short. not_none (first_no (questions_within limit book line)) (λ e.
      omega (arith, at_most_longest line (none_before (drop 1 (line_questions line)) (book_questions book (call_of line)) (sym (up_to_limit short) ∙ e)))))
      (λ past. ap is_some (past_limit past))

  -- by a later question, where the limit lets it through
  pub got_later : longest < length line → length line ≤ limit → (n : ℕ) × ((step_within limit book (as_bytes line) ≡ refuse book n) × (1 < n))
  unfolding questions line_questions book_questions
  got_later long short =
      let first = is_given (first_no (questions_within limit book line)) (longer_is_refused long) in
      let later = later_no (drop 1 (questions book (as_bytes line))) refl first.0 (sym (up_to_limit short) ∙ first.1) in
      (first.0, (ap (λ (o : Option ℕ). settle o book (call_of line)) first.1, later))

module _ (limit : ℕ) (enough : longest ≤ limit) (book : Book) (line : List ℕ) where
  same_questions : length line ≤ longest → first_no (questions_within limit book line) ≡ first_no (questions book (as_bytes line))
  unfolding questions line_questions
  same_questions short = rw (le-leb (length line) limit (omega arith), le-leb (length line) longest short)

  -- a line of at most 418 bytes is answered and changes the book as it does with 418
  pub same_outcome : length line ≤ longest → step_within limit book (as_bytes line) ≡ step book (as_bytes line)
  same_outcome short = ap (λ (o : Option ℕ). settle o book (call_of line)) (same_questions short) ∙ sym (step_is book (as_bytes line) (first_no (questions book (as_bytes line))) refl)

  -- the same lines are refused, and so the same accepted
  pub same_refused : is_some (first_no (questions_within limit book line)) ≡ is_some (first_no (questions book (as_bytes line)))
  same_refused =
      by_size (length line) longest
      (λ short. ap is_some (same_questions short))
      (λ long. longer_is_refused limit book line long ∙ sym (ap is_some (first_is_length book line (lt-leb (length line) longest long))))

  -- a line of any length leaves the same book
  pub same_book : (step_within limit book (as_bytes line)).book ≡ (step book (as_bytes line)).book
  same_book =
      by_size (length line) longest
      (λ short. rw (same_outcome short))
      (λ long. rw (long_line book line long) (same_refusals book (call_of line) (first_no (questions_within limit book line)) (longer_is_refused limit book line long)))

-- and so does any list of records and calls
pub same_books : (limit : ℕ) → longest ≤ limit → (book : Book) (requests : List Request) → after_within limit book requests ≡ after book requests
unfolding after_within after
same_books limit enough book [] = refl
same_books limit enough book (as_bytes line ∷ requests) = rw (same_book limit enough book line) (same_books limit enough (step book (as_bytes line)).book requests)
same_books limit enough book (as_numbers call ∷ requests) = same_books limit enough (step book (as_numbers call)).book requests

-- of document 01's 1,024 bytes: "A longer line that got a later number now gets 1, and every line that was accepted still is."
pub record Moved (book : Book) (line : List ℕ) : Type 0 where
  pub later : longest < length line → length line ≤ 1024 → (n : ℕ) × ((step_within 1024 book (as_bytes line) ≡ refuse book n) × (1 < n))
  pub now : longest < length line → step book (as_bytes line) ≡ refuse book 1
  pub accepted : first_no (questions_within 1024 book line) ≡ None → step book (as_bytes line) ≡ accept book (call_of line)
  pub others : length line ≤ longest → step book (as_bytes line) ≡ step_within 1024 book (as_bytes line)

pub moved : (book : Book) (line : List ℕ) → Moved book line
moved book line =
    let before = first_no (questions_within 1024 book line) in
    let same = same_refused 1024 (omega arith) book line in
    record {
      later = got_later 1024 book line;
      now = long_line book line;
      accepted = λ e. step_is book (as_bytes line) None (both_none before (first_no (questions book (as_bytes line))) same e);
      others = λ short. sym (same_outcome 1024 (omega arith) book line short);
    }

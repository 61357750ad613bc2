-- F-3: the book with another limit in question 1, to say what 418 bytes change there (proofs/Limit.antt).
-- Assumes nothing: these are definitions.
use Rattle.std.specs.Prelude.{Bool, List, [], ◌∷◌, ℕ, leb, length, drop}
use Rattle.model.specs.Book.{Book}
use Rattle.model.specs.Question.{first_no}
use Rattle.model.specs.Step.{Request, as_bytes, as_numbers, call_of, questions, Outcome, settle, step}

-- the questions put to a line, the first with the limit that is given
abbrev pub questions_within : ℕ → Book → List ℕ → List (ℕ × Bool)
questions_within limit book line = (1, leb (length line) limit) ∷ drop 1 (questions book (as_bytes line))

-- what a request then does: question 1 is not put to a call with numbers
abbrev pub step_within : ℕ → Book → Request → Outcome
step_within limit book (as_bytes line) = settle (first_no (questions_within limit book line)) book (call_of line)
step_within limit book (as_numbers call) = step book (as_numbers call)

-- the last book of a list
unfoldable pub after_within : ℕ → Book → List Request → Book
after_within limit book [] = book
after_within limit book (request ∷ requests) = after_within limit (step_within limit book request).book requests

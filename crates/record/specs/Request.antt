-- What is read of a line: the request, and the two lists that the caller lent as they are left.
-- Assumes nothing: these are definitions.
use Rattle.std.specs.Prelude.{Bool, List, ◌≡◌, ℕ, take, if◌then◌else◌, Option, None, Some, is_some, Result, Ok, Err}
use Rattle.model.specs.Field.{fields, letter_in}
use Rattle.model.specs.Record.{Word, record_of, field_count, first_number}
use Rattle.model.specs.Question.{line_questions, first_no}
use Rattle.refusal.specs.declared.Refusal.{Refusal}
use Rattle.refusal.specs.declared.Refusal.TheVariants.{UnknownWord}
use Rattle.refusal.specs.Number.{refusal_of}
use Rattle.numbers.specs.Number.{capped, has_minus}
use Rattle.record.specs.Gather.{gathered}
use Rattle.form.specs.declared.request.Request.{Request}
use Rattle.form.specs.Request.{request}

-- the request of a kind of record, with the byte of its letter; another word asks nothing
abbrev pub asked : Option Request → Result Request Refusal
asked (Some asks) = Ok asks
asked None = Err UnknownWord

abbrev pub asking : Word → List (List ℕ) → Result Request Refusal
asking word fs = asked (request word (letter_in fs))

-- "A "no" refuses with that question's number."; or the call that is asked
abbrev pub answered : Option ℕ → List (List ℕ) → Result Request Refusal
answered (Some question) fs = Err (refusal_of question)
answered None fs = asking (record_of fs) fs

-- a list with what g gives of each number of a record, at its field's place
abbrev pub with_numbers : {A : Type 0} → (List ℕ → A) → Word → List (List ℕ) → List A → List A
with_numbers g word fs list = gathered g word (first_number word) (field_count word (letter_in fs)) fs list

-- a lent list: as it was, where one of questions 1 to 3 is answered no; else with the numbers, up to the first that is not well written
abbrev pub left_in : {A : Type 0} → (List ℕ → A) → List ℕ → List A → List A
left_in g line list =
    if is_some (first_no (take 3 (line_questions line))) then list else with_numbers g (record_of (fields line)) (fields line) list

-- the request, by questions 1 to 5, and the lists of signs and sizes
pub record LineRead : Type 0 where
  pub request : Result Request Refusal
  pub minus : List Bool
  pub sizes : List ℕ

unfoldable pub read_of : List ℕ → List Bool → List ℕ → LineRead
read_of line minus sizes =
    record { request = answered (first_no (take 5 (line_questions line))) (fields line); minus = left_in has_minus line minus; sizes = left_in capped line sizes }

-- what is answered and left is what is read
pub record Gives (read : LineRead) (r : Result Request Refusal) (minus : List Bool) (sizes : List ℕ) : Type 0 where
  pub request : r ≡ read.request
  pub signs : minus ≡ read.minus
  pub values : sizes ≡ read.sizes

-- Document 01, "A run of the book's program": from the input's bytes to the output's.
-- Assumes nothing: these are definitions.
use Rattle.std.specs.Prelude.{List, [], ◌∷◌, ◌++◌, map, ℕ}
use Rattle.model.specs.Book.{Book, empty}
use Rattle.model.specs.Input.{lines_of}
use Rattle.model.specs.Answer.{text, done_text}
use Rattle.model.specs.Step.{Request, as_bytes, step}

-- "Each record gets the book that the one before left, and nothing else writes to the book meanwhile.": the last book
unfoldable pub after : Book → List Request → Book
after book [] = book
after book (request ∷ requests) = after (step book request).book requests

-- the answers, one for each record, each in its text, and then DONE
unfoldable pub output : Book → List Request → List ℕ
output book [] = done_text book.accepted book.refused
output book (request ∷ requests) =
    let outcome = step book request in
    text outcome.answer ++ output outcome.book requests

-- the records of an input
abbrev pub records_of : List ℕ → List Request
records_of input = map as_bytes (lines_of input)

-- "The book program reads standard input and writes one line for each record."
unfoldable pub run : List ℕ → List ℕ
run input = output empty (records_of input)

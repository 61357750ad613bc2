-- Document 01, "A run of the book's program", byte by byte: how far a run has come, and what the next byte does.
-- Assumes nothing: these are definitions.
use Rattle.std.specs.Prelude.{List, [], ◌∷◌, ◌++◌, ℕ, suc, ◌+◌, eqb, leb, length, take, if◌then◌else◌}
use Rattle.model.specs.Book.{Book, empty}
use Rattle.model.specs.Question.{longest}
use Rattle.model.specs.Answer.{text}
use Rattle.model.specs.Step.{as_bytes, step}
use Rattle.state.specs.declared.book.Book as code
use Rattle.state.specs.View.{empty_book, empty_store}
use Rattle.ledger.specs.Does.{book_after, store_after}

-- the model's book, the code's own book, the store, the line so far, and what was written
pub record Progress : Type 0 where
  pub book : Book
  pub own : code.Book
  pub store : List ℕ
  pub line : List ℕ
  pub written : List ℕ

-- before the first byte
abbrev pub start : Progress
start = record { book = empty; own = empty_book; store = empty_store; line = []; written = [] }

-- the line has ended: it is a record, and its answer is written
unfoldable pub ended : Progress → Progress
ended s =
    let request = as_bytes s.line in
    record {
      book = (step s.book request).book;
      own = book_after s.book request s.own;
      store = store_after s.book request s.store;
      line = [];
      written = s.written ++ text (step s.book request).answer;
    }

-- of a line that is too long, so many bytes are enough to refuse it
abbrev pub kept_bytes : ℕ
kept_bytes = suc longest

-- the line goes on, and no more of it is kept
unfoldable pub lengthened : Progress → List ℕ → Progress
lengthened s bytes = record { book = s.book; own = s.own; store = s.store; line = take kept_bytes (s.line ++ bytes); written = s.written }

-- "Lines end with byte 10, which is not counted in the line"
unfoldable pub taking : Progress → ℕ → Progress
taking s b = if eqb b 10 then ended s else lengthened s (b ∷ [])

unfoldable pub taking_all : Progress → List ℕ → Progress
taking_all s [] = s
taking_all s (b ∷ bytes) = taking_all (taking s b) bytes

-- how many bytes of a piece are taken into a buffer of a size: a byte is taken while the longest text, of 320 bytes, has room
unfoldable pub taken_of : ℕ → Progress → List ℕ → ℕ
taken_of size s [] = 0
taken_of size s (b ∷ bytes) = if leb (length s.written + 320) size then suc (taken_of size (taking s b) bytes) else 0

-- ".. or at the end of input; nothing after the last byte 10 is no record."
abbrev at_end_by : Progress → List ℕ → Progress
at_end_by s [] = s
at_end_by s (b ∷ line) = ended s

unfoldable pub at_end : Progress → Progress
at_end s = at_end_by s s.line

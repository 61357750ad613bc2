-- What the run's functions answer, by the progress of a run.
-- Assumes nothing: these are definitions.
use Rattle.std.specs.Prelude.{Bool, true, ◌&&◌, List, [], ◌++◌, ◌≡◌, ℕ, ◌+◌, ◌-◌, ◌≤◌, ltb, length, take, drop, replicate}
use Rattle.model.specs.Answer.{text, done_text}
use Rattle.model.specs.Step.{as_bytes, step}
use Rattle.state.specs.declared.book.Book.{Book}
use Rattle.state.specs.View.{view, empty_book, empty_store}
use Rattle.ledger.specs.Does.{book_after, store_after}
use Rattle.answer.specs.Put.{Puts}
use Rattle.answer.specs.Text.{has_room, PutsWithRoom}
use Rattle.line_end.specs.Index.{index_of}
use Rattle.pieces.specs.declared.line.OpenLine.{OpenLine}
use Rattle.pieces.specs.declared.answer_line.Answered.{Answered}
use Rattle.pieces.specs.declared.answer_lines.Lines.{Lines}
use Rattle.pieces.specs.declared.feed.Run.{Run}
use Rattle.pieces.specs.declared.feed.Fed.{Fed}
use Rattle.pieces.specs.Progress.{Progress, kept_bytes, at_end, taking_all, taken_of}

-- the line so far, and the open line that it is: zeros after it
abbrev pub bytes_of : OpenLine → List ℕ
bytes_of line = take line.count line.bytes

abbrev pub open_line : List ℕ → OpenLine
open_line bytes = record { bytes = bytes ++ replicate (kept_bytes - length bytes) 0; count = length bytes }

-- how far a run has come before a piece; what was written is out of its hands
abbrev pub before : Book → List ℕ → List ℕ → Progress
before book store line = record { book = view book store; own = book; store = store; line = line; written = [] }

abbrev pub progress_of : Run → List ℕ → Progress
progress_of run store = before run.book store (bytes_of run.line)

-- what a run answers to the lines that end in some bytes
abbrev pub text_of : Run → List ℕ → List ℕ → List ℕ
text_of run store bytes = (taking_all (progress_of run store) bytes).written

-- some bytes lead a run and its store to a later one, and `text` is written on the way
pub record Leads (run : Run) (store bytes text : List ℕ) (later : Run) (later_store : List ℕ) : Type 0 where
  pub progress : taking_all (progress_of run store) bytes ≡ record { book = view later.book later_store; own = later.book; store = later_store; line = bytes_of later.line; written = text }

-- before the first byte: an empty book, a cleared store, and no line begun
pub record IsStart (run : Run) (store : List ℕ) : Type 0 where
  pub book : run.book ≡ empty_book
  pub line : run.line ≡ open_line []
  pub lent : store ≡ empty_store

-- a line is a record: the later book, by the model and as the code has it, the store, and the answer's text where the longest has room
pub record Answers (book : Book) (store line out : List ℕ) (at : ℕ) (r : Answered) (later_store later_out : List ℕ) : Type 0 where
  pub later : view r.book later_store ≡ (step (view book store) (as_bytes line)).book
  pub own : r.book ≡ book_after (view book store) (as_bytes line) book
  pub lent : later_store ≡ store_after (view book store) (as_bytes line) store
  pub puts : PutsWithRoom out at (text (step (view book store) (as_bytes line)).answer) later_out r.next

-- the code's book, store and text are those of the progress
pub record Reaches (book : Book) (store : List ℕ) (out : List ℕ) (put : ℕ) (s : Progress) (later_out : List ℕ) : Type 0 where
  pub later : view book store ≡ s.book
  pub own : book ≡ s.own
  pub lent : store ≡ s.store
  pub puts : Puts out 0 s.written later_out put

-- the first `at` bytes of a piece are taken, and of the line that was begun before it `count` bytes still wait for its end
pub record FedTo (start : Progress) (begun piece out : List ℕ) (book : Book) (count at put : ℕ) (store later_out : List ℕ) : Type 0 where
  pub kept : length begun ≤ kept_bytes
  pub inside : at ≤ length piece
  pub few : count ≤ length begun
  pub same : length later_out ≡ length out
  pub reached : Reaches book store out put (taking_all start (take at piece)) later_out
  pub line : take count begun ≡ (taking_all start (take at piece)).line
  pub left : taken_of (length out) start piece ≡ at + taken_of (length out) (taking_all start (take at piece)) (drop at piece)

-- where there is still room, no line ends in the rest of a piece
abbrev pub IsOver : List ℕ → ℕ → List ℕ → ℕ → Type 0
IsOver piece at out put = has_room out put ≡ true → index_of 10 (drop at piece) ≡ length (drop at piece)

-- the lines that end in a piece
pub record AnswersLines (book : Book) (store begun piece out : List ℕ) (r : Lines) (later_store later_out : List ℕ) : Type 0 where
  pub fed : FedTo (before book store begun) begun piece out r.book r.begun r.at r.put later_store later_out
  pub over : IsOver piece r.at later_out r.put

-- a line that ends at place `end` ends in the piece, and the longest text has room
abbrev pub can_answer : List ℕ → ℕ → List ℕ → ℕ → Bool
can_answer piece end out put = ltb end (length piece) && has_room out put

-- the lines that end in a piece from place `start` on, none of which was begun before it: what was fed up to there is fed on, whatever the run, the line begun and the buffer were at first
pub record AnswersWholeLines (book : Book) (store piece : List ℕ) (start : ℕ) (out : List ℕ) (first : ℕ) (r : Lines) (later_store later_out : List ℕ) : Type 0 where
  pub fed : (s : Progress) (begun whole : List ℕ) → FedTo s begun piece whole book 0 start first store out → FedTo s begun piece whole r.book r.begun r.at r.put later_store later_out
  pub over : IsOver piece r.at later_out r.put

-- a piece: the bytes that are taken, one after the other
pub record Feeds (run : Run) (store piece out : List ℕ) (r : Fed) (later_store later_out : List ℕ) : Type 0 where
  pub taken : r.taken ≡ taken_of (length out) (progress_of run store) piece
  pub reached : Reaches r.run.book later_store out r.put (taking_all (progress_of run store) (take r.taken piece)) later_out
  pub unended : r.run.line ≡ open_line (taking_all (progress_of run store) (take r.taken piece)).line

-- the end of input
pub record Closes (run : Run) (store out : List ℕ) (r : Answered) (later_store later_out : List ℕ) : Type 0 where
  pub reached : Reaches r.book later_store out r.next (at_end (progress_of run store)) later_out

-- "DONE closes every run: accepted, refused.": those of the book
pub record PutsDone (book : Book) (out : List ℕ) (put : ℕ) (later_out : List ℕ) : Type 0 where
  pub puts : Puts out 0 (done_text book.accepted book.refused) later_out put

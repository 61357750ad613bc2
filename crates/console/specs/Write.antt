-- What is handed to a write.
-- Assumes nothing: these are definitions.
use Rattle.std.specs.Prelude.{List, ℕ}
use Rattle.model.specs.Answer.{done_text}
use Rattle.pieces.specs.declared.feed.Run.{Run}
use Rattle.pieces.specs.Progress.{at_end}
use Rattle.pieces.specs.Feed.{progress_of, text_of}
use Rattle.console.specs.declared.write.Asked.{Asked}
use Rattle.console.specs.declared.write.Asked.TheVariants as asked

-- the end of input: the answer to the last line, if one is open, and then DONE with the counts of the book that it leaves
abbrev pub last_answer : Run → List ℕ → List ℕ
last_answer run store = (at_end (progress_of run store)).written

abbrev pub last_counts : Run → List ℕ → List ℕ
last_counts run store = done_text (at_end (progress_of run store)).book.accepted (at_end (progress_of run store)).book.refused

-- the text that a run and its store have for what is asked
abbrev pub text_for : Asked → Run → List ℕ → List ℕ
text_for (asked.Bytes bytes) run store = text_of run store bytes.now
text_for asked.LastLine run store = last_answer run store
text_for asked.Counts run store = last_counts run store

-- A whole run of the code: `start`, any number of `feed`s, `close` and `done`, each with what it promises.
-- The pieces may be any, and any part of each may be taken. proofs/Ran.antt shows that every such run is the model's.
-- Assumes nothing: these are definitions.
use Rattle.std.specs.Prelude.{List, [], ◌++◌, ◌≡◌, ℕ, take}
use Rattle.model.specs.Book.{empty}
use Rattle.model.specs.Run.{after, records_of, run}
use Rattle.model.specs.History.{accepted}
use Rattle.model.specs.Demand.{Holds}
use Rattle.state.specs.declared.book.Book.{Book}
use Rattle.state.specs.View.{view}
use Rattle.pieces.specs.declared.answer_line.Answered.{Answered}
use Rattle.pieces.specs.declared.feed.Run.{Run}
use Rattle.pieces.specs.declared.feed.Fed.{Fed}
use Rattle.pieces.specs.Feed.{IsStart, Feeds, Closes, PutsDone}

-- `feed`s in turn, each from the run and the store that the one before left: the bytes taken, and the texts put
pub data FedInTurn (begun : Run) (first : List ℕ) : List ℕ → List ℕ → Run → List ℕ → Type 0 where
  none : FedInTurn begun first [] [] begun first
  one : {taken written : List ℕ} {run : Run} {store piece out : List ℕ} {r : Fed} {later_store later_out : List ℕ}
      → FedInTurn begun first taken written run store
      → Feeds run store piece out r later_store later_out
      → FedInTurn begun first (taken ++ take r.taken piece) (written ++ take r.put later_out) r.run later_store

-- a whole run: its input, all that was put, and the book and the store that it leaves
pub data Ran : List ℕ → List ℕ → Book → List ℕ → Type 0 where
  ran : {begun : Run} {first input written : List ℕ} {run : Run} {store out : List ℕ} {last : Answered} {later_store later_out done_out : List ℕ} {put : ℕ} {last_out : List ℕ}
      → IsStart begun first
      → FedInTurn begun first input written run store
      → Closes run store out last later_store later_out
      → PutsDone last.book done_out put last_out
      → Ran input ((written ++ take last.next later_out) ++ take put last_out) last.book later_store

-- "The book program reads standard input and writes one line for each record." The book is the model's, with demand 3.
pub record IsRun (input written : List ℕ) (book : Book) (store : List ℕ) : Type 0 where
  pub text : written ≡ run input
  pub later : view book store ≡ after empty (records_of input)
  pub demand : Holds (accepted empty (records_of input)) (view book store)

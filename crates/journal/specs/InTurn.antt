-- Any list of requests, done by the code one after the other: "Each record gets the book that the one before left, and nothing else writes to the book meanwhile."
-- Assumes nothing: these are definitions.
use Rattle.std.specs.Prelude.{List, [], ◌∷◌, ◌++◌, ◌≡◌, ℕ}
use Rattle.model.specs.Answer.{Answer}
use Rattle.model.specs.Book as model
use Rattle.model.specs.Step.{Request, step}
use Rattle.model.specs.Run.{after}
use Rattle.model.specs.History.{accepted}
use Rattle.model.specs.Demand.{Holds}
use Rattle.state.specs.declared.book.Book.{Book}
use Rattle.state.specs.View.{view, empty_book, empty_store}
use Rattle.ledger.specs.declared.answer.Outcome.{Outcome}
use Rattle.ledger.specs.Answer.{answered}
use Rattle.ledger.specs.Does.{Does, book_after, store_after}

-- records by their bytes and calls with numbers, among each other, from an empty book: each with its promise, from the book and the store that the one before left
pub data DoneInTurn : List Request → List Answer → Book → List ℕ → Type 0 where
  none : DoneInTurn [] [] empty_book empty_store
  one : {requests : List Request} {answers : List Answer} {book : Book} {store : List ℕ} {request : Request} {r : Outcome} {later : List ℕ}
      → DoneInTurn requests answers book store
      → Does book request store r later
      → DoneInTurn (requests ++ (request ∷ [])) (answers ++ (answered r.answer later ∷ [])) r.book later

-- what the model answers a list of requests
unfoldable pub answers_of : model.Book → List Request → List Answer
answers_of book [] = []
answers_of book (request ∷ requests) = (step book request).answer ∷ answers_of (step book request).book requests

-- the code's own book and the store after a list of requests
unfoldable pub book_after_all : model.Book → List Request → Book → Book
book_after_all book [] own = own
book_after_all book (request ∷ requests) own = book_after_all (step book request).book requests (book_after book request own)

unfoldable pub store_after_all : model.Book → List Request → List ℕ → List ℕ
store_after_all book [] store = store
store_after_all book (request ∷ requests) store = store_after_all (step book request).book requests (store_after book request store)

-- what they answer and leave: the model's answers, its last book, the code's own book and the whole store, and demand 3 of what the code holds
pub record Leaves (requests : List Request) (answers : List Answer) (book : Book) (store : List ℕ) : Type 0 where
  pub answered_so : answers ≡ answers_of model.empty requests
  pub later : view book store ≡ after model.empty requests
  pub own : book ≡ book_after_all model.empty requests empty_book
  pub lent : store ≡ store_after_all model.empty requests empty_store
  pub demand : Holds (accepted model.empty requests) (view book store)

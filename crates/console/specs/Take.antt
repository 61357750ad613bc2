-- A piece of the input.
-- Assumes nothing: these are definitions.
use Rattle.std.specs.Prelude.{List, ◌≡◌, ℕ, ◌≤◌, ◌<◌, length, take}
use Rattle.pieces.specs.declared.feed.Run.{Run}
use Rattle.pieces.specs.declared.feed.Fed.{Fed}
use Rattle.pieces.specs.Feed.{text_of, Leads, IsStart}

-- so many bytes stand at the start of a buffer: what a read answers
abbrev pub IsPrefixLen : ℕ → List ℕ → Type 0
IsPrefixLen n xs = (n ≤ length xs) × (n ≡ length (take n xs))

-- some bytes are taken: where the run and the store are then
abbrev pub Takes : Run → List ℕ → List ℕ → Run → List ℕ → Type 0
Takes run store bytes later later_store = Leads run store bytes (text_of run store bytes) later later_store

-- the first bytes of a piece are: at least one, if there is one
pub record TakesPart (run : Run) (store piece : List ℕ) (fed : Fed) (later_store : List ℕ) : Type 0 where
  pub few : fed.taken ≤ length piece
  pub some : 0 < length piece → 0 < fed.taken
  pub takes : Takes run store (take fed.taken piece) fed.run later_store

-- a write failed: some first bytes of a piece are taken all the same, at least one, if there is one, and the store is then the one that they lead to
pub record TakesSome (run : Run) (store piece later_store : List ℕ) : Type 0 where
  pub taken : ℕ
  pub later : Run
  pub few : taken ≤ length piece
  pub some : 0 < length piece → 0 < taken
  pub takes : Takes run store (take taken piece) later later_store

-- from the start of a run, some input leads here
pub record Led (run : Run) (store : List ℕ) : Type 0 where
  pub begun : Run
  pub first : List ℕ
  pub input : List ℕ
  pub starts : IsStart begun first
  pub leads : Takes begun first input run store

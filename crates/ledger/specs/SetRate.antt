-- A RATE that questions 4 and 6 let through, with its rate; and what one that is accepted leaves.
-- Assumes nothing: these are definitions.
use Rattle.std.specs.Prelude.{List, ◌≡◌, ℕ, length}
use Rattle.model.specs.Call.{set_rate}
use Rattle.model.specs.Question.{Sound}
use Rattle.model.specs.HalfYear.{half_year}
use Rattle.model.specs.Rate.{rate_of}
use Rattle.state.specs.declared.book.Book.{Book}
use Rattle.state.specs.Store.{size}
use Rattle.state.specs.Hints.{with_hint_of}
use Rattle.state.specs.Rates.{with_rate_of}
use Rattle.ledger.specs.declared.answer.Answer.TheVariants as answer
use Rattle.ledger.specs.declared.answer.Outcome.{Outcome}
use Rattle.ledger.specs.Answer.{accepted_of}

pub record Averaged (year rate : ℕ) (months : List ℕ) : Type 0 where
  pub sound : Sound (set_rate year months)
  pub mean : rate ≡ rate_of months

-- the outcome of a RATE that is accepted, in either form, and the whole store
pub record GivesRate (book : Book) (year rate : ℕ) (store : List ℕ) (r : Outcome) (later : List ℕ) : Type 0 where
  pub long : length store ≡ size
  pub outcome : r ≡ accepted_of (with_rate_of book year rate) (answer.Rate year rate)
  pub lent : later ≡ with_hint_of store year (half_year rate)

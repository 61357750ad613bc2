-- "For every case of an enum answer, a definition gives this paper's number and values."
-- Assumes nothing: these are definitions.
use Rattle.std.specs.Prelude.{List, map, ℕ}
use Rattle.model.specs.Answer as model
use Rattle.model.specs.Published.{published}
use Rattle.model.specs.Step as model_step
use Rattle.model.specs.Step.{one_more}
use Rattle.state.specs.declared.book.Book.{Book}
use Rattle.refusal.specs.declared.Refusal.{Refusal}
use Rattle.refusal.specs.Number.{number_of}
use Rattle.ledger.specs.declared.answer.Answer.{Answer}
use Rattle.ledger.specs.declared.answer.Answer.TheVariants as answer
use Rattle.ledger.specs.declared.answer.Outcome.{Outcome}
use Rattle.state.specs.Patterns.{pattern_at}
use Rattle.state.specs.View.{view}

-- each answer's values; a FACT's are published of the pattern in the store
abbrev pub answered : Answer → List ℕ → model.Answer
answered (answer.Line letter opening) store = model.declared letter opening
answered (answer.Rate year rate) store = model.rated year rate
answered (answer.Fact letter year) store =
    let pattern = pattern_at store letter year in
    model.fact letter year (map published pattern.factors) (published pattern.composite)
answered (answer.Tax letter year opening end) store = model.tax letter year end.paid opening end.closing end.loss
answered (answer.Sum letter totals) store = model.summed letter totals.years totals.paid totals.losses
answered (answer.MidTerm year month rate) store = model.registered year month rate
answered (answer.No refusal) store = model.refusal (number_of refusal)

-- the model's outcome that an outcome and the later store are
abbrev pub outcome_of : Outcome → List ℕ → model_step.Outcome
outcome_of r store = record { book = view r.book store; answer = answered r.answer store }

-- the book with one more record refused, or accepted
abbrev pub one_more_refused : Book → Book
one_more_refused book = record { rates = book.rates; accepted = book.accepted; refused = one_more book.refused }

abbrev pub one_more_accepted : Book → Book
one_more_accepted book = record { rates = book.rates; accepted = one_more book.accepted; refused = book.refused }

abbrev pub refused_of : Book → Refusal → Outcome
refused_of book refusal = record { book = one_more_refused book; answer = answer.No refusal }

abbrev pub accepted_of : Book → Answer → Outcome
accepted_of book given = record { book = one_more_accepted book; answer = given }

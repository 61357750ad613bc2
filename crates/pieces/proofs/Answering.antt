-- A line that has ended, from the journal's outcome to the run's.
-- Assumes nothing.
use Rattle.std.proofs.Common.{List, [], ◌++◌, ◌≡◌, ap, ◌∙◌, ℕ, take}
use Rattle.model.specs.Answer.{text}
use Rattle.model.specs.Step as model_step
use Rattle.model.specs.Step.{as_bytes}
use Rattle.state.specs.declared.book.Book.{Book}
use Rattle.ledger.specs.declared.answer.Outcome.{Outcome}
use Rattle.ledger.specs.Answer.{answered}
use Rattle.ledger.specs.Does.{Does}
use Rattle.answer.specs.Text.{PutsWithRoom}
use Rattle.pieces.specs.Progress.{Progress, ended, kept_bytes}
use Rattle.pieces.specs.declared.line.OpenLine.{OpenLine}
use Rattle.pieces.specs.declared.answer_line.Answered.{Answered}
use Rattle.pieces.specs.Feed.{bytes_of, open_line, before, Answers}
use Rattle.pieces.proofs.Cut.{ended_cut}
use Rattle.pieces.proofs.Joining.{open_bytes}

pub answers : (book : Book) (store line out : List ℕ) (at : ℕ) (outcome : Outcome) (later_store later_out : List ℕ) (next : ℕ)
    → Does book (as_bytes line) store outcome later_store → PutsWithRoom out at (text (answered outcome.answer later_store)) later_out next
    → Answers book store line out at (record { book = outcome.book; next = next }) later_store later_out
answers book store line out at outcome later_store later_out next does puts =
    record {
      later = ap (λ (o : model_step.Outcome). o.book) does.outcome;
      own = does.own;
      lent = does.lent;
      puts = rw (← (ap (λ (o : model_step.Outcome). o.answer) does.outcome)) puts;
    }

module _ (book : Book) (store : List ℕ) where
  -- the bytes of a line that are kept are enough
  answers_cut : (line out : List ℕ) (at : ℕ) (r : Answered) (later_store later_out : List ℕ) → Answers book store (take kept_bytes line) out at r later_store later_out → Answers book store line out at r later_store later_out
  unfolding ended
  answers_cut line out at r later_store later_out a =
      let cut = ended_cut (before book store []) line in
      record {
        later = a.later ∙ ap (λ (s : Progress). s.book) cut;
        own = a.own ∙ ap (λ (s : Progress). s.own) cut;
        lent = a.lent ∙ ap (λ (s : Progress). s.store) cut;
        puts = rw (← (ap (λ (s : Progress). s.written) cut)) a.puts;
      }

  -- a line of two parts
  pub answers_joined : (begun rest : List ℕ) (line : OpenLine) → line ≡ open_line (take kept_bytes (begun ++ rest))
      → (out : List ℕ) (at : ℕ) (r : Answered) (later_store later_out : List ℕ) → Answers book store (bytes_of line) out at r later_store later_out → Answers book store (begun ++ rest) out at r later_store later_out
  answers_joined begun rest line joined out at r later_store later_out a =
      answers_cut (begun ++ rest) out at r later_store later_out (rw (← (open_bytes line (take kept_bytes (begun ++ rest)) joined)) a)

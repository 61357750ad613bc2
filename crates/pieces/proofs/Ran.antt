-- Every whole run of the code is the model's: whatever the input and however it is cut, what was put is `run` of it, and demand 3 holds of the book that is left.
-- Assumes nothing.
use mathlib.Core.List.{List, ◌++◌}
use mathlib.Core.Path.{◌≡◌, refl, ap, ◌∙◌}
use Prim.Native.Nat.{ℕ}
use lib.ListN.{take}
use Rattle.model.specs.Book.{Book, empty}
use Rattle.model.specs.Answer.{done_text}
use Rattle.model.specs.Run.{run, after, records_of}
use Rattle.model.proofs.Demand.{demand_of_input}
use Rattle.state.specs.declared.book.Book as code
use Rattle.state.specs.View.{view}
use Rattle.state.proofs.EmptyBook.{empty_shown}
use Rattle.pieces.specs.declared.answer_line.Answered.{Answered}
use Rattle.pieces.specs.declared.feed.Run.{Run}
use Rattle.pieces.specs.Progress.{Progress, start, taking_all, at_end}
use Rattle.pieces.specs.Feed.{bytes_of, progress_of, Leads, IsStart, Closes, PutsDone}
use Rattle.pieces.specs.Ran.{FedInTurn, none, one, Ran, ran, IsRun}
use Rattle.pieces.proofs.Pieces.{Ends, run_is}
use Rattle.pieces.proofs.Written.{after_text, at_end_after, text_put, leads_none, leads_here, leads_on, feed_leads}

-- `feed`s in turn are one
pub turns_lead : {begun : Run} {first taken written : List ℕ} {run : Run} {store : List ℕ} → FedInTurn begun first taken written run store → Leads begun first taken written run store
turns_lead {begun} {first} none = leads_none begun first
turns_lead (one before f) = leads_on _ _ _ _ _ _ (turns_lead before) _ _ _ _ (feed_leads _ _ _ _ _ _ _ f)

module _ (begun : Run) (first input written : List ℕ) (last : Run) (store : List ℕ) (s : IsStart begun first) (l : Leads begun first input written last store) where
  abbrev end : Progress
  end = at_end (progress_of last store)

  begins : progress_of begun first ≡ start
  begins = rw (s.book, s.line, s.lent, empty_shown)

  -- the end of input
  at_end_here : at_end (taking_all start input) ≡ after_text written end
  at_end_here =
      rw (← begins, leads_here begun first input written last store l)
      (at_end_after written (progress_of last store) (bytes_of last.line) refl)

  model : Ends start (records_of input) (after_text written end)
  model = rw at_end_here at (run_is input)

  -- what is written up to there, the answer to the last line, and DONE
  pub all_written_lem : (written ++ end.written) ++ done_text end.book.accepted end.book.refused ≡ run input
  unfolding run
  all_written_lem = model.text

  module _ (out : List ℕ) (a : Answered) (later_store later_out : List ℕ) (c : Closes last store out a later_store later_out) (done_out : List ℕ) (put : ℕ) (last_out : List ℕ) (d : PutsDone a.book done_out put last_out) where
    last_book : view a.book later_store ≡ after empty (records_of input)
    last_book = c.reached.later ∙ model.book

    all_put : (written ++ take a.next later_out) ++ take put last_out ≡ run input
    all_put =
        let answer : take a.next later_out ≡ end.written = text_put out _ later_out a.next c.reached.puts in
        let counts : take put last_out ≡ done_text end.book.accepted end.book.refused =
        text_put done_out _ last_out put d.puts ∙ ap (λ (b : Book). done_text b.accepted b.refused) c.reached.later in
        rw (answer, counts) all_written_lem

    is_run : IsRun input ((written ++ take a.next later_out) ++ take put last_out) a.book later_store
    is_run = record { text = all_put; later = last_book; demand = rw last_book (demand_of_input input) }

-- whatever the input and however it is cut
pub run_of_code : {input written : List ℕ} {book : code.Book} {store : List ℕ} → Ran input written book store → IsRun input written book store
run_of_code (ran s f c d) = is_run _ _ _ _ _ _ s (turns_lead f) _ _ _ _ c _ _ _ d

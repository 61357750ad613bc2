-- A piece, part after part; piece after piece; and the end of input: what is handed to the writes.
-- Assumes nothing.
use Rattle.std.proofs.Common.{List, ◌++◌, ◌≡◌, ap, ◌∙◌, ℕ, ◌+◌, ◌≤◌, ◌<◌, ⊎_elim, eq-zero-or-pos, arith, length, length-append, take}
use Rattle.std.proofs.Math.Seq.{take-append-add}
use Rattle.std.specs.Prelude.{Result, Ok, Err, OnErr}
use Rattle.model.specs.Book.{Book}
use Rattle.model.specs.Answer.{done_text}
use Rattle.model.specs.Run as model
use Rattle.state.specs.declared.book.Book as code
use Rattle.pieces.specs.declared.answer_line.Answered.{Answered}
use Rattle.pieces.specs.declared.feed.Run.{Run}
use Rattle.pieces.specs.declared.feed.Fed.{Fed}
use Rattle.pieces.specs.Progress.{Progress}
use Rattle.pieces.specs.Feed.{text_of, Leads, Feeds, Closes, PutsDone}
use Rattle.pieces.proofs.Joining.{front_length}
use Rattle.pieces.proofs.Ran.{all_written_lem}
use Rattle.pieces.proofs.Taken.{taken_few, taken_some}
use Rattle.pieces.proofs.Written.{text_put, put_inside, leads_on, feed_leads}
use Rattle.console.specs.Take.{Takes, TakesPart, TakesSome, Led}
use Rattle.console.specs.Write.{last_answer, last_counts}

-- the text of a way is what its bytes are answered
pub leads_text : (run : Run) (store bytes text : List ℕ) (later : Run) (later_store : List ℕ) → Leads run store bytes text later later_store → Takes run store bytes later later_store
leads_text run store bytes text later later_store l = rw (ap (λ (s : Progress). s.written) l.progress) l

-- some bytes and then others are taken
pub takes_on : (run : Run) (store bytes : List ℕ) (middle : Run) (middle_store : List ℕ) → Takes run store bytes middle middle_store
    → (more : List ℕ) (later : Run) (later_store : List ℕ) → Takes middle middle_store more later later_store → Takes run store (bytes ++ more) later later_store
takes_on run store bytes middle middle_store t more later later_store m =
    leads_text _ _ _ _ _ _ (leads_on run store bytes _ middle middle_store t more _ later later_store m)

-- a part of a piece
module _ (run : Run) (store piece out : List ℕ) (r : Fed) (later_store later_out : List ℕ) (f : Feeds run store piece out r later_store later_out) where
  pub part_exact : r.taken ≡ length (take r.taken piece)
  part_exact = front_length r.taken piece (taken_few _ _ _ _ _ _ _ f)

  pub part_inside : length later_out ≡ 65536 → r.put ≤ 65536
  part_inside size = omega (arith, size, put_inside out _ later_out r.put f.reached.puts)

  pub part_put : take r.put later_out ≡ text_of run store (take r.taken piece)
  part_put = text_put out _ later_out r.put f.reached.puts

  pub takes_part : length out ≡ 65536 → TakesPart run store piece r later_store
  takes_part size =
      record {
        few = taken_few _ _ _ _ _ _ _ f;
        some = taken_some _ _ _ _ _ _ _ f (omega (arith, size));
        takes = leads_text _ _ _ _ _ _ (feed_leads _ _ _ _ _ _ _ f);
      }

  -- and its write failed
  pub part_failed : length out ≡ 65536 → TakesSome run store piece later_store
  part_failed size =
      let p = takes_part size in
      record { taken = r.taken; later = r.run; few = p.few; some = p.some; takes = p.takes }

-- what is said where a write failed
pub told_failed : {A E : Type 0} (r : Result A E) (P : Type 0) → P → OnErr r P
told_failed (Ok x) P p = tt
told_failed (Err e) P p = p

-- the front of a piece is taken, and then a part of the rest whose write failed
module _ (run : Run) (store piece front rest : List ℕ) (parts : piece ≡ front ++ rest) (last : Run) (lent : List ℕ) (t : Takes run store front last lent) where
  pub take_failed : (later_store : List ℕ) → TakesSome last lent rest later_store → TakesSome run store piece later_store
  take_failed later_store s =
      let long : length piece ≡ length front + length rest = rw (parts, length-append) in
      let bytes : take (length front + s.taken) piece ≡ front ++ take s.taken rest = rw (parts, take-append-add front rest s.taken) in
      record {
        taken = length front + s.taken;
        later = s.later;
        few = omega (arith, long, s.few);
        some = λ (h : 0 < length piece). ⊎_elim (λ (z : length rest ≡ 0). omega (arith, long)) (λ (more : 0 < length rest). omega (arith, s.some more)) (eq-zero-or-pos (length rest));
        takes = rw bytes (takes_on run store front last lent t (take s.taken rest) s.later later_store s.takes);
      }

-- the end of input
module _ (run : Run) (store out : List ℕ) (last : Answered) (later_store later_out : List ℕ) (c : Closes run store out last later_store later_out) where
  pub last_inside : length later_out ≡ 65536 → last.next ≤ 65536
  last_inside size = omega (arith, size, put_inside out _ later_out last.next c.reached.puts)

  pub last_put : take last.next later_out ≡ last_answer run store
  last_put = text_put out _ later_out last.next c.reached.puts

  -- DONE has the counts of the last book
  pub done_put : (done_out : List ℕ) (put : ℕ) (last_out : List ℕ) → PutsDone last.book done_out put last_out → take put last_out ≡ last_counts run store
  done_put done_out put last_out d = text_put done_out _ last_out put d.puts ∙ ap (λ (b : Book). done_text b.accepted b.refused) c.reached.later

pub done_inside : (book : code.Book) (done_out : List ℕ) (put : ℕ) (last_out : List ℕ) → PutsDone book done_out put last_out → length last_out ≡ 65536 → put ≤ 65536
done_inside book done_out put last_out d size = omega (arith, size, put_inside done_out _ last_out put d.puts)

-- The answers to all pieces, the answer to the last line and DONE are together the model's run of the input.
-- (The answers to the parts, one after the other, are those to all of them: `texts_join` of pieces.)
pub handed_is : (run : Run) (store : List ℕ) (l : Led run store) → (text_of l.begun l.first l.input ++ last_answer run store) ++ last_counts run store ≡ model.run l.input
handed_is run store l = all_written_lem l.begun l.first l.input _ run store l.starts l.leads

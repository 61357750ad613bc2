-- What was written before a piece changes nothing of what it does: its texts come after it. So the pieces that `feed` takes in turn are one.
-- Assumes nothing.
use mathlib.Core.List.{List, [], ◌∷◌, ◌++◌, append_assoc, append-nil}
use mathlib.Core.Path.{◌≡◌, refl, sym, ap, ◌∙◌}
use mathlib.Core.Bool.{Bool, true, false}
use Prim.Native.Nat.{ℕ, ◌+◌, ◌≤◌}
use native.Mathlib.Omega.{arith}
use lib.Dec.{eqb}
use lib.ListN.{length, take, drop, length-append}
use lib.Seq.{take_at}
use Rattle.answer.specs.Put.{placed, Puts}
use Rattle.pieces.specs.declared.feed.Run.{Run}
use Rattle.pieces.specs.declared.feed.Fed.{Fed}
use Rattle.pieces.specs.Progress.{Progress, ended, lengthened, taking, taking_all, at_end}
use Rattle.pieces.specs.Feed.{progress_of, text_of, Leads, Feeds}
use Rattle.pieces.proofs.Joining.{open_bytes}
use Rattle.pieces.proofs.Pieces.{pieces_join}

-- the progress with a text before what it has written
abbrev pub after_text : List ℕ → Progress → Progress
after_text text s = record { book = s.book; own = s.own; store = s.store; line = s.line; written = text ++ s.written }

ended_after : (text : List ℕ) (s : Progress) → ended (after_text text s) ≡ after_text text (ended s)
unfolding ended
ended_after text s = rw (append_assoc text s.written)

taking_after : (text : List ℕ) (s : Progress) (b : ℕ) (t : Bool) → eqb b 10 ≡ t → taking (after_text text s) b ≡ after_text text (taking s b)
unfolding taking lengthened
taking_after text s b true e = rw e (ended_after text s)
taking_after text s b false e = rw e

all_after : (text bytes : List ℕ) (s : Progress) → taking_all (after_text text s) bytes ≡ after_text text (taking_all s bytes)
unfolding taking_all
all_after text [] s = refl
all_after text (b ∷ bytes) s = rw (taking_after text s b (eqb b 10) refl) (all_after text bytes (taking s b))

-- the last line, if one is open
pub at_end_some : (s : Progress) (b : ℕ) (line : List ℕ) → s.line ≡ b ∷ line → at_end s ≡ ended s
unfolding at_end
at_end_some s b line e = rw e

at_end_none : (s : Progress) → s.line ≡ [] → at_end s ≡ s
unfolding at_end
at_end_none s e = rw e

pub at_end_after : (text : List ℕ) (s : Progress) (line : List ℕ) → s.line ≡ line → at_end (after_text text s) ≡ after_text text (at_end s)
at_end_after text s [] e = at_end_none (after_text text s) e ∙ ap (after_text text) (sym (at_end_none s e))
at_end_after text s (b ∷ line) e = at_end_some (after_text text s) b line e ∙ ended_after text s ∙ ap (after_text text) (sym (at_end_some s b line e))

-- a text that was put is the front of the buffer
module _ (out text later : List ℕ) (put : ℕ) (p : Puts out 0 text later put) where
  pub text_put : take put later ≡ text
  unfolding placed
  text_put = rw p.whole (take_at text _ put (sym (p.after_it ∙ omega arith)))

  pub put_inside : put ≤ length later
  unfolding placed
  put_inside = rw (p.whole, length-append text (drop (0 + length text) out)) (omega (arith, p.after_it))

-- no bytes leave a run where it is, and some bytes and the next ones lead on
pub leads_none : (run : Run) (store : List ℕ) → Leads run store [] [] run store
unfolding taking_all
leads_none run store = record { progress = refl }

pub leads_here : (run : Run) (store bytes text : List ℕ) (later : Run) (later_store : List ℕ) → Leads run store bytes text later later_store
    → taking_all (progress_of run store) bytes ≡ after_text text (progress_of later later_store)
leads_here run store bytes text later later_store l = rw (append-nil text) l.progress

pub leads_on : (run : Run) (store bytes text : List ℕ) (middle : Run) (middle_store : List ℕ) → Leads run store bytes text middle middle_store
    → (more next : List ℕ) (later : Run) (later_store : List ℕ) → Leads middle middle_store more next later later_store
    → Leads run store (bytes ++ more) (text ++ next) later later_store
leads_on run store bytes text middle middle_store l more next later later_store m =
    record {
      progress = pieces_join (progress_of run store) bytes more
          ∙ rw (leads_here run store bytes text middle middle_store l) (all_after text more (progress_of middle middle_store))
          ∙ ap (after_text text) m.progress;
    }

-- what some bytes and the next ones are answered is the answers to the ones and then to the others
pub texts_join : (run : Run) (store bytes : List ℕ) (middle : Run) (middle_store : List ℕ) → Leads run store bytes (text_of run store bytes) middle middle_store
    → (more : List ℕ) → text_of run store (bytes ++ more) ≡ text_of run store bytes ++ text_of middle middle_store more
texts_join run store bytes middle middle_store l more =
    let joined : taking_all (progress_of run store) (bytes ++ more) ≡ after_text (text_of run store bytes) (taking_all (progress_of middle middle_store) more) =
    pieces_join (progress_of run store) bytes more ∙ rw (leads_here run store bytes (text_of run store bytes) middle middle_store l) (all_after (text_of run store bytes) more (progress_of middle middle_store)) in
    ap (λ (s : Progress). s.written) joined

-- what `feed` promises
pub feed_leads : (run : Run) (store piece out : List ℕ) (r : Fed) (later_store later_out : List ℕ) → Feeds run store piece out r later_store later_out
    → Leads run store (take r.taken piece) (take r.put later_out) r.run later_store
feed_leads run store piece out r later_store later_out f =
    let s : Progress = taking_all (progress_of run store) (take r.taken piece) in
    record {
      progress = rw (f.reached.later, ← f.reached.own, ← f.reached.lent, open_bytes r.run.line s.line f.unended, text_put out s.written later_out r.put f.reached.puts);
    }

-- What is read and written along the way, where the bytes of the reader and the writer are known.
-- Assumes nothing.
use Rattle.std.proofs.Common.{List, [], ◌++◌, ◌≡◌, refl, sym, ap, ◌∙◌, subst, append_assoc, append-nil, ℕ, ◌-◌, Bool, true, true≢false, arith, length, take, drop, take_all, take-append-drop, length-drop, Option}
use Rattle.std.specs.Prelude.{Result, Ok, Err, OnOk, is_ok}
use Rattle.std.specs.Io.KnownBytes.{Consumes, Appends}
use Rattle.std.proofs.KnownBytes.{Consumes-nil, Appends-nil, Consumes-trans, Appends-trans}
use Rattle.pieces.specs.declared.feed.Run.{Run}
use Rattle.pieces.specs.declared.feed.Fed.{Fed}
use Rattle.pieces.specs.Progress.{taking_all}
use Rattle.pieces.specs.Feed.{text_of, IsStart}
use Rattle.pieces.proofs.Written.{leads_none, texts_join}
use Rattle.console.specs.Take.{Takes, TakesPart, Led}
use Rattle.console.specs.Through.{Through}
use Rattle.console.specs.Write.{last_answer, last_counts}
use Rattle.console.proofs.Taking.{takes_on, handed_is}

-- part after part: the front of the piece is taken, and what it is answered is written
pub record Between (held holds : Option (List ℕ)) (run : Run) (store piece rest : List ℕ) (last : Run) (lent : List ℕ) : Type 0 where
  pub front : List ℕ
  pub parts : piece ≡ front ++ rest
  pub takes : Takes run store front last lent
  pub written : Appends held holds (text_of run store front)

pub between_start : (held : Option (List ℕ)) (run : Run) (store piece : List ℕ) → Between held held run store piece piece run store
unfolding taking_all
between_start held run store piece = record { front = []; parts = refl; takes = leads_none run store; written = Appends-nil held }

module _ (held middle : Option (List ℕ)) (run : Run) (store piece rest : List ℕ) (last : Run) (lent : List ℕ) (b : Between held middle run store piece rest last lent) where
  pub between_on : (holds : Option (List ℕ)) (fed : Fed) (later_store : List ℕ) → TakesPart last lent rest fed later_store
      → Appends middle holds (text_of last lent (take fed.taken rest)) → Between held holds run store piece (take (length rest - fed.taken) (drop fed.taken rest)) fed.run later_store
  between_on holds fed later_store p more =
      rw (take_all (length rest - fed.taken) (drop fed.taken rest) (omega (arith, length-drop fed.taken rest)))
      record {
        front = b.front ++ take fed.taken rest;
        parts = b.parts ∙ ap (λ (l : List ℕ). b.front ++ l) (sym (take-append-drop fed.taken rest)) ∙ sym (append_assoc b.front (take fed.taken rest) (drop fed.taken rest));
        takes = takes_on run store b.front last lent b.takes (take fed.taken rest) fed.run later_store p.takes;
        written = subst (Appends held holds) (sym (texts_join run store b.front last lent b.takes (take fed.taken rest))) (Appends-trans held middle holds _ _ b.written more);
      }

-- a text and then another
pub both_written : {A E : Type 0} (r : Result A E) (held middle holds : Option (List ℕ)) (first second a b : List ℕ) → first ≡ a → second ≡ b
    → Appends held middle first → OnOk r (Appends middle holds second) → OnOk r (Appends held holds (a ++ b))
both_written (Ok x) held middle holds first second a b ea eb before more = rw (← ea, ← eb) (Appends-trans held middle holds first second before more)
both_written (Err e) held middle holds first second a b ea eb before more = tt

-- what is said where all was written
pub told_written : {A E : Type 0} (r : Result A E) (P : Type 0) (t : Bool) → t ≡ is_ok r → t ≡ true → OnOk r P → P
told_written (Ok x) P t e written p = p
told_written (Err x) P t e written p = absurd (true≢false (sym written ∙ e))

-- between two pieces: some input led here, it was taken from the reader, and what it is answered was written
pub record Answering (had left held holds : Option (List ℕ)) (run : Run) (store : List ℕ) : Type 0 where
  pub led : Led run store
  pub taken : Consumes had left led.input
  pub answered : Appends held holds (text_of led.begun led.first led.input)

pub answering_start : (had held : Option (List ℕ)) (run : Run) (store : List ℕ) → IsStart run store → Answering had had held held run store
unfolding taking_all
answering_start had held run store s =
    record {
      led = record { begun = run; first = store; input = []; starts = s; leads = leads_none run store };
      taken = Consumes-nil had;
      answered = Appends-nil held;
    }

module _ (had left held holds : Option (List ℕ)) (run : Run) (store : List ℕ) (a : Answering had left held holds run store) (later_left later_holds : Option (List ℕ)) where
  pub answering_on : (piece : List ℕ) (later : Run) (later_store : List ℕ) → Takes run store piece later later_store
      → Consumes left later_left piece → Appends holds later_holds (text_of run store piece) → Answering had later_left held later_holds later later_store
  answering_on piece later later_store t consumed written =
      let l : Led run store = a.led in
      record {
        led = record { begun = l.begun; first = l.first; input = l.input ++ piece; starts = l.starts; leads = takes_on l.begun l.first l.input run store l.leads piece later later_store t };
        taken = Consumes-trans had left later_left _ _ a.taken consumed;
        answered = subst (Appends held later_holds) (sym (texts_join l.begun l.first l.input run store l.leads piece)) (Appends-trans held holds later_holds _ _ a.answered written);
      }

  -- the end of input
  pub answering_end : Consumes left later_left [] → Appends holds later_holds (last_answer run store ++ last_counts run store) → Through had later_left held later_holds
  answering_end consumed written =
      let l : Led run store = a.led in
      record {
        input = l.input;
        taken = subst (Consumes had later_left) (append-nil l.input) (Consumes-trans had left later_left _ _ a.taken consumed);
        answered = subst (Appends held later_holds) (sym (append_assoc (text_of l.begun l.first l.input) (last_answer run store) (last_counts run store)) ∙ handed_is run store l) (Appends-trans held holds later_holds _ _ a.answered written);
      }

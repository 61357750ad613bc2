-- Byte by byte, the records of an input are the model's lines: the last book is the model's, and what is written is the model's run.
-- Assumes nothing.
use mathlib.Core.List.{List, [], ◌∷◌, ◌++◌, append_assoc, map}
use mathlib.Core.Path.{◌≡◌, refl, ◌∙◌}
use mathlib.Core.Bool.{Bool, true, false}
use Prim.Native.Nat.{ℕ}
use native.Mathlib.Omega.{arith}
use lib.Dec.{eqb}
use lib.ListN.{take}
use Rattle.model.specs.Input.{lines_of}
use Rattle.model.specs.Answer.{done_text}
use Rattle.model.specs.Step.{Request, as_bytes}
use Rattle.model.specs.Run.{after, output, records_of}
use Rattle.model.proofs.Lines.{ahead, ahead_append, ahead_of_line, ahead_of_none}
use Rattle.pieces.specs.Progress.{Progress, start, ended, lengthened, taking, taking_all, at_end, kept_bytes}
use Rattle.pieces.proofs.Cut.{take_join, with_line_lem, ended_cut}

-- a piece and the next one are one piece
pub pieces_join : (s : Progress) (piece next : List ℕ) → taking_all s (piece ++ next) ≡ taking_all (taking_all s piece) next
unfolding taking_all
pieces_join s [] next = refl
pieces_join s (b ∷ piece) next = pieces_join (taking s b) piece next

-- all that is written, with DONE
abbrev said : Progress → List ℕ
said s = s.written ++ done_text s.book.accepted s.book.refused

-- the end of a run that has these requests before it
pub record Ends (s : Progress) (requests : List Request) (last : Progress) : Type 0 where
  pub book : last.book ≡ after s.book requests
  pub text : said last ≡ s.written ++ output s.book requests

ends_now : (s : Progress) (line : List ℕ) → Ends s [] (with_line_lem s line)
unfolding after output
ends_now s line = record { book = refl; text = refl }

ends_later : (s : Progress) (line : List ℕ) (requests : List Request) (last : Progress) → Ends (ended (with_line_lem s line)) requests last → Ends s (as_bytes line ∷ requests) last
unfolding after output ended
ends_later s line requests last e = record { book = e.book; text = e.text ∙ append_assoc s.written _ _ }

-- where `line` is the line so far
abbrev Rest : Progress → List ℕ → List ℕ → Type 0
Rest s line input = Ends s (map as_bytes (ahead line (lines_of input))) (at_end (taking_all (with_line_lem s (take kept_bytes line)) input))

last_line : (s : Progress) (c : ℕ) (line : List ℕ) → at_end (with_line_lem s (take kept_bytes (c ∷ line))) ≡ ended (with_line_lem s (c ∷ line))
unfolding at_end
last_line s c line = ended_cut s (c ∷ line)

rest_none : (s : Progress) (line : List ℕ) → Rest s line []
unfolding at_end taking_all lines_of
rest_none s [] = ends_now s []
rest_none s (c ∷ line) =
    rw (last_line s c line, ahead_of_none (c ∷ line) (omega arith))
    (ends_later s (c ∷ line) [] (ended (with_line_lem s (c ∷ line))) (ends_now (ended (with_line_lem s (c ∷ line))) (ended (with_line_lem s (c ∷ line))).line))

rest_on : (s : Progress) (line : List ℕ) (b : ℕ) (input : List ℕ) → ((s : Progress) (line : List ℕ) → Rest s line input) → (t : Bool) → eqb b 10 ≡ t → Rest s line (b ∷ input)
unfolding taking_all taking lengthened lines_of ended
rest_on s line b input rest true e =
    rw (e, ended_cut s line, ahead_of_line line (lines_of input))
    (ends_later s line (map as_bytes (lines_of input)) _ (rest (ended (with_line_lem s line)) []))
rest_on s line b input rest false e =
    rw (e, take_join kept_bytes line (b ∷ []))
    (rw (ahead_append line (b ∷ []) (lines_of input)) at (rest s (line ++ (b ∷ []))))

rest_is : (input : List ℕ) (s : Progress) (line : List ℕ) → Rest s line input
rest_is [] s line = rest_none s line
rest_is (b ∷ input) s line = rest_on s line b input (rest_is input) (eqb b 10) refl

-- "Each record gets the book that the one before left"
pub run_is : (input : List ℕ) → Ends start (records_of input) (at_end (taking_all start input))
run_is input = rest_is input start []

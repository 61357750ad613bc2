-- Of a line, the bytes that are kept tell all: a longer one is refused by its length alone.
-- Assumes nothing.
use Rattle.std.specs.Prelude.{Some}
use mathlib.Core.Logic.{⊎_elim}
use mathlib.Core.List.{List, [], ◌∷◌, ◌++◌}
use mathlib.Core.Path.{◌≡◌, refl, sym, ◌∙◌}
use Prim.Native.Nat.{ℕ, zero, suc, ◌-◌, ◌<◌}
use native.Mathlib.Nat.{eq-zero-or-pos}
use native.Mathlib.Omega.{arith}
use borrow.Author.Tests.{lt-leb}
use lib.ListN.{length, take, length-take}
use lib.Seq.{take_all}
use Rattle.model.specs.Question.{longest, first_no}
use Rattle.model.specs.Answer.{text}
use Rattle.model.specs.Step.{as_bytes, questions, refuse}
use Rattle.model.proofs.Steps.{first_is_length, step_is}
use Rattle.ledger.specs.Answer.{one_more_refused}
use Rattle.ledger.specs.Does.{book_settled, store_settled}
use Rattle.pieces.specs.Progress.{Progress, ended, kept_bytes}

pub take_join : {A : Type 0} (n : ℕ) (xs ys : List A) → take n (take n xs ++ ys) ≡ take n (xs ++ ys)
take_join zero xs ys = refl
take_join (suc n) [] ys = refl
take_join (suc n) (x ∷ xs) ys = rw (take_join n xs ys)

-- the progress with another line
abbrev pub with_line_lem : Progress → List ℕ → Progress
with_line_lem s line = record { book = s.book; own = s.own; store = s.store; line = line; written = s.written }

-- a long line is refused
ended_long : (s : Progress) (line : List ℕ) → longest < length line
    → ended (with_line_lem s line) ≡ record { book = (refuse s.book 1).book; own = one_more_refused s.own; store = s.store; line = []; written = s.written ++ text (refuse s.book 1).answer }
unfolding ended book_settled store_settled
ended_long s line long =
    let first : first_no (questions s.book (as_bytes line)) ≡ Some 1 = first_is_length s.book line (lt-leb (length line) longest long) in
    rw (step_is s.book (as_bytes line) (Some 1) first, first)

pub ended_cut : (s : Progress) (line : List ℕ) → ended (with_line_lem s (take kept_bytes line)) ≡ ended (with_line_lem s line)
ended_cut s line =
    ⊎_elim
    (λ (z : length line - kept_bytes ≡ 0). rw (take_all kept_bytes line (omega arith)))
    (λ (p : 0 < length line - kept_bytes).
    let cut : longest < length (take kept_bytes line) = rw (length-take kept_bytes line) (omega arith) in
    ended_long s (take kept_bytes line) cut ∙ sym (ended_long s line (omega arith)))
    (eq-zero-or-pos (length line - kept_bytes))

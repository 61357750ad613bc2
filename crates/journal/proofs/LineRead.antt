-- A record's bytes: what comes of each that is asked.
-- Assumes nothing.
use Rattle.std.specs.Prelude.{Result, Ok, Err}
use mathlib.Core.Bool.{Bool, false}
use mathlib.Core.List.{List}
use mathlib.Core.Path.{◌≡◌, refl}
use Prim.Native.Nat.{ℕ, suc, ◌+◌, ◌≤◌}
use native.Mathlib.Omega.{arith}
use native.Mathlib.Numerals.{add-one}
use lib.IntN.{ℤ}
use lib.ListN.{length, take, drop, get_or, replicate}
use Rattle.model.specs.Letter.{ages}
use Rattle.model.specs.Call.{declare, set_rate, add_pattern, close_year, totals, register_month, set_rate_from_register}
use Rattle.model.specs.Step.{as_bytes, as_numbers}
use Rattle.form.specs.declared.request.Request.{Request}
use Rattle.form.specs.declared.request.Request.TheVariants.{Declare, SetRate, AddPattern, CloseYear, Totals, RegisterMonth, SetRateFromRegister}
use Rattle.record.specs.Column.{each, size_at, paid_at}
use Rattle.record.specs.Request.{read_of, Gives}
use Rattle.record.specs.Asks.{pattern_of, year_of, Low, Says}
use Rattle.record.proofs.Answers.{sizes_long, said}
use Rattle.state.specs.declared.book.Book.{Book}
use Rattle.refusal.specs.declared.Refusal.{Refusal}
use Rattle.ledger.specs.declared.answer.Outcome.{Outcome}
use Rattle.ledger.specs.Answer.{refused_of}
use Rattle.ledger.specs.Does.{Does}
use Rattle.journal.proofs.LineQuestions.{line_refused, line_asks}

module _ (line : List ℕ) (request : Result Request Refusal) (minus : List Bool) (sizes : List ℕ) (reads : Gives (read_of line (replicate 62 false) (replicate 62 0)) request minus sizes) where
  told : Says request minus sizes line
  told = said line (replicate 62 false) (replicate 62 0) refl refl request minus sizes reads

  pub months_in_lem : 62 ≤ length sizes
  months_in_lem = omega (arith, sizes_long line (replicate 62 false) (replicate 62 0) request minus sizes reads)

  pub closes_low : (letter : ℕ) → (asks : Request) → request ≡ Ok asks → asks ≡ CloseYear letter → Low (suc (ages letter)) sizes
  closes_low letter asks e k = (rw k at (rw e at told)).1

  module _ (book : Book) (r : Outcome) (store : List ℕ) where
    pub refuses : (refusal : Refusal) → request ≡ Err refusal → r ≡ refused_of book refusal → Does book (as_bytes line) store r store
    refuses refusal e er = line_refused line book store r refusal (rw e at told) er

    pub sums : (letter : ℕ) → (asks : Request) → request ≡ Ok asks → asks ≡ Totals letter → Does book (as_numbers (totals letter)) store r store → Does book (as_bytes line) store r store
    sums letter asks e k h = line_asks line book store r (totals letter) (rw k at (rw e at told)) store h

    module _ (later : List ℕ) where
      pub declares : (letter : ℕ) → (asks : Request) → request ≡ Ok asks → asks ≡ Declare letter → Does book (as_numbers (declare letter (get_or sizes 2 0))) store r later → Does book (as_bytes line) store r later
      declares letter asks e k h = line_asks line book store r (declare letter (get_or sizes 2 0)) (rw k at (rw e at told)) later h

      pub sets_rate : (letter : ℕ) → (asks : Request) → request ≡ Ok asks → asks ≡ SetRate letter → Does book (as_numbers (set_rate (get_or sizes 1 0) (take 60 (drop 2 sizes)))) store r later → Does book (as_bytes line) store r later
      sets_rate letter asks e k h = line_asks line book store r (set_rate (get_or sizes 1 0) (take 60 (drop 2 sizes))) (rw k at (rw e at told)) later h

      pub registers_month : (letter : ℕ) → (asks : Request) → request ≡ Ok asks → asks ≡ RegisterMonth letter → Does book (as_numbers (register_month (get_or sizes 1 0) (get_or sizes 2 0) (get_or sizes 3 0))) store r later → Does book (as_bytes line) store r later
      registers_month letter asks e k h = line_asks line book store r (register_month (get_or sizes 1 0) (get_or sizes 2 0) (get_or sizes 3 0)) (rw k at (rw e at told)) later h

      pub sets_rate_alone : (letter : ℕ) → (asks : Request) → request ≡ Ok asks → asks ≡ SetRateFromRegister letter → Does book (as_numbers (set_rate_from_register (get_or sizes 1 0))) store r later → Does book (as_bytes line) store r later
      sets_rate_alone letter asks e k h = line_asks line book store r (set_rate_from_register (get_or sizes 1 0)) (rw k at (rw e at told)) later h

      pub adds_pattern : (letter : ℕ) → (asks : Request) → request ≡ Ok asks → asks ≡ AddPattern letter → Does book (as_numbers (pattern_of letter sizes)) store r later → Does book (as_bytes line) store r later
      adds_pattern letter asks e k h = line_asks line book store r (pattern_of letter sizes) (rw k at (rw e at told)) later h

      pub closes_year : (letter : ℕ) → (asks : Request) → request ≡ Ok asks → asks ≡ CloseYear letter → Does book (as_numbers (year_of letter minus sizes)) store r later → Does book (as_bytes line) store r later
      closes_year letter asks e k h = line_asks line book store r (year_of letter minus sizes) (rw k at (rw e at told)).0 later h

-- the columns of a call, as many numbers as the line has ages or rows
module _ (book : Book) (letter n : ℕ) (en : n ≡ ages letter) (sizes : List ℕ) (store : List ℕ) (r : Outcome) (later : List ℕ) where
  pub pattern_columns : (paid incurred : List ℕ) → paid ≡ each (size_at sizes) n 2 3 → incurred ≡ each (size_at sizes) n 2 4
      → Does book (as_numbers (add_pattern letter (get_or sizes 2 0) paid incurred)) store r later → Does book (as_numbers (pattern_of letter sizes)) store r later
  pattern_columns paid incurred ep ei h = rw (← en) (rw (ep, ei) at h)

  pub year_columns : (minus : List Bool) (paid : List ℤ) (unpaid tabular : List ℕ) → paid ≡ each (paid_at minus sizes) (n + 1) 3 3 → unpaid ≡ each (size_at sizes) (n + 1) 3 4 → tabular ≡ each (size_at sizes) (n + 1) 3 5
      → Does book (as_numbers (close_year letter (get_or sizes 2 0) paid unpaid tabular)) store r later → Does book (as_numbers (year_of letter minus sizes)) store r later
  year_columns minus paid unpaid tabular ep eu et h = rw (← en, ← (add-one n)) (rw (ep, eu, et) at h)

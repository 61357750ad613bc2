-- What a request and the lists say of the line that they were read from.
-- Assumes nothing: these are definitions.
use Rattle.std.specs.Prelude.{Bool, List, ◌≡◌, ℕ, suc, ◌+◌, ◌*◌, ◌≤◌, ◌<◌, get_or, take, drop, None, Some, Result, Ok, Err}
use Rattle.model.specs.Letter.{ages}
use Rattle.model.specs.Call.{Call, declare, set_rate, add_pattern, close_year, totals, register_month, set_rate_from_register}
use Rattle.model.specs.Question.{line_questions, call_questions, first_no}
use Rattle.model.specs.Step as model
use Rattle.refusal.specs.Number.{number_of}
use Rattle.numbers.specs.Number.{most}
use Rattle.record.specs.Column.{each, size_at, paid_at}
use Rattle.refusal.specs.declared.Refusal.{Refusal}
use Rattle.form.specs.declared.request.Request.{Request}
use Rattle.form.specs.declared.request.Request.TheVariants.{Declare, SetRate, AddPattern, CloseYear, Totals, RegisterMonth, SetRateFromRegister}

-- the calls of a PATT and of a YEAR: the model's `call_from`, of signs and sizes in place of fields
abbrev pub pattern_of : ℕ → List ℕ → Call
pattern_of letter sizes = add_pattern letter (get_or sizes 2 0) (each (size_at sizes) (ages letter) 2 3) (each (size_at sizes) (ages letter) 2 4)

abbrev pub year_of : ℕ → List Bool → List ℕ → Call
year_of letter minus sizes =
    close_year letter (get_or sizes 2 0) (each (paid_at minus sizes) (suc (ages letter)) 3 3) (each (size_at sizes) (suc (ages letter)) 3 4) (each (size_at sizes) (suc (ages letter)) 3 5)

-- the sizes of n payments are at most the most, so that 64 bits with a sign hold them
abbrev pub Low : ℕ → List ℕ → Type 0
Low n sizes = (i : ℕ) → i < n → get_or sizes (3 + i * 3) 0 ≤ most

-- questions 1 to 6 of the line come to what 3, 4 and 6 of the call do, and where none is answered no the call is the line's
pub record Asks (line : List ℕ) (call : Call) : Type 0 where
  pub first : first_no (line_questions line) ≡ first_no (call_questions call)
  pub same : first_no (line_questions line) ≡ None → call ≡ model.call_of line

-- the question that is answered no, or the call that the line asks
abbrev pub Says : Result Request Refusal → List Bool → List ℕ → List ℕ → Type 0
Says (Err refusal) minus sizes line = first_no (line_questions line) ≡ Some (number_of refusal)
Says (Ok (Declare letter)) minus sizes line = Asks line (declare letter (get_or sizes 2 0))
Says (Ok (SetRate letter)) minus sizes line = Asks line (set_rate (get_or sizes 1 0) (take 60 (drop 2 sizes)))
Says (Ok (AddPattern letter)) minus sizes line = Asks line (pattern_of letter sizes)
Says (Ok (CloseYear letter)) minus sizes line = Asks line (year_of letter minus sizes) × Low (suc (ages letter)) sizes
Says (Ok (Totals letter)) minus sizes line = Asks line (totals letter)
Says (Ok (RegisterMonth letter)) minus sizes line = Asks line (register_month (get_or sizes 1 0) (get_or sizes 2 0) (get_or sizes 3 0))
Says (Ok (SetRateFromRegister letter)) minus sizes line = Asks line (set_rate_from_register (get_or sizes 1 0))

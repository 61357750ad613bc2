-- The questions from each one on, and what the ones before have shown.
-- Assumes nothing: these are definitions.
use Rattle.std.specs.Prelude.{Bool, ◌≡◌, List, ℕ, ◌≤◌, length, if◌then◌else◌, Some, Err}
use Rattle.model.specs.Field.{letter_in}
use Rattle.model.specs.Record.{Word, first_number, call_from}
use Rattle.model.specs.Question.{has_word, has_letter, has_fields, is_well_written}
use Rattle.refusal.specs.declared.Refusal.{Refusal}
use Rattle.refusal.specs.declared.Refusal.TheVariants.{UnknownWord, UncoveredLetter, WrongCount, BadlyWritten}
use Rattle.form.specs.declared.request.Request.{Request}
use Rattle.form.specs.Request.{kind, letter, request}
use Rattle.numbers.specs.Number.{capped, has_minus}
use Rattle.record.specs.Request.{asking, with_numbers, LineRead}

-- a refusal that leaves the lists as they were
abbrev pub unread : Refusal → List Bool → List ℕ → LineRead
unread refusal minus sizes = record { request = Err refusal; minus = minus; sizes = sizes }

abbrev pub from_count : Word → List (List ℕ) → List Bool → List ℕ → LineRead
from_count word fs minus sizes =
    record {
      request = if has_fields word fs then (if is_well_written word fs then asking word fs else Err BadlyWritten) else Err WrongCount;
      minus = with_numbers has_minus word fs minus;
      sizes = with_numbers capped word fs sizes;
    }

abbrev pub from_letter : Word → List (List ℕ) → List Bool → List ℕ → LineRead
from_letter word fs minus sizes = if has_letter (call_from word fs) then from_count word fs minus sizes else unread UncoveredLetter minus sizes

abbrev pub from_word : Word → List (List ℕ) → List Bool → List ℕ → LineRead
from_word word fs minus sizes = if has_word word then from_letter word fs minus sizes else unread UnknownWord minus sizes

-- the request of a record with these fields, with the byte of the second, which has the fields before its first number
pub record Lettered (fs : List (List ℕ)) (asks : Request) : Type 0 where
  pub known : request (kind asks) (letter_in fs) ≡ Some asks
  pub second : letter asks ≡ letter_in fs
  pub there : first_number (kind asks) ≤ length fs

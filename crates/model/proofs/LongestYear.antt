-- "and one can have as many": a YEAR of 418 bytes that is accepted after some records, computed.
-- Assumes nothing.
use Rattle.std.specs.Prelude.{None}
use mathlib.Core.Path.{◌≡◌, refl}
use mathlib.Core.List.{List, [], ◌++◌}
use Prim.Native.Nat.{ℕ, zero, suc, ◌+◌}
use lib.ListN.{length}
use Rattle.model.specs.Basics.{bytes}
use Rattle.model.specs.Letter.{ten_year, two_year, ages}
use Rattle.model.specs.Pattern.{cumulative_ratio}
use Rattle.model.specs.Input.{lines_of}
use Rattle.model.specs.Field.{fields}
use Rattle.model.specs.Number.{natural, is_plain, is_written, integer, digits_before, decimal}
use Rattle.model.specs.Record.{word_of, all_written, call_from}
use Rattle.model.specs.Book.{empty}
use Rattle.model.specs.Question.{longest, line_questions, book_questions, first_no}
use Rattle.model.specs.Step.{as_bytes, questions, refuse, accept, step}
use Rattle.model.specs.Run.{after, records_of}

-- a text n times over
abbrev times : ℕ → List ℕ → List ℕ
times zero text = []
times (suc n) text = text ++ times n text

-- a ten-year line
abbrev letter : List ℕ
letter = bytes "A"

-- the rates and patterns of n years, from 1991 on: all paid at age 1
abbrev years : ℕ → List ℕ
years zero = []
years (suc n) =
    let year = decimal (1991 + n) in
    years n ++ (bytes "RATE\t" ++ year ++ times 60 (bytes "\t0") ++ bytes "\n") ++ (bytes "PATT\t" ++ letter ++ bytes "\t" ++ year ++ times 20 (bytes "\t1") ++ bytes "\n")

-- "YEAR, letter, year, then paid, unpaid, tabular for each age, prior row last": each number as long as it can be
abbrev pub longest_year : List ℕ
longest_year = bytes "YEAR\t" ++ letter ++ bytes "\t2000" ++ times 11 (bytes "\t-10000000000\t10000000000\t10000000000")

pub is_longest : length longest_year ≡ longest
is_longest = refl

pub is_accepted : first_no (questions (after empty (records_of (bytes "LINE\t" ++ letter ++ bytes "\t0\n" ++ years 10))) (as_bytes longest_year)) ≡ None
unfolding after step questions refuse accept line_questions book_questions word_of all_written call_from natural is_plain is_written integer digits_before decimal fields lines_of cumulative_ratio ages ten_year two_year
is_accepted = refl

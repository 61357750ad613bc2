-- Lines read, computed: records of document 01's run, a SUM, a MIDT, a RATE with a year alone, three whose second field is one byte and no letter, and a line for each of questions 1 to 5.
-- Assumes nothing.
use Rattle.std.specs.Prelude.{Result, Ok, Err}
use mathlib.Core.Bool.{true, false}
use mathlib.Core.Path.{◌≡◌, refl}
use mathlib.Core.List.{List, [], ◌∷◌, ◌++◌, map}
use Prim.Native.Nat.{ℕ, suc}
use lib.ListN.{replicate}
use lib.Seq.{sets}
use Rattle.model.specs.Basics.{bytes}
use Rattle.model.specs.Letter.{ten_year, two_year, ages}
use Rattle.model.specs.Field.{fields}
use Rattle.model.specs.Number.{natural, is_plain, is_written}
use Rattle.model.specs.Record.{word_of, all_written, call_from}
use Rattle.model.specs.Question.{longest, line_questions}
use Rattle.model.specs.Sample.{months}
use Rattle.refusal.specs.declared.Refusal.{Refusal}
use Rattle.refusal.specs.declared.Refusal.TheVariants.{TooLong, UnknownWord, UncoveredLetter, WrongCount, BadlyWritten}
use Rattle.refusal.specs.Number.{refusal_of}
use Rattle.numbers.specs.Number.{has_minus}
use Rattle.record.specs.Gather.{leading_numbers}
use Rattle.record.specs.Request.{left_in, read_of}
use Rattle.form.specs.declared.request.Request.{Request}
use Rattle.form.specs.declared.request.Request.TheVariants.{Declare, SetRate, AddPattern, CloseYear, Totals, RegisterMonth, SetRateFromRegister}

-- sizes among 62 places that held 9, from a place on
abbrev among : ℕ → List ℕ → List ℕ
among k sizes = sets (replicate 62 9) k sizes

-- a line, its request, and the sizes
abbrev pub samples : List (List ℕ × Result Request Refusal × List ℕ)
samples =
    (bytes "LINE\tJ\t0", Ok (Declare 74), among 2 (0 ∷ []))
    ∷ (bytes "RATE\t2015" ++ months 60, Ok (SetRate 0), among 1 (2015 ∷ replicate 60 2100))
    ∷ (bytes "PATT\tJ\t2015\t50\t100\t90\t100", Ok (AddPattern 74), among 2 (2015 ∷ 50 ∷ 100 ∷ 90 ∷ 100 ∷ []))
    ∷ (bytes "YEAR\tJ\t2016\t-7\t0\t0\t40\t10\t0\t0\t0\t10000000000", Ok (CloseYear 74), among 2 (2016 ∷ 7 ∷ 0 ∷ 0 ∷ 40 ∷ 10 ∷ 0 ∷ 0 ∷ 0 ∷ 10000000000 ∷ []))
    ∷ (bytes "SUM\tJ", Ok (Totals 74), among 2 [])
    ∷ (bytes "MIDT\t1980\t12\t1068", Ok (RegisterMonth 0), among 1 (1980 ∷ 12 ∷ 1068 ∷ []))
    ∷ (bytes "RATE\t2015", Ok (SetRateFromRegister 0), among 1 (2015 ∷ []))
    ∷ (bytes "RATE\t5", Ok (SetRateFromRegister 53), among 1 (5 ∷ []))
    ∷ (bytes "RATE\t5" ++ months 60, Ok (SetRate 53), among 1 (5 ∷ replicate 60 2100))
    ∷ (bytes "MIDT\t5\t12\t1068", Ok (RegisterMonth 53), among 1 (5 ∷ 12 ∷ 1068 ∷ []))
    ∷ (bytes "LINE\tJ\t99999999999999999999999999999999", Ok (Declare 74), among 2 (1000000000000 ∷ []))
    ∷ (replicate (suc longest) 65, Err TooLong, among 2 [])
    ∷ (replicate longest 65, Err UnknownWord, among 2 [])
    ∷ ([], Err UnknownWord, among 2 [])
    ∷ (bytes "PATT", Err UncoveredLetter, among 2 [])
    ∷ (bytes "SUM\tM", Err UncoveredLetter, among 2 [])
    ∷ (bytes "LINE\tM\t0", Err UncoveredLetter, among 2 [])
    ∷ (bytes "LINE\tJ\t0\t", Err WrongCount, among 2 (0 ∷ []))
    ∷ (bytes "SUM\tJ\t7", Err WrongCount, among 2 [])
    ∷ (bytes "MIDT\t1980\t12", Err WrongCount, among 1 (1980 ∷ 12 ∷ []))
    ∷ (bytes "RATE", Err WrongCount, among 1 [])
    ∷ (bytes "RATE\t2015\t", Err WrongCount, among 1 (2015 ∷ []))
    ∷ (bytes "LINE\tJ\t00", Err BadlyWritten, among 2 [])
    ∷ (bytes "MIDT\t1980\t01\t1068", Err BadlyWritten, among 1 (1980 ∷ []))
    ∷ (bytes "RATE\t-2015", Err BadlyWritten, among 1 [])
    ∷ (bytes "YEAR\tJ\t2016\t5\t-0\t0\t40\t10\t0\t0\t0\t0", Err BadlyWritten, among 2 (2016 ∷ 5 ∷ []))
    ∷ []

pub samples_read : map (λ s. (read_of s.0 [] (replicate 62 9)).request) samples ≡ map (λ s. s.1) samples
unfolding read_of line_questions fields word_of call_from all_written leading_numbers is_written is_plain natural ten_year two_year ages refusal_of
samples_read = refl

pub samples_left : map (λ s. (read_of s.0 [] (replicate 62 9)).sizes) samples ≡ map (λ s. s.2) samples
unfolding read_of line_questions fields word_of call_from all_written leading_numbers is_written is_plain natural ten_year two_year ages
samples_left = refl

-- the signs of a YEAR, among places that held true
pub signs_left : left_in has_minus (bytes "YEAR\tJ\t2016\t-7\t0\t0\t40\t10\t0\t0\t0\t0") (replicate 14 true) ≡ true ∷ true ∷ false ∷ true ∷ replicate 8 false ++ (true ∷ true ∷ [])
unfolding line_questions fields word_of call_from all_written leading_numbers is_written is_plain natural ten_year two_year ages
signs_left = refl

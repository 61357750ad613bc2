-- "For every case of an enum answer, a definition gives this paper's number and values."
-- Assumes nothing: these are definitions.
use Rattle.std.specs.Prelude.{List, [], ◌∷◌, ℕ, eqb, if◌then◌else◌}
use Rattle.refusal.specs.declared.Refusal.{Refusal}
use Rattle.refusal.specs.declared.Refusal.TheVariants.{TooLong, UnknownWord, UncoveredLetter, WrongCount, BadlyWritten, OutsideLimits, AlreadyGiven, NotDeclared, NoRate, OutOfTurn, IncurredTooSmall, RatioFalls, NoPattern, NoMonth}

-- the number of the question that each refusal answers no
abbrev pub number_of : Refusal → ℕ
number_of TooLong = 1
number_of UnknownWord = 2
number_of UncoveredLetter = 3
number_of WrongCount = 4
number_of BadlyWritten = 5
number_of OutsideLimits = 6
number_of AlreadyGiven = 7
number_of NotDeclared = 8
number_of NoRate = 9
number_of OutOfTurn = 10
number_of IncurredTooSmall = 11
number_of RatioFalls = 12
number_of NoPattern = 13
number_of NoMonth = 14

-- the refusal that has a number, of those listed; the last one, where none has it
abbrev pub numbered : ℕ → Refusal → List Refusal → Refusal
numbered question last [] = last
numbered question last (refusal ∷ refusals) = if eqb (number_of refusal) question then refusal else numbered question last refusals

unfoldable pub refusal_of : ℕ → Refusal
refusal_of question =
    numbered question NoMonth
    (TooLong
    ∷ UnknownWord
    ∷ UncoveredLetter
    ∷ WrongCount
    ∷ BadlyWritten
    ∷ OutsideLimits
    ∷ AlreadyGiven
    ∷ NotDeclared
    ∷ NoRate
    ∷ OutOfTurn
    ∷ IncurredTooSmall
    ∷ RatioFalls
    ∷ NoPattern
    ∷ [])

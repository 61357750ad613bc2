-- A number as it is read from the front of the rest of a line: its sign, its size, which stops above every limit, and its length.
-- Assumes nothing: these are definitions.
use Rattle.std.specs.Prelude.{◌≡◌, ℕ, ◌+◌, ◌≤◌, min, Bool, true, false, ◌&&◌, leb, ltb, List, [], ◌∷◌, length, drop, ◌==◌, slice_index, if◌then◌else◌, Option, None, Some}
use Rattle.model.specs.Number.{is_digit, onward, natural, minus, is_written}
use Rattle.numbers.specs.declared.front.Digits.{Digits}
use Rattle.numbers.specs.declared.number.Number.{Number}

-- above every limit
abbrev pub most : ℕ
most = 1000000000000

-- the size of a field's number (a minus sign before it adds nothing: proofs/Signs.antt), or the most
abbrev pub capped : List ℕ → ℕ
capped f = min (natural f) most

abbrev pub has_minus : List ℕ → Bool
has_minus f = slice_index f 0 == minus

-- the digits at the front
abbrev pub leading : List ℕ → List ℕ
leading [] = []
leading (b ∷ rest) = if is_digit b then b ∷ leading rest else []

-- "Fields are parted by one tab.": does a field end here?
abbrev pub is_end : List ℕ → Bool
is_end [] = true
is_end (b ∷ rest) = b == 9

-- the first i digits at the front are read, as n
pub record Told (rest : List ℕ) (n i : ℕ) : Type 0 where
  pub inside : i ≤ length rest
  pub low : n ≤ most
  pub long : length (leading rest) ≡ i + length (leading (drop i rest))
  pub value : capped (leading rest) ≡ min (onward n (leading (drop i rest))) most

-- the digits at the front: their number, or the most, and how many they are
abbrev pub leading_digits : List ℕ → Digits
leading_digits rest = record { size = capped (leading rest); length = length (leading rest) }

-- the same, where the rest has at least twelve bytes, and of its first twelve the first that is no digit is a tab
abbrev pub digits_to_tab : List ℕ → Option Digits
digits_to_tab rest =
    let n = length (leading rest) in
    if leb 12 (length rest) && ltb n 12 && slice_index rest n == 9 then Some (leading_digits rest) else None

-- digits as a number without a sign
abbrev pub without_sign : Digits → Number
without_sign digits = record { minus = false; size = digits.size; length = digits.length }

-- "A number is digits without leading zeros ("0" alone is right); a minus sign is allowed only before a nonzero paid in YEAR.":
-- the number that a field is, where minusAllowed says whether a minus sign is allowed: its sign, size and length; none where it is not well written
abbrev pub number_in : Bool → List ℕ → Option Number
number_in minus_allowed f = if is_written minus_allowed f then Some (record { minus = has_minus f; size = capped f; length = length f }) else None

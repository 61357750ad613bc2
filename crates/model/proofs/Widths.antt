-- How many bytes a field can have: a word, a letter, or a well-written number within its limits.
-- Assumes nothing.
use Rattle.std.specs.Prelude.{if◌then◌else◌}
use mathlib.Core.Path.{◌≡◌, refl, sym}
use mathlib.Core.Bool.{Bool, true, false, not, ◌&&◌}
use mathlib.Core.List.{List, [], ◌∷◌}
use Prim.Native.Nat.{ℕ, zero, suc, ◌+◌, ◌-◌, ◌*◌, ◌^◌, ◌≤◌, ◌<◌}
use native.Mathlib.Omega.{arith, by_contra}
use native.Mathlib.Nat.{pow-suc, pow-le-pow_right, mul-le-mul_right}
use borrow.Author.Tests.{leb-true, eqb-false, not-true}
use lib.Dec.{eqb, leb}
use lib.ListN.{length}
use lib.IntN.{pos, nat_abs, neg_ℤ}
use Rattle.model.specs.Basics.{same, bytes}
use Rattle.std.specs.List.{list_all}
use Rattle.model.specs.Letter.{ten_year, two_year, covered}
use Rattle.model.specs.Field.{only_byte}
use Rattle.model.specs.Number.{is_digit, onward, natural, is_plain, minus, is_written, integer}
use Rattle.model.specs.Kind.{is_rate, is_year, is_register_year, is_month, is_opening, is_amount, is_paid}
use Rattle.model.specs.Record.{Word, LINE, RATE, PATT, YEAR, SUM, MIDT, word_of}
use Rattle.model.specs.Question.{has_word}
use Rattle.model.proofs.Lists.{true≢false, and_left, and_right}

-- what a field of a record is
pub data FieldKind : Type 0 where
  word : FieldKind
  letter : FieldKind
  opening : FieldKind
  year : FieldKind
  register_year : FieldKind
  month : FieldKind
  rate : FieldKind
  amount : FieldKind
  paid : FieldKind

-- what questions 2, 3, 5 and 6 ask of it
abbrev pub fits : FieldKind → List ℕ → Bool
fits word f = has_word (word_of f)
fits letter f = covered (only_byte f)
fits opening f = is_written false f && is_opening (natural f)
fits year f = is_written false f && is_year (natural f)
fits register_year f = is_written false f && is_register_year (natural f)
fits month f = is_written false f && is_month (natural f)
fits rate f = is_written false f && is_rate (natural f)
fits amount f = is_written false f && is_amount (natural f)
fits paid f = is_written true f && is_paid (integer f)

-- how many bytes it then has at most: a number as many digits as its limit, and paid a minus sign
abbrev pub width : FieldKind → ℕ
width word = 4
width letter = 1
width opening = 12
width year = 4
width register_year = 4
width month = 2
width rate = 4
width amount = 11
width paid = 12

-- a number of n digits after another is at least that one with n zeros
onward_least : (a : ℕ) (digits : List ℕ) → a * 10 ^ length digits ≤ onward a digits
onward_least a [] = omega arith
onward_least a (b ∷ digits) = rw (pow-suc 10 (length digits)) (omega (arith, onward_least (a * 10 + (b - 48)) digits))

first_digit : (b : ℕ) (digits : List ℕ) → not (eqb b 48) && list_all is_digit (b ∷ digits) ≡ true → 1 ≤ 0 * 10 + (b - 48)
first_digit b digits p =
    let zero_not : b ≡ 48 → ⊥ = eqb-false b 48 (not-true (eqb b 48) (and_left (not (eqb b 48)) (list_all is_digit (b ∷ digits)) p)) in
    let digit : is_digit b ≡ true = and_left (is_digit b) (list_all is_digit digits) (and_right (not (eqb b 48)) (list_all is_digit (b ∷ digits)) p) in
    let least : 48 ≤ b = leb-true 48 b (and_left (leb 48 b) (leb b 57) digit) in
    by_contra 1 (0 * 10 + (b - 48)) (λ (z : 0 * 10 + (b - 48) < 1). absurd (zero_not (omega arith)))

-- "digits without leading zeros": below 10 ^ d there are at most d of them
plain_short : (s : List ℕ) (d : ℕ) → is_plain s ≡ true → natural s < 10 ^ d → 0 < d → length s ≤ d
unfolding is_plain natural
plain_short [] d p l o = omega arith
plain_short (b ∷ []) d p l o = omega arith
plain_short (b ∷ c ∷ digits) d p l o =
    let first = first_digit b (c ∷ digits) p in
    let more = length (c ∷ digits) in
    by_contra (suc more) d (λ (m : d < suc more).
    omega (arith, pow-le-pow_right {n = 10} (omega arith) {i = d} {j = more} (omega arith), mul-le-mul_right (10 ^ more) first, onward_least (0 * 10 + (b - 48)) (c ∷ digits)))

size_of_minus : (n : ℕ) → nat_abs (neg_ℤ (pos n)) ≡ n
size_of_minus zero = refl
size_of_minus (suc n) = refl

module _ (d : ℕ) (o : 0 < d) where
  by_sign : (b : ℕ) (digits : List ℕ) (t : Bool) → (if t then true && is_plain digits && not (eqb (natural digits) 0) else is_plain (b ∷ digits)) ≡ true
      → nat_abs (if t then neg_ℤ (pos (natural digits)) else pos (natural (b ∷ digits))) < 10 ^ d → suc (length digits) ≤ suc d
  by_sign b digits true w l = omega (arith, plain_short digits d (and_left (is_plain digits) (not (eqb (natural digits) 0)) w) (rw (size_of_minus (natural digits)) at l) o)
  by_sign b digits false w l = omega (arith, plain_short (b ∷ digits) d w l o)

  -- a number that may have a minus sign
  signed_short : (f : List ℕ) → is_written true f ≡ true → nat_abs (integer f) < 10 ^ d → length f ≤ suc d
  unfolding is_written integer
  signed_short [] w l = omega arith
  signed_short (b ∷ digits) w l = by_sign b digits (eqb b minus) w l

  unsigned : (b : ℕ) (digits : List ℕ) (t : Bool) → (if t then false && is_plain digits && not (eqb (natural digits) 0) else is_plain (b ∷ digits)) ≡ true → is_plain (b ∷ digits) ≡ true
  unsigned b digits true w = absurd (true≢false (sym w))
  unsigned b digits false w = w

  -- a number that may not
  number_short : (f : List ℕ) → is_written false f ≡ true → natural f < 10 ^ d → length f ≤ d
  unfolding is_written
  number_short [] w l = omega arith
  number_short (b ∷ digits) w l = plain_short (b ∷ digits) d (unsigned b digits (eqb b minus) w) l o

same_length : (xs ys : List ℕ) → same xs ys ≡ true → length xs ≡ length ys
same_length [] [] e = refl
same_length [] (y ∷ ys) e = absurd (true≢false (sym e))
same_length (x ∷ xs) [] e = absurd (true≢false (sym e))
same_length (x ∷ xs) (y ∷ ys) e = omega (arith, same_length xs ys (and_right (eqb x y) (same xs ys) e))

-- one word more, before others
one_word : (f text : List ℕ) (this others : Word) → length text ≤ 4 → (has_word others ≡ true → length f ≤ 4) → has_word (if same f text then this else others) ≡ true → length f ≤ 4
one_word f text this others short rest = by_test (same f text) refl
  where
    by_test : (t : Bool) → same f text ≡ t → has_word (if t then this else others) ≡ true → length f ≤ 4
    by_test true e h = omega (arith, same_length f text e)
    by_test false e h = rest h

word_short : (f : List ℕ) → has_word (word_of f) ≡ true → length f ≤ 4
unfolding word_of
word_short f =
    one_word f (bytes "LINE") LINE _ (omega arith) (
    one_word f (bytes "RATE") RATE _ (omega arith) (
    one_word f (bytes "PATT") PATT _ (omega arith) (
    one_word f (bytes "YEAR") YEAR _ (omega arith) (
    one_word f (bytes "SUM") SUM _ (omega arith) (
    one_word f (bytes "MIDT") MIDT _ (omega arith) (
    λ none. absurd (true≢false (sym none))))))))

letter_short : (f : List ℕ) → covered (only_byte f) ≡ true → length f ≤ 1
unfolding ten_year two_year
letter_short [] h = omega arith
letter_short (b ∷ []) h = omega arith
letter_short (b ∷ c ∷ more) h = absurd (true≢false (sym h))

-- a number of at most `most`, which d digits can write
limited : (d most : ℕ) → 0 < d → most < 10 ^ d → (f : List ℕ) → is_written false f && leb (natural f) most ≡ true → length f ≤ d
limited d most o few f h = number_short d o f (and_left (is_written false f) (leb (natural f) most) h) (omega (arith, leb-true (natural f) most (and_right (is_written false f) (leb (natural f) most) h)))

-- and one from `least` on
between : (d least most : ℕ) → 0 < d → most < 10 ^ d → (f : List ℕ) → is_written false f && (leb least (natural f) && leb (natural f) most) ≡ true → length f ≤ d
between d least most o few f h =
    let written = and_left (is_written false f) (leb least (natural f) && leb (natural f) most) h in
    let within = and_right (is_written false f) (leb least (natural f) && leb (natural f) most) h in
    number_short d o f written (omega (arith, leb-true (natural f) most (and_right (leb least (natural f)) (leb (natural f) most) within)))

-- a field has at most the width of its kind
pub at_most_width : (kind : FieldKind) (f : List ℕ) → fits kind f ≡ true → length f ≤ width kind
at_most_width word f h = word_short f h
at_most_width letter f h = letter_short f h
at_most_width opening f h = limited _ _ (omega arith) (omega arith) f h
at_most_width year f h = between _ _ _ (omega arith) (omega arith) f h
at_most_width register_year f h = between _ _ _ (omega arith) (omega arith) f h
at_most_width month f h = between _ _ _ (omega arith) (omega arith) f h
at_most_width rate f h = limited _ _ (omega arith) (omega arith) f h
at_most_width amount f h = limited _ _ (omega arith) (omega arith) f h
at_most_width paid f h =
    let size : ℕ = nat_abs (integer f) in
    signed_short 11 (omega arith) f (and_left (is_written true f) (is_amount size) h) (omega (arith, leb-true size _ (and_right (is_written true f) (is_amount size) h)))

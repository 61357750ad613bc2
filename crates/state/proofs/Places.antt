-- The places of the covered letters: fifteen, and no two letters have the same one.
-- Assumes nothing.
use Rattle.std.specs.Prelude.{if◌then◌else◌}
use mathlib.Core.Path.{◌≡◌, refl, sym, ap, ◌∙◌}
use mathlib.Core.Bool.{Bool, true, false, ◌||◌, false≢true}
use mathlib.Core.List.{List, [], ◌∷◌}
use Prim.Native.Nat.{ℕ, ◌+◌, ◌-◌, ◌≤◌, ◌<◌}
use native.Mathlib.Omega.{arith}
use borrow.Author.Tests.{leb-true, ltb-true, eqb-true, lt-leb}
use lib.Dec.{eqb, leb, ltb}
use Rattle.model.specs.Basics.{among, bytes}
use Rattle.std.specs.List.{list_all}
use Rattle.model.specs.Letter.{ten_year, two_year, covered}
use Rattle.model.proofs.Lists.{and_left, and_right}
use Rattle.state.specs.Lines.{place_of}

either : (a b c : Bool) → (a || b) ≡ true → (a ≡ true → c ≡ true) → (b ≡ true → c ≡ true) → c ≡ true
either true b c e f g = f refl
either false b c e f g = g e

-- what holds of every number of a list holds of one that is among them
among_all : (test : ℕ → Bool) (n : ℕ) (xs : List ℕ) → list_all test xs ≡ true → among n xs ≡ true → test n ≡ true
among_all test n [] a e = absurd (false≢true e)
among_all test n (x ∷ xs) a e =
    either (eqb n x) (among n xs) (test n) e
    (λ (q : eqb n x ≡ true). rw (eqb-true n x q) (and_left (test x) (list_all test xs) a))
    (λ (q : among n xs ≡ true). among_all test n xs (and_right (test x) (list_all test xs) a) q)

-- a test of the fifteen letters is computed
covered_all : (test : ℕ → Bool) → list_all test (bytes "ABCDEFGHR") ≡ true → list_all test (bytes "IJKLST") ≡ true → (letter : ℕ) → covered letter ≡ true → test letter ≡ true
unfolding ten_year two_year
covered_all test p q letter e =
    either (ten_year letter) (two_year letter) (test letter) e
    (λ (t : ten_year letter ≡ true). among_all test letter (bytes "ABCDEFGHR") p t)
    (λ (t : two_year letter ≡ true). among_all test letter (bytes "IJKLST") q t)

pub from_a : (letter : ℕ) → covered letter ≡ true → 65 ≤ letter
from_a letter c = leb-true 65 letter (covered_all (λ n. leb 65 n) refl refl letter c)

pub covered_place : (letter : ℕ) → covered letter ≡ true → place_of letter < 15
covered_place letter c = ltb-true (place_of letter) 15 (covered_all (λ n. ltb (place_of n) 15) refl refl letter c)

-- from R on, as code finds the place
pub later_places : (letter : ℕ) → covered letter ≡ true → 76 < letter → (letter - 70 ≡ place_of letter) × (letter - 70 < 15)
later_places letter c lt = let e : letter - 70 ≡ place_of letter = rw (lt-leb letter 76 lt) in (e, omega (arith, covered_place letter c))

-- the letter of a place
abbrev letter_at : ℕ → ℕ
letter_at place = if ltb place 12 then place + 65 else place + 70

letter_at_lem : (letter : ℕ) → covered letter ≡ true → letter ≡ letter_at (place_of letter)
letter_at_lem letter c = eqb-true letter (letter_at (place_of letter)) (covered_all (λ n. eqb n (letter_at (place_of n))) refl refl letter c)

pub places_differ : (a b : ℕ) → covered a ≡ true → covered b ≡ true → (a ≡ b → ⊥) → place_of a ≡ place_of b → ⊥
places_differ a b p q n e = n (letter_at_lem a p ∙ ap letter_at e ∙ sym (letter_at_lem b q))

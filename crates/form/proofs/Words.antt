-- The six words, byte after byte.
-- Assumes nothing.
use mathlib.Core.Bool.{Bool, true, false, ◌&&◌}
use Rattle.std.specs.Bool.{if◌then◌else◌}
use mathlib.Core.Path.{◌≡◌, refl, ap, sym, ◌∙◌}
use mathlib.Core.List.{List, [], ◌∷◌}
use Prim.Native.Nat.{ℕ, suc, ◌<◌, ◌≤◌}
use Rattle.std.proofs.Common.{arith}
use lib.Dec.{eqb}
use lib.ListN.{length, get_or}
use borrow.Author.Tests.{eqb-true, ne_eqb, eq-eqb}
use Rattle.model.specs.Basics.{same}
use Rattle.model.specs.Record.{Word, LINE, RATE, PATT, YEAR, SUM, MIDT, OTHER, word_of}

and_false : (b : Bool) → (b && false) ≡ false
and_false true = refl
and_false false = refl

and_true : (b : Bool) → (b && true) ≡ b
and_true true = refl
and_true false = refl

more_than_three : (n : ℕ) → eqb (suc (suc (suc (suc n)))) 3 ≡ false
more_than_three n = grind (arith)

more_than_four : (n : ℕ) → eqb (suc (suc (suc (suc (suc n))))) 4 ≡ false
more_than_four n = grind (arith)

-- a list has these three numbers and no more
abbrev pub three : List ℕ → ℕ → ℕ → ℕ → Bool
three f a b c = eqb (length f) 3 && (eqb (get_or f 0 0) a && (eqb (get_or f 1 0) b && eqb (get_or f 2 0) c))

-- a list has these four numbers and no more
abbrev pub four : List ℕ → ℕ → ℕ → ℕ → ℕ → Bool
four f a b c d = eqb (length f) 4 && (eqb (get_or f 0 0) a && (eqb (get_or f 1 0) b && (eqb (get_or f 2 0) c && eqb (get_or f 3 0) d)))

same_three : (f : List ℕ) (a b c : ℕ) → same f (a ∷ b ∷ c ∷ []) ≡ three f a b c
same_three [] a b c = refl
same_three (x ∷ []) a b c = and_false (eqb x a)
same_three (x ∷ y ∷ []) a b c = ap (λ t. eqb x a && t) (and_false (eqb y b)) ∙ and_false (eqb x a)
same_three (x ∷ y ∷ z ∷ []) a b c = ap (λ t. eqb x a && (eqb y b && t)) (and_true (eqb z c))
same_three (x ∷ y ∷ z ∷ w ∷ f) a b c = (ap (λ t. eqb x a && (eqb y b && t)) (and_false (eqb z c)) ∙ (ap (λ t. eqb x a && t) (and_false (eqb y b)) ∙ and_false (eqb x a))) ∙ sym (ap (λ t. t && (eqb x a && (eqb y b && eqb z c))) (more_than_three (length f)))

same_four : (f : List ℕ) (a b c d : ℕ) → same f (a ∷ b ∷ c ∷ d ∷ []) ≡ four f a b c d
same_four [] a b c d = refl
same_four (x ∷ []) a b c d = and_false (eqb x a)
same_four (x ∷ y ∷ []) a b c d = ap (λ t. eqb x a && t) (and_false (eqb y b)) ∙ and_false (eqb x a)
same_four (x ∷ y ∷ z ∷ []) a b c d = ap (λ t. eqb x a && (eqb y b && t)) (and_false (eqb z c)) ∙ (ap (λ t. eqb x a && t) (and_false (eqb y b)) ∙ and_false (eqb x a))
same_four (x ∷ y ∷ z ∷ w ∷ []) a b c d = ap (λ t. eqb x a && (eqb y b && (eqb z c && t))) (and_true (eqb w d))
same_four (x ∷ y ∷ z ∷ w ∷ v ∷ f) a b c d = (ap (λ t. eqb x a && (eqb y b && (eqb z c && t))) (and_false (eqb w d)) ∙ (ap (λ t. eqb x a && (eqb y b && t)) (and_false (eqb z c)) ∙ (ap (λ t. eqb x a && t) (and_false (eqb y b)) ∙ and_false (eqb x a)))) ∙ sym (ap (λ t. t && (eqb x a && (eqb y b && (eqb z c && eqb w d)))) (more_than_four (length f)))

-- a word of three and one of four bytes, byte after byte
abbrev pub of_three : ℕ → ℕ → ℕ → Word
of_three a b c = if eqb a 83 then (if eqb b 85 then (if eqb c 77 then SUM else OTHER) else OTHER) else OTHER

abbrev pub of_four : ℕ → ℕ → ℕ → ℕ → Word
of_four a b c d =
    if eqb a 76 then (if eqb b 73 then (if eqb c 78 then (if eqb d 69 then LINE else OTHER) else OTHER) else OTHER) else
    if eqb a 82 then (if eqb b 65 then (if eqb c 84 then (if eqb d 69 then RATE else OTHER) else OTHER) else OTHER) else
    if eqb a 80 then (if eqb b 65 then (if eqb c 84 then (if eqb d 84 then PATT else OTHER) else OTHER) else OTHER) else
    if eqb a 89 then (if eqb b 69 then (if eqb c 65 then (if eqb d 82 then YEAR else OTHER) else OTHER) else OTHER) else
    if eqb a 77 then (if eqb b 73 then (if eqb c 68 then (if eqb d 84 then MIDT else OTHER) else OTHER) else OTHER) else OTHER

-- a word by its length and its bytes
abbrev pub spelled : List ℕ → Word
spelled f =
    if eqb (length f) 3 then of_three (get_or f 0 0) (get_or f 1 0) (get_or f 2 0) else
    if eqb (length f) 4 then of_four (get_or f 0 0) (get_or f 1 0) (get_or f 2 0) (get_or f 3 0) else OTHER

-- the tests of a word of four bytes, one after the other
abbrev by_tests : ℕ → ℕ → ℕ → ℕ → Word
by_tests a b c d =
    if eqb a 76 && (eqb b 73 && (eqb c 78 && eqb d 69)) then LINE else
    if eqb a 82 && (eqb b 65 && (eqb c 84 && eqb d 69)) then RATE else
    if eqb a 80 && (eqb b 65 && (eqb c 84 && eqb d 84)) then PATT else
    if eqb a 89 && (eqb b 69 && (eqb c 65 && eqb d 82)) then YEAR else
    if eqb a 77 && (eqb b 73 && (eqb c 68 && eqb d 84)) then MIDT else OTHER

on_bool : {A : Type 0} (p : Bool) → (p ≡ true → A) → (p ≡ false → A) → A
on_bool true a b = a refl
on_bool false a b = b refl

nested : (p q r : Bool) (x y : Word) → (if p && (q && r) then x else y) ≡ (if p then (if q then (if r then x else y) else y) else y)
nested true true r x y = refl
nested true false r x y = refl
nested false q r x y = refl

module _ (a b c d : ℕ) where
  first_l : eqb a 76 ≡ true → by_tests a b c d ≡ of_four a b c d
  first_l e = rw (eqb-true a 76 e, nested (eqb b 73) (eqb c 78) (eqb d 69) LINE OTHER)

  first_r : eqb a 82 ≡ true → by_tests a b c d ≡ of_four a b c d
  first_r e = rw (eqb-true a 82 e, nested (eqb b 65) (eqb c 84) (eqb d 69) RATE OTHER)

  first_p : eqb a 80 ≡ true → by_tests a b c d ≡ of_four a b c d
  first_p e = rw (eqb-true a 80 e, nested (eqb b 65) (eqb c 84) (eqb d 84) PATT OTHER)

  first_y : eqb a 89 ≡ true → by_tests a b c d ≡ of_four a b c d
  first_y e = rw (eqb-true a 89 e, nested (eqb b 69) (eqb c 65) (eqb d 82) YEAR OTHER)

  first_m : eqb a 77 ≡ true → by_tests a b c d ≡ of_four a b c d
  first_m e = rw (eqb-true a 77 e, nested (eqb b 73) (eqb c 68) (eqb d 84) MIDT OTHER)

  first_other : eqb a 76 ≡ false → eqb a 82 ≡ false → eqb a 80 ≡ false → eqb a 89 ≡ false → eqb a 77 ≡ false → by_tests a b c d ≡ of_four a b c d
  first_other l r p y m = rw (l, r, p, y, m)

  tested : by_tests a b c d ≡ of_four a b c d
  tested =
      on_bool (eqb a 76) first_l (λ l.
      on_bool (eqb a 82) first_r (λ r.
      on_bool (eqb a 80) first_p (λ p.
      on_bool (eqb a 89) first_y (λ y.
      on_bool (eqb a 77) first_m (first_other l r p y)))))

-- .. of a list of any length
by_length : (f : List ℕ)
    → (if four f 76 73 78 69 then LINE else
    if four f 82 65 84 69 then RATE else
    if four f 80 65 84 84 then PATT else
    if four f 89 69 65 82 then YEAR else
    if three f 83 85 77 then SUM else
    if four f 77 73 68 84 then MIDT else OTHER)
    ≡ (if eqb (length f) 3 then of_three (get_or f 0 0) (get_or f 1 0) (get_or f 2 0) else
    if eqb (length f) 4 then by_tests (get_or f 0 0) (get_or f 1 0) (get_or f 2 0) (get_or f 3 0) else OTHER)
by_length f = grind (arith)

pub word_spelled : (f : List ℕ) → word_of f ≡ spelled f
unfolding word_of
word_spelled f =
    rw (same_four f 76 73 78 69, same_four f 82 65 84 69, same_four f 80 65 84 84, same_four f 89 69 65 82, same_three f 83 85 77, same_four f 77 73 68 84, by_length f, tested (get_or f 0 0) (get_or f 1 0) (get_or f 2 0) (get_or f 3 0))

-- the ways to be none of the six
pub too_short : (f : List ℕ) → length f < 3 → OTHER ≡ word_of f
too_short f l = rw (word_spelled f, ne_eqb (length f) 3 (λ e. omega (arith)), ne_eqb (length f) 4 (λ e. omega (arith)))

pub too_long : (f : List ℕ) → 5 ≤ length f → OTHER ≡ word_of f
too_long f l = rw (word_spelled f, ne_eqb (length f) 3 (λ e. omega (arith)), ne_eqb (length f) 4 (λ e. omega (arith)))

pub other_three : (f : List ℕ) → 3 ≤ length f → length f < 4 → (get_or f 0 0 ≡ 83 → ⊥) → OTHER ≡ word_of f
other_three f l m n = rw (word_spelled f, eq-eqb (length f) 3 (omega (arith)), ne_eqb (get_or f 0 0) 83 n)

module _ (f : List ℕ) (l : 4 ≤ length f) (m : length f < 5) where
  pub four_bytes : word_of f ≡ of_four (get_or f 0 0) (get_or f 1 0) (get_or f 2 0) (get_or f 3 0)
  four_bytes = rw (word_spelled f, ne_eqb (length f) 3 (λ e. omega (arith)), eq-eqb (length f) 4 (omega (arith)))

  pub other_first : (get_or f 0 0 ≡ 76 → ⊥) → (get_or f 0 0 ≡ 82 → ⊥) → (get_or f 0 0 ≡ 80 → ⊥) → (get_or f 0 0 ≡ 89 → ⊥) → (get_or f 0 0 ≡ 77 → ⊥) → OTHER ≡ word_of f
  other_first a b c d e =
      rw (four_bytes, ne_eqb (get_or f 0 0) 76 a, ne_eqb (get_or f 0 0) 82 b, ne_eqb (get_or f 0 0) 80 c, ne_eqb (get_or f 0 0) 89 d, ne_eqb (get_or f 0 0) 77 e)

  pub other_year : get_or f 0 0 ≡ 89 → (get_or f 1 0 ≡ 69 → ⊥) → OTHER ≡ word_of f
  other_year a b = rw (four_bytes, a, ne_eqb (get_or f 1 0) 69 b)

  pub other_month : get_or f 0 0 ≡ 77 → (get_or f 1 0 ≡ 73 → ⊥) → OTHER ≡ word_of f
  other_month a b = rw (four_bytes, a, ne_eqb (get_or f 1 0) 73 b)

  pub other_middle : get_or f 0 0 ≡ 77 → get_or f 1 0 ≡ 73 → (get_or f 2 0 ≡ 68 → ⊥) → OTHER ≡ word_of f
  other_middle a b c = rw (four_bytes, a, b, ne_eqb (get_or f 2 0) 68 c)

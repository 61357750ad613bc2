-- Facts on lists, options and tests that no kit library has.
-- Assumes nothing.
use Rattle.std.specs.Prelude.{if◌then◌else◌, Option, None, Some, is_some}
use mathlib.Core.Path.{◌≡◌, refl, sym, ap}
use mathlib.Core.Bool.{Bool, true, false, ◌&&◌, not}
use mathlib.Core.List.{List, [], ◌∷◌, ◌++◌}
use Prim.Native.Nat.{ℕ, zero, suc, ◌+◌, ◌≤◌, ◌<◌}
use native.Mathlib.Omega.{arith}
use borrow.Author.Tests.{eqb-true}
use lib.Dec.{eqb}
use native.Mathlib.Numerals.{add-one}
use lib.ListN.{length, take, drop, get_or, take-append-drop}
use lib.Seq.{take-take, drop-cons}
use Rattle.model.specs.Basics.{put, sum, Every, EveryAt}
use Rattle.std.specs.List.{list_all}
use Rattle.model.specs.Question.{first_no}

pub Some≢None : {A : Type 0} (a : A) → Some a ≡ None → ⊥
Some≢None a e = let z : ◌≡◌ {A = ℕ} 0 1 = cc in omega arith

pub cons≢nil : {A : Type 0} (a : A) (l : List A) → a ∷ l ≡ [] → ⊥
cons≢nil a l e = let z : ◌≡◌ {A = ℕ} 0 1 = cc in omega arith

pub true≢false : true ≡ false → ⊥
true≢false e = let z : ◌≡◌ {A = ℕ} 0 1 = cc in omega arith

-- a list of one element has no other
pub only : {A : Type 0} {l : List A} (a b : A) → l ≡ a ∷ [] → l ≡ b ∷ [] → a ≡ b
only a b p q = cc

-- what is given is something
pub is_given : {A : Type 0} (o : Option A) → is_some o ≡ true → (a : A) × (o ≡ Some a)
is_given None e = absurd (true≢false (sym e))
is_given (Some a) e = (a, refl)

pub not_given : {A : Type 0} (o : Option A) → not (is_some o) ≡ true → o ≡ None
not_given None e = refl
not_given (Some a) e = absurd (true≢false (sym e))

-- the code's `a && b`, where the test b is put only if a holds: t is what stands where its two ways meet
pub meet_taken : (a b t : Bool) → a ≡ true → t ≡ b → t ≡ a && b
meet_taken a b t ea et = rw ea et

pub meet_left : (a b t : Bool) → a ≡ false → t ≡ false → t ≡ a && b
meet_left a b t ea et = rw ea et

pub and_left : (a b : Bool) → a && b ≡ true → a ≡ true
and_left true b e = refl
and_left false b e = e

pub and_right : (a b : Bool) → a && b ≡ true → b ≡ true
and_right true b e = e
and_right false b e = absurd (true≢false (sym e))

-- no question answered no: each is answered yes
first_yes : (q : ℕ × Bool) (qs : List (ℕ × Bool)) (t : Bool) → q.1 ≡ t → (if t then first_no qs else Some q.0) ≡ None → (first_no qs ≡ None → Every (λ p. p.1 ≡ true) qs)
    → (q.1 ≡ true) × Every (λ p. p.1 ≡ true) qs
first_yes q qs true e n rest = (e, rest n)
first_yes q qs false e n rest = absurd (Some≢None q.0 n)

pub all_yes : (qs : List (ℕ × Bool)) → first_no qs ≡ None → Every (λ q. q.1 ≡ true) qs
all_yes [] e = tt
all_yes (q ∷ qs) e = first_yes q qs q.1 refl e (all_yes qs)

module _ {A : Type 0} (P : A → Type 0) where
  pub every_right : (xs ys : List A) → Every P (xs ++ ys) → Every P ys
  every_right [] ys h = h
  every_right (x ∷ xs) ys h = every_right xs ys h.1

  pub every_snoc : (xs : List A) (a : A) → Every P xs → P a → Every P (xs ++ (a ∷ []))
  every_snoc [] a h p = (p, tt)
  every_snoc (x ∷ xs) a h p = (h.0, every_snoc xs a h.1 p)

  pub every_take : (n : ℕ) (xs : List A) → Every P xs → Every P (take n xs)
  every_take zero xs h = tt
  every_take (suc n) [] h = tt
  every_take (suc n) (x ∷ xs) h = (h.0, every_take n xs h.1)

module _ {A : Type 0} (P Q : A → Type 0) (f : (a : A) → P a → Q a) where
  pub every_map : (xs : List A) → Every P xs → Every Q xs
  every_map [] h = tt
  every_map (x ∷ xs) h = (f x h.0, every_map xs h.1)

module _ {A : Type 0} (P Q : ℕ → A → Type 0) (f : (k : ℕ) (a : A) → P k a → Q k a) where
  pub every_at_map : (k : ℕ) (xs : List A) → EveryAt P k xs → EveryAt Q k xs
  every_at_map k [] h = tt
  every_at_map k (x ∷ xs) h = (f k x h.0, every_at_map (suc k) xs h.1)

-- what holds at every place still does after one is put
put_at : {A : Type 0} (P : ℕ → A → Type 0) (f : ℕ → A) (k : ℕ) (v : A) → P k v → (j : ℕ) (t : Bool) → eqb j k ≡ t → (eqb j k ≡ false → P j (f j)) → P j (if t then v else f j)
put_at P f k v h j true e g = rw (eqb-true j k e) h
put_at P f k v h j false e g = g e

pub put_all : {A : Type 0} (P : ℕ → A → Type 0) (f : ℕ → A) (k : ℕ) (v : A) → P k v → ((j : ℕ) → eqb j k ≡ false → P j (f j)) → (j : ℕ) → P j (put f k v j)
put_all P f k v h g j = put_at P f k v h j (eqb j k) refl (g j)

-- the first n of one more and of the first n
pub take_again : {A : Type 0} (n : ℕ) (a : A) (xs : List A) → take n (a ∷ take n xs) ≡ take n (a ∷ xs)
take_again zero a xs = refl
take_again (suc n) a xs = rw (take-take n (suc n) xs (omega arith))

pub sum_append : (xs ys : List ℕ) → sum (xs ++ ys) ≡ sum xs + sum ys
sum_append [] ys = omega arith
sum_append (x ∷ xs) ys = omega (arith, sum_append xs ys)

-- one element more, as code counts
pub drop_next : {A : Type 0} (l : List A) (i : ℕ) (d : A) → i < length l → drop i l ≡ get_or l i d ∷ drop (i + 1) l
drop_next l i d lt = rw (add-one, drop-cons l i d lt)

-- what holds of every element holds of each
pub all_at : {A : Type 0} (test : A → Bool) (l : List A) (i : ℕ) (d : A) → list_all test l ≡ true → i < length l → test (get_or l i d) ≡ true
all_at test [] i d e lt = absurd (omega arith)
all_at test (x ∷ xs) zero d e lt = and_left (test x) (list_all test xs) e
all_at test (x ∷ xs) (suc i) d e lt = all_at test xs i d (and_right (test x) (list_all test xs) e) (omega arith)

pub sum_drop : (k : ℕ) (l : List ℕ) → sum (drop k l) ≤ sum l
sum_drop k l = omega (arith, sum_append (take k l) (drop k l), ap sum (take-append-drop k l))

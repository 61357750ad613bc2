-- The sum of the paid, as the library's `sum` makes it: that it fits, and what it is.
-- Assumes nothing.
use mathlib.Core.Bool.{true}
use mathlib.Core.Path.{◌≡◌, sym, ap, ◌∙◌}
use mathlib.Core.List.{List, [], ◌∷◌, map}
use Prim.Native.Nat.{ℕ, ◌+◌, ◌*◌, ◌≤◌}
use native.Mathlib.Omega.{arith}
use borrow.Author.Tests.{leb-true}
use lib.ListN.{length}
use lib.IntN.{ℤ, pos, nat_abs, ◌+ℤ◌, +ℤ_idl, +ℤ_idr, +ℤ_assoc}
use mir.Syntax.{w64}
use mir.Val.{SFits}
use Rattle.std.specs.List.{list_all, fold}
use Rattle.model.specs.Kind.{is_paid}
use Rattle.model.proofs.Lists.{and_left, and_right}
use Rattle.money.proofs.Signed.{sum_size, size_fits}
use Rattle.reserve.specs.Lists.{PaidList, paid_sum}

-- the sizes of a list of paid together
abbrev pub sizes : ℕ → List ℤ → ℕ
sizes n paid = fold (λ (n : ℕ) (v : ℤ). n + nat_abs v) n paid

sizes_small : (paid : List ℤ) (n : ℕ) → list_all is_paid paid ≡ true → sizes n paid ≤ n + 10000000000 * length paid
sizes_small [] n e = omega arith
sizes_small (v ∷ paid) n e =
    omega (arith, leb-true (nat_abs v) 10000000000 (and_left (is_paid v) (list_all is_paid paid) e), sizes_small paid (n + nat_abs v) (and_right (is_paid v) (list_all is_paid paid) e))

-- a sum is at most the sizes of what is added
sum_sizes : {A : Type 0} (read : A → ℤ) (xs : List A) (sum : ℤ) (n : ℕ) → nat_abs sum ≤ n → nat_abs (fold (λ (s : ℤ) (x : A). s +ℤ read x) sum xs) ≤ fold (λ (n : ℕ) (x : A). n + nat_abs (read x)) n xs
sum_sizes read [] sum n le = le
sum_sizes read (x ∷ xs) sum n le = sum_sizes read xs (sum +ℤ read x) (n + nat_abs (read x)) (omega (arith, sum_size sum (read x), le))

pub sum_fits : {A : Type 0} (read : A → ℤ) (xs : List A) (paid : List ℤ) → PaidList paid → (all : List ℤ) → all ≡ paid → fold (λ (n : ℕ) (x : A). n + nat_abs (read x)) 0 xs ≤ sizes 0 all → SFits w64 (fold (λ (s : ℤ) (x : A). s +ℤ read x) (pos 0) xs)
sum_fits read xs paid given all e le = size_fits _ (omega (arith, sum_sizes read xs (pos 0) 0 (omega arith), rw e at le, sizes_small paid 0 given.limits, given.few))

-- the sum from the first on is the sum of the paid
sum_is : {A : Type 0} (read : A → ℤ) (xs : List A) (sum : ℤ) → fold (λ (s : ℤ) (x : A). s +ℤ read x) sum xs ≡ sum +ℤ paid_sum (map read xs)
sum_is read [] sum = sym (+ℤ_idr sum)
sum_is read (x ∷ xs) sum = sum_is read xs (sum +ℤ read x) ∙ +ℤ_assoc sum (read x) (paid_sum (map read xs))

pub summed : {A : Type 0} (read : A → ℤ) (xs : List A) (paid : List ℤ) → map read xs ≡ paid → (r : ℤ) → r ≡ fold (λ (s : ℤ) (x : A). s +ℤ read x) (pos 0) xs → r ≡ paid_sum paid
summed read xs paid e r er = er ∙ sum_is read xs (pos 0) ∙ +ℤ_idl (paid_sum (map read xs)) ∙ ap paid_sum e

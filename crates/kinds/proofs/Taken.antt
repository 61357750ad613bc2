-- For callers: what a constructor was given, by what it answered.
-- Assumes nothing.
use Rattle.std.specs.Prelude.{Bool, true, false, Option, Some, None, ℕ, if◌then◌else◌}
use mathlib.Core.Path.{◌≡◌, refl, sym}
use native.Mathlib.Omega.{arith}
use Rattle.kinds.specs.Within.{within}

-- p is what the test answered
module _ {A : Type 0} (x : A) where
  some_of : (p : Bool) (v : A) → (if p then Some x else None) ≡ Some v → (p ≡ true) × (v ≡ x)
  some_of true v e = (refl, sym (cc e))
  some_of false v e = let z : ◌≡◌ {A = ℕ} 0 1 = cc in absurd (omega arith)

  none_of : (p : Bool) → ◌≡◌ {A = Option A} (if p then Some x else None) None → p ≡ false
  none_of true e = let z : ◌≡◌ {A = ℕ} 0 1 = cc in absurd (omega arith)
  none_of false e = refl

module _ {A : Type 0} (allow : A → Bool) (x : A) where
  pub taken : (v : A) → within allow x ≡ Some v → (allow x ≡ true) × (v ≡ x)
  taken v e = some_of x (allow x) v e

  pub outside : within allow x ≡ None → allow x ≡ false
  outside e = none_of x (allow x) e

  pub allowed : allow x ≡ true → within allow x ≡ Some x
  allowed a = rw a

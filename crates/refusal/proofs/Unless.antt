-- For callers: what questions came to, taken over from one value to another.
-- Assumes nothing.
use Rattle.std.specs.Prelude.{Option, Some, None, Ok, Err, ℕ}
use mathlib.Core.Path.{◌≡◌, refl}
use native.Mathlib.Omega.{arith}
use Rattle.refusal.specs.Unless.{unless}
use Rattle.refusal.specs.declared.Refusal.{Refusal}

-- where a value was answered, no question is answered no
pub unless_ok : {A B : Type 0} (q : Option ℕ) (x z : A) (y : B) → unless q x ≡ Ok z → (x ≡ z) × (Ok y ≡ unless q y)
unless_ok None x z y e = (cc e, refl)
unless_ok (Some question) x z y e = let n : ◌≡◌ {A = ℕ} 0 1 = cc in absurd (omega arith)

-- where a refusal was answered, it is answered again
pub unless_err : {A B : Type 0} (q : Option ℕ) (x : A) (refusal : Refusal) (y : B) → unless q x ≡ Err refusal → Err refusal ≡ unless q y
unless_err None x refusal y e = let n : ◌≡◌ {A = ℕ} 0 1 = cc in absurd (omega arith)
unless_err (Some question) x refusal y e = cc e

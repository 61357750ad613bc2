-- A number within the limits of its kind.
-- Assumes nothing: these are definitions, and a law about the second.
use Rattle.std.specs.Prelude.{◌≡◌, Bool, ◌&&◌, Option, Some, None, ℕ, leb, if◌then◌else◌}
use Rattle.std.proofs.Math.Dec.{leb-zero}
use mathlib.Core.Path.{ap, sym}

-- the number, where the kind allows it
abbrev pub within : {X : Type 0} → (X → Bool) → X → Option X
within allow n = if allow n then Some n else None

-- from 0 on only the most is a limit
pub at_most : (most n : ℕ) → leb n most ≡ (leb 0 n && leb n most)
at_most most n = ap (λ b. b && leb n most) (sym (leb-zero n))

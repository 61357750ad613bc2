-- A block of bytes: is one of them a byte 10?
-- Assumes nothing.
use mathlib.Core.Bool.{Bool, true, false, ◌||◌, or_assoc, or-false}
use mathlib.Core.List.{List, [], ◌∷◌, ◌++◌}
use mathlib.Core.Path.{◌≡◌, refl, sym, ◌∙◌}
use Prim.Native.Nat.{ℕ}
use borrow.Author.Tests.{eq-eqb, ne_eqb, eqb-true, eqb-false}
use lib.Dec.{eqb}
use Rattle.model.specs.Basics.{among}

-- the byte that is looked at first
pub among_by : (b : ℕ) (bytes : List ℕ) (t : Bool) → eqb b 10 ≡ t → among 10 (b ∷ bytes) ≡ (t || among 10 bytes)
among_by b bytes true e = rw (eq-eqb 10 b (sym (eqb-true b 10 e)))
among_by b bytes false e = rw (ne_eqb 10 b (λ q. eqb-false b 10 e (sym q)))

-- one byte more at the end
pub among_more : (bytes : List ℕ) (b : ℕ) → among 10 (bytes ++ (b ∷ [])) ≡ (among 10 bytes || eqb b 10)
among_more [] b = among_by b [] (eqb b 10) refl ∙ or-false (eqb b 10)
among_more (a ∷ bytes) b = rw (among_more bytes b) (search or_assoc)

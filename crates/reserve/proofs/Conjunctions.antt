-- Three tests together.
-- Assumes nothing.
use mathlib.Core.Bool.{Bool, true, false, ◌&&◌, and-false}
use mathlib.Core.Path.{◌≡◌, refl}
use Rattle.model.proofs.Lists.{and_left, and_right, true≢false}

-- each of three that hold together
pub three : (a b c : Bool) → a && b && c ≡ true → (a ≡ true) × (b ≡ true) × (c ≡ true)
three a b c e = (and_left a b (and_left (a && b) c e), and_right a b (and_left (a && b) c e), and_right (a && b) c e)

-- where one of three does not hold, and so the like one of three others, neither do these together
pub any_no : (a b c x y z : Bool) → (a ≡ false → x ≡ false) → (b ≡ false → y ≡ false) → (c ≡ false → z ≡ false) → a && b && c ≡ false → x && y && z ≡ false
any_no false b c x y z ha hb hc e = rw (ha refl)
any_no true false c x y z ha hb hc e = rw (hb refl, and-false x)
any_no true true false x y z ha hb hc e = rw (hc refl, and-false (x && y))
any_no true true true x y z ha hb hc e = absurd (true≢false e)

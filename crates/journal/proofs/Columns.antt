-- A column of numbers, by the places that it is taken from, and how many it has.
-- Assumes nothing.
use mathlib.Core.Path.{◌≡◌, refl}
use mathlib.Core.List.{List, [], ◌∷◌}
use Prim.Native.Nat.{ℕ, zero, suc, ◌+◌, ◌*◌, ◌≤◌}
use native.Mathlib.Omega.{arith}
use native.Mathlib.Numerals.{add-one}
use Rattle.model.specs.Letter.{ages}
use Rattle.model.proofs.Ages.{ages_small}
use Rattle.record.specs.Column.{each}
use Rattle.record.specs.Asks.{Low}
use Rattle.journal.specs.ColumnOf.{ColumnOf}

-- a column of places that answer f
pub each_of : {A : Type 0} (gives : ℕ → A → Type 0) (f : ℕ → A) → ((at : ℕ) (x : A) → gives at x → x ≡ f at) → (n step place : ℕ) (items : List A) → ColumnOf gives place step n items → items ≡ each f n step place
unfolding each
each_of gives f same zero step place [] t = refl
each_of gives f same zero step place (x ∷ items) t = let z = t.count in absurd (omega arith)
each_of gives f same (suc n) step place [] t = let z = t.count in absurd (omega arith)
each_of {A} gives f same (suc n) step place (x ∷ items) t =
    let first : place + 0 * step ≡ place = omega arith in
    let head : x ≡ f place = same place x (rw first at (t.each 0 x (omega arith))) in
    let next : (i : ℕ) → place + suc i * step ≡ place + step + i * step = λ i. omega arith in
    let later : ColumnOf gives (place + step) step n items = (let z = t.count in record { count = omega arith; each = λ i d lt. rw (next i) at (t.each (suc i) d (omega arith)) }) in
    rw (head, each_of gives f same n step (place + step) items later) refl

-- how many numbers the columns of a line's ages or rows have
pub ages_few : (letter n : ℕ) → n ≡ ages letter → n ≤ 11
ages_few letter n e = omega (arith, ages_small letter)

pub rows_few : (letter n : ℕ) → n ≡ ages letter → n + 1 ≤ 11
rows_few letter n e = omega (arith, ages_small letter)

pub rows_low : (letter n : ℕ) (sizes : List ℕ) → n ≡ ages letter → Low (suc (ages letter)) sizes → Low (n + 1) sizes
rows_low letter n sizes e low = rw (e, add-one) low

-- A line written: it is read back, every other line is as it was, and so are the slots, the totals and the register.
-- Assumes nothing.
use Rattle.std.specs.Prelude.{Option}
use mathlib.Core.Bool.{Bool, true, false}
use mathlib.Core.List.{List}
use mathlib.Core.Logic.{⊎_elim}
use mathlib.Core.Path.{◌≡◌, refl, ◌∙◌}
use Prim.Native.Nat.{ℕ, ◌+◌, ◌*◌, ◌≤◌, ◌<◌}
use native.Mathlib.Omega.{arith}
use lib.ListN.{length}
use Rattle.model.specs.Letter.{covered}
use Rattle.line_limits.specs.declared.line.Line.{Line}
use Rattle.state.specs.Store.{piece, size}
use Rattle.state.specs.Lines.{place_of, line_start, cells_of, Limited, line_at, with_line_of}
use Rattle.state.specs.Patterns.{slot_start, slot_at}
use Rattle.state.specs.Totals.{totals_at}
use Rattle.state.specs.Months.{register_of}
use Rattle.state.proofs.Limited.{cells_read}
use Rattle.state.proofs.Places.{covered_place, places_differ}
use Rattle.state.proofs.Regions.{totals_past, register_past}
use Rattle.state.proofs.Pieces as pieces
use Rattle.state.proofs.Pieces.{first_or_later}

module _ (store : List ℕ) (letter : ℕ) (line : Line) (c : covered letter ≡ true) (n : length store ≡ size) where
  abbrev later : List ℕ
  later = with_line_of store letter line

  room : line_start letter + 6 ≤ length store
  room = omega (arith, covered_place letter c)

  pub line_here : Limited letter line → line_at later letter ≡ line
  unfolding line_at
  line_here l = rw (c, pieces.here store (cells_of line) (line_start letter) room 6 refl) (cells_read letter line ∙ l)

  cells_same : (place : ℕ) → (place ≡ place_of letter → ⊥) → piece later (place * 6) 6 ≡ piece store (place * 6) 6
  cells_same place differ =
      rw c
      (⊎_elim
      (λ (lt : place < place_of letter). pieces.before store (cells_of line) (line_start letter) room (place * 6) 6 (omega arith))
      (λ (gt : place_of letter < place). pieces.after store (cells_of line) (line_start letter) room (place * 6) 6 (omega arith))
      (first_or_later place (place_of letter) differ))

  line_beside : (other : ℕ) → (other ≡ letter → ⊥) → (t : Bool) → covered other ≡ t → line_at later other ≡ line_at store other
  unfolding line_at
  line_beside other differ true o = rw (o, cells_same (place_of other) (places_differ other letter o c differ))
  line_beside other differ false o = rw o

  pub lines_beside : (other : ℕ) → (other ≡ letter → ⊥) → line_at later other ≡ line_at store other
  lines_beside other differ = line_beside other differ (covered other) refl

  -- the slots stand past the lines
  slot_same : (other year : ℕ) (t : Bool) → covered other ≡ t → slot_at later other year ≡ slot_at store other year
  unfolding slot_at
  slot_same other year true o = rw (o, c, pieces.after store (cells_of line) (line_start letter) room (slot_start other year) 11 (omega (arith, covered_place letter c)))
  slot_same other year false o = rw o

  pub slots_same : (other year : ℕ) → slot_at later other year ≡ slot_at store other year
  slots_same other year = slot_same other year (covered other) refl

  -- and so do the totals and the register
  pub totals_same : (other : ℕ) (closed : Option ℕ) → totals_at later other closed ≡ totals_at store other closed
  totals_same other closed = rw c (totals_past store (cells_of line) (line_start letter) room (omega (arith, covered_place letter c)) other closed)

  pub register_same : register_of later ≡ register_of store
  register_same = rw c (register_past store (cells_of line) (line_start letter) room (omega (arith, covered_place letter c)))

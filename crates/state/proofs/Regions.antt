-- Cells written into one region of the store leave the regions before and after it as they were.
-- Assumes nothing.
use Rattle.std.specs.Prelude.{Option}
use mathlib.Core.Bool.{Bool, true, false}
use mathlib.Core.List.{List}
use mathlib.Core.Path.{◌≡◌, refl, ap, fun_ext}
use Prim.Native.Nat.{ℕ, ◌+◌, ◌≤◌}
use native.Mathlib.Omega.{arith}
use lib.ListN.{length, get_or}
use Rattle.model.specs.Letter.{covered}
use Rattle.state.specs.Store.{piece, written, slots_start, hints_start, totals_start, months_start}
use Rattle.state.specs.Lines.{line_start, line_at}
use Rattle.state.specs.Patterns.{slot_start, slot_at}
use Rattle.state.specs.Totals.{total_start, totals_at}
use Rattle.state.specs.Months.{month_start, register_of}
use Rattle.state.proofs.Places.{covered_place}
use Rattle.state.proofs.Pieces as pieces

module _ (store cells : List ℕ) (at : ℕ) (room : at + length cells ≤ length store) where
  abbrev later : List ℕ
  later = written store at cells

  line_before : slots_start ≤ at → (letter : ℕ) (t : Bool) → covered letter ≡ t → line_at later letter ≡ line_at store letter
  unfolding line_at
  line_before le letter true c = rw (c, pieces.before store cells at room (line_start letter) 6 (omega (arith, covered_place letter c, le)))
  line_before le letter false c = rw c

  pub lines_before : slots_start ≤ at → (letter : ℕ) → line_at later letter ≡ line_at store letter
  lines_before le letter = line_before le letter (covered letter) refl

  slot_before : hints_start ≤ at → (letter year : ℕ) (t : Bool) → covered letter ≡ t → slot_at later letter year ≡ slot_at store letter year
  unfolding slot_at
  slot_before le letter year true c = rw (c, pieces.before store cells at room (slot_start letter year) 11 (omega (arith, covered_place letter c, le)))
  slot_before le letter year false c = rw c

  pub slots_before : hints_start ≤ at → (letter year : ℕ) → slot_at later letter year ≡ slot_at store letter year
  slots_before le letter year = slot_before le letter year (covered letter) refl

  total_by : (letter : ℕ) (closed : Option ℕ) → (covered letter ≡ true → piece later (total_start letter) 3 ≡ piece store (total_start letter) 3) → (t : Bool) → covered letter ≡ t → totals_at later letter closed ≡ totals_at store letter closed
  unfolding totals_at
  total_by letter closed same true c = rw (c, same c)
  total_by letter closed same false c = rw c

  pub totals_before : months_start ≤ at → (letter : ℕ) (closed : Option ℕ) → totals_at later letter closed ≡ totals_at store letter closed
  totals_before le letter closed = total_by letter closed (λ c. pieces.before store cells at room (total_start letter) 3 (omega (arith, covered_place letter c, le))) (covered letter) refl

  pub totals_past : at + length cells ≤ totals_start → (letter : ℕ) (closed : Option ℕ) → totals_at later letter closed ≡ totals_at store letter closed
  totals_past le letter closed = total_by letter closed (λ c. pieces.after store cells at room (total_start letter) 3 (omega (arith, le))) (covered letter) refl

  cell_past : (k : ℕ) → at + length cells ≤ k → get_or later k 0 ≡ get_or store k 0
  cell_past k le =
      let first : k + 0 ≡ k = omega arith in
      rw (pieces.cell later k 1 0 (omega arith), pieces.cell store k 1 0 (omega arith), first) at (ap (λ (p : List ℕ). get_or p 0 0) (pieces.after store cells at room k 1 le))

  month_past : at + length cells ≤ months_start → (year month : ℕ) → register_of later year month ≡ register_of store year month
  unfolding register_of
  month_past le year month = rw (cell_past (month_start year month) (omega (arith, le)))

  pub register_past : at + length cells ≤ months_start → register_of later ≡ register_of store
  register_past le = fun_ext (λ year. fun_ext (λ month. month_past le year month))

-- A hint written: the lines, the slots, the totals and the register are as they were.
-- Assumes nothing.
use Rattle.std.specs.Prelude.{Option}
use mathlib.Core.Bool.{true}
use mathlib.Core.List.{List, [], ◌∷◌}
use mathlib.Core.Path.{◌≡◌}
use Prim.Native.Nat.{ℕ, ◌+◌, ◌≤◌}
use native.Mathlib.Omega.{arith}
use lib.ListN.{length}
use Rattle.model.specs.Kind.{is_year}
use Rattle.state.specs.Store.{size}
use Rattle.state.specs.Hints.{hint_start, with_hint_of}
use Rattle.state.specs.Lines.{line_at}
use Rattle.state.specs.Patterns.{slot_at}
use Rattle.state.specs.Totals.{totals_at}
use Rattle.state.specs.Months.{register_of}
use Rattle.state.proofs.RatePlaces.{year_place}
use Rattle.state.proofs.Regions.{lines_before, slots_before, totals_past, register_past}

module _ (store : List ℕ) (year hint : ℕ) (y : is_year year ≡ true) (n : length store ≡ size) where
  abbrev later : List ℕ
  later = with_hint_of store year hint

  room : hint_start year + 1 ≤ length store
  room = omega (arith, year_place year y)

  pub lines_same : (letter : ℕ) → line_at later letter ≡ line_at store letter
  lines_same letter = rw y (lines_before store (hint ∷ []) (hint_start year) room (omega arith) letter)

  pub slots_same : (letter accident : ℕ) → slot_at later letter accident ≡ slot_at store letter accident
  slots_same letter accident = rw y (slots_before store (hint ∷ []) (hint_start year) room (omega arith) letter accident)

  pub totals_same : (letter : ℕ) (closed : Option ℕ) → totals_at later letter closed ≡ totals_at store letter closed
  totals_same letter closed = rw y (totals_past store (hint ∷ []) (hint_start year) room (omega (arith, year_place year y)) letter closed)

  pub register_same : register_of later ≡ register_of store
  register_same = rw y (register_past store (hint ∷ []) (hint_start year) room (omega (arith, year_place year y)))

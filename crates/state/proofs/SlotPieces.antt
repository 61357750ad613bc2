-- A slot written: it holds its cells, every other slot is as it was, and so are the lines, the totals and the register.
-- Assumes nothing.
use Rattle.std.specs.Prelude.{Option, None, Some}
use mathlib.Core.Bool.{Bool, true, false}
use mathlib.Core.List.{List, [], ◌∷◌, ◌++◌}
use mathlib.Core.Logic.{⊎_elim}
use mathlib.Core.Path.{◌≡◌, refl, sym, ◌∙◌}
use Prim.Native.Nat.{ℕ, ◌+◌, ◌*◌, ◌%◌, ◌≤◌, ◌<◌}
use native.Mathlib.Omega.{arith}
use lib.ListN.{length, drop, get_or, set, length-take, get_or-eq_default}
use Rattle.model.specs.Letter.{covered}
use Rattle.kinds.proofs.Taken.{taken, outside}
use Rattle.letters.specs.Covered.{covered_letter}
use Rattle.state.specs.Store.{piece, written, slots_start, size}
use Rattle.state.specs.Lines.{place_of, line_at}
use Rattle.state.specs.Patterns.{slot_start, slot_at, factor_in, factor_at, with_slot_of}
use Rattle.state.specs.Totals.{totals_at}
use Rattle.state.specs.Months.{register_of}
use Rattle.state.proofs.Places.{covered_place, places_differ}
use Rattle.state.proofs.Regions.{lines_before, totals_past, register_past}
use Rattle.state.proofs.Pieces as pieces
use Rattle.state.proofs.Pieces.{first_or_later, one_more_cell, zero_cell}

-- as code reads a cell of a slot
module _ (store : List ℕ) (letter year place : ℕ) (o : Option ℕ) (eo : o ≡ covered_letter letter) where
  pub slot_read : (v : ℕ) → o ≡ Some v → (at : ℕ) → at ≡ slot_start v year → place ≤ 10 → (factor : ℕ) → factor ≡ factor_in (get_or store (at + place) 0) → factor ≡ factor_at store letter year place
  unfolding slot_at
  slot_read v ev at e le factor r =
      let t = taken covered letter v (sym eo ∙ ev) in
      rw (t.0, pieces.cell store (slot_start letter year) 11 place (omega arith), ← t.1, ← e) r

  pub no_slot : o ≡ None → 0 ≡ factor_at store letter year place
  unfolding slot_at
  no_slot n = rw (outside covered letter (sym eo ∙ n), zero_cell 11 place)

-- and none past its end
past_by : (store : List ℕ) (letter year place : ℕ) (t : Bool) → covered letter ≡ t → 10 < place → 0 ≡ factor_at store letter year place
unfolding slot_at piece
past_by store letter year place true c lt =
    rw (c, get_or-eq_default (piece store (slot_start letter year) 11) 0 {n = place} (omega (arith, length-take 11 (drop (slot_start letter year) store))))
past_by store letter year place false c lt = rw (c, zero_cell 11 place)

pub past_slot : (store : List ℕ) (letter year place : ℕ) → 10 < place → 0 ≡ factor_at store letter year place
past_slot store letter year place lt = past_by store letter year place (covered letter) refl lt

-- as code keeps a slot: ten factors, and then the composite
module _ (store : List ℕ) (letter year : ℕ) (factors : List ℕ) (composite : ℕ) (o : Option ℕ) (eo : o ≡ covered_letter letter) where
  pub slot_kept : (v : ℕ) → o ≡ Some v → (at : ℕ) → at ≡ slot_start v year → at ≤ 1729 → length store ≡ size → length factors ≡ 10 → (middle : List ℕ) → middle ≡ written store at factors
      → set middle (at + 10) composite ≡ with_slot_of store letter year (factors ++ (composite ∷ []))
  slot_kept v ev at ea le n l middle em =
      let t = taken covered letter v (sym eo ∙ ev) in
      rw (t.0, ← t.1, ← ea, em, ← l) (one_more_cell store factors at composite (omega arith))

module _ (store : List ℕ) (letter year : ℕ) (cells : List ℕ) (c : covered letter ≡ true) (n : length store ≡ size) (l : length cells ≡ 11) where
  abbrev later : List ℕ
  later = with_slot_of store letter year cells

  room : slot_start letter year + length cells ≤ length store
  room = omega (arith, covered_place letter c)

  pub slot_here : slot_at later letter year ≡ cells
  unfolding slot_at
  slot_here = rw c (pieces.here store cells (slot_start letter year) room 11 l)

  apart : (slot : ℕ) → (slot ≡ place_of letter * 10 + year % 10 → ⊥) → piece later (slots_start + slot * 11) 11 ≡ piece store (slots_start + slot * 11) 11
  apart slot differ =
      rw c
      (⊎_elim
      (λ (lt : slot < place_of letter * 10 + year % 10). pieces.before store cells (slot_start letter year) room (slots_start + slot * 11) 11 (omega arith))
      (λ (gt : place_of letter * 10 + year % 10 < slot). pieces.after store cells (slot_start letter year) room (slots_start + slot * 11) 11 (omega arith))
      (first_or_later slot (place_of letter * 10 + year % 10) differ))

  -- the slots of another letter, and of the nine years before
  other_by : (other y : ℕ) (t : Bool) → covered other ≡ t → (other ≡ letter → ⊥) → slot_at later other y ≡ slot_at store other y
  unfolding slot_at
  other_by other y true o differ = rw (o, apart (place_of other * 10 + y % 10) (λ e. places_differ other letter o c differ (omega arith)))
  other_by other y false o differ = rw o

  pub other_letters : (other y : ℕ) → (other ≡ letter → ⊥) → slot_at later other y ≡ slot_at store other y
  other_letters other y differ = other_by other y (covered other) refl differ

  pub earlier_years : (y : ℕ) → y < year → year < y + 10 → slot_at later letter y ≡ slot_at store letter y
  unfolding slot_at
  earlier_years y lt le = rw (c, rw c at (apart (place_of letter * 10 + y % 10) (λ e. omega arith)))

  -- the lines stand before the slots
  pub lines_same : (other : ℕ) → line_at later other ≡ line_at store other
  lines_same other = rw c (lines_before store cells (slot_start letter year) room (omega arith) other)

  -- the totals and the register stand past them
  pub totals_same : (other : ℕ) (closed : Option ℕ) → totals_at later other closed ≡ totals_at store other closed
  totals_same other closed = rw c (totals_past store cells (slot_start letter year) room (omega (arith, covered_place letter c)) other closed)

  pub register_same : register_of later ≡ register_of store
  register_same = rw c (register_past store cells (slot_start letter year) room (omega (arith, covered_place letter c)))

  pub slot_long : length later ≡ size
  slot_long = rw c (pieces.long store cells (slot_start letter year) room ∙ n)

-- Totals written: they are read back, those of every other letter are as they were, and so are the lines, the slots and the register.
-- Assumes nothing.
use Rattle.std.specs.Prelude.{Option, None, Some}
use mathlib.Core.Bool.{Bool, true, false}
use mathlib.Core.List.{List, [], ◌∷◌}
use mathlib.Core.Logic.{⊎_elim}
use mathlib.Core.Path.{◌≡◌, refl, sym, ◌∙◌}
use Prim.Native.Nat.{ℕ, ◌+◌, ◌*◌, ◌≤◌, ◌<◌}
use native.Mathlib.Omega.{arith}
use lib.ListN.{length, get_or}
use Rattle.model.specs.Book.{no_totals}
use Rattle.model.specs.Letter.{covered}
use Rattle.kinds.proofs.Taken.{taken}
use Rattle.letters.specs.Covered.{covered_letter}
use Rattle.line_limits.specs.declared.totals.Totals.{Totals}
use Rattle.line_limits.specs.Totals.{totals_by, totals_in, total_cells, Within}
use Rattle.line_limits.proofs.TotalLimits.{read_within, none_within, kept_back_lem, none_closed}
use Rattle.state.specs.Store.{piece, totals_start, size}
use Rattle.state.specs.Lines.{place_of, line_at}
use Rattle.state.specs.Patterns.{slot_at}
use Rattle.state.specs.Totals.{total_start, totals_at, with_totals_of}
use Rattle.state.specs.Months.{register_of}
use Rattle.state.proofs.Places.{covered_place, places_differ}
use Rattle.state.proofs.Regions.{lines_before, slots_before, register_past}
use Rattle.state.proofs.Pieces as pieces
use Rattle.state.proofs.Pieces.{first_or_later}

-- what is read is within its limits, and zeros where none is closed
within_by : (store : List ℕ) (letter : ℕ) (closed : Option ℕ) (t : Bool) → covered letter ≡ t → Within closed (totals_at store letter closed)
unfolding totals_at
within_by store letter closed true c = rw c (read_within closed (piece store (total_start letter) 3))
within_by store letter closed false c = rw c (none_within closed)

pub totals_within : (store : List ℕ) (letter : ℕ) (closed : Option ℕ) → Within closed (totals_at store letter closed)
totals_within store letter closed = within_by store letter closed (covered letter) refl

zeros_by : (store : List ℕ) (letter : ℕ) (t : Bool) → covered letter ≡ t → totals_at store letter None ≡ totals_by no_totals
unfolding totals_at
zeros_by store letter true c = rw c (none_closed (piece store (total_start letter) 3))
zeros_by store letter false c = rw c

pub zeros_where_none_closed : (store : List ℕ) (letter : ℕ) → totals_at store letter None ≡ totals_by no_totals
zeros_where_none_closed store letter = zeros_by store letter (covered letter) refl

-- as code reads them: three cells
module _ (store : List ℕ) (letter : ℕ) (closed : Option ℕ) (o : Option ℕ) (eo : o ≡ covered_letter letter) where
  pub totals_read : (v : ℕ) → o ≡ Some v → (at : ℕ) → at ≡ total_start v → (totals : Totals) → totals ≡ totals_in closed (get_or store at 0 ∷ get_or store (at + 1) 0 ∷ get_or store (at + 2) 0 ∷ []) → totals ≡ totals_at store letter closed
  unfolding totals_at totals_in
  totals_read v ev at ea totals er =
      let t = taken covered letter v (sym eo ∙ ev) in
      let cell : (j : ℕ) → j < 3 → get_or (piece store (total_start letter) 3) j 0 ≡ get_or store (total_start letter + j) 0 = pieces.cell store (total_start letter) 3 in
      let first : total_start letter + 0 ≡ total_start letter = omega arith in
      rw (er, t.0, cell 0 (omega arith), cell 1 (omega arith), cell 2 (omega arith), first, ← t.1, ← ea)

module _ (store : List ℕ) (letter : ℕ) (closed : Option ℕ) (totals : Totals) (c : covered letter ≡ true) (n : length store ≡ size) where
  abbrev cells : List ℕ
  cells = total_cells closed totals

  abbrev later : List ℕ
  later = with_totals_of store letter closed totals

  three : length cells ≡ 3
  unfolding total_cells
  three = refl

  room : total_start letter + length cells ≤ length store
  room = omega (arith, covered_place letter c, three)

  pub totals_here : Within closed totals → totals_at later letter closed ≡ totals
  unfolding totals_at
  totals_here w = rw (c, pieces.here store cells (total_start letter) room 3 three) (kept_back_lem closed totals w)

  apart : (place : ℕ) → (place ≡ place_of letter → ⊥) → piece later (totals_start + place * 3) 3 ≡ piece store (totals_start + place * 3) 3
  apart place differ =
      rw c
      (⊎_elim
      (λ (lt : place < place_of letter). pieces.before store cells (total_start letter) room (totals_start + place * 3) 3 (omega arith))
      (λ (gt : place_of letter < place). pieces.after store cells (total_start letter) room (totals_start + place * 3) 3 (omega (arith, three)))
      (first_or_later place (place_of letter) differ))

  beside_by : (other : ℕ) (year : Option ℕ) → (other ≡ letter → ⊥) → (t : Bool) → covered other ≡ t → totals_at later other year ≡ totals_at store other year
  unfolding totals_at
  beside_by other year differ true o = rw (o, apart (place_of other) (places_differ other letter o c differ))
  beside_by other year differ false o = rw o

  pub totals_beside : (other : ℕ) (year : Option ℕ) → (other ≡ letter → ⊥) → totals_at later other year ≡ totals_at store other year
  totals_beside other year differ = beside_by other year differ (covered other) refl

  -- the lines and the slots stand before the totals, and the register past them
  pub lines_same : (other : ℕ) → line_at later other ≡ line_at store other
  lines_same other = rw c (lines_before store cells (total_start letter) room (omega arith) other)

  pub slots_same : (other year : ℕ) → slot_at later other year ≡ slot_at store other year
  slots_same other year = rw c (slots_before store cells (total_start letter) room (omega arith) other year)

  pub register_same : register_of later ≡ register_of store
  register_same = rw c (register_past store cells (total_start letter) room (omega (arith, covered_place letter c, three)))

  pub totals_long : length later ≡ size
  totals_long = rw c (pieces.long store cells (total_start letter) room ∙ n)

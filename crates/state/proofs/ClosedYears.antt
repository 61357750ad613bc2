-- What an accepted YEAR leaves in the store: its totals and its line, one after the other.
-- Assumes nothing.
use Rattle.std.specs.Prelude.{Some}
use mathlib.Core.Bool.{true}
use mathlib.Core.List.{List}
use mathlib.Core.Path.{◌≡◌, ap, ◌∙◌}
use Prim.Native.Nat.{ℕ}
use lib.ListN.{length}
use Rattle.model.specs.Basics.{put}
use Rattle.model.specs.Letter.{covered}
use Rattle.model.specs.Step.{with_closing}
use Rattle.line_limits.specs.declared.line.Line.{Line}
use Rattle.line_limits.specs.declared.totals.Totals.{Totals}
use Rattle.line_limits.specs.Line.{kept_patterns}
use Rattle.line_limits.specs.Totals.{totals_of, Within}
use Rattle.state.specs.Store.{size}
use Rattle.state.specs.Lines.{Limited, with_line_of, with_closing_of}
use Rattle.state.specs.Totals.{with_totals_of}
use Rattle.state.specs.Months.{register_of}
use Rattle.state.specs.View.{line_of, lines_of}
use Rattle.state.proofs.LinePieces as line
use Rattle.state.proofs.TotalPieces.{totals_here, totals_beside, lines_same, slots_same, register_same, totals_long}
use Rattle.state.proofs.Views.{kept_of_same, line_aside, line_same, shown_same, put_shown}

module _ (store : List ℕ) (letter year amount : ℕ) (old : Line) (totals : Totals) (c : covered letter ≡ true) (n : length store ≡ size) (l : Limited letter (with_closing_of old year amount)) (w : Within (Some year) totals) where
  abbrev middle : List ℕ
  middle = with_totals_of store letter (Some year) totals

  abbrev new : Line
  new = with_closing_of old year amount

  abbrev later : List ℕ
  later = with_line_of middle letter new

  long : length middle ≡ size
  long = totals_long store letter (Some year) totals c n

  closed_shown : line_of middle letter new ≡ with_closing (line_of store letter old) year amount (totals_of totals)
  unfolding line_of
  closed_shown = rw (kept_of_same store middle letter (slots_same store letter (Some year) totals c n letter) (kept_patterns old), totals_here store letter (Some year) totals c n w)

  -- the other letters are as they were
  elsewhere : (other : ℕ) → (other ≡ letter → ⊥) → lines_of later other ≡ lines_of store other
  elsewhere other differ =
      shown_same middle later other (line.lines_beside middle letter new c long other differ) (line_aside middle letter new c long other)
      ∙ shown_same store middle other (lines_same store letter (Some year) totals c n other) (record { slots = slots_same store letter (Some year) totals c n other; totals = λ closed. totals_beside store letter (Some year) totals c n other closed differ })

  -- the view after an accepted YEAR
  pub year_put : lines_of later ≡ put (lines_of store) letter (with_closing (line_of store letter old) year amount (totals_of totals))
  year_put =
      put_shown store later letter new (line.line_here middle letter new c long l) elsewhere
      ∙ ap (put (lines_of store) letter) (line_same middle later letter (line_aside middle letter new c long letter) new ∙ closed_shown)

  -- and the register, as it was
  pub year_register : register_of later ≡ register_of store
  year_register = line.register_same middle letter new c long ∙ register_same store letter (Some year) totals c n

-- An empty book and a cleared store show the model's empty book.
-- Assumes nothing.
use Rattle.std.specs.Prelude.{None}
use mathlib.Core.Bool.{Bool, true, false}
use mathlib.Core.Path.{◌≡◌, refl, ◌∙◌, fun_ext}
use Prim.Native.Nat.{ℕ, ◌+◌, ◌-◌, ◌<◌}
use native.Mathlib.Omega.{arith}
use lib.ListN.{get_or, replicate, get_or-replicate}
use Rattle.model.specs.Kind.{is_year}
use Rattle.model.specs.Letter.{covered}
use Rattle.model.specs.Book as model
use Rattle.line_limits.specs.Limits.{limited_of, line_in}
use Rattle.state.specs.Rates.{rates_of}
use Rattle.state.specs.Months.{is_date, month_start, register_of}
use Rattle.state.specs.Store.{piece, size}
use Rattle.state.specs.Lines.{line_start, no_line, line_at}
use Rattle.state.specs.Patterns.{kept_back}
use Rattle.state.specs.View.{line_of, lines_of, view, empty_book, empty_store}
use Rattle.state.proofs.Pieces as pieces
use Rattle.state.proofs.Pieces.{zero_cell}
use Rattle.state.proofs.RatePlaces.{year_place}
use Rattle.state.proofs.TotalPieces.{zeros_where_none_closed}

no_rate : (year : ℕ) (t : Bool) → is_year year ≡ t → rates_of (replicate 113 65535) year ≡ None
unfolding rates_of
no_rate year true e = rw (e, get_or-replicate {A = ℕ} 113 (year - 1987) 65535 0 (year_place year e))
no_rate year false e = rw e

cleared : (letter at : ℕ) → line_in letter (piece empty_store at 6) ≡ no_line
unfolding limited_of
cleared letter at =
    let cell : (j : ℕ) → j < 6 → get_or (piece empty_store at 6) j 0 ≡ 0 = λ j lt. pieces.cell empty_store at 6 j lt ∙ zero_cell size (at + j) in
    rw (cell 0 (omega arith), cell 1 (omega arith), cell 2 (omega arith), cell 3 (omega arith), cell 4 (omega arith))

line_cleared : (letter : ℕ) (t : Bool) → covered letter ≡ t → line_at empty_store letter ≡ no_line
unfolding line_at
line_cleared letter true c = rw (c, cleared letter (line_start letter))
line_cleared letter false c = rw c

no_line_lem : (letter : ℕ) → lines_of empty_store letter ≡ (model.empty).lines letter
unfolding lines_of line_of kept_back
no_line_lem letter = rw (line_cleared letter (covered letter) refl, zeros_where_none_closed empty_store letter)

no_month : (year month : ℕ) (t : Bool) → is_date year month ≡ t → register_of empty_store year month ≡ None
unfolding register_of
no_month year month true e = rw (e, zero_cell size (month_start year month))
no_month year month false e = rw e

no_months : register_of empty_store ≡ (model.empty).register
no_months = fun_ext (λ (year : ℕ). fun_ext (λ (month : ℕ). no_month year month (is_date year month) refl))

pub empty_shown : view empty_book empty_store ≡ model.empty
empty_shown = rw (fun_ext (λ (year : ℕ). no_rate year (is_year year) refl), no_months, fun_ext (λ (letter : ℕ). no_line_lem letter))

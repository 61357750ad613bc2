-- A year added to a line's totals, as code does it in the bits of an i64.
-- Assumes nothing.
use Rattle.std.specs.Prelude.{Option, Some}
use mathlib.Core.List.{List}
use mathlib.Core.Path.{◌≡◌}
use Prim.Native.Nat.{ℕ, ◌+◌, ◌*◌, ◌≤◌, ◌<◌, ◌^◌}
use native.Mathlib.Omega.{arith}
use lib.IntN.{ℤ, nat_abs, ◌+ℤ◌}
use mir.Syntax.{w64}
use mir.Val.{SFits, to_z, of_z}
use Rattle.money.proofs.Signed.{sum_size, size_fits, read_back}
use Rattle.reserve.specs.declared.year_end.YearEnd.{YearEnd}
use Rattle.line_limits.specs.declared.totals.Totals.{Totals}
use Rattle.line_limits.specs.Totals.{most_a_year, total_limit, with_year_of}
use Rattle.line_limits.proofs.TotalLimits.{within_last, limit_small}
use Rattle.state.specs.Totals.{totals_at}
use Rattle.state.proofs.TotalPieces.{totals_within}
use Rattle.closings.specs.Totals.{OfAYear, Growing}

module _ (before more : ℤ) (within : nat_abs before ≤ total_limit (Some 2099)) (year : nat_abs more ≤ most_a_year) where
  small : nat_abs before ≤ 113 * most_a_year
  small = omega (arith, within, limit_small (Some 2099))

  sum_small : nat_abs (before +ℤ more) < 2 ^ 63
  sum_small = omega (arith, small, sum_size before more)

  pub sum_fits : SFits w64 (to_z w64 (of_z w64 before) +ℤ to_z w64 (of_z w64 more))
  sum_fits = rw (read_back before (omega (arith, small)), read_back more (omega arith)) (size_fits (before +ℤ more) sum_small)

  pub sum_read : to_z w64 (of_z w64 (to_z w64 (of_z w64 before) +ℤ to_z w64 (of_z w64 more))) ≡ before +ℤ more
  sum_read = rw (read_back before (omega (arith, small)), read_back more (omega arith)) (read_back (before +ℤ more) sum_small)

module _ (before : Totals) (end : YearEnd) (g : Growing before end) where
  pub paid_fits : SFits w64 (to_z w64 (of_z w64 before.paid) +ℤ to_z w64 (of_z w64 end.paid))
  paid_fits = sum_fits before.paid end.paid g.within.paid g.year.paid_limit

  pub losses_fit : SFits w64 (to_z w64 (of_z w64 before.losses) +ℤ to_z w64 (of_z w64 end.loss))
  losses_fit = sum_fits before.losses end.loss g.within.losses g.year.loss_limit

  pub year_added : ◌≡◌ {A = Totals} (record { years = before.years + 1; paid = to_z w64 (of_z w64 (to_z w64 (of_z w64 before.paid) +ℤ to_z w64 (of_z w64 end.paid))); losses = to_z w64 (of_z w64 (to_z w64 (of_z w64 before.losses) +ℤ to_z w64 (of_z w64 end.loss))) }) (with_year_of before end.paid end.loss)
  year_added = rw (sum_read before.paid end.paid g.within.paid g.year.paid_limit, sum_read before.losses end.loss g.within.losses g.year.loss_limit)

-- totals that were read
pub growing : (store : List ℕ) (letter : ℕ) (closed : Option ℕ) (before : Totals) → before ≡ totals_at store letter closed → (end : YearEnd) → OfAYear end → Growing before end
growing store letter closed before e end y = record { within = within_last closed before (rw e (totals_within store letter closed)); year = y }

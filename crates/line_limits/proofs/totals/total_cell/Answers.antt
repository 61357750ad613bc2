-- `line_limits::totals::total_cell` meets its contract: the goals that the check leaves. Assumes nothing.
use native.Mathlib.Omega.{arith}
use mathlib.Core.Path.{◌≡◌, ap, ◌∙◌}
use lib.IntN.{pos, ◌+ℤ◌, ◌-ℤ◌, nat_abs}
use Rattle.std.specs.Int.{int_max, int_min}
use mir.Syntax.{w64}
use mir.Val.{to_z, of_z}
use mir.Facts.{to_z-of_z}
use Rattle.std.proofs.lemmas.Int.{ints}
use Rattle.line_limits.proofs.TotalsRead.{cell_is}
use Rattle.line_limits.proofs.totals.total_cell.Goals as goal

pub returns : goal.returns
returns c =
    let v : c.clamp.result ≡ int_max (pos 0 -ℤ pos c.args.limit) (int_min c.args.total (pos c.args.limit)) = grind (arith, ints, to_z-of_z, c.clamp.ensures.value) in
    let s : to_z w64 (of_z w64 (to_z w64 (of_z w64 c.clamp.result) +ℤ to_z w64 c.args.limit)) ≡ c.clamp.result +ℤ pos c.args.limit = omega (arith, ints) in
    ap nat_abs s ∙ cell_is _ _ _ v

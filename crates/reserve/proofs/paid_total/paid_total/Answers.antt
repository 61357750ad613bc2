-- `reserve::paid_total::paid_total` meets its contract: the goals that the check leaves. Assumes nothing.
use native.Mathlib.Omega.{arith}
use mathlib.Core.Path.{◌≡◌, ◌∙◌}
use Prim.Native.Nat.{ℕ, ◌+◌}
use lib.IntN.{ℤ, nat_abs}
use mir.Syntax.{w64}
use mir.Val.{to_z, of_z}
use mir.Facts.{to_z-of_z}
use Rattle.reserve.proofs.Paids.{sum_fits, summed}
use Rattle.reserve.proofs.paid_total.paid_total.Goals as goal

pub sum-requires-clause-fits : goal.sum-requires-clause-fits
sum-requires-clause-fits c = λ p seen from.
    let all = c.iter.ensures.runs p seen in
    let whole : p.from.rest.now ≡ c.args.paid.now = cc in
    sum_fits (λ x. x.now) p.items c.args.paid.now c.requires p.from.rest.now whole (all.7 (λ (n : ℕ) (v : ℤ). n + nat_abs v) 0 (λ n v. omega arith))

pub returns : goal.returns
returns c =
    let run = c.sum.ensures.runs tt in
    let all = c.iter.ensures.runs run.0 run.0.seen in
    let whole : run.0.from.rest.now ≡ c.args.paid.now = cc in
    let read : to_z w64 (of_z w64 c.sum.result) ≡ c.sum.result = search (to_z-of_z, c.sum.type_inv) in
    read ∙ summed (λ x. x.now) run.0.items c.args.paid.now (all.4 run.2 ∙ whole) c.sum.result run.3

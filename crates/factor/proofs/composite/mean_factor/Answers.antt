-- `factor::composite::mean_factor` meets its contract: the goals that the check leaves. Assumes nothing.
use Prim.Native.Nat.{◌-◌}
use native.Mathlib.Omega.{arith}
use lib.ListN.{length}
use Rattle.model.proofs.Ages.{length_factors}
use mathlib.Core.Path.{ap, ◌∙◌}
use Rattle.factor.proofs.Means.{start, left_small, product_small, on, end_none, end_some}
use Rattle.factor.proofs.composite.mean_factor.Goals as goal

pub loop-at-init : goal.loop-at-init
loop-at-init c = start _ _ _ c.requires.count (rw c.number-half.ensures.value at c.number-half.ensures.within)

pub overflow_add-unpaid : goal.overflow_add-unpaid
overflow_add-unpaid c =
    let l = c.loop-at in
    omega (arith, left_small _ _ _ _ c.requires _ _ _ l.at (l.at - 1) l.invariant (omega arith) (omega arith))

pub overflow_add-weight : goal.overflow_add-weight
overflow_add-weight c =
    let l = c.loop-at in
    omega (arith, left_small _ _ _ _ c.requires _ _ _ l.at (l.at - 1) l.invariant (omega arith) (omega arith))

pub bounds-factors-at : goal.bounds-factors-at
bounds-factors-at c =
    omega (arith, ap length c.requires.are ∙ length_factors _ _ _, c.requires.count)

pub overflow_mul-weighted : goal.overflow_mul-weighted
overflow_mul-weighted c =
    let l = c.loop-at in
    omega (arith, product_small _ _ _ _ c.requires _ _ _ l.at (l.at - 1) l.invariant (omega arith) (omega arith))

pub overflow_add-weighted : goal.overflow_add-weighted
overflow_add-weighted c =
    let l = c.loop-at in
    omega (arith, product_small _ _ _ _ c.requires _ _ _ l.at (l.at - 1) l.invariant (omega arith) (omega arith))

pub loop-at-preserved : goal.loop-at-preserved
loop-at-preserved c =
    let l = c.loop-at in
    on _ _ _ _ c.requires _ _ _ l.at (l.at - 1) l.invariant (omega arith) (omega arith)

pub returns-then-weight-eq0 : goal.returns-then-weight-eq0
returns-then-weight-eq0 c = c.number-half.ensures.value ∙ end_none _ _ _ _ _ _ _ c.loop-at.invariant (omega arith) c.if-weight-eq0.true

pub returns : goal.returns
returns c = end_some _ _ _ _ _ _ _ c.loop-at.invariant (omega arith) c.if-weight-eq0.false

-- `factor::pattern::from_payments` meets its contract: the goals that the check leaves. Assumes nothing.
use mathlib.Core.Path.{ap}
use native.Mathlib.Omega.{arith}
use borrow.Author.Rules.{rules}
use Prim.Native.Nat.{ℕ}
use mathlib.Core.List.{◌++◌}
use lib.ListN.{drop, replicate}
use Rattle.model.proofs.Ages.{ages_small}
use Rattle.factor.proofs.Patterns.{half_is_factor, half_is, walkable, composed, kept}
use Rattle.factor.proofs.pattern.from_payments.Goals as goal

pub unwrap-half-requires : goal.unwrap-half-requires
unwrap-half-requires c = rw (c.new.ensures, c.half_year_with_hint.ensures, half_is_factor c.args.rate)

pub walk-requires : goal.walk-requires
walk-requires c = rw c.all_ages-count.ensures (walkable c.args.letter c.args.pay (search rules) c.requires)

pub first-requires : goal.first-requires
first-requires c = omega (arith, c.ages.ensures, ages_small c.args.letter)

pub composite-requires : goal.composite-requires
composite-requires c =
    composed c.args.letter _ _ c.args.pay _ _ _ _ _ (search rules) c.requires (rw c.all_ages-count.ensures at c.walk.ensures)
    (ap (λ (n : ℕ). c.walk.new.factors ++ drop {A = ℕ} n (replicate 16 0)) c.all_ages-count.ensures)

pub returns : goal.returns
returns c =
    kept c.args.letter c.args.rate _ c.args.pay _ _ _ _ _ _ _ (half_is c.args.rate _ (rw (c.new.ensures, c.half_year_with_hint.ensures) at c.unwrap-half.ensures)) (search rules) (rw c.all_ages-count.ensures at c.walk.ensures)
    (ap (λ (n : ℕ). c.walk.new.factors ++ drop {A = ℕ} n (replicate 16 0)) c.all_ages-count.ensures) (rw c.ages.ensures at c.first.ensures) c.composite.ensures

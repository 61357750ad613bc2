-- `factor::composite::composite` meets its contract: the goals that the check leaves. Assumes nothing.
use mathlib.Core.Path.{sym, ◌∙◌}
use Rattle.factor.proofs.Patterns.{age_three}
use Rattle.factor.proofs.composite.composite.Goals as goal

pub returns : goal.returns
returns c =
    rw (sym c.is_ten_year.ensures ∙ c.if-is_ten_year.false)
    (age_three c.args.letter _ _ _ _ (sym c.is_ten_year.ensures ∙ c.if-is_ten_year.false) c.requires)

-- `rates::rate::mean_rate` meets its contract: the goals that the check leaves. Assumes nothing.
use mathlib.Core.Path.{sym, ◌∙◌}
use native.Mathlib.Omega.{arith}
use Rattle.rates.proofs.Means.{counted, limited, small, is_mean, mean}
use Rattle.rates.proofs.rate.mean_rate.Goals as goal

pub returns-then-months-ne60 : goal.returns-then-months-ne60
returns-then-months-ne60 c = search counted

pub returns-then-not-all : goal.returns-then-not-all
returns-then-not-all c = limited _ c.if-months-ne60.false (sym c.all.ensures ∙ c.if-not-all.true)

pub total-requires : goal.total-requires
total-requires c = omega (arith, small _ c.if-months-ne60.false (sym c.all.ensures ∙ c.if-not-all.false))

pub overflow_add-total : goal.overflow_add-total
overflow_add-total c = omega (arith, c.total.ensures, small _ c.if-months-ne60.false (sym c.all.ensures ∙ c.if-not-all.false))

pub unwrap-requires : goal.unwrap-requires
unwrap-requires c = rw (c.new.ensures, is_mean _ c.if-months-ne60.false (sym c.all.ensures ∙ c.if-not-all.false) _ c.total.ensures)

pub returns : goal.returns
returns c = mean _ c.if-months-ne60.false (sym c.all.ensures ∙ c.if-not-all.false) _ c.total.ensures _ (sym c.new.ensures ∙ c.unwrap.ensures)

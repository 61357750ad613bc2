-- `factor::pattern::discount` meets its contract: the goals that the check leaves. Assumes nothing.
use mathlib.Core.Path.{sym, ◌∙◌}
use Rattle.factor.proofs.Verdicts.{fine_fits}
use Rattle.factor.proofs.pattern.discount.Goals as goal

pub from_payments-requires : goal.from_payments-requires
from_payments-requires c = fine_fits c.args.letter c.args.rate c.args.paid.now c.args.incurred.now _ (sym c.schedule_of.ensures ∙ c.in_ok-pay.was)

-- `payments::ratio::cumulative_ratio` meets its contract: the goals that the check leaves. Assumes nothing.
use borrow.Author.Rules.{rules}
use Rattle.model.specs.Pattern.{cumulative_ratio}
use Rattle.payments.proofs.ratio.cumulative_ratio.Goals as goal

pub returns : goal.returns
unfolding cumulative_ratio
returns c = search rules

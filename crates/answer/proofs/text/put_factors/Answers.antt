-- `put_factors`: the goals that the check leaves.
use Rattle.std.proofs.Common.{rules}
use Rattle.model.proofs.Ages.{ages_small}
use Rattle.answer.proofs.Listing.{list_start}
use Rattle.answer.proofs.Factors.{factors_on}
use Rattle.answer.proofs.text.put_factors.Goals as goal

pub loop-place-init : goal.loop-place-init
loop-place-init c = search list_start

pub put_factor-requires : goal.put_factor-requires
put_factor-requires c = search (ages_small, rules)

pub loop-place-preserved : goal.loop-place-preserved
loop-place-preserved c = search (factors_on, rules)

pub returns-clause-short : goal.returns-clause-short
returns-clause-short c = search (ages_small, rules)

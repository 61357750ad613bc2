-- `numbers::number::number_from` meets its contract: the goals that the check leaves. Assumes nothing.
use Rattle.numbers.proofs.Signs.{past_end, tab_at}
use Rattle.numbers.proofs.number.number_from.Goals as goal

pub returns-then-at-line : goal.returns-then-at-line
returns-then-at-line c = search past_end

pub returns-in-Some : goal.returns-in-Some
returns-in-Some c = tab_at c.args.line.now c.args.at c.args.allowed c.in-Some.digits c.in-Some.ensures _ c.is_unpadded.ensures _ c.from.ensures _ c.then_some.ensures

-- `payments::schedule::schedule_of` meets its contract: the goals that the check leaves. Assumes nothing.
use Rattle.payments.proofs.Judged.{letter_refused}
use Rattle.payments.proofs.schedule.schedule_of.Goals as goal

pub returns-then-not-is_covered : goal.returns-then-not-is_covered
returns-then-not-is_covered c = search letter_refused

-- `payments::schedule::with_tail` meets its contract: the goals that the check leaves. Assumes nothing.
use Rattle.payments.proofs.Judged.{ten_small}
use Rattle.payments.proofs.schedule.with_tail.Goals as goal

pub ten_year_tail-requires : goal.ten_year_tail-requires
ten_year_tail-requires c = search ten_small

-- `payments::schedule::judge` meets its contract: the goals that the check leaves. Assumes nothing.
use mathlib.Core.Path.{sym, ◌∙◌}
use Rattle.payments.proofs.Judged.{payable, given_small, judged_fine, judged_falls, judged_incurred}
use Rattle.payments.proofs.schedule.judge.Goals as goal

pub payments-requires : goal.payments-requires
payments-requires c = payable c.args.letter _ _ c.requires (sym c.has_incurred.ensures ∙ c.if-not-has_incurred.false)

pub returns-in_default : goal.returns-in_default
returns-in_default c =
    judged_falls c.args.letter c.args.paid.now c.args.incurred.now (c.in_default.ensures) (sym c.has_incurred.ensures ∙ c.if-not-has_incurred.false)

pub with_tail-requires : goal.with_tail-requires
with_tail-requires c =
    let paid = c.in-Some.ensures in
    (paid.small, given_small c.args.letter _ _ _ _ c.requires paid)

pub returns : goal.returns
returns c =
    judged_fine c.args.letter _ _ _ _ _ c.requires (c.in-Some.ensures) (sym c.has_incurred.ensures ∙ c.if-not-has_incurred.false) c.with_tail.ensures

pub returns-then-not-has_incurred : goal.returns-then-not-has_incurred
returns-then-not-has_incurred c = judged_incurred c.args.letter c.args.paid.now c.args.incurred.now (sym c.has_incurred.ensures ∙ c.if-not-has_incurred.true)

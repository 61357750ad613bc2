-- `payments::schedule::ask_lists` meets its contract: the goals that the check leaves. Assumes nothing.
use mathlib.Core.Path.{sym, ◌∙◌}
use Rattle.payments.proofs.Judged.{length_paid, length_incurred, limits_paid, limits_incurred}
use Rattle.payments.proofs.schedule.ask_lists.Goals as goal

pub returns-then-paid-ages : goal.returns-then-paid-ages
returns-then-paid-ages c = length_paid c.args.letter _ _ (λ e. c.if-paid-ages.true (e ∙ sym c.ages-ages.ensures))

pub returns-then-incurred-ages : goal.returns-then-incurred-ages
returns-then-incurred-ages c =
    length_incurred c.args.letter _ _ (c.if-paid-ages.false ∙ c.ages-ages.ensures) (λ e. c.if-incurred-ages.true (e ∙ sym c.ages-ages.ensures))

pub returns-then-not-all : goal.returns-then-not-all
returns-then-not-all c =
    limits_paid c.args.letter _ _ (c.if-paid-ages.false ∙ c.ages-ages.ensures) (c.if-incurred-ages.false ∙ c.ages-ages.ensures) (sym c.all.ensures ∙ c.if-not-all.true)

pub returns-then-not-all-2 : goal.returns-then-not-all-2
returns-then-not-all-2 c =
    let p = c.if-paid-ages.false ∙ c.ages-ages.ensures in
    let i = c.if-incurred-ages.false ∙ c.ages-ages.ensures in
    limits_incurred c.args.letter _ _ p i (sym c.all.ensures ∙ c.if-not-all.false) (sym c.all-2.ensures ∙ c.if-not-all-2.true)

-- `reserve::year_end::end_rows` meets its contract: the goals that the check leaves. Assumes nothing.
use borrow.Author.Rules.{rules}
use Rattle.reserve.proofs.YearEnds.{length_refused, paid_refused, opening_refused, closing_refused, asks_paid_list, asks_reserve_lists, asks_figures, fine_is}
use Rattle.reserve.proofs.year_end.end_rows.Goals as goal

pub returns-in_default : goal.returns-in_default
returns-in_default c = search opening_refused

pub closing-requires : goal.closing-requires
closing-requires c = search (asks_reserve_lists, rules)

pub returns-in_default-closing : goal.returns-in_default-closing
returns-in_default-closing c = search closing_refused

pub paid_total-payments-requires : goal.paid_total-payments-requires
paid_total-payments-requires c = search asks_paid_list

pub loss-requires : goal.loss-requires
loss-requires c = search asks_figures

pub returns-then-not-all : goal.returns-then-not-all
returns-then-not-all c = search paid_refused

pub returns-then-not-has_lengths : goal.returns-then-not-has_lengths
returns-then-not-has_lengths c = search length_refused

pub returns : goal.returns
returns c = search fine_is

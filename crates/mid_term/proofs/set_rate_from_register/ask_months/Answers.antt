-- `mid_term::set_rate_from_register::ask_months` meets its contract: the goals that the check leaves. Assumes nothing.
use borrow.Author.Rules.{rules}
use Rattle.mid_term.proofs.FromRegister.{rate_given_on, month_missing}
use Rattle.mid_term.proofs.set_rate_from_register.ask_months.Goals as goal

pub returns-in_default : goal.returns-in_default
returns-in_default c = search month_missing

pub returns : goal.returns
returns c = search (rate_given_on, rules)

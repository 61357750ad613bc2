-- `mid_term::register_month::ask_given` meets its contract: the goals that the check leaves. Assumes nothing.
use Rattle.mid_term.proofs.Registered.{month_given, month_registered}
use Rattle.mid_term.proofs.register_month.ask_given.Goals as goal

pub returns-in-Some : goal.returns-in-Some
returns-in-Some c = search month_given

pub returns-in-None : goal.returns-in-None
returns-in-None c = search month_registered
